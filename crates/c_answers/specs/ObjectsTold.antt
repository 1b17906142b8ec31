-- What a call on a seat of objects writes for the caller.
use Rattle.std.specs.Prelude.{ℕ, List, [], ◌∷◌, Result, Ok, Err, Option, None, Some}
use Rattle.mv_history.specs.declared.answers.LockAnswer.{LockAnswer}
use Rattle.mv_history.specs.declared.answers.LockAnswer.TheVariants as lock
use Rattle.log_reclaim.specs.declared.rounds.Tidy.{Tidy}
use Rattle.object_seats.specs.declared.position.Misuse.{Misuse}
use Rattle.object_seats.specs.declared.position.Vacancy.{Vacancy}
use Rattle.object_seats.specs.declared.position.CommitResult.{CommitResult}
use Rattle.object_seats.specs.declared.position.CommitResult.TheVariants as ended

-- what was written by the answer of a seat, or what stood there, where the seat is closed
abbrev pub where_open : {A Out : Type 0} → (Out → Result A Misuse → Out) → Out → Option (Result A Misuse) → Out
where_open told before None = before
where_open told before (Some answer) = told before answer

-- what was written for the caller: the answer where there is one, and else what stood there
abbrev pub told : {A : Type 0} → A → Result A Misuse → A
told before (Ok answer) = answer
told before (Err why) = before

-- two words that were written for the caller
abbrev pub pair_told : List ℕ → Result (ℕ × ℕ) Misuse → List ℕ
pair_told before (Ok pair) = pair.0 ∷ pair.1 ∷ []
pair_told before (Err why) = before

-- how many slots are live
abbrev pub live_told : ℕ → Result Tidy Misuse → ℕ
live_told before (Ok tidy) = tidy.live
live_told before (Err why) = before

-- who or what refused a lock: the seat that holds the object, or the time at which it was written
abbrev pub refused_by : ℕ → Option (Result LockAnswer Misuse) → ℕ
refused_by before (Some (Ok (lock.Busy seat))) = seat
refused_by before (Some (Ok (lock.Stale time))) = time
refused_by before other = before

-- the vacant object that was found
abbrev pub object_told : ℕ → Option (Result (Option Vacancy) Misuse) → ℕ
object_told before (Some (Ok (Some found))) = found.object
object_told before other = before

-- where the next look for one may begin
abbrev pub next_told : ℕ → Option (Result (Option Vacancy) Misuse) → ℕ
next_told before (Some (Ok (Some found))) = found.next
next_told before other = before

-- the time of the entry, or of the one that came first
abbrev pub time_told : ℕ → Option (Result CommitResult Misuse) → ℕ
time_told before (Some (Ok (ended.Done time))) = time
time_told before (Some (Ok (ended.Again rival))) = rival.time
time_told before other = before
