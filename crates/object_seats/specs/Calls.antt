-- What each call leaves of a seat's position, by its answer, and when it is a misuse.
use Rattle.std.specs.Prelude.{◌≡◌, ◌≢◌, ◌↔◌, ⊤, ℕ, ◌+◌, ◌-◌, ◌<◌, ◌≤◌, List, [], length, slice_index_or, Option, Some, None, Result, Ok, Err}
use Rattle.mv_history.specs.declared.answers.LockAnswer.{LockAnswer}
use Rattle.mv_history.specs.declared.answers.LockAnswer.TheVariants as lock
use Rattle.mv_history.specs.declared.answers.LogTable.{LogTable}
use Rattle.mv_history.specs.declared.answers.Room.{Room}
use Rattle.mv_history.specs.declared.answers.Room.TheVariants.{Enough, Short}
use Rattle.mv_history.specs.Meaning.{InSection, state_of, words_at, IsWorn}
use Rattle.mv_history.specs.Meaning as history
use Rattle.mv_history.specs.Calls as made
use Rattle.mv_history.specs.Trail.{commit_exchanges, IsOneWon, IsOneLost}
use Rattle.log_reclaim.specs.declared.rounds.Tidy.{Tidy}
use Rattle.mvrlu.specs.Causes.{Took, Loaded, FoundLocked}
use Rattle.mvrlu.specs.Grace as grace
use Rattle.mvrlu.specs.Holding as holding
use Rattle.mvrlu.specs.Placed.{Placed, seat_from}
use Rattle.mvrlu.specs.Meant.{seat_of, section_in, aborts_in, aborts_parked, aborts_with}
use Rattle.object_seats.specs.Positions.{aborts_at}
use Rattle.object_seats.specs.Vacant.{Finds}
use Rattle.object_seats.specs.declared.position.Vacancy.{Vacancy}
use Rattle.object_seats.specs.declared.position.Position.{Position}
use Rattle.object_seats.specs.declared.position.Position.TheVariants.{Outside, Inside}
use Rattle.object_seats.specs.declared.position.Misuse.{Misuse}
use Rattle.object_seats.specs.declared.position.Misuse.TheVariants as misuse
use Rattle.object_seats.specs.declared.position.CommitResult.{CommitResult}
use Rattle.object_seats.specs.declared.position.CommitResult.TheVariants as ended

-- a call for a section was made outside, and nothing was done
abbrev pub IsOutside : Position → Position → Misuse → Type 0
IsOutside old new why = (why ≡ misuse.Outside) × (new ≡ old)

-- a call for a seat outside was made in a section, and nothing was done
abbrev pub IsInside : Position → Position → Misuse → Type 0
IsInside old new why = (why ≡ misuse.Inside) × (new ≡ old)

-- the seat is in a section of which this holds
abbrev pub InSectionOf : Position → (InSection → Type 0) → Type 0
InSectionOf (Outside seat) P = ⊥
InSectionOf (Inside section) P = P (section_in section)

-- the section is the same, but that more may have been seen and done
abbrev pub StaysIn : InSection → Position → Type 0
StaysIn old new = InSectionOf new (λ s. made.IsAsBefore old s)

-- the seat is outside, and this holds of it
abbrev pub ComesOut : Position → (history.Seat → Type 0) → Type 0
ComesOut (Outside seat) P = P (seat_of seat)
ComesOut (Inside section) P = ⊥

-- the domain has this object
abbrev pub Has : InSection → ℕ → Type 0
Has s object = object < length (state_of s)

-- `enter`: the snapshot is the whole history at a load of CLOCK of this call, with all that the seat had seen
abbrev pub Enters : Position → Position → Result Unit Misuse → Type 0
Enters (Outside seat) new (Ok done) = InSectionOf new (λ s. made.Enters (seat_of seat) s × Took (seat_of seat) s)
Enters (Outside seat) new (Err why) = ⊥
Enters (Inside section) new (Ok done) = ⊥
Enters (Inside section) new (Err why) = IsInside (Inside section) new why

-- `read`: the words of the object in the state that the section reads
abbrev pub Reads : Position → ℕ → Position → Result (List ℕ) Misuse → Type 0
Reads (Outside seat) object new (Ok words) = ⊥
Reads (Outside seat) object new (Err why) = IsOutside (Outside seat) new why
Reads (Inside section) object new (Ok words) =
    Has (section_in section) object × (words ≡ words_at (state_of (section_in section)) object) × StaysIn (section_in section) new
Reads (Inside section) object new (Err why) = ¬ Has (section_in section) object × (why ≡ misuse.Object) × StaysIn (section_in section) new

-- why two words weren't read: the object is looked at first
abbrev pub IsNoPair : InSection → ℕ → ℕ → Misuse → Type 0
IsNoPair s object place misuse.Object = ¬ Has s object
IsNoPair s object place misuse.Place = Has s object × (4 < place)
IsNoPair s object place other = ⊥

-- `read_pair`: the word of the place and the one behind it
abbrev pub ReadsPair : Position → ℕ → ℕ → Position → Result (ℕ × ℕ) Misuse → Type 0
ReadsPair (Outside seat) object place new (Ok pair) = ⊥
ReadsPair (Outside seat) object place new (Err why) = IsOutside (Outside seat) new why
ReadsPair (Inside section) object place new (Ok pair) =
    let words : List ℕ = words_at (state_of (section_in section)) object in
    Has (section_in section) object × (place ≤ 4) × (pair.0 ≡ slice_index_or words place 0) × (pair.1 ≡ slice_index_or words (place + 1) 0)
    × StaysIn (section_in section) new
ReadsPair (Inside section) object place new (Err why) = IsNoPair (section_in section) object place why × StaysIn (section_in section) new

-- a try to hold an object, with the cause of each refusal
pub record TriesLock (old new : InSection) (object : ℕ) (answer : LockAnswer) : Type 0 where
  pub goes_on : made.GoesOn old new
  pub refused : answer ≢ lock.Held → made.IsAsBefore old new
  pub again : history.Holds old object → (answer ≡ lock.Held) × (new ≡ old)
  pub held : answer ≡ lock.Held → history.Lacks old object → made.Locks old new object
  pub set_full : (answer ≡ lock.SetFull) ↔ (history.Lacks old object × made.IsSetFull old)
  pub log_full : (answer ≡ lock.LogFull) ↔ (history.Lacks old object × ¬ made.IsSetFull old × made.IsLogFull old)
  pub busy : (seat : ℕ) → answer ≡ lock.Busy seat → (seat ≢ old.seat.number) × FoundLocked old new object seat
  pub stale : (time : ℕ) → answer ≡ lock.Stale time → made.IsStale new object time

-- `lock`
abbrev pub Locks : Position → ℕ → Position → Result LockAnswer Misuse → Type 0
Locks (Outside seat) object new (Ok answer) = ⊥
Locks (Outside seat) object new (Err why) = IsOutside (Outside seat) new why
Locks (Inside section) object new (Ok answer) =
    Has (section_in section) object × InSectionOf new (λ s. TriesLock (section_in section) s object answer)
Locks (Inside section) object new (Err why) = ¬ Has (section_in section) object × (why ≡ misuse.Object) × StaysIn (section_in section) new

-- A section looked for a vacant object from a hint on: none of the domain's is vacant, and the section is as before; or it tried to hold the
-- first one that is, once it had seen perhaps more.
abbrev pub Takes : InSection → ℕ → InSection → Option Vacancy → Type 0
Takes old hint new None = Finds old hint None × made.IsAsBefore old new × made.GoesOn old new
Takes old hint new (Some found) =
    Finds old hint (Some found.object) × (found.next ≡ found.object + 1)
    × ((looked : InSection) × made.IsAsBefore old looked × made.GoesOn old looked × TriesLock looked new found.object found.lock)

-- `vacant`
abbrev pub TakesVacant : Position → ℕ → Position → Result (Option Vacancy) Misuse → Type 0
TakesVacant (Outside seat) hint new (Ok found) = ⊥
TakesVacant (Outside seat) hint new (Err why) = IsOutside (Outside seat) new why
TakesVacant (Inside section) hint new (Ok found) = InSectionOf new (λ s. Takes (section_in section) hint s found)
TakesVacant (Inside section) hint new (Err why) = ⊥

-- `write`: the held object has these words, and all else is as it was
abbrev pub Writes : Position → ℕ → List ℕ → Position → Result Unit Misuse → Type 0
Writes (Outside seat) object words new (Ok done) = ⊥
Writes (Outside seat) object words new (Err why) = IsOutside (Outside seat) new why
Writes (Inside section) object words new (Ok done) =
    history.Holds (section_in section) object
    × InSectionOf new (λ s. made.GoesOn (section_in section) s × made.Rewrites (section_in section) s object words)
Writes (Inside section) object words new (Err why) =
    history.Lacks (section_in section) object × (why ≡ misuse.NotLocked) × StaysIn (section_in section) new

-- What a commit came to: one entry with all that was held, or what came first, or the last time. It exchanged CLOCK once, won or lost as
-- the answer says, and at the last time at most once.
abbrev pub CommitsTo : InSection → List ℕ → Position → CommitResult → Type 0
CommitsTo old tag new (ended.Done time) =
    ComesOut new (λ s. made.Commits old tag s time × Loaded old s (time - 1) × IsOneWon (commit_exchanges (made.call_trail old.seat s)))
CommitsTo old tag new (ended.Again rival) =
    InSectionOf new (λ s. made.IsAsBefore old s × made.Overtakes old s rival.seat rival.time (Loaded old s.seat)
    × IsOneLost (commit_exchanges (made.call_trail old.seat s.seat)))
CommitsTo old tag new ended.End =
    InSectionOf new (λ s. made.IsAsBefore old s × IsWorn s.seat × Loaded old s.seat s.seat.last
    × (length (commit_exchanges (made.call_trail old.seat s.seat)) ≤ 1))

-- `commit`
abbrev pub Commits : Position → List ℕ → Position → Result CommitResult Misuse → Type 0
Commits (Outside seat) tag new (Ok end) = ⊥
Commits (Outside seat) tag new (Err why) = IsOutside (Outside seat) new why
Commits (Inside section) tag new (Ok end) = ((section_in section).own ≢ []) × CommitsTo (section_in section) tag new end
Commits (Inside section) tag new (Err why) = ((section_in section).own ≡ []) × (why ≡ misuse.Empty) × StaysIn (section_in section) new

-- `abort`: what was held is given up, and that is counted where something was held
abbrev pub Aborts : Position → Position → Result Unit Misuse → Type 0
Aborts (Outside seat) new (Ok done) = ⊥
Aborts (Outside seat) new (Err why) = IsOutside (Outside seat) new why
Aborts (Inside section) new (Ok done) =
    ComesOut new (λ s. made.Leaves (section_in section) s) × (aborts_at new ≡ aborts_with (section_in section).own (aborts_parked section))
Aborts (Inside section) new (Err why) = ⊥

-- `leave`
abbrev pub Leaves : Position → Position → Result Unit Misuse → Type 0
Leaves (Outside seat) new (Ok done) = ⊥
Leaves (Outside seat) new (Err why) = IsOutside (Outside seat) new why
Leaves (Inside section) new (Ok done) = ((section_in section).own ≡ []) × ComesOut new (λ s. made.Leaves (section_in section) s)
Leaves (Inside section) new (Err why) = ((section_in section).own ≢ []) × (why ≡ misuse.Holding) × StaysIn (section_in section) new

-- `time`: that of the snapshot
abbrev pub TellsTime : Position → Position → Result ℕ Misuse → Type 0
TellsTime (Outside seat) new (Ok time) = ⊥
TellsTime (Outside seat) new (Err why) = IsOutside (Outside seat) new why
TellsTime (Inside section) new (Ok time) =
    (time ≡ (section_in section).seat.base + (section_in section).at) × StaysIn (section_in section) new
TellsTime (Inside section) new (Err why) = ⊥

-- `count`: the counts are those of the seat's log
abbrev pub Counts : Position → Position → Result LogTable Misuse → Type 0
Counts (Outside seat) new (Ok table) = holding.IsSeatTable (seat_of seat) table × (table.aborts ≡ aborts_in seat) × ComesOut new (λ s. s ≡ seat_of seat)
Counts (Outside seat) new (Err why) = ⊥
Counts (Inside section) new (Ok table) = ⊥
Counts (Inside section) new (Err why) = IsInside (Inside section) new why

-- the seat is outside, and this holds of its pass and its log
abbrev pub ComesOutPlaced : Position → (Placed → Type 0) → Type 0
ComesOutPlaced (Outside seat) P = P seat.idle
ComesOutPlaced (Inside section) P = ⊥

-- there is room for a write set, or this holds the oldest one of the log that is left
abbrev pub HasRoom : Placed → Placed → Room → Type 0
HasRoom p q Enough = (seat_from q).write_max ≤ (seat_from q).spare
HasRoom p q (Short holder) = ((seat_from q).spare < (seat_from q).write_max) × holding.HoldsBack p q holder

-- `prepare`
abbrev pub MakesRoom : Position → Position → Result Room Misuse → Type 0
MakesRoom (Outside seat) new (Ok room) = ComesOutPlaced new (λ q. made.Prepares (seat_of seat) (seat_from q) × HasRoom seat.idle q room
    × holding.MakesRoom seat.idle q)
MakesRoom (Outside seat) new (Err why) = ⊥
MakesRoom (Inside section) new (Ok room) = ⊥
MakesRoom (Inside section) new (Err why) = IsInside (Inside section) new why

-- `tidy`
abbrev pub Tidies : Position → Position → Result Tidy Misuse → Type 0
Tidies (Outside seat) new (Ok tidy) = ComesOutPlaced new (λ q. holding.Tidies seat.idle q tidy)
Tidies (Outside seat) new (Err why) = ⊥
Tidies (Inside section) new (Ok tidy) = ⊥
Tidies (Inside section) new (Err why) = IsInside (Inside section) new why

-- `grace`, in a domain whose rules allow every opening state and every commit
abbrev pub TellsGrace : Position → Position → Result ℕ Misuse → Type 0
TellsGrace (Outside seat) new (Ok time) = ComesOutPlaced new (λ q. grace.TellsGrace (λ s. ⊤) (λ tag before writes. ⊤) seat.idle q time)
TellsGrace (Outside seat) new (Err why) = ⊥
TellsGrace (Inside section) new (Ok time) = ⊥
TellsGrace (Inside section) new (Err why) = IsInside (Inside section) new why
