-- What holds the oldest write set of a seat's log, and what making room leaves of a seat.
use Rattle.std.specs.Prelude.{◌≡◌, ◌≢◌, ◌⊎◌, ℕ, ◌+◌, ◌-◌, ◌*◌, ◌<◌, ◌≤◌, true, false, List, [], length, count_by, slice_index, Some}
use Rattle.std.specs.List.{AllZip}
use Rattle.mv_history.specs.declared.answers.Holder.{Holder}
use Rattle.mv_history.specs.declared.answers.Holder.TheVariants.{Fresh, End}
use Rattle.mv_history.specs.declared.answers.LogTable.{LogTable}
use Rattle.mv_history.specs.declared.Step.{Step}
use Rattle.mv_history.specs.State.{State, Writes}
use Rattle.mv_history.specs.Meaning.{Seat}
use Rattle.mv_history.specs.Trail.{clock_exchanges}
use Rattle.mv_history.specs.Calls.{call_trail, Prepares}
use Rattle.object_lock.specs.seat_log.Stands.{is_free, is_won_cut, is_won_lock, aborts_in, writes_in}
use Rattle.log_reclaim.specs.Parts.{Shrinks}
use Rattle.log_reclaim.specs.Holders.{TidyHolds, RoundHolds, HeldSo}
use Rattle.log_reclaim.specs.Rounds.{FreesFirst, SweptSo}
use Rattle.log_reclaim.specs.Tidies.{WritesBackSo, RestsWhereDue}
use Rattle.log_reclaim.specs.declared.rounds.Tidy.{Tidy}
use Rattle.mvrlu.specs.Placed.{Placed, seat_from, IsIdle}

-- How many seats a seat's domain has. The domain's name begins with the numbers of its config, in the order of the fields.
abbrev pub seats_of : Seat → ℕ
seats_of s = slice_index s.home 0

-- how many slots the log of each has
abbrev pub slots_of : Seat → ℕ
slots_of s = slice_index s.home 2

-- from how many live slots on it reclaims
abbrev pub low_of : Seat → ℕ
low_of s = slice_index s.home 4

-- from how many on it does all it can
abbrev pub high_of : Seat → ℕ
high_of s = slice_index s.home 5

-- how many slots of its log are live: the others are free
abbrev pub live_of : Seat → ℕ
live_of s = slots_of s - s.spare

-- its log is empty: every slot is free
abbrev pub IsEmpty : Seat → Type 0
IsEmpty s = s.spare ≡ slots_of s

-- its time wasn't the last
abbrev pub IsEarly : Seat → Type 0
IsEarly s = s.base + length s.seen < 35184372088831

-- the seat made at most one rest
abbrev pub RestsAtMostOnce : Seat → Seat → Type 0
RestsAtMostOnce old new = (new.rests ≡ old.rests) ⊎ (new.rests ≡ old.rests + 1)

-- how many steps a round may make
abbrev pub round_steps : Seat → ℕ
round_steps s = 4 + seats_of s + 20 * slots_of s

-- how many steps a tidy may make
abbrev pub tidy_steps : Seat → ℕ
tidy_steps s = 2 * round_steps s + 8

-- the steps of a call that came from the first place of a seat to the second
abbrev pub steps_between : Placed → Placed → List Step
steps_between p q = call_trail (seat_from p) (seat_from q)

-- A tidy came from the first pass and log of a seat to the second, and answered this. First it freed what the watermark that stood in GRACE
-- allows; a scan with write-backs left no version without a time of death but for a cause in it; it tried a rest only where one was due; and
-- a scan without write-backs freed what is dead by it. So many slots were freed, by one step each; the log that is left is shorter by these,
-- and has the holder of its oldest write set, with the cause in the steps of the call. It makes at least one step, and tries at most one
-- exchange on CLOCK. A fresh time is of an entry that wasn't seen before the call.
pub record Tidies (p q : Placed) (t : Tidy) : Type 0 where
  pub prepares : Prepares (seat_from p) (seat_from q)
  pub freed : t.freed ≡ count_by is_free (steps_between p q)
  pub spare : (seat_from q).spare ≡ (seat_from p).spare + t.freed
  pub live : t.live ≡ length q.log.live
  pub room : t.live + (seat_from q).spare ≡ slots_of (seat_from q)
  pub shrinks : Shrinks p.log q.log t.freed
  pub frees_first : FreesFirst q.config p.log (steps_between p q) true
  pub writes_back : WritesBackSo q.config q.view q.log (steps_between p q)
  pub rests_due : RestsWhereDue q.config q.view p.log (steps_between p q)
  pub swept : SweptSo q.config q.view q.log (steps_between p q) false
  pub held : HeldSo (TidyHolds q.config q.view q.log (steps_between p q)) q.log t.held
  pub fresh : (time : ℕ) → t.held ≡ Some (Fresh time) → (seat_from p).base + length (seat_from p).seen < time
  pub rests : RestsAtMostOnce (seat_from p) (seat_from q)
  pub exchanges : length (clock_exchanges (steps_between p q)) ≤ 1
  pub some : steps_between p q ≢ []
  pub steps : length (steps_between p q) ≤ tidy_steps (seat_from q)

-- A tidy came from the first pass and log to the second, and answered this holder of the log that it left.
pub record HoldsBack (p q : Placed) (holder : Holder) : Type 0 where
  pub tidy : Tidy
  pub tidies : Tidies p q tidy
  pub held : tidy.held ≡ Some holder

-- The same of seats alone: it was so for a lawful pass and log that mean each of them. So `holds_back` needs
-- no relation of two stores, which would say more, but would stand in each contract.
pub record HoldsSeat (starts : State → Type 0) (allows : List ℕ → State → Writes → Type 0) (old new : Seat) (holder : Holder) : Type 0 where
  pub before : Placed
  pub after : Placed
  pub was : old ≡ seat_from before
  pub is : new ≡ seat_from after
  pub idle_before : IsIdle starts allows before
  pub idle_after : IsIdle starts allows after
  pub holds : HoldsBack before after holder

-- In a domain of one seat nothing but the end of time holds a log: where the last time wasn't reached before, the log is empty.
pub record TidiesAlone (old : Seat) (t : Tidy) : Type 0 where
  pub empty : IsEarly old → t.live ≡ 0
  pub ends : (holder : Holder) → t.held ≡ Some holder → holder ≡ End

-- One round with write-backs came from the first pass and log of a seat to the second, and answered this. First it freed what the watermark
-- that stood in GRACE allows, and then what is dead by that of its own scan; each version that it left without a time of death has a cause
-- for that in its steps. It made no exchange on CLOCK and no rest.
pub record Rounds (p q : Placed) (t : Tidy) : Type 0 where
  pub prepares : Prepares (seat_from p) (seat_from q)
  pub freed : t.freed ≡ count_by is_free (steps_between p q)
  pub spare : (seat_from q).spare ≡ (seat_from p).spare + t.freed
  pub live : t.live ≡ length q.log.live
  pub shrinks : Shrinks p.log q.log t.freed
  pub frees_first : FreesFirst q.config p.log (steps_between p q) false
  pub swept : SweptSo q.config q.view q.log (steps_between p q) true
  pub held : HeldSo (RoundHolds q.config q.view q.log (steps_between p q) true) q.log t.held
  pub exchanges : clock_exchanges (steps_between p q) ≡ []
  pub rests : (seat_from q).rests ≡ (seat_from p).rests
  pub some : steps_between p q ≢ []
  pub steps : length (steps_between p q) ≤ round_steps (seat_from q)

-- What making room does, by how many slots were live: nothing below `low`; from `low` on one round, with write-backs, and from `high` on a
-- tidy, of the seat's own pass and log.
pub record MakesRoom (p q : Placed) : Type 0 where
  pub below : live_of (seat_from p) < low_of (seat_from p) → q ≡ p
  pub by_round : low_of (seat_from p) ≤ live_of (seat_from p) → live_of (seat_from p) < high_of (seat_from p) → (t : Tidy) × Rounds p q t
  pub by_tidy : high_of (seat_from p) ≤ live_of (seat_from p) → (t : Tidy) × Tidies p q t
  pub rests : RestsAtMostOnce (seat_from p) (seat_from q)
  pub steps : length (steps_between p q) ≤ tidy_steps (seat_from q)

-- The table of a seat's log: its commits and rests by the seat's history; by its trail the chains that it cut, the slots that it freed and
-- its aborts of sections that held something; and the live slots. The slots that are live or freed are as many as the exchanges of HEAD in
-- its trail that locked. They are those of its commits' writes and of what its aborts held.
pub record IsSeatTable (s : Seat) (t : LogTable) : Type 0 where
  pub commits : t.commits ≡ length s.mine
  pub rests : t.rests ≡ s.rests
  pub back : t.back ≡ count_by is_won_cut s.trail
  pub freed : t.freed ≡ count_by is_free s.trail
  pub live : t.live + s.spare ≡ slots_of s
  pub locks : t.live + t.freed ≡ count_by is_won_lock s.trail
  pub aborts : t.aborts ≡ aborts_in s.trail
  pub used : writes_in s.mine ≤ t.live + t.freed
  pub all_used : t.aborts ≡ 0 → t.live + t.freed ≡ writes_in s.mine

-- the tables are those of these seats, one for each, in their order
abbrev pub AreTablesOf : List Seat → List LogTable → Type 0
AreTablesOf seats tables = AllZip IsSeatTable seats tables
