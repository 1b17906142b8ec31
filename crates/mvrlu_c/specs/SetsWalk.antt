-- What a walk over a set leaves and tells.
use Rattle.std.specs.Prelude.{◌≡◌, ◌⊎◌, ℕ, ℤ, true, false, List, Option, Some, None}
use Rattle.crossbeam_utils.specs.Padded.{padded_value}
use Rattle.mvrlu.specs.Meant.{seat_of}
use Rattle.set_seats.specs.Calls.{GoesOn, WalksOver}
use Rattle.set_seats.specs.declared.seat.SetSeat.{SetSeat}
use Rattle.set_seats.specs.declared.walk.KeyValue.{KeyValue}
use Rattle.set_seats.specs.declared.walk.Walked.{Walked}
use Rattle.mvrlu_c.specs.declared.sets_handle.MvrluSets.{MvrluSets}
use Rattle.mvrlu_c.specs.declared.sets_walk.MvrluWalk.{MvrluWalk}
use Rattle.c_answers.specs.declared.status.Status.{Status}
use Rattle.c_answers.specs.declared.status.Status.TheVariants.{Done, Closed, NoMemory}
use Rattle.mvrlu_c.specs.OnHandle.{IsRefused}
use Rattle.c_answers.specs.Statuses.{code_of}

-- the key, or 0, and whether there is one
abbrev pub key_or_none : Option ℕ → ℕ × ℕ
key_or_none None = (0, 0)
key_or_none (Some key) = (key, 1)

-- what C is told of a walk: its time, how many entries were written, and the least key for which there was no room, if there is one
abbrev pub walk_told : Walked → MvrluWalk
walk_told w = record { time = w.time; count = w.count; next = (key_or_none w.more).0; more = (key_or_none w.more).1 }

-- the seat walked over the set, with this room before and after
abbrev pub Walks : ℕ → ℕ → List KeyValue → List KeyValue → SetSeat → SetSeat → Walked → Type 0
Walks name from before after old new walked =
    WalksOver name from before after (seat_of old.seat) (seat_of new.seat) walked × GoesOn old.seat new.seat

-- no walk was made, for this reason
abbrev pub IsNoWalk : Status → MvrluSets → MvrluSets → List KeyValue × MvrluWalk → List KeyValue × MvrluWalk → ℤ → Type 0
IsNoWalk why old new before after code = IsRefused why old new before after code

-- the walk was made on the seat, if that is open, and this is told
pub record WalksOn (name from : ℕ) (old new : MvrluSets) (before after : List KeyValue × MvrluWalk) (code : ℤ) : Type 0 where
  pub closed : old.is_open ≡ false → IsNoWalk Closed old new before after code
  pub open_is : old.is_open ≡ true → new.is_open ≡ true
  pub walked : old.is_open ≡ true → (walked : Walked) × Walks name from before.0 after.0 (padded_value old.state) (padded_value new.state) walked
      × (after.1 ≡ walk_told walked) × (code ≡ code_of Done)

-- What a walk leaves of the seat, of the room for its entries and of what it tells: there was too little memory, or it was made.
abbrev pub TellsWalk : ℕ → ℕ → MvrluSets → MvrluSets → List KeyValue × MvrluWalk → List KeyValue × MvrluWalk → ℤ → Type 0
TellsWalk name from old new before after code =
    IsNoWalk NoMemory old new before after code ⊎ WalksOn name from old new before after code
