-- What a reader tells.
use Rattle.std.specs.Prelude.{◌≡◌, ◌+◌, ◌≤◌, ℕ, length}
use Rattle.mv_history.specs.State.{state_at}
use Rattle.mv_history.specs.Meaning.{Seat, InSection}
use Rattle.mv_history.specs.Calls.{Continues, Enters}
use Rattle.directory.specs.declared.reading.Seen.{Seen}
use Rattle.directory.specs.Ring.{node_at, IsOn}

-- Between the two seats a section was entered, which took the time of its snapshot then and made no commit. Its snapshot has the printed time
-- that is told, and there the user is on the shelf that is told, with the id that is told.
pub record IsSeen (took : Seat → InSection → Type 0) (old new : Seat) (user : ℕ) (seen : Seen) : Type 0 where
  pub entered : InSection
  pub enters : Enters old entered
  pub took_is : took old entered
  pub leaves : Continues entered.seat new
  pub mine : new.mine ≡ old.mine
  pub within : entered.at ≤ length new.seen
  pub time_is : seen.time ≡ new.base + entered.at
  pub on : IsOn (state_at new.start new.seen entered.at) seen.shelf user
  pub id_is : seen.id ≡ (node_at (state_at new.start new.seen entered.at) user).id
