-- Attempts that made no commit, and the one behind them that was done.
use Rattle.std.specs.Prelude.{ℕ, ◌≡◌, ◌+◌, ◌≤◌, length, refl}
use Rattle.mv_history.specs.Meaning.{Seat, InSection}
use Rattle.mv_history.specs.Calls.{Continues}
use Rattle.mv_history.specs.CallLaws.{Continues-itself}
use Rattle.section_work.specs.Causes.{Causes}
use Rattle.section_work.specs.Sections.{IsEntered}

-- The seat made no commit.
pub record CommitsNone (old new : Seat) : Type 0 where
  pub continues : Continues old new
  pub mine : new.mine ≡ old.mine

-- No commit was made since the seat at which something was begun, and the seat may hold so many objects.
pub record IsUnder (most : ℕ) (s t : Seat) : Type 0 where
  pub none : CommitsNone s t
  pub may : most ≤ t.write_max

-- so it is where it was just begun
pub nothing_begun : (s : Seat) → CommitsNone s s
nothing_begun s = record { continues = Continues-itself s; mine = refl }

pub none_begun : (most : ℕ) (s : Seat) → most ≤ s.write_max → IsUnder most s s
none_begun most s may = record { none = nothing_begun s; may = may }

-- After attempts that made no commit there was one, all of which is from `from` to the new seat, which left this.
pub record DoneBehind (leaves : Seat → Seat → Type 0) (law : Seat → Type 0) (s t : Seat) : Type 0 where
  pub from : Seat
  pub none : CommitsNone s from
  pub attempted : leaves from t
  pub lawful : law t

-- Between the two seats a section was entered at this printed time, which took its time then: its snapshot holds all that the first seat had seen.
pub record IsEnteredBetween (k : Causes) (s t : Seat) (time : ℕ) : Type 0 where
  pub before : Seat
  pub comes : Continues s before
  pub entered : InSection
  pub enters : IsEntered k before entered t
  pub time_is : time ≡ entered.seat.base + entered.at
  pub holds : length s.seen ≤ entered.at
