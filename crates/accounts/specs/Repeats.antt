-- What repeated transfers and sums leave.
use Rattle.mv_history.specs.Calls.{Enters}
use Rattle.std.specs.Prelude.{◌≡◌, ◌+◌, ◌<◌, ◌≤◌, ◌∷◌}
use Rattle.accounts.specs.Terms.{ℕ, List, [], length, All, state_at, Seat, InSection, IsWorn, Continues}
use Rattle.accounts.specs.declared.reading.SumAt.{SumAt}
use Rattle.accounts.specs.Rules.{total}

-- The seat made so many transfers of those asked for, each a commit of its own: all, or as many as came before the last time.
pub record Moves (old new : Seat) (asked made : ℕ) : Type 0 where
  pub continues : Continues old new
  pub mine : length new.mine ≡ length old.mine + made
  pub most : made ≤ asked
  pub all : made < asked → IsWorn new

-- Between the two seats a section was entered, which took the time of its snapshot then and made no commit. The sum is that of
-- its snapshot, and has its printed time.
pub record IsSum (took : Seat → InSection → Type 0) (old new : Seat) (sum : SumAt) : Type 0 where
  pub entered : InSection
  pub enters : Enters old entered
  pub took_is : took old entered
  pub leaves : Continues entered.seat new
  pub mine : new.mine ≡ old.mine
  pub seen : entered.at ≤ length new.seen
  pub time_is : sum.time ≡ new.base + entered.at
  pub total_is : sum.total ≡ total (state_at new.start new.seen entered.at)

-- from the one seat to the other these sums were read, one after another: each section was entered behind the one before
abbrev pub ReadsEach : (Seat → InSection → Type 0) → Seat → Seat → List SumAt → Type 0
ReadsEach took old new [] = new ≡ old
ReadsEach took old new (sum ∷ sums) = (between : Seat) × IsSum took old between sum × ReadsEach took between new sums

-- The seat read as many sums as it was asked for, each in a section of its own, and each is the opening sum.
pub record Reads (took : Seat → InSection → Type 0) (old new : Seat) (asked : ℕ) (sums : List SumAt) : Type 0 where
  pub continues : Continues old new
  pub mine : new.mine ≡ old.mine
  pub many : length sums ≡ asked
  pub each : ReadsEach took old new sums
  pub same : All (λ sum. sum.total ≡ total old.start) sums
