-- How a command of a growing set was done, with the split that was due behind it.
use Rattle.std.specs.Prelude.{◌≡◌, ◌≤◌, ◌&&◌, Bool, true, false, List, Option, Some, None, refl}
use Rattle.std.proofs.Common.{sym, subst}
use Rattle.section_work.specs.declared.causes.Cause.{Cause}
use Rattle.grow_hash.specs.Grown.{IsGrownOpening}
use Rattle.grow_hash.specs.GrowRules.{IsGrowCommit}
use Rattle.grow_hash.specs.GrowAttempts.{GrowAttempted}
use Rattle.grow_hash.specs.SplitCalls.{most_writes}
use Rattle.grow_hash.specs.SplitAttempts.{SplitTried}
use Rattle.grow_hash.specs.declared.attempt.GrowStep.TheVariants.{Done}
use Rattle.grow_hash.specs.declared.answer.Split.{Split}
use Rattle.grow_hash.specs.declared.answer.Split.TheVariants.{Again}
use Rattle.grow_report.specs.Turns.{is_added, odd_with}
use Rattle.script_workers.specs.Terms.{Seat, IsSeat, Command, Reply, Place, Causes, Line, BySeat, Chain, IsUnder, none_begun, DoneBehind}
use Rattle.grow_hash.specs.Tables.{grow_levels}

-- What is kept from one command to the next: the seat, and whether the adds that replied yes are an odd number.
pub record GrowKept : Type 0 where
  pub seat : Seat
  pub odd : Bool

-- what is kept of this seat, with an odd number of those adds or not
abbrev pub kept : Seat → Bool → GrowKept
kept seat odd = record { seat = seat; odd = odd }

-- Behind attempts that made no commit there was one of this command that was done.
abbrev pub LinkedCommand : Causes → Seat → Seat → Command → Place × Reply → Type 0
LinkedCommand k s t command done =
    DoneBehind (λ old new. GrowAttempted grow_levels k old new command (Done done.1 done.0))
    (IsSeat (IsGrownOpening grow_levels) (IsGrowCommit grow_levels)) s t

-- one try of a split led from the one seat to the other, and answered
pub record IsAnsweredBy (k : Causes) (old new : Seat) : Type 0 where
  pub split : Split
  pub tried : SplitTried grow_levels k old new split
  pub answered : (cause : Cause) → split ≡ Again cause → ⊥

-- Where a split is due, behind tries that made no commit one answered; else nothing was done.
abbrev pub LinkedIf : Bool → Causes → Seat → Seat → Type 0
LinkedIf true k s t = DoneBehind (IsAnsweredBy k) (IsSeat (IsGrownOpening grow_levels) (IsGrowCommit grow_levels)) s t
LinkedIf false k s t = t ≡ s

-- The command was done, and then the split that was due behind it.
pub record LinkedTurn (k : Causes) (s t : GrowKept) (command : Command) (done : Place × Reply) : Type 0 where
  pub between : Seat
  pub command_done : LinkedCommand k s.seat between command done
  pub split_done : LinkedIf (s.odd && is_added command done.1) k between t.seat
  pub odd : t.odd ≡ odd_with s.odd (is_added command done.1)

-- the command of a line was done so
abbrev pub LinkedTurnLine : Causes → GrowKept → GrowKept → Command → Line → Type 0
LinkedTurnLine k s t command line = LinkedTurn k s t command (line.place, line.reply)

-- A seat did the commands of a script in order, each from the very seat at which the one before it was done, with its split; ahead of the
-- first no add has replied yes.
abbrev pub LinkedTurns : Causes → Seat → Seat → List Command → List Line → Type 0
LinkedTurns k o n script lines = (odd : Bool) × Chain (LinkedTurnLine k) (kept o false) (kept n odd) script lines

-- Each seat did so with the script of its place; the lines stand by seat.
abbrev pub AllLinkedTurns : Causes → List Seat → List Seat → List (List Command) → List Line → Type 0
AllLinkedTurns k os ns scripts lines = BySeat (LinkedTurns k) os ns scripts lines

-- The command that was begun there is not done yet, and no commit was made; or it is done, and no commit was made since, of the split that
-- is due behind it.
abbrev pub IsUnderTurn : Causes → GrowKept → Command → GrowKept → Option (Place × Reply) → Type 0
IsUnderTurn k s command t None = IsUnder most_writes s.seat t.seat × (t.odd ≡ s.odd)
IsUnderTurn k s command t (Some done) =
    (between : Seat) × LinkedCommand k s.seat between command done × IsUnder most_writes between t.seat
    × ((s.odd && is_added command done.1) ≡ true)

-- so it is where it was just begun
pub turn_begun : (k : Causes) (command : Command) (s : GrowKept) (done : Option (Place × Reply)) → done ≡ None → most_writes ≤ s.seat.write_max
    → IsUnderTurn k s command s done
turn_begun k command s found none may =
    subst (λ (d : Option (Place × Reply)). IsUnderTurn k s command s d) (sym none) (none_begun most_writes s.seat may, refl)
