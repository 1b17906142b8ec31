-- How a call enters a section, and how many commits it tries.
use Rattle.std.specs.Prelude.{◌≤◌}
use Rattle.section_work.specs.Terms.{length, Seat, InSection, commit_exchanges, call_trail, Continues, Enters}
use Rattle.section_work.specs.Causes.{Causes}

-- The call entered this section from the seat `before`, at a time that it took; what the section saw is among what is seen afterwards.
pub record IsEntered (k : Causes) (before : Seat) (entered : InSection) (new : Seat) : Type 0 where
  pub enters : Enters before entered
  pub took : k.took before entered
  pub at : entered.at ≤ length entered.seat.seen
  pub continues : Continues entered.seat new

-- the steps of a call have one exchange on CLOCK for a commit at most
abbrev pub TriesOne : Seat → Seat → Type 0
TriesOne old new = length (commit_exchanges (call_trail old new)) ≤ 1
