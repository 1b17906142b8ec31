-- The seats that met, as a closing tells of them.
use Rattle.std.specs.Prelude.{◌≡◌, ℕ, ◌+◌, List, ◌∷◌, ◌++◌, length, All}
use Rattle.mv_history.specs.declared.Entry.{Entry}
use Rattle.mv_history.specs.declared.Commit.{Commit}
use Rattle.mv_history.specs.declared.Step.{Step}
use Rattle.mv_history.specs.declared.StepKind.{StepKind}
use Rattle.mv_history.specs.declared.StepKind.TheVariants.{JoinSeat, LoadJoined, LoadData, LoadMaster}
use Rattle.mv_history.specs.Meaning.{Seat}
use Rattle.object_lock.specs.mv_core.declared.view.JoinedSeat.{JoinedSeat}
use Rattle.object_lock.specs.reader_marks.Sections.{IsEnterStep}
use Rattle.object_lock.specs.version_chain.Walks.{IsWalkStep}

-- a seat as it was when it met: its number, what it had seen, its commits and rests, and its steps
pub record MetSeat : Type 0 where
  pub number : ℕ
  pub seen : List Entry
  pub mine : List Commit
  pub rests : ℕ
  pub trail : List Step

-- this seat as it is
abbrev pub met_seat : Seat → MetSeat
met_seat s = record { number = s.number; seen = s.seen; mine = s.mine; rests = s.rests; trail = s.trail }

-- the seat that was joined, by the note that the core keeps of it
abbrev pub noted_seat : JoinedSeat → MetSeat
noted_seat n = record { number = n.number; seen = n.past.seen; mine = n.past.mine; rests = n.past.rests; trail = n.trail }

-- a step of reading a closing: of a walk down a version chain, or a load of the words where it ends
abbrev pub IsLookStep : StepKind → Type 0
IsLookStep LoadData = Unit {0}
IsLookStep LoadMaster = Unit {0}
IsLookStep kind = IsWalkStep kind

-- The steps of a seat since it met, of so many seats, the others: a join of each of them, a load of CLOCK, the steps of an entering, one more such
-- load, and those of reading the closing. No step of an entering or a reading is such a load, so there is one way at most to divide a trail
-- like this: the trail before is the seat's own.
pub record MeetsBy (seats : ℕ) (before after : List Step) : Type 0 where
  pub joins : List Step
  pub first : Step
  pub entering : List Step
  pub last : Step
  pub looks : List Step
  pub trail : after ≡ before ++ (joins ++ first ∷ (entering ++ last ∷ looks))
  pub many : length joins + 1 ≡ seats
  pub join_kinds : All (λ s. s.kind ≡ JoinSeat) joins
  pub first_kind : first.kind ≡ LoadJoined
  pub enter_kinds : All (λ s. IsEnterStep s.kind) entering
  pub last_kind : last.kind ≡ LoadJoined
  pub look_kinds : All (λ s. IsLookStep s.kind) looks
