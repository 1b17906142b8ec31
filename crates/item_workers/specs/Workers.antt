-- A worker: a runner, its source and its answers.
use Rattle.std.specs.Prelude.{◌≡◌, ◌≤◌, ◌<◌, ◌+◌, ◌^◌, ℕ, List, [], sum_by, vec_capacity, Vec, All}
use Rattle.std.specs.List.{AllZip}
use Rattle.std.specs.declared.alloc.Global.{Global}
use Rattle.mv_history.specs.Meaning.{Seat}
use Rattle.item_workers.specs.Serving.{IsServed}
use Rattle.item_workers.specs.declared.loading.WorkerRoom.{WorkerRoom}
use Rattle.item_workers.specs.declared.runner.Answer.{Answer}
use Rattle.item_workers.specs.declared.threads.Worker.{Worker}

-- the items of a list
abbrev pub items_of : {I : Type 0} → Vec I Global → List I
items_of v = v.items

-- The runner may do all the items: it does each, and no number is too great.
pub record MayDo {I : Type 0} (does : I → Type 0) (width : I → ℕ) (items : List I) : Type 0 where
  pub each : All does items
  pub few : 1 + sum_by width items < 2 ^ 32

-- what a worker keeps
abbrev pub keeps : {W X P D : Type 0} → (W → X) → Worker W P D → X
keeps kept_of w = kept_of w.runner

-- the seat in what a worker keeps
abbrev pub stands_at : {W X P D : Type 0} → (W → X) → (X → Seat) → Worker W P D → Seat
stands_at kept_of seat_of w = seat_of (kept_of w.runner)

-- the source of a worker
abbrev pub source_of : {W P D : Type 0} → Worker W P D → P
source_of w = w.source

-- the answers of a worker
abbrev pub answers_of : {W P D : Type 0} → Worker W P D → Vec (Answer D) Global
answers_of w = w.answers

-- it may begin, its source may be asked, and there is room for the answers of all that this may give
pub record IsReady {W P D : Type 0} (ready : W → Type 0) (may : P → Type 0) (left : P → ℕ) (worker : Worker W P D) : Type 0 where
  pub ready_is : ready worker.runner
  pub may_is : may worker.source
  pub empty : worker.answers.items ≡ []
  pub room : left worker.source ≤ vec_capacity worker.answers

-- it did the items that its source gave
abbrev pub RanBy : {W X I P D : Type 0} → (W → X) → (X → Seat) → (X → X → I → D → Type 0) → (P → ℕ → I → P → Type 0) → (P → P → Type 0)
    → Worker W P D → Worker W P D → Type 0
RanBy kept_of seat_of link gives ended old new =
    IsServed seat_of link gives ended (kept_of old.runner) old.source (kept_of new.runner) new.source new.answers.items

-- no answers for each source, and room for those of all that it may give
abbrev pub AreRooms : {P M D : Type 0} → (P → ℕ) → List P → List (WorkerRoom M D) → Type 0
AreRooms {P} {M} {D} left sources rooms =
    AllZip (λ (source : P) (room : WorkerRoom M D). (room.answers.items ≡ []) × (left source ≤ vec_capacity room.answers)) sources rooms
