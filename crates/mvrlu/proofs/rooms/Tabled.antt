-- The table of a log, by what its seat means.
use Rattle.std.proofs.Common.{◌≡◌, ℕ, List, ap, arith}
use Rattle.std.proofs.Math.Logic.{∥∥₁_elim}
use Rattle.std.proofs.Props.{props}
use Rattle.mv_history.specs.State.{State, Writes}
use Rattle.mv_history.specs.declared.answers.LogTable.{LogTable}
use Rattle.object_lock.specs.mv_core.Rings.{held_count}
use Rattle.object_lock.proofs.mv_core_lemmas.kinds.entering.LoadTime.{holds_none}
use Rattle.object_lock.specs.seat_log.Tables.{table_of, Counts}
use Rattle.mvrlu.specs.Placed.{Placed, seat_from, IsIdle}
use Rattle.mvrlu.specs.Holding.{IsSeatTable}

-- outside a section nothing is held
none_held : (starts : State → Type 0) (allows : List ℕ → State → Writes → Type 0) (p : Placed) → IsIdle starts allows p → held_count p.view.ring ≡ 0
none_held starts allows p idle =
    ∥∥₁_elim idle.placed.known (hlevel props) (λ k. holds_none p.view.ring (k.idle idle.outside.outside))

pub tabled : (starts : State → Type 0) (allows : List ℕ → State → Writes → Type 0) (p : Placed) → IsIdle starts allows p → (t : LogTable) → t ≡ table_of p.log
    → Counts p.view t → IsSeatTable (seat_from p) t
tabled starts allows p idle t is counts =
    let none = none_held starts allows p idle in
    let spare = idle.placed.stands.spare in record {
      commits = counts.commits;
      rests = counts.rests;
      back = counts.back;
      freed = counts.freed;
      live = (let live = ap (λ (x : LogTable). x.live) is in omega arith);
      locks = counts.locks;
      aborts = counts.aborts;
      used = (let all = counts.used in omega arith);
      all_used = λ e. let all = counts.all_used e in omega arith;
    }
