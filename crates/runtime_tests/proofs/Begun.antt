-- A section that has begun may walk.
use Rattle.std.proofs.Common.{ℕ, sym, ap, subst}
use Rattle.mv_layout.specs.declared.Config.{Config}
use Rattle.mv_core.specs.declared.view.Knowledge.{Knowledge}
use Rattle.mv_core.specs.WalkSteps.{IsWalking}
use Rattle.version_chain.specs.Walks.{inside_of, MayWalk}
use Rattle.reader_marks.specs.Sections.{Begins}

pub may_walk : (c : Config) (v w : Knowledge) (time : ℕ) → Begins c v w time → MayWalk w
may_walk c v w time b =
    let walking : IsWalking w b.inside = record { phase = b.phase; open_is = b.open_is; helped = b.past_help; no_back = b.no_back } in
    subst (IsWalking w) (sym (ap inside_of b.phase)) walking
