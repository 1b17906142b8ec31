use Rattle.std.proofs.Common.{refl}
use Rattle.mv_core.specs.Passes.{view}
use Rattle.mv_core.proofs.kinds.reclaiming.Graces.{grace_loads}
use Rattle.mv_core.proofs.shared.Shared.load_grace.Goals as goal

pub load_as-requires-clause-rule : goal.load_as-requires-clause-rule
load_as-requires-clause-rule g c = grace_loads _ _ _ _ (view c.args.pass.now)

pub load_as-requires-clause-moves : goal.load_as-requires-clause-moves
load_as-requires-clause-moves g c = record {
  may = tt;
  place = refl;
  writes = λ x. refl;
  entry = λ x. refl;
  view = λ m h seats w k t. t;
}
