use Rattle.std.proofs.Common.{refl}
use Rattle.mv_core.specs.Passes.{view}
use Rattle.mv_core.proofs.kinds.building.StoreBuilt.{built_stores}
use Rattle.mv_core.proofs.shared.Shared.store_built.Goals as goal

pub store_as-requires-clause-rule : goal.store_as-requires-clause-rule
store_as-requires-clause-rule g c = built_stores _ _ _ _ (view c.args.pass.now) c.args.position c.args.field c.args.value g.build c.requires.1.1.1.1

pub store_as-requires-clause-moves : goal.store_as-requires-clause-moves
store_as-requires-clause-moves g c = record {
  may = c.requires.1.1.1.1;
  place = refl;
  writes = λ x. refl;
  entry = λ x. refl;
  view = λ x h w t. t.0;
  past = λ x h. refl;
}
