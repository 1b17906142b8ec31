use Rattle.std.proofs.Common.{refl}
use Rattle.mv_core.specs.Passes.{view}
use Rattle.mv_core.proofs.kinds.naming.StoreSuper.{super_stores}
use Rattle.mv_core.proofs.shared.Shared.store_super.Goals as goal

pub store_as-requires-clause-rule : goal.store_as-requires-clause-rule
store_as-requires-clause-rule g c = super_stores _ _ _ _ (view c.args.pass.now) c.args.link c.args.time g.above.0 g.above.1 g.above.2 c.requires.1.1.1.1

pub store_as-requires-clause-moves : goal.store_as-requires-clause-moves
store_as-requires-clause-moves g c = record {
  may = c.requires.1.1.1.1;
  place = refl;
  writes = λ x. refl;
  entry = λ x. refl;
  view = λ x h w t. t;
  past = λ x h. refl;
}
