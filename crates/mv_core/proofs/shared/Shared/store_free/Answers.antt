use Rattle.std.proofs.Common.{refl}
use Rattle.mv_core.specs.Passes.{view}
use Rattle.mv_core.proofs.kinds.reclaiming.store_free.StoreFree.{free_stores}
use Rattle.mv_core.proofs.shared.Shared.store_free.Goals as goal

pub store_as-requires-clause-rule : goal.store_as-requires-clause-rule
store_as-requires-clause-rule g c = free_stores _ _ _ _ (view c.args.pass.now) c.args.position c.requires.may

pub store_as-requires-clause-moves : goal.store_as-requires-clause-moves
store_as-requires-clause-moves g c = record {
  may = c.requires.may;
  place = refl;
  writes = λ x. refl;
  entry = λ x. refl;
  view = λ x h w t. t;
  past = λ x h. refl;
}
