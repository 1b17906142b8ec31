use Rattle.std.proofs.Common.{refl}
use Rattle.mv_core.specs.Passes.{view}
use Rattle.mv_core.proofs.kinds.reclaiming.Graces.{grace_raises}
use Rattle.mv_core.proofs.shared.Shared.raise_grace.Goals as goal

pub raise_as-requires-clause-rule : goal.raise_as-requires-clause-rule
raise_as-requires-clause-rule g c = grace_raises _ _ _ _ (view c.args.pass.now) c.args.time c.requires.may

pub raise_as-requires-clause-moves : goal.raise_as-requires-clause-moves
raise_as-requires-clause-moves g c = record {
  may = c.requires.may;
  place = refl;
  writes = λ x. refl;
  entry = λ x. refl;
  view = λ x h w t. t;
}
