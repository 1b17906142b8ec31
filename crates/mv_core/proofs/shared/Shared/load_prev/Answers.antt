use Rattle.std.proofs.Common.{refl}
use Rattle.mv_core.proofs.kinds.walking.LoadPrev.{prev_loads}
use Rattle.mv_core.proofs.shared.Shared.load_prev.Goals as goal

pub load_as-requires-clause-rule : goal.load_as-requires-clause-rule
load_as-requires-clause-rule g c = prev_loads _ _ _ _ _ c.args.link g.stand c.requires.1.1.1.1.1

pub load_as-requires-clause-moves : goal.load_as-requires-clause-moves
load_as-requires-clause-moves g c = record {
  may = c.requires.1.1.1.1.1;
  place = refl;
  writes = λ x. refl;
  entry = λ x. refl;
  view = λ m h seats w k t. t.0;
}
