use Rattle.std.proofs.Common.{sym, refl, ap, Some}
use Rattle.std.proofs.Math.Logic.{∥∥₁_elim}
use Rattle.std.proofs.Math.Bridge.{le_prop}
use Rattle.mv_core.specs.Passes.{view}
use Rattle.mv_core.proofs.kinds.entering.StoreMark.{mark_stores}
use Rattle.mv_core.proofs.shared.Shared.store_mark.Goals as goal

pub mark_word-requires : goal.mark_word-requires
mark_word-requires g c = ∥∥₁_elim c.args.pass.now.known le_prop (λ a. a.lowered c.args.low c.requires.may)

pub store_as-requires-clause-rule : goal.store_as-requires-clause-rule
store_as-requires-clause-rule g c = mark_stores _ _ _ _ (view c.args.pass.now) c.args.low _ c.mark_word.ensures c.requires.may

pub store_as-requires-clause-moves : goal.store_as-requires-clause-moves
store_as-requires-clause-moves g c = record {
  may = c.requires.may;
  place = refl;
  writes = λ x. ap Some (sym c.mark_word.ensures);
  entry = λ x. refl;
  view = λ x h w t. t;
  past = λ x h. refl;
}
