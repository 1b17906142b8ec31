use Rattle.std.proofs.Common.{refl, sym, ap, ◌∙◌}
use Rattle.mv_core.specs.Passes.{view}
use Rattle.mv_core.proofs.Terms.{Config, Master, cell_of}
use Rattle.mv_core.proofs.kinds.reclaiming.StoreMaster.{master_stores}
use Rattle.mv_core.proofs.shared.Shared.store_master.Goals as goal

pub store_as-requires-clause-rule : goal.store_as-requires-clause-rule
store_as-requires-clause-rule g c =
    master_stores _ _ _ _ (view c.args.pass.now) c.args.object c.args.word c.args.value g.back.0 g.back.1 g.back.2 g.back.3 c.requires.1.1.1.1

pub store_as-requires-clause-moves : goal.store_as-requires-clause-moves
store_as-requires-clause-moves g c = record {
  may = c.requires.1.1.1.1;
  place = refl;
  writes = λ x. refl;
  entry = λ x. refl;
  view = λ x h w t. t;
  past = λ x h. refl;
}

pub store_as-requires-clause-place : goal.store_as-requires-clause-place
store_as-requires-clause-place g c = (
  (c.requires.1.1.1.0, c.requires.1.1.1.1.in_range),
  c.master_cell-cell.ensures ∙ ap (λ (d : Config). cell_of d (Master c.args.object c.args.word)) (sym c.args.self.now.about),
)

pub returns-clause-view : goal.returns-clause-view
returns-clause-view g c = c.store_as.ensures.tells
