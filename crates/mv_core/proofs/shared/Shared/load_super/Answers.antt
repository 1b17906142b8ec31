use Rattle.std.proofs.Common.{refl, ap, ◌∙◌}
use Rattle.mv_core.proofs.Terms.{Super, index_of}
use Rattle.mv_core.specs.Passes.{config_of}
use Rattle.mv_core.specs.ReclaimSteps.{super_loaded}
use Rattle.mv_core.proofs.moves.LaterHistory.{sees_now, seen_to_is}
use Rattle.mv_core.specs.Passes.{view}
use Rattle.mv_core.proofs.kinds.reclaiming.LoadSuper.{super_loads}
use Rattle.mv_core.proofs.shared.Shared.load_super.Goals as goal

pub load_as-requires-clause-rule : goal.load_as-requires-clause-rule
load_as-requires-clause-rule g c = super_loads _ _ _ _ (view c.args.pass.now) c.args.position g.own.0 g.own.1 c.requires.1.1.1

pub load_as-requires-clause-moves : goal.load_as-requires-clause-moves
load_as-requires-clause-moves g c = record {
  may = c.requires.1.1.1;
  place = refl;
  writes = λ x. refl;
  entry = λ x. refl;
  view = λ m h seats w k t. let sees =
      t.1 in t.0 ∙ ap
      (super_loaded (config_of c.args.self.now) (view c.args.pass.now) c.args.position g.own.0 g.own.1
      (m (Super (view c.args.pass.now).number (index_of (config_of c.args.self.now) c.args.position))))
      (seen_to_is (config_of c.args.self.now) (view c.args.pass.now) h w.past.seen (sees_now seats (view c.args.pass.now) w k) sees.more
      (m (Super (view c.args.pass.now).number (index_of (config_of c.args.self.now) c.args.position))) sees.least sees.time);
}
