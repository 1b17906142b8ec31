use Rattle.std.proofs.Common.{refl, ap, ◌∙◌}
use Rattle.mv_core.proofs.Terms.{Stamp, link_seat_of, index_of}
use Rattle.mv_core.specs.Passes.{view, config_of}
use Rattle.mv_core.specs.WalkSteps.{stamp_loaded}
use Rattle.mv_core.proofs.moves.LaterHistory.{sees_now, seen_at_is}
use Rattle.mv_core.proofs.kinds.walking.LoadStamp.{stamp_loads}
use Rattle.mv_core.proofs.shared.Shared.load_stamp.Goals as goal

pub load_as-requires-clause-rule : goal.load_as-requires-clause-rule
load_as-requires-clause-rule g c = stamp_loads _ _ _ _ _ c.args.first g.stand c.args.link c.requires.1.1.1.1.1

pub load_as-requires-clause-moves : goal.load_as-requires-clause-moves
load_as-requires-clause-moves g c = record {
  may = c.requires.1.1.1.1.1;
  place = refl;
  writes = λ x. refl;
  entry = λ x. refl;
  view = λ m h seats w k t. let sees =
      t.1.sees in t.0
      ∙ ap (stamp_loaded (config_of c.args.self.now) (view c.args.pass.now) g.stand c.args.first
      (m (Stamp (link_seat_of c.args.link) (index_of (config_of c.args.self.now) c.args.first))))
      (seen_at_is (config_of c.args.self.now) (view c.args.pass.now) h w.past.seen (sees_now seats (view c.args.pass.now) w k) sees.more
      (m (Stamp (link_seat_of c.args.link) (index_of (config_of c.args.self.now) c.args.first))) sees.least sees.time k.history.in_time);
}
