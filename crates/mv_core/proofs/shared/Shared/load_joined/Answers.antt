use Rattle.std.proofs.Common.{refl, ap, ◌∙◌}
use Rattle.mv_core.proofs.Terms.{Clock, Knowledge}
use Rattle.mv_core.specs.Passes.{config_of}
use Rattle.mv_core.specs.SeatSteps.{joined_loaded}
use Rattle.mv_core.proofs.moves.LaterHistory.{whole_is}
use Rattle.mv_core.specs.Passes.{view}
use Rattle.mv_core.proofs.kinds.joining.LoadJoined.{joined_loads}
use Rattle.mv_core.proofs.shared.Shared.load_joined.Goals as goal

pub load_as-requires-clause-rule : goal.load_as-requires-clause-rule
load_as-requires-clause-rule g c = joined_loads _ _ _ _ (view c.args.pass.now)

pub load_as-requires-clause-moves : goal.load_as-requires-clause-moves
load_as-requires-clause-moves g c = record {
  may = tt;
  place = refl;
  writes = λ x. refl;
  entry = λ x. refl;
  view = λ m h seats w k t. t.0.3 ∙ ap (joined_loaded (config_of c.args.self.now) (view c.args.pass.now) (m Clock))
      (whole_is seats (view c.args.pass.now) w t.0.0 k t.0.1 (ap (λ (u : Knowledge). u.past.seen) t.0.3));
}

pub returns-clause-view : goal.returns-clause-view
returns-clause-view g c = c.load_as.ensures.tells.0

pub returns-clause-word : goal.returns-clause-word
returns-clause-word g c = c.load_as.ensures.tells.1
