use Rattle.std.proofs.Common.{refl, ap, sym, ◌∙◌, subst}
use Rattle.mv_core.proofs.Terms.{Config, Clock, Knowledge}
use Rattle.mv_core.specs.Known.{KnownInDomain}
use Rattle.mv_core.specs.EnterSteps.{time_loaded}
use Rattle.mv_core.proofs.moves.LaterHistory.{whole_is}
use Rattle.mv_core.specs.Passes.{view, config_of}
use Rattle.mv_core.proofs.kinds.entering.LoadTime.{time_loads, time_runs}
use Rattle.mv_core.proofs.shared.Shared.load_time.Goals as goal

pub load_alone-word-requires-clause-rule : goal.load_alone-word-requires-clause-rule
load_alone-word-requires-clause-rule g c = time_loads _ _ _ _ (view c.args.pass.now) c.requires.may

pub invariant_of-pass : goal.invariant_of-pass
invariant_of-pass g c =
    let l = c.load_alone-word.ensures in
    let t = l.tells in
    let r = time_runs (config_of c.args.self.now) (view c.args.pass.now) _ _ _ c.args.pass.now.first t.0.0 t.0.2 t.2 c.clock_time-pass.ensures in
    let in_domain = subst (λ (d : Config). KnownInDomain d c.load_alone-word.new.seat.me.0) (sym c.requires.of.4) l.known.1 in
    record {
      numbered = c.args.pass.now.numbered ∙ sym l.same.1.0;
      timed = r.0;
      begun = r.1;
      known = l.known.0;
      in_domain = in_domain;
      taken = l.taken ∙ c.args.pass.now.taken;
    }

pub load_alone-word-requires-clause-moves : goal.load_alone-word-requires-clause-moves
load_alone-word-requires-clause-moves g c = record {
  may = c.requires.may;
  place = refl;
  writes = λ x. refl;
  entry = λ x. refl;
  view = λ m h seats w k t. t.0.2 ∙ ap (time_loaded (config_of c.args.self.now) (view c.args.pass.now) (m Clock))
      (whole_is seats (view c.args.pass.now) w t.0.0 k t.0.1 (ap (λ (u : Knowledge). u.past.seen) t.0.2));
}
