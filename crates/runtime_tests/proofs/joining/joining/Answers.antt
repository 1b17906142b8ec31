use Rattle.std.proofs.Common.{rules, ◌≡◌, sym, subst, Some}
use Rattle.std.proofs.lemmas.List.Elements.{All-pop}
use Rattle.mv_core.specs.EnterSteps.{MayLoadLow}
use Rattle.mv_core.specs.Passes.{view, config_of}
use Rattle.runtime_tests.specs.Clients.{IsPlayable, IsAt}
use Rattle.runtime_tests.specs.declared.clients.Stage.{Stage}
use Rattle.runtime_tests.specs.declared.clients.Stage.TheVariants.{Outside}
use Rattle.runtime_tests.proofs.joining.joining.Goals as goal

pub returns-in_default-other : goal.returns-in_default-other
returns-in_default-other g c = record {
  ready = (All-pop (IsPlayable c.args.shared.now) c.loop-other.clients.items c.pop-in-loop-other.new.self.items (Some c.in-Some.other)
      c.in-Some.ensures.items c.loop-other.invariant.ready).0;
}

pub join-requires-clause-other : goal.join-requires-clause-other
join-requires-clause-other g c =
    (All-pop (IsPlayable c.args.shared.now) c.loop-other.clients.items c.pop-in-loop-other.new.self.items (Some c.in-Some.other)
    c.in-Some.ensures.items c.loop-other.invariant.ready).1.0.0

pub join-requires-clause-may : goal.join-requires-clause-may
join-requires-clause-may g c =
    let other = (All-pop (IsPlayable c.args.shared.now) c.loop-other.clients.items c.pop-in-loop-other.new.self.items (Some c.in-Some.other)
    c.in-Some.ensures.items c.loop-other.invariant.ready).1 in
    let stage : c.in-Some.other.stage ≡ Outside = search rules in
    let outside =
    subst (λ (s : Stage). IsAt (config_of c.args.shared.now) (view c.in-Some.other.pass) c.in-Some.other.log s) stage other.0.1 in
    record {
      outside = c.loop-other.invariant.may.outside;
      no_scan = c.loop-other.invariant.may.no_scan;
      other_outside = outside.may.outside;
      other_no_scan = outside.may.no_scan;
    }

pub loop-other-preserved : goal.loop-other-preserved
loop-other-preserved g c = record {
  of = c.join.ensures.of;
  may = subst MayLoadLow (sym c.join.ensures.view)
      (record { outside = c.loop-other.invariant.may.outside; no_scan = c.loop-other.invariant.may.no_scan });
  ready = (All-pop (IsPlayable c.args.shared.now) c.loop-other.clients.items c.pop-in-loop-other.new.self.items (Some c.in-Some.other)
      c.in-Some.ensures.items c.loop-other.invariant.ready).0;
}
