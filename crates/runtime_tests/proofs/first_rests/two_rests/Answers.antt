use Rattle.std.proofs.Common.{◌<◌, ℕ, sym, ap, ◌∙◌, subst}
use Rattle.mv_layout.specs.Words.{clock_time_of, clock_slot_of}
use Rattle.mv_core.specs.declared.view.Knowledge.{Knowledge}
use Rattle.mv_core.specs.EnterSteps.{MayLoadCheck}
use Rattle.mv_core.specs.Passes.{view}
use Rattle.commit_clock.proofs.NoneHelped.{none_is_helped}
use Rattle.runtime_tests.proofs.first_rests.two_rests.Goals as goal

pub now-early-requires-clause-may : goal.now-early-requires-clause-may
now-early-requires-clause-may g c = subst MayLoadCheck (sym c.requires.one.1.outside) tt

pub now-late-requires-clause-may : goal.now-late-requires-clause-may
now-late-requires-clause-may g c = subst MayLoadCheck (sym c.requires.other.1.outside) tt

pub rest-first-requires-clause-may : goal.rest-first-requires-clause-may
rest-first-requires-clause-may g c = record {
  outside = ap (λ (v : Knowledge). v.phase) c.now-late.ensures.view.2 ∙ c.requires.other.1.outside;
  loaded = c.now-late.ensures.loaded;
  helped = none_is_helped _ _ (view c.now-late.new.pass) c.now-late.result c.now-late.new.pass.known c.now-late.ensures.loaded
      (ap clock_slot_of c.if-late-early.false ∙ sym c.clock_slot.ensures ∙ c.if-clock_slot-ne-NO_SLOT.false);
  room = subst (λ (n : ℕ). n < 35184372088831) (c.clock_time.ensures ∙ ap clock_time_of (sym c.if-late-early.false)) c.if-clock_time-ge-LAST.false;
}

pub rest-second-requires-clause-may : goal.rest-second-requires-clause-may
rest-second-requires-clause-may g c = record {
  outside = ap (λ (v : Knowledge). v.phase) c.now-early.ensures.view.2 ∙ c.requires.one.1.outside;
  loaded = c.now-early.ensures.loaded;
  helped = none_is_helped _ _ (view c.now-early.new.pass) c.now-early.result c.now-early.new.pass.known c.now-early.ensures.loaded
      (sym c.clock_slot.ensures ∙ c.if-clock_slot-ne-NO_SLOT.false);
  room = subst (λ (n : ℕ). n < 35184372088831) c.clock_time.ensures c.if-clock_time-ge-LAST.false;
}
