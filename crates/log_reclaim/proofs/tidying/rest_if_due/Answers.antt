use Rattle.std.proofs.Common.{rules, ◌≡◌, false, subst, sym, ◌∙◌, inl, inr, ap, length}
use Rattle.seat_log.specs.mv_core.Passes.{view, config_of}
use Rattle.log_reclaim.specs.Tidies.{IsAnyAbove}
use Rattle.log_reclaim.proofs.Idle.{still_of}
use Rattle.log_reclaim.proofs.rests.Resting.{rests_none, stands_helped, rests_at_end, room, stands_done, stands_lost, rests_done, rests_lost}
use Rattle.seat_log.specs.mv_core.declared.view.Knowledge.{Knowledge}
use Rattle.seat_log.proofs.OwnSlots.{same_none, same_on, of_still}
use Rattle.log_reclaim.proofs.Lengths.{one_longer, helped_longer, none_more, helped_bound, rested_bound}
use Rattle.log_reclaim.proofs.tidying.rest_if_due.Goals as goal
use Rattle.log_reclaim.proofs.tidying.rest_if_due.Goals.{then-latest-eq-LAST-via-then-latest-eq-LAST}
use Rattle.log_reclaim.proofs.tidying.rest_if_due.Goals.{then-latest-eq-LAST-via-else-latest-eq-LAST+then-not-any_above}

pub returns-then-latest-eq-LAST-clause-rests : goal.returns-then-latest-eq-LAST-clause-rests
returns-then-latest-eq-LAST-clause-rests g c =
    let still = still_of _ _ (view c.args.pass.now) c.args.pass.now.known c.requires.may.outside in
    rests_none (config_of c.args.shared.now) (view c.args.pass.now) c.requires.may still _ _ c.args.log.now c.args.latest c.args.pass.now.known
    c.requires.within (elim c.then-latest-eq-LAST.branch [
      | then-latest-eq-LAST-via-then-latest-eq-LAST w ↦ inl w.if-latest-eq-LAST.true
      | then-latest-eq-LAST-via-else-latest-eq-LAST+then-not-any_above w ↦ let none : w.any_above.result ≡ false =
          search rules in inr (subst (IsAnyAbove c.args.log.now c.args.latest) none w.any_above.ensures)
    ])

pub returns-then-clock_time-eq-LAST-clause-stands : goal.returns-then-clock_time-eq-LAST-clause-stands
returns-then-clock_time-eq-LAST-clause-stands g c =
    let still = still_of _ _ (view c.args.pass.now) c.args.pass.now.known c.requires.may.outside in
    let v = c.now-word.ensures.view in
    stands_helped (config_of c.args.shared.now) (view c.args.pass.now) (view c.now-word.new.pass) c.now-word.result v.0 v.1 v.2 c.requires.may still
    (view c.help.new.pass) c.help.ensures.helps c.args.log.now c.requires.stands

pub returns-then-clock_time-eq-LAST-clause-rests : goal.returns-then-clock_time-eq-LAST-clause-rests
returns-then-clock_time-eq-LAST-clause-rests g c =
    let still = still_of _ _ (view c.args.pass.now) c.args.pass.now.known c.requires.may.outside in
    let v = c.now-word.ensures.view in
    rests_at_end (config_of c.args.shared.now) (view c.args.pass.now) (view c.now-word.new.pass) c.now-word.result v.0 v.1 v.2 c.requires.may still
    (view c.help.new.pass) c.help.ensures.helps _ _ c.args.log.now c.args.latest c.help.new.pass.known c.requires.of.2
    (sym c.clock_time.ensures ∙ c.if-clock_time-eq-LAST.true)

pub note_rest-requires : goal.note_rest-requires
note_rest-requires g c =
    let still = still_of _ _ (view c.args.pass.now) c.args.pass.now.known c.requires.may.outside in
    let v = c.now-word.ensures.view in
    room (config_of c.args.shared.now) (view c.args.pass.now) (view c.now-word.new.pass) c.now-word.result v.0 v.1 v.2 c.requires.may still
    (view c.help.new.pass) c.help.ensures.helps _ _ c.args.log.now c.requires.stands c.help.new.pass.known

pub returns-in-Done-clause-stands : goal.returns-in-Done-clause-stands
returns-in-Done-clause-stands g c =
    let still = still_of _ _ (view c.args.pass.now) c.args.pass.now.known c.requires.may.outside in
    let v = c.now-word.ensures.view in
    let n = c.in-Done.ensures.names in
    stands_done (config_of c.args.shared.now) (view c.args.pass.now) (view c.now-word.new.pass) c.now-word.result v.0 v.1 v.2 c.requires.may still
    (view c.help.new.pass) c.help.ensures.helps _ _ (view c.rest.new.pass) c.args.log.now c.note_rest.new.log n.1.0 c.requires.stands
    c.help.new.pass.known n.1.2 c.note_rest.ensures

pub returns-in-Done-clause-rests : goal.returns-in-Done-clause-rests
returns-in-Done-clause-rests g c =
    let still = still_of _ _ (view c.args.pass.now) c.args.pass.now.known c.requires.may.outside in
    let v = c.now-word.ensures.view in
    let n = c.in-Done.ensures.names in
    rests_done (config_of c.args.shared.now) (view c.args.pass.now) (view c.now-word.new.pass) c.now-word.result v.0 v.1 v.2 c.requires.may still
    (view c.help.new.pass) c.help.ensures.helps (view c.rest.new.pass) c.args.latest c.requires.within c.requires.of.2
    (λ e. c.if-clock_time-eq-LAST.false (c.clock_time.ensures ∙ e)) c.args.log.now c.note_rest.new.log
    n.1.0 c.if-not-any_above.ensures n.1.1 n.1.2 c.note_rest.ensures

pub returns-in_default-clause-stands : goal.returns-in_default-clause-stands
returns-in_default-clause-stands g c =
    let still = still_of _ _ (view c.args.pass.now) c.args.pass.now.known c.requires.may.outside in
    let v = c.now-word.ensures.view in
    let n = c.in_default.ensures.names in
    stands_lost (config_of c.args.shared.now) (view c.args.pass.now) (view c.now-word.new.pass) c.now-word.result v.0 v.1 v.2 c.requires.may still
    (view c.help.new.pass) c.help.ensures.helps (view c.rest.new.pass) c.args.log.now n.0 n.1 c.requires.stands n.3

pub returns-in_default-clause-rests : goal.returns-in_default-clause-rests
returns-in_default-clause-rests g c =
    let still = still_of _ _ (view c.args.pass.now) c.args.pass.now.known c.requires.may.outside in
    let v = c.now-word.ensures.view in
    let n = c.in_default.ensures.names in
    rests_lost (config_of c.args.shared.now) (view c.args.pass.now) (view c.now-word.new.pass) c.now-word.result v.0 v.1 v.2 c.requires.may still
    (view c.help.new.pass) c.help.ensures.helps (view c.rest.new.pass) c.args.latest c.requires.within c.requires.of.2
    (λ e. c.if-clock_time-eq-LAST.false (c.clock_time.ensures ∙ e)) c.args.log.now n.0 n.1
    c.in_default.field-0 c.if-not-any_above.ensures n.2 n.3

pub help-requires-clause-of : goal.help-requires-clause-of
help-requires-clause-of g c = of_still c.args.shared.now c.args.pass.now c.now-word.new.pass c.now-word.ensures.same c.requires.of

pub rest-requires-clause-of : goal.rest-requires-clause-of
rest-requires-clause-of g c =
    of_still c.args.shared.now c.args.pass.now c.help.new.pass
    (same_on c.args.pass.now c.now-word.new.pass c.help.new.pass c.now-word.ensures.same c.help.ensures.same) c.requires.of

pub returns-then-latest-eq-LAST-clause-same : goal.returns-then-latest-eq-LAST-clause-same
returns-then-latest-eq-LAST-clause-same g c = same_none c.args.pass.now

pub returns-then-latest-eq-LAST-clause-cost : goal.returns-then-latest-eq-LAST-clause-cost
returns-then-latest-eq-LAST-clause-cost g c = none_more c.args.steps.now 5

pub returns-then-latest-eq-LAST-clause-trail : goal.returns-then-latest-eq-LAST-clause-trail
returns-then-latest-eq-LAST-clause-trail g c = none_more (length (view c.args.pass.now).trail) 5

pub returns-then-clock_time-eq-LAST-clause-same : goal.returns-then-clock_time-eq-LAST-clause-same
returns-then-clock_time-eq-LAST-clause-same g c = same_on c.args.pass.now c.now-word.new.pass c.help.new.pass c.now-word.ensures.same c.help.ensures.same

pub returns-then-clock_time-eq-LAST-clause-cost : goal.returns-then-clock_time-eq-LAST-clause-cost
returns-then-clock_time-eq-LAST-clause-cost g c = helped_bound _ c.now-word.new.steps _ c.now-word.ensures.step c.help.ensures.cost

pub returns-then-clock_time-eq-LAST-clause-trail : goal.returns-then-clock_time-eq-LAST-clause-trail
returns-then-clock_time-eq-LAST-clause-trail g c =
    helped_bound _ (length (view c.now-word.new.pass).trail) _ (one_longer _ _ _ (ap (λ (u : Knowledge). u.trail) c.now-word.ensures.view.2))
    (helped_longer (config_of c.args.shared.now) (view c.now-word.new.pass) (view c.help.new.pass) c.now-word.result c.help.ensures.helps)

pub returns-in-Done-clause-same : goal.returns-in-Done-clause-same
returns-in-Done-clause-same g c =
    same_on c.args.pass.now c.help.new.pass c.rest.new.pass (same_on c.args.pass.now c.now-word.new.pass c.help.new.pass c.now-word.ensures.same
    c.help.ensures.same) c.rest.ensures.same

pub returns-in-Done-clause-cost : goal.returns-in-Done-clause-cost
returns-in-Done-clause-cost g c = rested_bound _ c.now-word.new.steps c.help.new.steps _ c.now-word.ensures.step c.help.ensures.cost c.rest.ensures.step

pub returns-in-Done-clause-trail : goal.returns-in-Done-clause-trail
returns-in-Done-clause-trail g c =
    rested_bound _ (length (view c.now-word.new.pass).trail) (length (view c.help.new.pass).trail) _
    (one_longer _ _ _ (ap (λ (u : Knowledge). u.trail) c.now-word.ensures.view.2))
    (helped_longer (config_of c.args.shared.now) (view c.now-word.new.pass) (view c.help.new.pass) c.now-word.result c.help.ensures.helps)
    (one_longer _ _ _ (ap (λ (u : Knowledge). u.trail) c.in-Done.ensures.names.1.2))

pub returns-in_default-clause-same : goal.returns-in_default-clause-same
returns-in_default-clause-same g c =
    same_on c.args.pass.now c.help.new.pass c.rest.new.pass (same_on c.args.pass.now c.now-word.new.pass c.help.new.pass c.now-word.ensures.same
    c.help.ensures.same) c.rest.ensures.same

pub returns-in_default-clause-cost : goal.returns-in_default-clause-cost
returns-in_default-clause-cost g c = rested_bound _ c.now-word.new.steps c.help.new.steps _ c.now-word.ensures.step c.help.ensures.cost c.rest.ensures.step

pub returns-in_default-clause-trail : goal.returns-in_default-clause-trail
returns-in_default-clause-trail g c =
    rested_bound _ (length (view c.now-word.new.pass).trail) (length (view c.help.new.pass).trail) _
    (one_longer _ _ _ (ap (λ (u : Knowledge). u.trail) c.now-word.ensures.view.2))
    (helped_longer (config_of c.args.shared.now) (view c.now-word.new.pass) (view c.help.new.pass) c.now-word.result c.help.ensures.helps)
    (one_longer _ _ _ (ap (λ (u : Knowledge). u.trail) c.in_default.ensures.names.3))
