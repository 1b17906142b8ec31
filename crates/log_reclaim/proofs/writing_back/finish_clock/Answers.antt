use Rattle.seat_log.specs.mv_core.Passes.{view, config_of}
use Rattle.log_reclaim.proofs.rests.Heard.{heard_cut, heard_uncut}
use Rattle.log_reclaim.proofs.looks.CutBacks.{stands_lost, ends_uncut}
use Rattle.std.proofs.Common.{refl, ap, length}
use Rattle.seat_log.specs.mv_core.declared.view.Knowledge.{Knowledge}
use Rattle.seat_log.proofs.OwnSlots.{same_on, of_still}
use Rattle.log_reclaim.proofs.Lengths.{one_longer, uncut_bound, cut_bound}
use Rattle.log_reclaim.proofs.writing_back.finish_clock.Goals as goal

pub returns-in-Cut-clause-cut : goal.returns-in-Cut-clause-cut
returns-in-Cut-clause-cut g c = λ e.
    c.back_end.ensures.cut (view c.args.pass.now)
    (record {
      stands = c.requires.stands;
      writing = c.requires.writing;
      cut_view = view c.back_cut.new.pass;
      cut = c.in-Cut.ensures.ends;
      death = c.back_death-time.ensures.death;
    })

pub returns-in-Above-clause-stands : goal.returns-in-Above-clause-stands
returns-in-Above-clause-stands g c =
    stands_lost (config_of c.args.shared.now) (view c.args.pass.now) c.args.log.now c.args.back c.requires.stands c.requires.writing
    (view c.back_cut.new.pass) c.in-Above.seat c.in-Above.ensures.ends (view c.leave.new.pass) c.leave.ensures.view

pub returns-in-Cut-clause-hears : goal.returns-in-Cut-clause-hears
returns-in-Cut-clause-hears g c =
    heard_cut (config_of c.args.shared.now) (view c.args.pass.now) (view c.back_cut.new.pass) (view c.back_death-time.new.pass) (view c.back_end.new.pass)
    c.args.back c.back_death-time.result c.in-Cut.ensures.ends c.back_death-time.ensures.death c.back_end.ensures.view

pub returns-in-Above-clause-hears : goal.returns-in-Above-clause-hears
returns-in-Above-clause-hears g c =
    heard_uncut (config_of c.args.shared.now) (view c.args.pass.now) (view c.back_cut.new.pass) (view c.leave.new.pass) c.args.back c.in-Above.seat 0
    c.in-Above.ensures.ends c.leave.ensures.view

pub back_death-time-requires-clause-of : goal.back_death-time-requires-clause-of
back_death-time-requires-clause-of g c = of_still c.args.shared.now c.args.pass.now c.back_cut.new.pass c.back_cut.ensures.same c.requires.of

pub back_death-time-requires-clause-may : goal.back_death-time-requires-clause-may
back_death-time-requires-clause-may g c = c.in-Cut.ensures.next refl

pub back_end-requires-clause-of : goal.back_end-requires-clause-of
back_end-requires-clause-of g c =
    of_still c.args.shared.now c.args.pass.now c.back_death-time.new.pass
    (same_on c.args.pass.now c.back_cut.new.pass c.back_death-time.new.pass c.back_cut.ensures.same c.back_death-time.ensures.same) c.requires.of

pub back_end-requires-clause-timed : goal.back_end-requires-clause-timed
back_end-requires-clause-timed g c = (
  view c.args.pass.now,
  record {
    stands = c.requires.stands;
    writing = c.requires.writing;
    cut_view = view c.back_cut.new.pass;
    cut = c.in-Cut.ensures.ends;
    death = c.back_death-time.ensures.death;
  },
)

pub leave-requires-clause-of : goal.leave-requires-clause-of
leave-requires-clause-of g c = of_still c.args.shared.now c.args.pass.now c.back_cut.new.pass c.back_cut.ensures.same c.requires.of

pub returns-in-Cut-clause-same : goal.returns-in-Cut-clause-same
returns-in-Cut-clause-same g c =
    same_on c.args.pass.now c.back_death-time.new.pass c.back_end.new.pass
    (same_on c.args.pass.now c.back_cut.new.pass c.back_death-time.new.pass c.back_cut.ensures.same c.back_death-time.ensures.same) c.back_end.ensures.same

pub returns-in-Cut-clause-finishes : goal.returns-in-Cut-clause-finishes
returns-in-Cut-clause-finishes g c = (returns-in-Cut-clause-cut g c refl).0

pub returns-in-Cut-clause-cost : goal.returns-in-Cut-clause-cost
returns-in-Cut-clause-cost g c =
    cut_bound _ c.back_cut.new.steps c.back_death-time.new.steps _ c.back_cut.ensures.step c.back_death-time.ensures.step c.back_end.ensures.step

pub returns-in-Cut-clause-trail : goal.returns-in-Cut-clause-trail
returns-in-Cut-clause-trail g c =
    cut_bound _ (length (view c.back_cut.new.pass).trail) (length (view c.back_death-time.new.pass).trail) _
    (one_longer _ _ _ (ap (λ (u : Knowledge). u.trail) c.in-Cut.ensures.ends.view))
    (one_longer _ _ _ (ap (λ (u : Knowledge). u.trail) c.back_death-time.ensures.death.view))
    (one_longer _ _ _ (ap (λ (u : Knowledge). u.trail) c.back_end.ensures.view))

pub returns-in-Above-clause-same : goal.returns-in-Above-clause-same
returns-in-Above-clause-same g c = same_on c.args.pass.now c.back_cut.new.pass c.leave.new.pass c.back_cut.ensures.same c.leave.ensures.same

pub returns-in-Above-clause-finishes : goal.returns-in-Above-clause-finishes
returns-in-Above-clause-finishes g c =
    ends_uncut (config_of c.args.shared.now) (view c.args.pass.now) c.args.log.now c.args.back c.requires.stands c.requires.writing
    (view c.back_cut.new.pass) c.in-Above.seat c.in-Above.ensures.ends (view c.leave.new.pass) c.leave.ensures.view

pub returns-in-Above-clause-cost : goal.returns-in-Above-clause-cost
returns-in-Above-clause-cost g c = uncut_bound _ c.back_cut.new.steps _ c.back_cut.ensures.step c.leave.ensures.step

pub returns-in-Above-clause-trail : goal.returns-in-Above-clause-trail
returns-in-Above-clause-trail g c =
    uncut_bound _ (length (view c.back_cut.new.pass).trail) _ (one_longer _ _ _ (ap (λ (u : Knowledge). u.trail) c.in-Above.ensures.ends.view))
    (one_longer _ _ _ (ap (λ (u : Knowledge). u.trail) c.leave.ensures.view))
