use Rattle.std.proofs.Common.{◌∙◌, sym, subst}
use Rattle.mv_core.specs.Passes.{view, config_of}
use Rattle.version_chain.specs.Walks.{section_in, HasFound, snapshot_length}
use Rattle.version_chain.proofs.Going.{same_on, of_still, may_walk_on, walks_on, same_snapshot}
use Rattle.version_chain.proofs.Bounds.{started_within, ends_within, went_on}
use Rattle.version_chain.proofs.walking.find.Goals as goal

pub versions-init : goal.versions-init
versions-init g c =
    let w = c.walk_start-walk in (
      w.ensures.same,
      w.ensures.object,
      w.ensures.stands,
      w.ensures.walks,
      started_within (config_of c.args.shared.now) (view c.args.pass.now) (view w.new.pass) (section_in (view c.args.pass.now)) c.args.object w.result.link
          (snapshot_length (config_of c.args.shared.now) (view c.args.pass.now)) c.args.steps.now w.new.steps w.ensures.view w.ensures.step,
    )

pub walk_step-requires-clause-of : goal.walk_step-requires-clause-of
walk_step-requires-clause-of g c = of_still c.args.shared.now c.args.pass.now c.versions.pass c.versions.invariant.0 c.requires.of

pub walk_step-requires-clause-may : goal.walk_step-requires-clause-may
walk_step-requires-clause-may g c = may_walk_on _ _ _ _ c.versions.invariant.3 c.requires.may

pub walk_step-requires-clause-stands : goal.walk_step-requires-clause-stands
walk_step-requires-clause-stands g c = c.versions.invariant.2

pub returns-in-Ok-clause-same : goal.returns-in-Ok-clause-same
returns-in-Ok-clause-same g c =
    same_on c.args.pass.now c.versions.pass c.walk_step.new.pass c.versions.invariant.0 c.walk_step.ensures.same

pub returns-in-Ok-clause-found : goal.returns-in-Ok-clause-found
returns-in-Ok-clause-found g c =
    subst (λ object. HasFound (config_of c.args.shared.now) (view c.walk_step.new.pass) object c.in-Ok.found) c.versions.invariant.1 c.in-Ok.ensures.put

pub returns-in-Ok-clause-walks : goal.returns-in-Ok-clause-walks
returns-in-Ok-clause-walks g c = walks_on _ (view c.versions.pass) _ _ c.versions.steps _ c.versions.invariant.3 c.walk_step.ensures.walks

pub returns-in-Ok-clause-bound : goal.returns-in-Ok-clause-bound
returns-in-Ok-clause-bound g c =
    ends_within (config_of c.args.shared.now) (view c.versions.pass) (view c.walk_step.new.pass) c.versions.walk
    (snapshot_length (config_of c.args.shared.now) (view c.args.pass.now)) c.args.steps.now c.versions.steps c.walk_step.new.steps c.in-Ok.found
    c.versions.invariant.4 c.walk_step.ensures.walks c.in-Ok.ensures.answers

pub versions-preserved : goal.versions-preserved
versions-preserved g c =
    let a = c.versions.invariant in
    let goes = c.in-Err.ensures.answers in
    let on = went_on (config_of c.args.shared.now) (view c.versions.pass) (view c.walk_step.new.pass) c.versions.walk c.in-Err.on _ _ c.versions.steps _
    a.2 goes.0 goes.1
    (sym (same_snapshot (config_of c.args.shared.now) _ _ _ _ a.3)) a.4 in (
      same_on c.args.pass.now c.versions.pass c.walk_step.new.pass a.0 c.walk_step.ensures.same,
      goes.0.object ∙ a.1,
      c.in-Err.ensures.put,
      walks_on _ (view c.versions.pass) _ _ c.versions.steps _ a.3 c.walk_step.ensures.walks,
      on.0,
    )

pub versions-smaller : goal.versions-smaller
versions-smaller g c =
    let a = c.versions.invariant in
    let goes = c.in-Err.ensures.answers in
    (went_on (config_of c.args.shared.now) (view c.versions.pass) (view c.walk_step.new.pass) c.versions.walk c.in-Err.on _ _ c.versions.steps _
    a.2 goes.0 goes.1
    (sym (same_snapshot (config_of c.args.shared.now) _ _ _ _ a.3)) a.4).1
