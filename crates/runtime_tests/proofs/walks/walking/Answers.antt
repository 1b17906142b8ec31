use Rattle.std.proofs.Common.{ℕ, ◌<◌, sym, ◌∙◌, subst, Option, Some, None}
use Rattle.std.specs.Prelude.{IfSome}
use Rattle.mv_layout.specs.declared.Config.{Config}
use Rattle.mv_layout.specs.Words.{IsLink}
use Rattle.mv_core.specs.declared.view.Knowledge.{Knowledge}
use Rattle.mv_core.specs.Passes.{view, config_of}
use Rattle.seat_log.proofs.OwnSlots.{of_still}
use Rattle.version_chain.specs.declared.walking.FoundVersion.{FoundVersion}
use Rattle.version_chain.specs.Walks.{HasFound}
use Rattle.runtime_tests.specs.Clients.{IsUnderWay}
use Rattle.runtime_tests.proofs.Moved.{walked}
use Rattle.runtime_tests.proofs.Stages.{at_inside, in_stage}
use Rattle.runtime_tests.proofs.walks.walking.Goals as goal

pub returns-in-WalkStart-default : goal.returns-in-WalkStart-default
returns-in-WalkStart-default g c =
    let i = at_inside c.args.shared.now c.args.client.now c.requires.ready.0 _ c.in-Inside.is in
    let e = c.walk_start-walk.ensures in
    record {
      ready = (
        (
          of_still c.args.shared.now c.args.client.now.pass c.walk_start-walk.new.pass e.same c.requires.ready.0.0,
          in_stage _ _ _ _ _ c.in-Inside.is (walked _ _ _ _ _ _ _ i e.walks e.may),
        ),
        (e.stands, e.object, subst (λ (k : Config). c.in-WalkStart-default.object < k.objects) c.config.ensures c.if-object-config.true),
      );
    }

-- the link of what was found is a packed one
packed_link : (c : Config) (v : Knowledge) (object : ℕ) (found : Option FoundVersion) → HasFound c v object found → IfSome found (λ at. IsLink at.link)
packed_link c v object None here = tt
packed_link c v object (Some at) here = here.0.packed.0

pub by_position-requires : goal.by_position-requires
by_position-requires g c =
    packed_link (config_of c.args.shared.now) (view c.walk_step.new.pass) c.in-WalkStep-Walking.walk.object c.in-Ok.found c.in-Ok.ensures.put

pub returns-in-Ok : goal.returns-in-Ok
returns-in-Ok g c =
    let config = config_of c.args.shared.now in
    let u = subst (IsUnderWay config (view c.args.client.now.pass)) (sym c.replace-under_way.ensures.value ∙ c.in-WalkStep-Walking.is-1) c.requires.ready.1 in
    let e = c.in-Ok.ensures in
    let i = at_inside c.args.shared.now c.args.client.now c.requires.ready.0 _ c.in-Inside.is in
    record {
      ready = (
        (
          of_still c.args.shared.now c.args.client.now.pass c.walk_step.new.pass e.same c.requires.ready.0.0,
          in_stage _ _ _ _ _ c.in-Inside.is (walked _ _ _ _ _ _ _ i e.walks e.may),
        ),
        (subst (λ o. HasFound config (view c.walk_step.new.pass) o c.in-Ok.found) u.1 e.put, u.2),
      );
    }

pub returns-in-Err : goal.returns-in-Err
returns-in-Err g c =
    let config = config_of c.args.shared.now in
    let u = subst (IsUnderWay config (view c.args.client.now.pass)) (sym c.replace-under_way.ensures.value ∙ c.in-WalkStep-Walking.is-1) c.requires.ready.1 in
    let e = c.in-Err.ensures in
    let i = at_inside c.args.shared.now c.args.client.now c.requires.ready.0 _ c.in-Inside.is in
    record {
      ready = (
        (
          of_still c.args.shared.now c.args.client.now.pass c.walk_step.new.pass e.same c.requires.ready.0.0,
          in_stage _ _ _ _ _ c.in-Inside.is (walked _ _ _ _ _ _ _ i e.walks e.may),
        ),
        (e.put, e.answers.0.object ∙ u.1, u.2),
      );
    }
