use Rattle.mv_core.specs.Passes.{view, config_of}
use Rattle.version_chain.specs.Walks.{section_in}
use Rattle.mv_core.specs.declared.view.Passed.TheVariants.{Nothing}
use Rattle.std.proofs.Common.{ap}
use Rattle.mv_core.specs.declared.view.Knowledge.{Knowledge}
use Rattle.version_chain.proofs.Going.{may_started}
use Rattle.version_chain.proofs.Looking.{stands_at, walks_started}
use Rattle.version_chain.proofs.walking.walk_start.Goals as goal

pub load_head-link-requires : goal.load_head-link-requires
load_head-link-requires g c κs within = (within.0, (within.1, (c.requires.of, (c.requires.range, c.requires.may))))

pub returns-clause-may : goal.returns-clause-may
returns-clause-may g c = may_started (config_of c.args.shared.now) (view c.args.pass.now) _ _ _ c.load_head-link.ensures.view c.requires.may

pub returns-clause-same : goal.returns-clause-same
returns-clause-same g c = c.load_head-link.ensures.same

pub returns-clause-stands : goal.returns-clause-stands
returns-clause-stands g c =
    stands_at (config_of c.args.shared.now) (view c.load_head-link.new.pass) c.args.object c.load_head-link.result Nothing c.load_head-link.ensures.link
    (ap (λ (u : Knowledge). u.walk) c.load_head-link.ensures.view)

pub returns-clause-walks : goal.returns-clause-walks
returns-clause-walks g c =
    walks_started (config_of c.args.shared.now) (view c.args.pass.now) (view c.load_head-link.new.pass) (section_in (view c.args.pass.now)) c.args.object
    c.load_head-link.result c.args.steps.now c.load_head-link.new.steps c.load_head-link.ensures.view c.load_head-link.ensures.step
