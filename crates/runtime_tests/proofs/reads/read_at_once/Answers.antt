use Rattle.mv_history.specs.declared.StepKind.TheVariants.{LoadMaster}
use Rattle.mv_core.specs.Passes.{view, config_of}
use Rattle.version_chain.specs.Walks.{section_in}
use Rattle.runtime_tests.proofs.Same.{same_twice}
use Rattle.runtime_tests.proofs.ReadSections.{keeps_on, keeps_walk, keeps_read, reads_master}
use Rattle.runtime_tests.proofs.reads.read_at_once.Goals as goal

pub returns-in-Ok-None-clause-same : goal.returns-in-Ok-None-clause-same
returns-in-Ok-None-clause-same g c =
    same_twice c.args.pass.now c.walk_start-walk.new.pass c.read_master.new.pass c.walk_start-walk.ensures.same
    (same_twice c.walk_start-walk.new.pass c.walk_step.new.pass c.read_master.new.pass c.in-Ok-None.ensures.same c.read_master.ensures.same)

pub returns-in-Ok-None-clause-keeps : goal.returns-in-Ok-None-clause-keeps
returns-in-Ok-None-clause-keeps g c =
    let v = view c.args.pass.now in
    let w = view c.walk_start-walk.new.pass in
    let x = view c.walk_step.new.pass in
    let y = view c.read_master.new.pass in
    keeps_on v w y (keeps_walk v w _ _ c.walk_start-walk.ensures.walks)
    (keeps_read LoadMaster w x y _ _ c.in-Ok-None.ensures.walks c.read_master.ensures.reads)

pub returns-in-Ok-None-clause-trail : goal.returns-in-Ok-None-clause-trail
returns-in-Ok-None-clause-trail g c =
    let answers = rw c.in-Ok-None.field-0-is at c.in-Ok-None.ensures.answers in
    reads_master (config_of c.args.shared.now) (view c.args.pass.now) (view c.walk_start-walk.new.pass) (view c.walk_step.new.pass)
    (view c.read_master.new.pass) (section_in (view c.args.pass.now)) _ _ c.walk_start-walk.ensures.view answers.1 c.read_master.ensures.reads

pub returns-in_default-clause-keeps : goal.returns-in_default-clause-keeps
returns-in_default-clause-keeps g c =
    let v = view c.args.pass.now in
    let w = view c.walk_start-walk.new.pass in
    let x = view c.walk_step.new.pass in
    keeps_on v w x (keeps_walk v w _ _ c.walk_start-walk.ensures.walks) (keeps_walk w x _ _ c.walk_step.ensures.walks)
