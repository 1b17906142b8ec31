use Rattle.mv_history.specs.declared.StepKind.TheVariants.{LoadMaster}
use Rattle.mv_core.specs.Passes.{view}
use Rattle.runtime_tests.proofs.Same.{same_twice}
use Rattle.runtime_tests.proofs.ReadSections.{keeps_read}
use Rattle.runtime_tests.proofs.reads.read_by_find.Goals as goal

pub returns-in-None-clause-same : goal.returns-in-None-clause-same
returns-in-None-clause-same g c =
    same_twice c.args.pass.now c.find.new.pass c.read_master.new.pass c.find.ensures.same c.read_master.ensures.same

pub returns-in-None-clause-keeps : goal.returns-in-None-clause-keeps
returns-in-None-clause-keeps g c =
    keeps_read LoadMaster (view c.args.pass.now) (view c.find.new.pass) (view c.read_master.new.pass) _ _ c.find.ensures.walks c.read_master.ensures.reads
