use Rattle.mv_history.specs.declared.StepKind.TheVariants.{LoadMaster}
use Rattle.mv_core.specs.Passes.{view, IsSame, config_of}
use Rattle.version_chain.specs.Walks.{section_in}
use Rattle.version_chain.specs.Reads.{words_in}
use Rattle.version_chain.proofs.SoFar.{HasRead}
use Rattle.version_chain.proofs.reading.read_master.Given as goal

abbrev pub ghost-load_master : goal.ghost-load_master
ghost-load_master g a = section_in (view a.pass.now)

abbrev pub invariant-loop-word : goal.invariant-loop-word
invariant-loop-word g l =
    IsSame l.initial.pass l.pass × HasRead LoadMaster (view l.initial.pass) (view l.pass) (words_in (config_of l.shared) (view l.initial.pass) l.object)
    l.words l.word l.initial.steps l.steps
