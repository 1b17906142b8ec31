use Rattle.mv_history.specs.declared.StepKind.TheVariants.{LoadData}
use Rattle.mv_core.specs.Passes.{view, IsSame, config_of}
use Rattle.version_chain.specs.Walks.{section_in, stand_in}
use Rattle.version_chain.specs.Reads.{words_in}
use Rattle.version_chain.proofs.SoFar.{HasRead}
use Rattle.version_chain.proofs.reading.read_version.Given as goal

abbrev pub ghost-load_data : goal.ghost-load_data
ghost-load_data g a = (stand_in (view a.pass.now), section_in (view a.pass.now))

abbrev pub invariant-loop-word : goal.invariant-loop-word
invariant-loop-word g l =
    IsSame l.initial.pass l.pass
    × HasRead LoadData (view l.initial.pass) (view l.pass) (words_in (config_of l.shared) (view l.initial.pass) (stand_in (view l.initial.pass)).object)
    l.words l.word l.initial.steps l.steps
