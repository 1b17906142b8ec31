use Rattle.mv_core.specs.Moves.{name_rest}
use Rattle.mv_core.proofs.Terms.{Clock, view, config_of}
use Rattle.mv_core.specs.SectionFacts.{IsWord}
use Rattle.mv_core.specs.NameSteps.{RestTold}
use Rattle.mv_core.proofs.shared.Shared.name_rest.Given as goal

abbrev pub ghosts-swap_as : goal.ghosts-swap_as
ghosts-swap_as g a = record {
  config = config_of a.shared.now;
  place = Clock;
  tells = λ n w. RestTold (config_of a.shared.now) (view a.pass.now) a.about.now n w × IsWord (config_of a.shared.now) n;
  kind = name_rest a.about.now;
}
