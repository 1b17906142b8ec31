use Rattle.mv_core.specs.Moves.{name_commit}
use Rattle.mv_core.proofs.Terms.{Clock, view, config_of}
use Rattle.mv_core.specs.SectionFacts.{IsWord}
use Rattle.mv_core.specs.NameSteps.{LogTold, CommitTold}
use Rattle.mv_core.proofs.shared.Shared.name_commit.Given as goal

abbrev pub ghosts-swap_as : goal.ghosts-swap_as
ghosts-swap_as g a = record {
  config = config_of a.shared.now;
  place = Clock;
  tells = λ n w. CommitTold (config_of a.shared.now) (view a.pass.now) g.inside a.about.now.1 a.about.now.0 n w × IsWord (config_of a.shared.now) n
      × LogTold (config_of a.shared.now) (view a.pass.now) n;
  kind = name_commit a.about.now.0 a.about.now.1 g.inside;
}
