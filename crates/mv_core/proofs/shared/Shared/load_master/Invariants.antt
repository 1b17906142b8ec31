use Rattle.mv_core.specs.Moves.{load_master}
use Rattle.std.proofs.Common.{◌≡◌, length}
use Rattle.mv_core.proofs.Terms.{Master, view, config_of}
use Rattle.mv_core.specs.WalkSteps.{master_loaded, words_read, word_read}
use Rattle.mv_core.proofs.shared.Shared.load_master.Given as goal

abbrev pub ghosts-load_as : goal.ghosts-load_as
ghosts-load_as g a = record {
  config = config_of a.shared.now;
  place = Master a.about.now.0 a.about.now.1;
  tells = λ n w. (w ≡ master_loaded (config_of a.shared.now) (view a.pass.now) a.about.now.0 a.about.now.1 n)
      × (n ≡ word_read (config_of a.shared.now) (view a.pass.now) g.inside a.about.now.0 a.about.now.1)
      × (length (words_read (config_of a.shared.now) (view a.pass.now) g.inside a.about.now.0) ≡ 6);
  kind = load_master a.about.now.0 a.about.now.1 g.inside;
}
