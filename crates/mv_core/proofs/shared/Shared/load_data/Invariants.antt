use Rattle.mv_core.specs.Moves.{load_data}
use Rattle.std.proofs.Common.{◌≡◌, length}
use Rattle.mv_core.proofs.Terms.{link_seat_of, Data, view, config_of}
use Rattle.mv_core.specs.WalkSteps.{slot_named, data_loaded, words_read, word_read}
use Rattle.mv_core.proofs.shared.Shared.load_data.Given as goal

abbrev pub ghosts-load_as : goal.ghosts-load_as
ghosts-load_as g a = record {
  config = config_of a.shared.now;
  place = Data (link_seat_of a.about.now.0) (slot_named (config_of a.shared.now) a.about.now.0) a.about.now.1;
  tells = λ n w. (w ≡ data_loaded (config_of a.shared.now) (view a.pass.now) g.at.0 a.about.now.1 n)
      × (n ≡ word_read (config_of a.shared.now) (view a.pass.now) g.at.1 g.at.0.object a.about.now.1)
      × (length (words_read (config_of a.shared.now) (view a.pass.now) g.at.1 g.at.0.object) ≡ 6);
  kind = load_data a.about.now.0 a.about.now.1 g.at.0 g.at.1;
}
