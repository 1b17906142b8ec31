use Rattle.mv_core.specs.Moves.{stamp}
use Rattle.std.proofs.Common.{◌≡◌}
use Rattle.mv_core.proofs.Terms.{Stamp, index_of}
use Rattle.mv_core.specs.Passes.{view, config_of}
use Rattle.mv_core.specs.EnterSteps.{own_word, stamp_swapped}
use Rattle.mv_core.proofs.shared.Shared.stamp_own.Given as goal

abbrev pub ghosts-swap_as : goal.ghosts-swap_as
ghosts-swap_as g a = record {
  config = config_of a.shared.now;
  place = Stamp (view a.pass.now).number (index_of (config_of a.shared.now) a.about.now.0);
  tells = λ n w. w ≡ stamp_swapped (config_of a.shared.now) (view a.pass.now)
      (own_word (config_of a.shared.now) (view a.pass.now) a.about.now.0 a.about.now.1) a.about.now.2 n;
  kind = stamp (own_word (config_of a.shared.now) (view a.pass.now) a.about.now.0 a.about.now.1) a.about.now.2;
}
