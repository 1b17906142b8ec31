use Rattle.mv_core.specs.Moves.{load_named}
use Rattle.std.proofs.Common.{◌≡◌}
use Rattle.mv_core.specs.Passes.{view, config_of}
use Rattle.mv_core.specs.EnterSteps.{stamp_place, named_loaded}
use Rattle.mv_core.proofs.shared.Shared.load_named.Given as goal

abbrev pub ghosts-load_as : goal.ghosts-load_as
ghosts-load_as g a = record {
  config = config_of a.shared.now;
  place = stamp_place a.about.now;
  tells = λ n w. w ≡ named_loaded (config_of a.shared.now) (view a.pass.now) a.about.now n;
  kind = load_named a.about.now;
}
