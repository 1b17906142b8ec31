use Rattle.mv_core.specs.Moves.{load_mark}
use Rattle.mv_core.proofs.moves.Calls.{scan_or}
use Rattle.std.proofs.Common.{◌≡◌, Some}
use Rattle.mv_core.proofs.Terms.{Mark, Scan, view, config_of}
use Rattle.mv_core.specs.ReclaimSteps.{mark_loaded}
use Rattle.mv_core.proofs.shared.Shared.load_mark.Given as goal

abbrev pub ghosts-load_as : goal.ghosts-load_as
ghosts-load_as g a = record {
  config = config_of a.shared.now;
  place = Mark a.about.now;
  tells = λ n w. (scan : Scan) × ((view a.pass.now).scan ≡ Some scan) × (w ≡ mark_loaded (config_of a.shared.now) (view a.pass.now) a.about.now scan n);
  kind = load_mark a.about.now (scan_or (view a.pass.now).scan);
}
