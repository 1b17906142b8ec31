use Rattle.mv_core.specs.Moves.{load_scan}
use Rattle.std.proofs.Common.{◌≡◌, List}
use Rattle.mv_core.proofs.Terms.{Entry, Clock, view, config_of}
use Rattle.mv_core.specs.SectionFacts.{IsWord}
use Rattle.mv_core.specs.EnterSteps.{IsWhole}
use Rattle.mv_core.specs.ReclaimSteps.{scan_loaded}
use Rattle.mv_core.proofs.shared.Shared.load_scan.Given as goal

abbrev pub ghosts-load_as : goal.ghosts-load_as
ghosts-load_as g a = record {
  config = config_of a.shared.now;
  place = Clock;
  tells = λ n w.
      ((h : List Entry) × IsWhole (config_of a.shared.now) (view a.pass.now) n h × (w ≡ scan_loaded (config_of a.shared.now) (view a.pass.now) n h))
      × IsWord (config_of a.shared.now) n;
  kind = load_scan;
}
