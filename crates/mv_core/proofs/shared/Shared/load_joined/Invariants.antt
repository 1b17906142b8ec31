use Rattle.mv_core.specs.Moves.{load_joined}
use Rattle.std.proofs.Common.{◌≡◌, List}
use Rattle.mv_core.proofs.Terms.{Entry, Clock, view, config_of}
use Rattle.mv_core.specs.SectionFacts.{IsWord}
use Rattle.mv_core.specs.EnterSteps.{IsWhole}
use Rattle.mv_core.specs.SeatSteps.{AreJoined, joined_loaded}
use Rattle.mv_core.proofs.shared.Shared.load_joined.Given as goal

abbrev pub ghosts-load_as : goal.ghosts-load_as
ghosts-load_as g a = record {
  config = config_of a.shared.now;
  place = Clock;
  tells = λ n w.
      ((h : List Entry) × IsWhole (config_of a.shared.now) (view a.pass.now) n h × AreJoined (config_of a.shared.now) (view a.pass.now) h
      × (w ≡ joined_loaded (config_of a.shared.now) (view a.pass.now) n h))
      × IsWord (config_of a.shared.now) n;
  kind = load_joined;
}
