use Rattle.mv_core.specs.Moves.{load_time}
use Rattle.std.proofs.Common.{◌≡◌, List}
use Rattle.mv_core.proofs.Terms.{Entry, Clock, HoldsNothing, config_of}
use Rattle.mv_core.specs.SectionFacts.{IsWord}
use Rattle.mv_core.specs.EnterSteps.{IsWhole, time_loaded}
use Rattle.mv_core.proofs.shared.Shared.load_time.Given as goal

abbrev pub ghosts-load_alone : goal.ghosts-load_alone
ghosts-load_alone g a = record {
  config = config_of a.shared.now;
  place = Clock;
  tells = λ n w. ((h : List Entry) × IsWhole (config_of a.shared.now) a.seat.now.me.0 n h × (w ≡ time_loaded (config_of a.shared.now) a.seat.now.me.0 n h))
      × IsWord (config_of a.shared.now) n × HoldsNothing w.ring;
  kind = load_time;
}
