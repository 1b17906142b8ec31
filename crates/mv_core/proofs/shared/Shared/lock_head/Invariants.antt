use Rattle.mv_core.specs.Moves.{lock_head}
use Rattle.std.proofs.Common.{◌≡◌, ◌≢◌}
use Rattle.mv_core.proofs.Terms.{Head, link_seat_of, config_of}
use Rattle.mv_core.specs.WalkSteps.{IsLinkOf}
use Rattle.mv_core.specs.LockSteps.{LockTold, OneMoreWrite}
use Rattle.mv_core.proofs.shared.Shared.lock_head.Given as goal

abbrev pub ghosts-swap_alone : goal.ghosts-swap_alone
ghosts-swap_alone g a = record {
  config = config_of a.shared.now;
  place = Head a.about.now.0;
  tells = λ n w. LockTold (config_of a.shared.now) a.seat.now.me.0 a.about.now.0 a.about.now.1 a.about.now.2 g.what.0 n w
      × (n ≡ a.about.now.1 → OneMoreWrite (config_of a.shared.now) a.seat.now.me.0 a.about.now.0 g.what.0 w)
      × (n ≢ a.about.now.1 → IsLinkOf (config_of a.shared.now) n × (n ≢ 0 → link_seat_of n ≢ a.seat.now.me.0.number));
  kind = lock_head a.about.now.0 a.about.now.1 a.about.now.2 g.what.0 g.what.1 g.what.2;
}
