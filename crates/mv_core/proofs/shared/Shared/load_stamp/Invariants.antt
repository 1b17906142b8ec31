use Rattle.mv_core.specs.Moves.{load_stamp}
use Rattle.std.proofs.Common.{◌≡◌}
use Rattle.mv_core.proofs.Terms.{link_seat_of, Stamp, view, config_of, index_of}
use Rattle.mv_core.specs.WalkSteps.{StampSays, IsOwnTime, stamp_loaded}
use Rattle.mv_core.proofs.shared.Shared.load_stamp.Given as goal

abbrev pub ghosts-load_as : goal.ghosts-load_as
ghosts-load_as g a = record {
  config = config_of a.shared.now;
  place = Stamp (link_seat_of a.about.now.0) (index_of (config_of a.shared.now) a.about.now.1);
  tells = λ n w. (w ≡ stamp_loaded (config_of a.shared.now) (view a.pass.now) g.stand a.about.now.1 n w.past.seen)
      × StampSays (config_of a.shared.now) (view a.pass.now) g.stand n w.past.seen × IsOwnTime (config_of a.shared.now) (view a.pass.now) a.about.now.0 n;
  kind = load_stamp a.about.now.0 a.about.now.1 g.stand;
}
