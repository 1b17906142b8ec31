use Rattle.mv_core.specs.Moves.{load_prev}
use Rattle.std.proofs.Common.{◌≡◌}
use Rattle.mv_core.proofs.Terms.{link_seat_of, Prev, view, config_of}
use Rattle.mv_core.specs.WalkSteps.{IsLinkOf, slot_named, prev_loaded}
use Rattle.mv_core.proofs.shared.Shared.load_prev.Given as goal

abbrev pub ghosts-load_as : goal.ghosts-load_as
ghosts-load_as g a = record {
  config = config_of a.shared.now;
  place = Prev (link_seat_of a.about.now) (slot_named (config_of a.shared.now) a.about.now);
  tells = λ n w. (w ≡ prev_loaded (config_of a.shared.now) (view a.pass.now) g.stand n) × IsLinkOf (config_of a.shared.now) n;
  kind = load_prev a.about.now g.stand;
}
