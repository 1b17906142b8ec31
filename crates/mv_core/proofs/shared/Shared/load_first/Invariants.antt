use Rattle.mv_core.specs.Moves.{load_first}
use Rattle.std.proofs.Common.{◌≡◌}
use Rattle.mv_core.proofs.Terms.{link_seat_of, First, view, config_of}
use Rattle.mv_core.specs.WalkSteps.{slot_named, first_loaded}
use Rattle.mv_core.proofs.shared.Shared.load_first.Given as goal

abbrev pub ghosts-load_as : goal.ghosts-load_as
ghosts-load_as g a = record {
  config = config_of a.shared.now;
  place = First (link_seat_of a.about.now) (slot_named (config_of a.shared.now) a.about.now);
  tells = λ n w. w ≡ first_loaded (config_of a.shared.now) (view a.pass.now) g.stand n;
  kind = load_first a.about.now g.stand;
}
