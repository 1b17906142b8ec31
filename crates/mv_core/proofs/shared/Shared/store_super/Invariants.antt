use Rattle.mv_core.specs.Moves.{store_super}
use Rattle.std.proofs.Common.{◌≡◌}
use Rattle.mv_core.proofs.Terms.{Super, link_seat_of, view, config_of}
use Rattle.mv_core.specs.WalkSteps.{slot_named}
use Rattle.mv_core.specs.NameSteps.{super_stored}
use Rattle.mv_core.proofs.shared.Shared.store_super.Given as goal

abbrev pub ghosts-store_as : goal.ghosts-store_as
ghosts-store_as g a = record {
  config = config_of a.shared.now;
  place = Super (link_seat_of a.about.now) (slot_named (config_of a.shared.now) a.about.now);
  tells = λ n w. w ≡ super_stored (config_of a.shared.now) (view a.pass.now) a.about.now n g.above.0 g.above.1 g.above.2;
  kind = store_super a.about.now a.new g.above.0 g.above.1 g.above.2;
}
