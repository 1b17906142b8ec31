use Rattle.mv_core.specs.Moves.{unlock_head}
use Rattle.std.proofs.Common.{◌≡◌}
use Rattle.mv_core.proofs.Terms.{Head, view, config_of}
use Rattle.mv_core.specs.LockSteps.{head_unlocked}
use Rattle.mv_core.proofs.shared.Shared.unlock_head.Given as goal

abbrev pub ghosts-store_as : goal.ghosts-store_as
ghosts-store_as g a = record {
  config = config_of a.shared.now;
  place = Head a.about.now;
  tells = λ n w. w ≡ head_unlocked (config_of a.shared.now) (view a.pass.now) a.about.now n g.held.0 g.held.1 g.held.2;
  kind = unlock_head a.about.now a.new g.held.0 g.held.1 g.held.2;
}
