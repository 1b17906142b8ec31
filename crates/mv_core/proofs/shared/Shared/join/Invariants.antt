use Rattle.mv_core.specs.Passes.{config_of}
use Rattle.mv_core.proofs.shared.Shared.join.Given as goal

abbrev pub ghosts-join_as : goal.ghosts-join_as
ghosts-join_as g a = record { config = config_of a.shared.now }
