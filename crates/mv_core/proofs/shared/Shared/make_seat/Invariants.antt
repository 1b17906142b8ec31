use Rattle.mv_core.specs.Passes.{config_of}
use Rattle.mv_core.proofs.shared.Shared.make_seat.Given as goal

abbrev pub ghosts-split_as : goal.ghosts-split_as
ghosts-split_as g a = record { config = config_of a.shared.now }
