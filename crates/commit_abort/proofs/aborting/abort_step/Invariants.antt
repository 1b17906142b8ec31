use Rattle.std.proofs.Common.{◌+◌}
use Rattle.seat_log.specs.mv_core.Passes.{view, config_of}
use Rattle.seat_log.specs.mv_core.Rings.{index_of}
use Rattle.commit_abort.specs.Aborts.{held_in}
use Rattle.commit_abort.proofs.aborting.abort_step.Given as goal

abbrev pub ghost-unlock_one : goal.ghost-unlock_one
ghost-unlock_one g a = held_in (view a.pass.now) (index_of (config_of a.shared.now) (a.log.now.freed + a.index))
