use Rattle.std.proofs.Common.{◌+◌}
use Rattle.seat_log.specs.mv_core.Passes.{view, config_of}
use Rattle.seat_log.specs.mv_core.Rings.{index_of}
use Rattle.commit_abort.specs.Finishes.{above_at}
use Rattle.commit_abort.proofs.finishing.finish_step.Given as goal

abbrev pub ghost-store_super_below : goal.ghost-store_super_below
ghost-store_super_below g a = above_at (view a.pass.now) (index_of (config_of a.shared.now) (a.log.now.freed + a.index))
