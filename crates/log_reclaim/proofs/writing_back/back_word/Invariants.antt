use Rattle.seat_log.specs.mv_core.Passes.{view, config_of}
use Rattle.log_reclaim.proofs.looks.Picks.{back_in}
use Rattle.log_reclaim.proofs.writing_back.back_word.Given as goal

abbrev pub ghost-store_master : goal.ghost-store_master
ghost-store_master g a = back_in (config_of a.self.now) (view a.pass.now)
