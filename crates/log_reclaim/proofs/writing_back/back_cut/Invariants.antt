use Rattle.seat_log.specs.mv_core.Passes.{view, config_of}
use Rattle.log_reclaim.proofs.looks.Picks.{committed_in}
use Rattle.log_reclaim.proofs.writing_back.back_cut.Given as goal

abbrev pub ghost-cut_head : goal.ghost-cut_head
ghost-cut_head g a = committed_in (config_of a.self.now) (view a.pass.now) a.position
