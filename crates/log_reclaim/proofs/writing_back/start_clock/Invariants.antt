use Rattle.seat_log.specs.mv_core.Passes.{view}
use Rattle.seat_log.specs.reader_marks.Sections.{section_in}
use Rattle.log_reclaim.proofs.writing_back.start_clock.Given as goal

abbrev pub ghost-load_head : goal.ghost-load_head
ghost-load_head g a = section_in (view a.pass.now)
