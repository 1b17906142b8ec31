use Rattle.seat_log.specs.mv_core.Passes.{view}
use Rattle.seat_log.specs.reader_marks.Sections.{section_in}
use Rattle.commit_abort.proofs.finishing.finish_start.Given as goal

abbrev pub ghost-stamp_own : goal.ghost-stamp_own
ghost-stamp_own g a = section_in (view a.pass.now)
