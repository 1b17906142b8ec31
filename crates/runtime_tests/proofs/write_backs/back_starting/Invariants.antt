use Rattle.log_reclaim.proofs.looks.OneNote.{note_of}
use Rattle.runtime_tests.proofs.write_backs.back_starting.Given as goal

abbrev pub ghost-back_start : goal.ghost-back_start
ghost-back_start g a = note_of a.log.now a.position
