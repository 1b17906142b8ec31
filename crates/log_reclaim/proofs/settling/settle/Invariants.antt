use Rattle.log_reclaim.proofs.looks.OneNote.{note_of}
use Rattle.log_reclaim.proofs.settling.settle.Given as goal

abbrev pub ghost-load_super : goal.ghost-load_super
ghost-load_super g a = note_of a.log.now a.position

abbrev pub ghost-write_back : goal.ghost-write_back
ghost-write_back g a = note_of a.log.now a.position
