use Rattle.log_reclaim.proofs.writing_back.back_start.Given as goal

abbrev pub ghost-start_clock : goal.ghost-start_clock
ghost-start_clock g a = g.at
