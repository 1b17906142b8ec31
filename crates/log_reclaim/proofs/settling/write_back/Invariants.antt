use Rattle.log_reclaim.proofs.settling.write_back.Given as goal

abbrev pub ghost-start_clock : goal.ghost-start_clock
ghost-start_clock g a = g.at

abbrev pub ghost-load_super : goal.ghost-load_super
ghost-load_super g a = g.at
