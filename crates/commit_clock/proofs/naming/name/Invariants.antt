use Rattle.commit_clock.proofs.naming.name.Given as goal

abbrev pub ghost-name_commit : goal.ghost-name_commit
ghost-name_commit g a = g.inside
