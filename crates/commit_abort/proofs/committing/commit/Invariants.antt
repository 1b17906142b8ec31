use Rattle.commit_abort.proofs.committing.commit.Given as goal

abbrev pub ghost-name : goal.ghost-name
ghost-name g a = g.inside
