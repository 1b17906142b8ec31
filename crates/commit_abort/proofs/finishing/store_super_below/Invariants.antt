use Rattle.commit_abort.proofs.finishing.store_super_below.Given as goal

abbrev pub ghost-store_super : goal.ghost-store_super
ghost-store_super g a = (g.above.slot, g.above.version, g.above.note)
