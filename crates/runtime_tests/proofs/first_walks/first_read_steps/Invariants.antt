use Rattle.runtime_tests.proofs.first_walks.first_read_steps.Given as goal

abbrev pub ghosts-first_reads : goal.ghosts-first_reads
ghosts-first_reads g a = record { name = a.blank.name; parts = a.blank.parts }
