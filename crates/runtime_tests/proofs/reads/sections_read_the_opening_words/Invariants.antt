use Rattle.runtime_tests.proofs.reads.sections_read_the_opening_words.Given as goal

abbrev pub ghosts-reads : goal.ghosts-reads
ghosts-reads g a = record { name = a.blank.name; parts = a.blank.parts }
