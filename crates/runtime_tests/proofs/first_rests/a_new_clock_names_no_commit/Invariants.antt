use Rattle.runtime_tests.proofs.first_rests.a_new_clock_names_no_commit.Given as goal

abbrev pub ghosts-first_clock : goal.ghosts-first_clock
ghosts-first_clock g a = record { name = a.blank.name; parts = a.blank.parts }
