use Rattle.runtime_tests.proofs.first_sections.a_seat_enters_and_leaves.Given as goal

abbrev pub ghosts-enters_twice : goal.ghosts-enters_twice
ghosts-enters_twice g a = record { name = a.blank.name; parts = a.blank.parts }
