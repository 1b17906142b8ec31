use Rattle.runtime_tests.proofs.first_rests.the_second_rest_is_lost_to_the_first.Given as goal

abbrev pub ghosts-first_rests : goal.ghosts-first_rests
ghosts-first_rests g a = record { name = a.blank.name; parts = a.blank.parts }
