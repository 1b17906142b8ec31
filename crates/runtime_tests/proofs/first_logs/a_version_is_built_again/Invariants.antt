use Rattle.runtime_tests.proofs.first_logs.a_version_is_built_again.Given as goal

abbrev pub ghosts-first_section : goal.ghosts-first_section
ghosts-first_section g a = record { name = a.blank.name; parts = a.blank.parts }
