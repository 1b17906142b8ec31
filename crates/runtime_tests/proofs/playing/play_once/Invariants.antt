use Rattle.runtime_tests.proofs.playing.play_once.Given as goal

abbrev pub ghosts-play_new : goal.ghosts-play_new
ghosts-play_new a = record { name = a.blank.name; parts = a.blank.parts }
