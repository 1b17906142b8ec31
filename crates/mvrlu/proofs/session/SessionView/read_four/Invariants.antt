use Rattle.mvrlu.proofs.session.SessionView.read_four.Given as goal

abbrev pub ghosts-read_four_in : goal.ghosts-read_four_in
ghosts-read_four_in g a = record { name = a.blank.name; parts = a.blank.parts }
