use Rattle.mvrlu.proofs.session.SessionView.read_pair.Given as goal

abbrev pub ghosts-read_pair_in : goal.ghosts-read_pair_in
ghosts-read_pair_in g a = record { name = a.blank.name; parts = a.blank.parts }
