use Rattle.mvrlu.proofs.closing.ClosingView.read.Given as goal

abbrev pub ghosts-read_last : goal.ghosts-read_last
ghosts-read_last g a = record { name = a.blank.name; parts = a.blank.parts }
