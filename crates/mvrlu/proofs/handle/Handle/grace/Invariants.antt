use Rattle.mvrlu.proofs.handle.Handle.grace.Given as goal

abbrev pub ghosts-scan_at : goal.ghosts-scan_at
ghosts-scan_at g a = record { name = a.blank.name; parts = a.blank.parts }
