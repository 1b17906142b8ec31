use Rattle.mvrlu.proofs.session.SessionSection.try_lock_with.Given as goal

abbrev pub ghosts-lock_at : goal.ghosts-lock_at
ghosts-lock_at g a = record { name = a.blank.name; parts = a.blank.parts }
