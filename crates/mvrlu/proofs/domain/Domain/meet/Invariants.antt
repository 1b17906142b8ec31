use Rattle.mvrlu.proofs.domain.Domain.meet.Given as goal

abbrev pub ghosts-begin_meeting : goal.ghosts-begin_meeting
ghosts-begin_meeting g a = record { name = a.blank.name; parts = a.blank.parts }
