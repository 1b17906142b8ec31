use Rattle.mvrlu.proofs.handle.HandleStore.prepare.Goals as goal

-- a handle's sections may refuse
pub returns-clause-short : goal.returns-clause-short
returns-clause-short g c holder is = let s = c.make_room.ensures.short holder is in (tt, s.0, s.2)

-- the holder is that of the log that is left
pub returns-clause-holder : goal.returns-clause-holder
returns-clause-holder g c holder is = let s = c.make_room.ensures.short holder is in s.1

-- and there is room where that is answered
pub returns-clause-enough : goal.returns-clause-enough
returns-clause-enough g c = c.make_room.ensures.enough

pub returns-clause-alone : goal.returns-clause-alone
returns-clause-alone g c = c.make_room.ensures.alone
