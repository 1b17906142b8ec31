use Rattle.mvrlu.proofs.opening.open.Goals as goal

-- the numbers were checked, and the domain is opened with them
pub returns-in-Ok-clause-opened : goal.returns-in-Ok-clause-opened
returns-in-Ok-clause-opened g c = (c.in_default.ensures, c.in-Ok.ensures.opened)
