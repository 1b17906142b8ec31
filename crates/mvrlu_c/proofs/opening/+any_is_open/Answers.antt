use Rattle.std.proofs.Common.{◌≡◌, false}
use Rattle.std.proofs.lemmas.List.Elements.{All-rest}
use Rattle.mvrlu_c.proofs.opening.+any_is_open.Goals as goal

-- where one of the others is open, not all are closed
pub returns-else-is_open-clause-some : goal.returns-else-is_open-clause-some
returns-else-is_open-clause-some g t c is all =
    c.any_is_open.ensures.some is
    (All-rest (λ h. g.H.CHandle.is_open h ≡ false) c.in-Some.first.now c.in-Some.others.now c.args.handles.now c.in-Some.ensures.cases.0 all)
