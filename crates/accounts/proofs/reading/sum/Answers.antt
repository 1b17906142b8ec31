use Rattle.accounts.proofs.Terms.{ap, ◌∙◌, subst, Seat, Leaves, Continues-Continues, total}
use Rattle.accounts.proofs.Sections.{length-read, total-read, total-read-fits}
use Rattle.accounts.proofs.Sums.{sum_by}
use Rattle.accounts.proofs.reading.sum.Goals as goal

pub total-sum-requires-clause-accounts : goal.total-sum-requires-clause-accounts
total-sum-requires-clause-accounts g c = length-read _ _ (g.met.S.Open.Section.reads c.enter-section.result) (g.met.S.Open.Section.lawful _)

pub total-sum-requires-clause-fits : goal.total-sum-requires-clause-fits
total-sum-requires-clause-fits g c =
    total-read-fits _ _ (g.met.S.Open.Section.reads c.enter-section.result) c.enter-section.ensures.enters.own (g.met.S.Open.Section.lawful _)

pub returns-clause-sum : goal.returns-clause-sum
returns-clause-sum g c =
    let e = c.enter-section.ensures.enters in
    c.total-sum.ensures.total
    ∙ total-read _ _ (g.met.S.Open.Section.reads c.enter-section.result) e.own (g.met.S.Open.Section.lawful _)
    ∙ ap total e.seat.continues.start

pub returns-clause-read : goal.returns-clause-read
returns-clause-read g c =
    sum_by g.S.Store.took _ _ (g.S.Open.Section.section c.enter-section.result) (g.S.Open.Section.section c.total-sum.new.view) _ _
    c.enter-section.ensures.enters c.enter-section.ensures.took (g.met.S.Open.Section.reads c.enter-section.result) (g.met.S.Open.Section.lawful _)
    (g.met.S.Open.Section.others_stay _ _ c.total-sum.ensures.as_before)
    (subst (λ (s : Seat). Leaves (g.S.Open.Section.section c.total-sum.new.view) s) (g.met.S.Store.same_seat _) c.leave.ensures.leaves)
    c.at-time.ensures c.total-sum.ensures.total

pub returns-clause-continues : goal.returns-clause-continues
returns-clause-continues g c =
    let left = subst (λ (s : Seat). Leaves (g.S.Open.Section.section c.total-sum.new.view) s) (g.met.S.Store.same_seat _) c.leave.ensures.leaves in
    Continues-Continues c.enter-section.ensures.enters.seat.continues
    (Continues-Continues (g.met.S.Open.Section.goes_on _ _ c.total-sum.ensures.as_before).continues left.continues)
