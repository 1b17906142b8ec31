use Rattle.std.proofs.Common.{sym, subst, Ok}
use Rattle.mv_history.specs.Meaning.{InSection}
use Rattle.mvrlu.specs.Meant.{section_of, section_in}
use Rattle.object_seats.specs.Calls.{Takes, TakesVacant}
use Rattle.object_seats.specs.declared.position.Position.{Position}
use Rattle.object_seats.specs.declared.position.Position.TheVariants.{Inside}
use Rattle.object_seats.proofs.vacant.vacant_in.Goals as goal

-- what is said of the session is said of the section before it was resumed and after it was parked
pub returns-in-Inside-clause-takes : goal.returns-in-Inside-clause-takes
returns-in-Inside-clause-takes c =
    let taken = c.take_vacant-taken.result in
    let old = section_of c.resume-session.result in
    let met : Takes (section_in c.in-Inside.section) c.args.hint (section_in c.park.result) taken =
    subst (λ (s : InSection). Takes s c.args.hint (section_in c.park.result) taken) c.resume-session.ensures.meant
    (subst (λ (s : InSection). Takes old c.args.hint s taken) (sym c.park.ensures.meant) c.take_vacant-taken.ensures.takes) in
    subst (λ (p : Position). TakesVacant p c.args.hint (Inside c.park.result) (Ok taken)) (sym c.in-Inside.is) met
