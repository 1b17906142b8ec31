use Rattle.std.proofs.Common.{◌∙◌}
use Rattle.mvrlu.specs.Meant.{section_of}
use Rattle.mvrlu.specs.Standing.{stays_long}
use Rattle.object_seats.proofs.Vacancies.{vacant_after, none_more}
use Rattle.object_seats.proofs.vacant.first_vacant.Goals as goal

pub returns-then-is_vacant-clause-stays : goal.returns-then-is_vacant-clause-stays
returns-then-is_vacant-clause-stays c =
    stays_long (section_of c.args.session.now) (section_of c.loop-object.session) (section_of c.is_vacant.new.session)
    c.loop-object.invariant.1 c.is_vacant.ensures.stays

-- the next object isn't vacant either
pub loop-object-preserved : goal.loop-object-preserved
loop-object-preserved c =
    let s = section_of c.args.session.now in
    let t = section_of c.loop-object.session in
    let inv = c.loop-object.invariant in (
      none_more s c.args.from c.loop-object.object inv.0
          (λ v. c.is_vacant.ensures.no c.if-is_vacant.false
          (vacant_after _ _ s t c.args.session.now.part.lawful inv.1 c.loop-object.object v)),
      stays_long s t (section_of c.is_vacant.new.session) inv.1 c.is_vacant.ensures.stays,
      c.is_vacant.ensures.aborts ∙ inv.2,
    )
