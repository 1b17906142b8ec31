use Rattle.std.proofs.Common.{refl, subst}
use Rattle.mv_history.specs.Meaning.{InSection}
use Rattle.mv_history.specs.Calls.{Rewrites}
use Rattle.mv_history.proofs.Holding.{locks-holds, locks-rewrites}
use Rattle.mv_history.proofs.Steps.{GoesOn-GoesOn}
use Rattle.mv_history.proofs.section.Section.try_lock_with.Goals as goal

pub write-requires : goal.write-requires
write-requires g c =
    let told = c.in-Held.ensures in
    locks-holds (g.Self.Section.section c.args.self.now) (g.Self.Section.section c.try_lock.new.self) c.args.object
    (λ held. (told.again held).1) (λ lacks. told.held refl lacks)

pub returns-in-Held-clause-goes_on : goal.returns-in-Held-clause-goes_on
returns-in-Held-clause-goes_on g c = GoesOn-GoesOn c.in-Held.ensures.goes_on c.write.ensures.goes_on

pub returns-in-Held-clause-again : goal.returns-in-Held-clause-again
returns-in-Held-clause-again g c = λ held. (
  refl,
  subst (λ (s : InSection). Rewrites s (g.Self.Section.section c.write.new.self) c.args.object c.args.words) ((c.in-Held.ensures.again held).1)
      c.write.ensures.rewrites,
)

pub returns-in-Held-clause-held : goal.returns-in-Held-clause-held
returns-in-Held-clause-held g c = λ _ lacks.
    locks-rewrites (g.Self.Section.section c.args.self.now) (g.Self.Section.section c.try_lock.new.self) (g.Self.Section.section c.write.new.self)
    c.args.object c.args.words lacks (c.in-Held.ensures.held refl lacks) c.write.ensures.rewrites
