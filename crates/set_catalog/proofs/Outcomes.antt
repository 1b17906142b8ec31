-- What an attempt of a command leaves, from what it leaves as a work.
use Rattle.std.proofs.Common.{ℕ, ◌≡◌, ◌+◌, ◌<◌, length, refl, sym, ap, subst, ◌∙◌, arith}
use Rattle.mv_history.specs.State.{State}
use Rattle.mv_history.specs.Meaning.{Seat, IsSeat}
use Rattle.section_work.specs.Attempts.{Attempted as WorkAttempted}
use Rattle.section_work.specs.Causes.{Causes}
use Rattle.section_work.specs.Works.{IsPlanned as IsWorkPlanned}
use Rattle.section_work.specs.declared.attempting.Attempt.{Attempt}
use Rattle.section_work.specs.declared.attempting.Attempt.TheVariants.{Done as WorkDone}
use Rattle.section_work.specs.declared.place.Place.{Place}
use Rattle.section_work.specs.declared.place.Place.TheVariants.{Commit as AtCommit, Read}
use Rattle.set_model.specs.Lawful.{IsOpening}
use Rattle.set_model.specs.Rules.{IsSetCommit}
use Rattle.set_model.specs.Tags.{tag_of, command_of}
use Rattle.set_model.specs.declared.commands.Command.{Command}
use Rattle.set_model.specs.declared.commands.Reply.TheVariants.{Yes}
use Rattle.set_catalog.specs.CommandLaws.{tag_stands_within}
use Rattle.set_catalog.specs.CommandMeaning.{command_meaning}
use Rattle.set_catalog.specs.Findings.{IsPlannedWithin}
use Rattle.set_catalog.specs.Merges.{writes_in}
use Rattle.set_catalog.specs.Remembering.{IsAfterTheFirst, known_at}
use Rattle.set_catalog.specs.Shortages.{IsKnown}
use Rattle.set_catalog.specs.declared.command_work.CommandAnswer.{CommandAnswer}
use Rattle.set_catalog.specs.Steps.{most_beside}
use Rattle.tree_balance.specs.declared.plan.WritePlan.{WritePlan}
use Rattle.set_catalog.specs.declared.shortage.Shortage.{Shortage}
use Rattle.set_catalog.proofs.Knowing.{known_followed}

-- what was planned for a command is planned for it as a work
pub planned_as : (most : ℕ) (command : Command) (s : State) (plan : WritePlan) (answer : CommandAnswer) → answer.reply ≡ Yes
    → IsPlannedWithin most command s (writes_in plan) answer.gone
    → IsWorkPlanned IsSetCommit (command_meaning most command) s (tag_of command) (writes_in plan) answer
planned_as most command s plan answer said p = record {
  plan = record { tagged = refl; plan = p.plan; few = p.few; fit = p.fit; goes = p.goes; said = said };
  some = p.some;
  few = p.few;
  distinct = p.distinct;
  within = p.within;
  fit = p.fit;
}

-- What an attempt leaves, by what it answers, where as many objects are allowed beside an add as the seat may lock.
pub left_by : (k : Causes) (old new : Seat) (most : ℕ) (command : Command) (a b : Attempt CommandAnswer) → most ≡ most_beside old.write_max → a ≡ b
    → WorkAttempted k (command_meaning most command) old new a → WorkAttempted k (command_meaning (most_beside old.write_max) command) old new b
left_by k old new most command a b m e h =
    subst (λ (x : Attempt CommandAnswer). WorkAttempted k (command_meaning (most_beside old.write_max) command) old new x) e
    (subst (λ (n : ℕ). WorkAttempted k (command_meaning n command) old new a) m h)

-- no commit is at the first time
pub after_the_first : (k : Causes) (old new : Seat) (command : Command) (answer : CommandAnswer) (place : Place)
    → WorkAttempted k (command_meaning (most_beside old.write_max) command) old new (WorkDone answer place) → IsAfterTheFirst place
after_the_first k old new command answer (AtCommit time) d = let later : old.base + length old.seen < time = d.done.later in omega arith
after_the_first k old new command answer (Read time) r = tt

-- what is known then
pub known_then : (k : Causes) (old new : Seat) (command : Command) (answer : CommandAnswer) (place : Place) (known after : Shortage)
    → IsSeat IsOpening IsSetCommit new
    → WorkAttempted k (command_meaning (most_beside old.write_max) command) old new (WorkDone answer place)
    → IsKnown new known → after ≡ known_at place known command → IsKnown new after
known_then k old new command answer (AtCommit time) known after law d h e =
    subst (λ (x : Shortage). IsKnown new x) (sym e)
    (known_followed new known time d.done.commit command law d.done.entry
    (ap command_of d.done.plan.tagged ∙ tag_stands_within (most_beside old.write_max) command _ _ d.done.plan.plan) h)
known_then k old new command answer (Read time) known after law r h e = subst (λ (x : Shortage). IsKnown new x) (sym e) h
