-- What an attempt of a command leaves, from what it leaves as a work.
use Rattle.std.proofs.Common.{◌≡◌, ◌-◌, ◌==◌, false, List, [], ◌∷◌, get_or, sym, ap, ◌∙◌, subst}
use Rattle.mv_history.specs.Meaning.{Seat, state_of_time}
use Rattle.section_work.specs.Attempts.{Attempted as WorkAttempted}
use Rattle.section_work.specs.declared.attempting.Attempt.{Attempt}
use Rattle.section_work.specs.declared.attempting.Attempt.TheVariants.{Done as WorkDone, Again as WorkAgain}
use Rattle.section_work.specs.declared.causes.Cause.{Cause}
use Rattle.section_work.specs.declared.place.Place.{Place}
use Rattle.section_work.specs.declared.place.Place.TheVariants.{Commit as AtCommit, Read}
use Rattle.set_model.specs.declared.commands.Command.{Command}
use Rattle.set_model.specs.declared.commands.Reply.{Reply}
use Rattle.set_blocks.specs.BlockMeaning.{block_meaning}
use Rattle.set_catalog.specs.declared.answer.CommandAttempt.{CommandAttempt}
use Rattle.set_catalog.specs.declared.answer.CommandAttempt.TheVariants.{Done, Again}
use Rattle.set_seats.specs.Calls.{domain_causes, Attempted, Replied}
use Rattle.set_seats.proofs.SingleBlock.{said_one, changes_one}

-- it was attempted on the seat that was lent, and left the seat that came back
module _ (old lent back new : Seat) (command : Command) (e : lent ≡ old) (f : new ≡ back) where
  moved : (a : CommandAttempt) → Attempted lent back command a → Attempted old new command a
  moved a h = subst (λ (x : Seat). Attempted x new command a) e (subst (λ (y : Seat). Attempted lent y command a) (sym f) h)

  pub done_one : (tried : Attempt (List Reply)) (answers : List Reply) (place : Place) (answer : Reply) → tried ≡ WorkDone answers place
      → answers ≡ answer ∷ [] → WorkAttempted domain_causes (block_meaning (command ∷ [])) lent back tried
      → Attempted old new command (Done answer place)
  done_one tried answers place answer is one h =
      moved (Done answer place)
      (subst (λ (x : Attempt (List Reply)). WorkAttempted domain_causes (block_meaning (command ∷ [])) lent back x)
      (is ∙ ap (λ (rs : List Reply). WorkDone rs place) one) h)

  pub again_one : (tried : Attempt (List Reply)) (cause : Cause) → tried ≡ WorkAgain cause
      → WorkAttempted domain_causes (block_meaning (command ∷ [])) lent back tried → Attempted old new command (Again cause)
  again_one tried cause is h =
      moved (Again cause)
      (subst (λ (x : Attempt (List Reply)). WorkAttempted domain_causes (block_meaning (command ∷ [])) lent back x) is h)

-- the only reply of a block of one
only : (a b : Reply) → a ∷ [] ≡ b ∷ [] → a ≡ b
only a b e = ap (λ (rs : List Reply). get_or rs 0 a) e

-- So the reply is the command's.
pub replied : (old new : Seat) (command : Command) (a : CommandAttempt) → Attempted old new command a → Replied new command a
replied old new command (Done answer (AtCommit time)) h = (
  only answer _ (h.done.makes.answers_are ∙ said_one command (state_of_time new (time - 1)) false),
  sym (changes_one command (state_of_time new (time - 1)) false) ∙ h.done.makes.changing,
)
replied old new command (Done answer (Read time)) h = (
  only answer _ (h.settles.0 ∙ said_one command (state_of_time new time) (time == new.last)),
  sym (changes_one command (state_of_time new time) (time == new.last)) ∙ h.settles.1,
)
replied old new command (Again cause) h = tt
