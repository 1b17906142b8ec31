-- The hints after an attempt.
use Rattle.std.proofs.Common.{◌≡◌, ℕ, ◌⊎◌, inl, inr, List, ◌++◌, Contains, refl, sym, ap, ◌∙◌, subst, append_assoc}
use Rattle.std.proofs.lemmas.List.Elements.{All-contains_itself, All-weaker, Contains-append_left}
use Rattle.mv_history.specs.Meaning.{Seat}
use Rattle.mv_history.specs.State.{State}
use Rattle.section_work.specs.Attempts.{Attempted, IsDoneAt, Noted}
use Rattle.section_work.specs.Causes.{Causes}
use Rattle.section_work.specs.declared.attempting.Attempt.TheVariants.{Done as WorkDone}
use Rattle.section_work.specs.declared.place.Place.{Place}
use Rattle.section_work.specs.declared.place.Place.TheVariants.{Commit as AtCommit, Read}
use Rattle.set_model.specs.declared.commands.Command.{Command}
use Rattle.set_model.specs.declared.commands.Command.TheVariants.{Add, Put, Del, Has, Get, Move, Pair, Size, Next}
use Rattle.set_catalog.specs.Attempts.{WasVacant, KeepsHints, NotesGone, HintsAfter}
use Rattle.set_catalog.specs.CommandMeaning.{command_meaning}
use Rattle.set_catalog.specs.Hinted.{Hinted, gone_noted, TakesHints}
use Rattle.set_catalog.specs.Remembering.{TakesFor, hints_at}
use Rattle.set_catalog.specs.Steps.{most_beside}
use Rattle.set_catalog.specs.declared.answer.CommandAttempt.TheVariants.{Done}
use Rattle.set_catalog.specs.declared.command_work.CommandAnswer.{CommandAnswer}
use Rattle.set_catalog.specs.declared.memo.Memo.{Memo}

-- where hints were only taken, each that is left was one before
pub kept_taken : (hints after : Hinted) (old new : Seat) → TakesHints hints after → KeepsHints hints after old new
kept_taken hints after old new t = record {
  room = t.room;
  each = All-weaker (Contains after.objects) (λ o. Contains hints.objects o ⊎ WasVacant old new o)
      (λ o c. inl (subst (λ (xs : List ℕ). Contains xs o) (sym t.parts) (Contains-append_left after.objects t.gone o c)))
      after.objects (All-contains_itself after.objects);
}

-- what a look does to what is remembered
abbrev Looks : Command → Memo → Memo → State → Type 0
Looks command before after s = TakesFor command before.hints after.hints s

takes_twice : (a b c : Hinted) → TakesHints a b → TakesHints b c → TakesHints a c
takes_twice a b c s t = record {
  room = t.room ∙ s.room;
  gone = t.gone ++ s.gone;
  parts = s.parts ∙ ap (λ (xs : List ℕ). xs ++ s.gone) t.parts ∙ append_assoc c.objects t.gone s.gone;
}

-- Looks only take hints.
pub noted_takes : (command : Command) (old new : Seat) (before after : Memo) → Noted (Looks command) old new before after
    → TakesHints before.hints after.hints
noted_takes command old new before after (between, one, inl e) =
    subst (λ (m : Memo). TakesHints before.hints m.hints) (sym e) one.notes_is.takes
noted_takes command old new before after (between, one, inr two) =
    takes_twice before.hints between.hints after.hints one.notes_is.takes two.notes_is.takes

-- A look for a del takes none.
del_takes_none : (name key : ℕ) (old new : Seat) (before after : Memo) → Noted (Looks (Del name key)) old new before after
    → after.hints ≡ before.hints
del_takes_none name key old new before after (between, one, inl e) = ap (λ (m : Memo). m.hints) e ∙ one.notes_is.untouched refl
del_takes_none name key old new before after (between, one, inr two) = two.notes_is.untouched refl ∙ one.notes_is.untouched refl

-- where nothing became vacant, nothing was noted
none_noted : (old hints : Hinted) (node inner : ℕ) → (node ≡ 0) × (inner ≡ 0) → hints ≡ gone_noted old node inner → hints ≡ old
none_noted old hints node inner z e = rw (z.0, z.1) at e

-- The objects that a commit left vacant were noted.
done_noted : (k : Causes) (old new : Seat) (command : Command) (answer : CommandAnswer) (time : ℕ) (before between : Memo) (after : Hinted)
    → IsDoneAt k (command_meaning (most_beside old.write_max) command) old new answer time → Noted (Looks command) old new before between
    → after ≡ gone_noted between.hints answer.gone.node answer.gone.inner → NotesGone command before.hints after old new time
done_noted k old new command answer time before between after d n e = go command d n
  where
    kept : (c : Command) → Noted (Looks c) old new before between → (answer.gone.node ≡ 0) × (answer.gone.inner ≡ 0) → KeepsHints before.hints after old new
    kept c n z =
        kept_taken before.hints after old new
        (subst (λ (h : Hinted). TakesHints before.hints h) (sym (none_noted between.hints after answer.gone.node answer.gone.inner z e))
        (noted_takes c old new before between n))

    go : (c : Command) → IsDoneAt k (command_meaning (most_beside old.write_max) c) old new answer time → Noted (Looks c) old new before between
        → NotesGone c before.hints after old new time
    go (Del name key) d n = (
      d.done.commit,
      answer.gone.node,
      answer.gone.inner,
      d.done.entry,
      d.done.plan.goes,
      e ∙ ap (λ (h : Hinted). gone_noted h answer.gone.node answer.gone.inner) (del_takes_none name key old new before between n),
    )
    go (Add name key) d n = kept (Add name key) n d.done.plan.goes
    go (Put name key value) d n = kept (Put name key value) n d.done.plan.goes
    go (Has name key) d n = kept (Has name key) n d.done.plan.goes
    go (Get name key) d n = kept (Get name key) n d.done.plan.goes
    go (Move source target key) d n = kept (Move source target key) n d.done.plan.goes
    go (Pair first second key) d n = kept (Pair first second key) n d.done.plan.goes
    go (Size name) d n = kept (Size name) n d.done.plan.goes
    go (Next name key) d n = kept (Next name key) n d.done.plan.goes

-- What an attempt leaves of the hints that was done here.
pub hints_then : (k : Causes) (old new : Seat) (command : Command) (answer : CommandAnswer) (place : Place) (before between : Memo) (after : Hinted)
    → Attempted k (command_meaning (most_beside old.write_max) command) old new (WorkDone answer place) → Noted (Looks command) old new before between
    → after ≡ hints_at place between.hints answer.gone → HintsAfter command before.hints after old new (Done answer.reply place)
hints_then k old new command answer (AtCommit time) before between after d n e = done_noted k old new command answer time before between after d n e
hints_then k old new command answer (Read time) before between after r n e =
    kept_taken before.hints after old new
    (subst (λ (h : Hinted). TakesHints before.hints h) (sym e) (noted_takes command old new before between n))
