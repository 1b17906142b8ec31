-- The calls that an attempt of a command makes are those of its work.
use Rattle.std.proofs.Common.{◌≡◌, subst}
use Rattle.mv_history.specs.Meaning.{Seat, InSection}
use Rattle.section_work.specs.Causes.{Causes}
use Rattle.section_work.specs.Steps.{Follows, IsStepped}
use Rattle.section_work.specs.declared.attempting.Attempt.{Attempt}
use Rattle.section_work.specs.declared.attempting.Attempt.TheVariants.{Done, Again}
use Rattle.section_work.specs.declared.causes.Cause.TheVariants.{Lock, Rival, LogFull}
use Rattle.section_work.specs.declared.place.Place.TheVariants.{Commit, Read}
use Rattle.set_model.specs.declared.commands.Reply.{Reply}
use Rattle.set_catalog.specs.declared.command_work.CommandAnswer.{CommandAnswer}

-- the answer with the command's reply alone
abbrev pub said : Attempt CommandAnswer → Attempt Reply
said (Done answer place) = Done answer.reply place
said (Again cause) = Again cause

module _ {Open : Type 0} (section : Open → InSection) (as_before : Open → Open → Type 0) (k : Causes) (old new : Seat) where
  same_calls : (found : Open) (a : Attempt CommandAnswer) → Follows section as_before k found new a → Follows section as_before k found new (said a)
  same_calls found (Done answer (Commit time)) f = f
  same_calls found (Done answer (Read time)) f = f
  same_calls found (Again (Lock refusal)) f = f
  same_calls found (Again (Rival rival)) f = f
  same_calls found (Again (LogFull holder)) f = f

  pub stepped_as : (a b : Attempt CommandAnswer) → a ≡ b → IsStepped section as_before k old new a → IsStepped section as_before k old new (said b)
  stepped_as a b e s = record {
    prepared = s.prepared;
    prepares = s.prepares;
    entered = s.entered;
    found = s.found;
    looks = s.looks;
    follows = same_calls s.found b (subst (λ (x : Attempt CommandAnswer). Follows section as_before k s.found new x) e s.follows);
  }
