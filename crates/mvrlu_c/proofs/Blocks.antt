-- A block of C that was attempted: how many replies it has.
use Rattle.std.proofs.Common.{◌≡◌, ℕ, Bool, true, false, refl, List, length, sym, ap, ◌∙◌}
use Rattle.crossbeam_utils.specs.Padded.{padded_value}
use Rattle.mv_history.specs.Meaning.{Seat}
use Rattle.section_work.specs.declared.place.Place.TheVariants.{Commit as AtCommit, Read}
use Rattle.set_model.specs.declared.commands.Command.{Command}
use Rattle.set_blocks.specs.declared.attempt.BlockAttempt.{BlockAttempt}
use Rattle.set_blocks.specs.declared.attempt.BlockAttempt.TheVariants.{Done, Again}
use Rattle.set_blocks.proofs.SingleBlocks.{length-block_replies}
use Rattle.set_seats.specs.Calls.{AttemptedBlock}
use Rattle.c_answers.specs.Blocks.{AsMany}
use Rattle.mvrlu_c.specs.declared.sets_handle.MvrluSets.{MvrluSets}
use Rattle.mvrlu_c.specs.SetsBlock.{AnswersBlock}

-- each command has a reply
pub as_many_replies : (old new : Seat) (commands : List Command) (answer : BlockAttempt) (n : ℕ) → AttemptedBlock old new commands answer
    → n ≡ length commands → AsMany answer n
as_many_replies old new commands (Done answers (AtCommit time)) n h e =
    e ∙ sym (ap length h.done.makes.answers_are ∙ length-block_replies commands _ _ _)
as_many_replies old new commands (Done answers (Read time)) n h e =
    e ∙ sym (ap length h.settles.0 ∙ length-block_replies commands _ _ _)
as_many_replies old new commands (Again cause) n h e = tt

-- a block that was attempted has a reply for each of its commands
pub many_told : (old new : MvrluSets) (commands : List Command) (answer : BlockAttempt) (n : ℕ) → (old.is_open ≡ false → ⊥)
    → (old.is_open ≡ true → AnswersBlock commands (padded_value old.state) (padded_value new.state) answer) → n ≡ length commands → AsMany answer n
many_told old new commands answer n shut done e = go old.is_open refl
  where
    go : (b : Bool) → old.is_open ≡ b → AsMany answer n
    go true is = as_many_replies _ _ commands answer n (done is).0 e
    go false is = absurd (shut is)
