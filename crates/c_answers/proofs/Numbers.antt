-- A number that is told is read back from its 32 bits.
use Rattle.std.proofs.Common.{◌≡◌, ℤ, refl, ap, ◌∙◌, w32, to_z, of_z}
use Rattle.set_catalog.specs.declared.answer.CommandAttempt.{CommandAttempt}
use Rattle.set_catalog.specs.declared.answer.CommandAttempt.TheVariants.{Done, Again}
use Rattle.grow_hash.specs.declared.answer.Split.{Split}
use Rattle.grow_hash.specs.declared.answer.Split.TheVariants as split
use Rattle.grow_hash.specs.declared.attempt.GrowStep.{GrowStep}
use Rattle.grow_hash.specs.declared.attempt.GrowStep.TheVariants as step
use Rattle.c_answers.specs.declared.status.Status.{Status}
use Rattle.c_answers.specs.declared.status.Status.TheVariants as status
use Rattle.c_answers.specs.SetReplies.{reply_told, status_of_reply, status_of_cause}
use Rattle.c_answers.specs.Statuses.{code_of}
use Rattle.c_answers.specs.TableReplies.{step_told, split_told}

-- the number of a status
pub reads_back : (s : Status) → to_z w32 (of_z w32 (code_of s)) ≡ code_of s
reads_back status.Done = refl
reads_back status.Again = refl
reads_back status.Busy = refl
reads_back status.Stale = refl
reads_back status.Short = refl
reads_back status.LogFull = refl
reads_back status.Worn = refl
reads_back status.Closed = refl
reads_back status.InUse = refl
reads_back status.BadNumber = refl
reads_back status.NoMemory = refl
reads_back status.Outside = refl
reads_back status.Inside = refl
reads_back status.BadObject = refl
reads_back status.BadPlace = refl
reads_back status.NotLocked = refl
reads_back status.Empty = refl
reads_back status.Holding = refl
reads_back status.SetFull = refl
reads_back status.No = refl
reads_back status.Full = refl
reads_back status.BadSet = refl
reads_back status.SameSet = refl
reads_back status.BadCommand = refl
reads_back status.BadBlock = refl

-- and what equals it
pub code_back : (why : Status) (z : ℤ) → z ≡ code_of why → to_z w32 (of_z w32 z) ≡ code_of why
code_back why z e = ap (λ x. to_z w32 (of_z w32 x)) e ∙ reads_back why

-- the number of an attempt
pub answer_back : (answer : CommandAttempt) → to_z w32 (of_z w32 (reply_told answer).status) ≡ (reply_told answer).status
answer_back (Done r place) = reads_back (status_of_reply r)
answer_back (Again cause) = reads_back (status_of_cause cause)

-- the number of an attempt on a growing set
pub step_back : (answer : GrowStep) → to_z w32 (of_z w32 (step_told answer).status) ≡ (step_told answer).status
step_back (step.Done r place) = reads_back (status_of_reply r)
step_back (step.Again cause) = reads_back (status_of_cause cause)

-- the number of a split
pub split_number_back : (answer : Split) → to_z w32 (of_z w32 (split_told answer).status) ≡ (split_told answer).status
split_number_back (split.Done time) = reads_back status.Done
split_number_back split.Whole = reads_back status.No
split_number_back (split.Long keys) = reads_back status.No
split_number_back split.Worn = reads_back status.Worn
split_number_back (split.Again cause) = reads_back (status_of_cause cause)
