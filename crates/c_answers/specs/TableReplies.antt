-- What a call on a growing set tells: its status and its reply, by the answer of the attempt.
use Rattle.std.specs.Prelude.{ℕ}
use Rattle.grow_hash.specs.declared.answer.Split.{Split}
use Rattle.grow_hash.specs.declared.answer.Split.TheVariants as split
use Rattle.grow_hash.specs.declared.attempt.GrowStep.{GrowStep}
use Rattle.grow_hash.specs.declared.attempt.GrowStep.TheVariants as step
use Rattle.c_answers.specs.declared.replies.MvrluReply.{MvrluReply}
use Rattle.c_answers.specs.declared.status.Status.{Status}
use Rattle.c_answers.specs.declared.status.Status.TheVariants as status
use Rattle.c_answers.specs.SetReplies.{told_at, given_up_by}
use Rattle.c_answers.specs.Statuses.{code_of}

-- the reply of an attempt of a command
abbrev pub step_told : GrowStep → MvrluReply
step_told (step.Done r place) = told_at r place
step_told (step.Again cause) = given_up_by cause

-- a reply that tells no time
abbrev pub untimed : Status → ℕ → MvrluReply
untimed told value = record { value = value; time = 0; committed = 0; second = 0; status = code_of told }

-- The reply of a split: it was made, as the commit of this time; no bucket is left to be split, or the next one has this many keys, which are too
-- many; it is the last time; or it was given up.
abbrev pub split_told : Split → MvrluReply
split_told (split.Done time) = record { value = 0; time = time; committed = 1; second = 0; status = code_of status.Done }
split_told split.Whole = untimed status.No 0
split_told (split.Long keys) = untimed status.No keys
split_told split.Worn = untimed status.Worn 0
split_told (split.Again cause) = given_up_by cause
