-- What a call on the sets tells: its status and its reply, by the answer of the attempt.
use Rattle.std.specs.Prelude.{ℕ, if◌then◌else◌}
use Rattle.section_work.specs.declared.causes.Cause.{Cause}
use Rattle.section_work.specs.declared.causes.Cause.TheVariants.{Lock, Rival, LogFull}
use Rattle.section_work.specs.declared.causes.Refusal.TheVariants as refusal
use Rattle.section_work.specs.declared.place.Place.{Place}
use Rattle.section_work.specs.declared.place.Place.TheVariants.{Commit, Read}
use Rattle.set_model.specs.declared.commands.Reply.{Reply}
use Rattle.set_model.specs.declared.commands.Reply.TheVariants as reply
use Rattle.set_catalog.specs.declared.answer.CommandAttempt.{CommandAttempt}
use Rattle.set_catalog.specs.declared.answer.CommandAttempt.TheVariants.{Done, Again}
use Rattle.c_answers.specs.declared.replies.MvrluReply.{MvrluReply}
use Rattle.c_answers.specs.declared.status.Status.{Status}
use Rattle.c_answers.specs.declared.status.Status.TheVariants as status
use Rattle.c_answers.specs.Statuses.{code_of}

-- the status of a reply: no where nothing was to be changed or nothing was found, full, worn, and else done
abbrev pub status_of_reply : Reply → Status
status_of_reply reply.Yes = status.Done
status_of_reply reply.No = status.No
status_of_reply reply.Full = status.Full
status_of_reply reply.Worn = status.Worn
status_of_reply (reply.Both first second) = status.Done
status_of_reply (reply.Count count) = status.Done
status_of_reply (reply.Key key) = status.Done
status_of_reply reply.NoKey = status.No
status_of_reply (reply.Value value) = status.Done

-- each cause has its own status
abbrev pub status_of_cause : Cause → Status
status_of_cause (Lock (refusal.Busy object seat)) = status.Busy
status_of_cause (Lock (refusal.Stale object time)) = status.Stale
status_of_cause (Rival rival) = status.Again
status_of_cause (LogFull holder) = status.Short

-- what was asked for
abbrev pub value_told : Reply → ℕ
value_told (reply.Both first second) = if first then 1 else 0
value_told (reply.Count count) = count
value_told (reply.Key key) = key
value_told (reply.Value value) = value
value_told other = 0

-- of a pair, whether the second set has the key
abbrev pub second_told : Reply → ℕ
second_told (reply.Both first second) = if second then 1 else 0
second_told other = 0

-- who or what came first
abbrev pub culprit_of : Cause → ℕ
culprit_of (Lock (refusal.Busy object seat)) = seat
culprit_of (Lock (refusal.Stale object time)) = time
culprit_of (Rival rival) = rival.time
culprit_of (LogFull holder) = 0

-- the time where a command took place: of its commit, or of the state that it read
abbrev pub time_of : Place → ℕ
time_of (Commit time) = time
time_of (Read time) = time

-- 1 where it took place as a commit, and 0 where it read
abbrev pub committed_of : Place → ℕ
committed_of (Commit time) = 1
committed_of (Read time) = 0

-- the reply of a command that took place there
abbrev pub told_at : Reply → Place → MvrluReply
told_at r place = record {
  value = value_told r;
  time = time_of place;
  committed = committed_of place;
  second = second_told r;
  status = code_of (status_of_reply r);
}

-- the reply of one that was given up
abbrev pub given_up_by : Cause → MvrluReply
given_up_by cause = record { value = culprit_of cause; time = 0; committed = 0; second = 0; status = code_of (status_of_cause cause) }

-- the reply of an attempt
abbrev pub reply_told : CommandAttempt → MvrluReply
reply_told (Done r place) = told_at r place
reply_told (Again cause) = given_up_by cause
