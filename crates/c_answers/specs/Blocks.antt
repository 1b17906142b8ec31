-- What a block tells C: its status and its replies, by the answer of the attempt.
use Rattle.std.specs.Prelude.{◌≡◌, ℕ, List, ◌∷◌, map, replicate, length, ⊤}
use Rattle.set_model.specs.declared.commands.Reply.{Reply}
use Rattle.set_model.specs.declared.commands.Reply.TheVariants as reply
use Rattle.set_blocks.specs.declared.attempt.BlockAttempt.{BlockAttempt}
use Rattle.set_blocks.specs.declared.attempt.BlockAttempt.TheVariants.{Done, Again}
use Rattle.c_answers.specs.declared.replies.MvrluReply.{MvrluReply}
use Rattle.c_answers.specs.declared.status.Status.{Status}
use Rattle.c_answers.specs.declared.status.Status.TheVariants as status
use Rattle.c_answers.specs.SetReplies.{told_at, given_up_by, status_of_cause}

-- the status of a block that took place
abbrev pub status_of_all : List Reply → Status
status_of_all (reply.Full ∷ rest) = status.Full
status_of_all (reply.Worn ∷ rest) = status.Worn
status_of_all other = status.Done

-- the status of a block that was attempted: it took place, or was given up
abbrev pub status_of_block : BlockAttempt → Status
status_of_block (Done answers place) = status_of_all answers
status_of_block (Again cause) = status_of_cause cause

-- the replies of a block, one for each of so many commands
abbrev pub block_told : BlockAttempt → ℕ → List MvrluReply
block_told (Done answers place) count = map (λ r. told_at r place) answers
block_told (Again cause) count = replicate count (given_up_by cause)

-- there are so many replies
abbrev pub AsMany : BlockAttempt → ℕ → Type 0
AsMany (Done answers place) count = count ≡ length answers
AsMany (Again cause) count = ⊤
