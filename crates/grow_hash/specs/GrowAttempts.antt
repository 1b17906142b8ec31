-- What an attempt of a command on a growing hash set leaves, by its answer: what it leaves as a work.
use Rattle.grow_hash.specs.Terms.{Seat, Command, Reply, Attempted, Causes, Attempt, WorkDone, WorkAgain, ℕ}
use Rattle.grow_hash.specs.GrowMeaning.{grow_meaning}
use Rattle.grow_hash.specs.declared.attempt.GrowStep.{GrowStep}
use Rattle.grow_hash.specs.declared.attempt.GrowStep.TheVariants.{Done, Again}

-- the answer, as that of a work
abbrev pub as_work : GrowStep → Attempt Reply
as_work (Done answer place) = WorkDone answer place
as_work (Again cause) = WorkAgain cause

-- What an attempt leaves. A commit has the command's tag, writes exactly what the command locks in its snapshot, and has the reply and leaves
-- the set that the command has and leaves just before it; a read has the reply of a set which the command leaves as it is; and what was given
-- up would change the set.
abbrev pub GrowAttempted : ℕ → Causes → Seat → Seat → Command → GrowStep → Type 0
GrowAttempted levels k old new command step = Attempted k (grow_meaning levels command) old new (as_work step)
