-- What an attempt of a block leaves, by its answer: what it leaves as a work.
use Rattle.section_work.specs.Attempts.{Attempted}
use Rattle.section_work.specs.Causes.{Causes}
use Rattle.section_work.specs.declared.attempting.Attempt.{Attempt}
use Rattle.section_work.specs.declared.attempting.Attempt.TheVariants.{Done as WorkDone, Again as WorkAgain}
use Rattle.set_blocks.specs.Terms.{List, Seat, Command, Reply}
use Rattle.set_blocks.specs.BlockMeaning.{block_meaning}
use Rattle.set_blocks.specs.declared.attempt.BlockAttempt.{BlockAttempt}
use Rattle.set_blocks.specs.declared.attempt.BlockAttempt.TheVariants.{Done, Again}

-- the answer, as that of a work
abbrev pub as_work : BlockAttempt → Attempt (List Reply)
as_work (Done answers place) = WorkDone answers place
as_work (Again cause) = WorkAgain cause

-- What an attempt leaves. A commit is one entry with the block's tag, which wrote what its commands lock or hold in its snapshot, and nothing
-- else; its replies, and the catalogue that it leaves, are those of the state just before, which is not at the last time. A read has the
-- replies of a catalogue that the block leaves as it is; and what was given up would change something.
abbrev pub BlockAttempted : Causes → Seat → Seat → List Command → BlockAttempt → Type 0
BlockAttempted k old new commands answer = Attempted k (block_meaning commands) old new (as_work answer)
