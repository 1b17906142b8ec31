-- How a command or a block was done from one seat to another, and the chain of a run's lines.
use Rattle.std.specs.Prelude.{◌≡◌, ◌≤◌, List, [], ◌∷◌, ◌++◌, length}
use Rattle.set_blocks.specs.BlockAttempts.{BlockAttempted}
use Rattle.set_blocks.specs.BlockRules.{IsBlockCommit}
use Rattle.set_blocks.specs.declared.attempt.BlockAttempt.TheVariants as blocks
use Rattle.script_workers.specs.Terms.{flat_map, Seat, IsSeat, IsOpening, IsSetCommit, Command, Place, Reply, Causes, Attempted, Done, Line, BySeat, Chain}
use Rattle.script_workers.specs.Terms.{DoneBehind}
use Rattle.script_workers.specs.Lines.{DoneBlock, lines_of}

-- Behind attempts that made no commit there was one of this command that was done: by a commit later than all that was seen, or at the time of
-- a section that this very attempt entered, whose snapshot holds all that the seat had seen.
abbrev pub Linked : Causes → Seat → Seat → Command → Place × Reply → Type 0
Linked k s t command done = DoneBehind (λ old new. Attempted k old new command (Done done.1 done.0)) (IsSeat IsOpening IsSetCommit) s t

-- the command of a line was done from the one seat to the other
abbrev pub LinkedLine : Causes → Seat → Seat → Command → Line → Type 0
LinkedLine k s t command line = Linked k s t command (line.place, line.reply)

-- Each seat did the commands of its script in order, each from the very seat at which the one before it was done; the lines stand by seat.
abbrev pub AllLinked : Causes → List Seat → List Seat → List (List Command) → List Line → Type 0
AllLinked k os ns scripts lines = BySeat (Chain (LinkedLine k)) os ns scripts lines

-- Behind attempts that made no commit there was one of this block that was done, as of a command.
abbrev pub LinkedBlock : Causes → Seat → Seat → List Command → Place × List Reply → Type 0
LinkedBlock k s t block done =
    (1 ≤ length block) × DoneBehind (λ old new. BlockAttempted k old new block (blocks.Done done.1 done.0)) (IsSeat IsOpening IsBlockCommit) s t

-- the same, of what became of a block
abbrev pub LinkedBlockOf : Causes → Seat → Seat → List Command → DoneBlock → Type 0
LinkedBlockOf k s t block done = LinkedBlock k s t block (done.place, done.answers)

-- Each seat did the blocks of its script in order, each from the very seat at which the one before it was done; the lines are those of the
-- blocks, and stand by seat.
abbrev pub AllLinkedBlocks : Causes → List Seat → List Seat → List (List (List Command)) → List Line → Type 0
AllLinkedBlocks k [] [] [] lines = lines ≡ []
AllLinkedBlocks k (o ∷ os) (n ∷ ns) (script ∷ scripts) lines =
    (done : List DoneBlock) × (others : List Line) × (lines ≡ flat_map lines_of done ++ others) × Chain (LinkedBlockOf k) o n script done
    × AllLinkedBlocks k os ns scripts others
AllLinkedBlocks k _ _ _ lines = ⊥
