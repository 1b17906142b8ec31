-- The turns of a worker, which has a part of the queue's pass, and what one of them is.
use Rattle.std.specs.Prelude.{◌≡◌, ℕ, ◌<◌, List, [], ◌∷◌, ◌++◌, length, Option, Some}
use Rattle.crossbeam_queue.specs.Passes.{view, IsPassOf, IsSamePass}
use Rattle.crossbeam_queue.specs.declared.array_queue.Doing.{Doing}
use Rattle.crossbeam_queue.specs.declared.array_queue.Slotted.{Slotted}
use Rattle.script_workers.specs.Terms.{Command, command_at}
use Rattle.command_pool.specs.declared.queue.Hand.{Hand}
use Rattle.command_pool.specs.declared.turns.PoolSource.{PoolSource}
use Rattle.command_pool.specs.Queue.{hand, last_of}

-- a queue of numbers of which passes have hands
abbrev pub QueueOf : Type 0 → Type 0 → Type 0
QueueOf Q A = Slotted (Option ℕ) (Doing ℕ Hand) Q A

-- the numbers that a worker took
abbrev pub taken_of : PoolSource → List ℕ
taken_of turns = (view turns.pass).taken

-- The worker has one part of the queue's pass, and puts nothing in.
pub record IsLent {Q A : Type 0} (queue : QueueOf Q A) (turns : PoolSource) : Type 0 where
  pub pass : IsPassOf queue turns.pass
  pub view_is : view turns.pass ≡ hand 1 0 (taken_of turns)

-- it has one of its own queue
abbrev pub MayTake : PoolSource → Type 0
MayTake turns = IsLent turns.queue.now turns

-- The worker has taken nothing of the queue yet, over these commands.
pub record IsBegun {Q A : Type 0} (queue : QueueOf Q A) (commands : List Command) (turns : PoolSource) : Type 0 where
  pub may : MayTake turns
  pub pass : IsPassOf queue turns.pass
  pub none_taken : taken_of turns ≡ []
  pub commands_are : turns.commands.now ≡ commands

-- The worker's pass took this number.
pub record TookNumber (old : PoolSource) (number : ℕ) (new : PoolSource) : Type 0 where
  pub pass : IsSamePass old.pass new.pass
  pub view_is : view new.pass ≡ hand 1 0 (taken_of old ++ number ∷ [])
  pub commands : new.commands.now ≡ old.commands.now

-- It took the number of this command, above all that it had taken.
pub record GaveTurn (old : PoolSource) (number : ℕ) (command : Command) (new : PoolSource) : Type 0 where
  pub took : TookNumber old number new
  pub later : last_of (taken_of old) < number
  pub there : command_at old.commands.now number ≡ Some command

-- It took a number that no command has.
pub record HasEnded (old new : PoolSource) : Type 0 where
  pub mark : ℕ
  pub took : TookNumber old mark new
  pub beyond : length old.commands.now < mark
