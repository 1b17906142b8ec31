-- What a pool leaves: each command was taken once, and what a seat took is a run of those commands on it.
use Rattle.std.specs.Prelude.{◌≡◌, ℕ, suc, ◌<◌, ◌≤◌, ◌==◌, List, [], ◌∷◌, ◌++◌, length, count_by, All, Some, ⊤}
use Rattle.script_workers.specs.Links.{LinkedLine}
use Rattle.script_workers.specs.Terms.{Seat, Command, Causes, Line, command_at, Ran, Chain}

-- The numbers rise from above this one, and this script has the commands of these numbers, in their order.
abbrev pub AreTaken : List Command → ℕ → List Line → List Command → Type 0
AreTaken commands before [] [] = ⊤
AreTaken commands before (line ∷ taken) (command ∷ script) =
    (before < line.number) × (command_at commands line.number ≡ Some command) × AreTaken commands line.number taken script
AreTaken commands before _ _ = ⊥

-- these lines, as those of a script whose commands are numbered from this number on
abbrev pub lines_from : ℕ → List Line → List Line
lines_from number [] = []
lines_from number (line ∷ taken) =
    record { seat = line.seat; number = number; place = line.place; reply = line.reply } ∷ lines_from (suc number) taken

-- A seat took these: their numbers rise, and they are a run of the commands of these numbers. So each is by this seat, its place
-- stands in what the seat has seen, the places never fall, and the seat's commits grew by exactly those of these.
pub record Took (commands : List Command) (old new : Seat) (taken : List Line) : Type 0 where
  pub script : List Command
  pub rising : AreTaken commands 0 taken script
  pub ran : Ran old new script (lines_from 1 taken)

-- A seat took these one after another: the command of each began at the very seat at which the one before it was done, and its place is of
-- its own attempt.
pub record TookLinked (k : Causes) (commands : List Command) (old new : Seat) (taken : List Line) : Type 0 where
  pub script : List Command
  pub rising : AreTaken commands 0 taken script
  pub by : All (λ line. line.seat ≡ old.number) taken
  pub chain : Chain (LinkedLine k) old new script taken

-- the lines stand by seat, in the order of the seats, and this holds of each seat and its own
abbrev pub EachSeat : (Seat → Seat → List Line → Type 0) → List Seat → List Seat → List Line → Type 0
EachSeat took [] [] lines = lines ≡ []
EachSeat took (o ∷ os) (n ∷ ns) lines = (taken others : List Line) × (lines ≡ taken ++ others) × took o n taken × EachSeat took os ns others
EachSeat took _ _ lines = ⊥

-- how many of these have the number
abbrev pub times_of : ℕ → List Line → ℕ
times_of number lines = count_by (λ (line : Line). line.number == number) lines

-- The pool did each command once.
pub record PoolRan (olds news : List Seat) (commands : List Command) (lines : List Line) : Type 0 where
  -- each number of a command stands in exactly one of the lines, and each of those has the number of a command
  pub once : (number : ℕ) → 1 ≤ number → number ≤ length commands → times_of number lines ≡ 1
  pub count : length lines ≡ length commands
  -- each seat took some, one after another
  pub each : EachSeat (Took commands) olds news lines

-- and each seat did what it took in a chain
abbrev pub PoolLinked : Causes → List Seat → List Seat → List Command → List Line → Type 0
PoolLinked k olds news commands lines = EachSeat (TookLinked k commands) olds news lines
