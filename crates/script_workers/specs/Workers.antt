-- The stores of a run and its scripts, of commands or of blocks.
use Rattle.std.specs.Prelude.{◌≡◌, ℕ, suc, List, [], ◌∷◌, length, sum_by, Vec, ⊤}
use Rattle.script_workers.specs.Terms.{Global, Seat, Command}

-- the seats have the numbers from this one on, in order
abbrev pub AreNumbered : ℕ → List Seat → Type 0
AreNumbered number [] = ⊤
AreNumbered number (s ∷ seats) = (s.number ≡ number) × AreNumbered (suc number) seats

-- how many objects a block locks or holds at most: five for each of its commands, of which there are at most eight
abbrev pub most_in_blocks : ℕ
most_in_blocks = 40

-- the commands of a script
abbrev pub items_of : Vec Command Global → List Command
items_of v = v.items

-- how many commands a script has
abbrev pub command_count : Vec Command Global → ℕ
command_count v = length v.items

-- the blocks of a script
abbrev pub blocks_of : Vec (List Command) Global → List (List Command)
blocks_of v = v.items

-- how many commands the blocks of a script have
abbrev pub count_of : Vec (List Command) Global → ℕ
count_of v = sum_by length v.items
