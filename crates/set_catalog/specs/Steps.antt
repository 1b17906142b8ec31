-- How many objects a command locks.
use Rattle.std.specs.Prelude.{ℕ, zero, suc, ◌+◌, ◌-◌, nat_lt, if◌then◌else◌}
use Rattle.set_model.specs.declared.commands.Command.{Command}
use Rattle.set_model.specs.declared.commands.Command.TheVariants.{Add, Put}
use Rattle.set_catalog.specs.Needs.{first_tree}

-- a command that makes no steps in a tree locks no more objects than a move
abbrev pub most_locks : ℕ
most_locks = 5

-- how many objects an add to a tree may lock beside its own four, where a section may hold so many: its steps take none beyond 16 in all
abbrev pub most_beside : ℕ → ℕ
most_beside write_max = (if nat_lt write_max 16 then write_max else 16) - 4

-- how many objects a command locks at most, where an add to a tree may lock so many beside its own four
abbrev pub most_locks_of : ℕ → Command → ℕ
most_locks_of zero command = most_locks
most_locks_of (suc n) (Add name key) = if nat_lt name first_tree then most_locks else suc n + 4
most_locks_of (suc n) (Put name key value) = if nat_lt name first_tree then most_locks else suc n + 4
most_locks_of (suc n) command = most_locks
