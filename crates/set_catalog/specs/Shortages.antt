-- What is known of how few nodes are vacant at a time of a store.
use Rattle.std.specs.Prelude.{ℕ, ◌-◌, ◌<◌, ◌≤◌, ◌==◌, ◌&&◌, nat_lt, not, Bool, true, false, length, if◌then◌else◌}
use Rattle.mv_history.specs.Meaning.{Seat, state_of_time}
use Rattle.set_model.specs.declared.commands.Command.{Command}
use Rattle.set_model.specs.declared.commands.Command.TheVariants.{Del, Move}
use Rattle.set_catalog.specs.declared.shortage.Shortage.{Shortage}
use Rattle.set_catalog.specs.declared.shortage.TheConstants.{NO_BOUND}
use Rattle.set_catalog.specs.Hinted.{Hinted}
use Rattle.set_catalog.specs.Needs.{first_tree}
use Rattle.set_catalog.specs.Picks.{vacant_nodes}

-- the seat has seen this time, and in its state fewer than so many nodes are vacant
pub record IsKnown (s : Seat) (k : Shortage) : Type 0 where
  pub seen : k.time - s.base ≤ length s.seen
  pub few : vacant_nodes (state_of_time s k.time) < k.few

-- a number of which fewer nodes are vacant at this time, which is above all numbers of nodes where none is known
abbrev pub few_at : Shortage → ℕ → ℕ
few_at k time = if k.time == time then k.few else NO_BOUND

-- whether the command may leave more nodes vacant than before: a del does, and a move out of a tree may
abbrev pub may_free : Command → Bool
may_free (Del name key) = true
may_free (Move source target key) = not (nat_lt source first_tree)
may_free command = false

-- what is known after a commit of the command at this time: the same of the new time, where it follows the known one and frees nothing
abbrev pub followed : Shortage → Command → ℕ → Shortage
followed k command time =
    if (k.time == time - 1) && not (may_free command) then record { time = time; few = k.few } else k

-- a store, and the hints of its seat
pub record StoreWithHints (S : Type 0) : Type 0 where
  pub store : S
  pub hints : Hinted
