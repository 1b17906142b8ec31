-- What the commands of a block reply on a catalogue, and what the block leaves there.
use Rattle.set_model.specs.Catalogue.{Maps}
use Rattle.set_model.specs.Replies.{reply, changes, next}
use Rattle.std.specs.Prelude.{◌&&◌, ◌||◌, ◌∷◌, if◌then◌else◌}
use Rattle.set_blocks.specs.Terms.{ℕ, Bool, true, false, not, List, [], length, replicate, list_any, Command, Reply, Full, Worn}

-- the replies of commands one after another, as if not at the last time
abbrev pub turn_replies : List Command → Maps → ℕ → List Reply
turn_replies [] c capacity = []
turn_replies (command ∷ commands) c capacity = reply command c capacity false ∷ turn_replies commands (next command c capacity false) capacity

-- the catalogue after all of them
abbrev pub after_turns : List Command → Maps → ℕ → Maps
after_turns [] c capacity = c
after_turns (command ∷ commands) c capacity = after_turns commands (next command c capacity false) capacity

-- whether one of them changes something at its turn, even if a later one undoes it
abbrev pub some_changes : List Command → Maps → ℕ → Bool
some_changes [] c capacity = false
some_changes (command ∷ commands) c capacity = changes command c capacity false || some_changes commands (next command c capacity false) capacity

-- whether a reply is full
abbrev pub is_full : Reply → Bool
is_full Full = true
is_full answer = false

-- whether one of them replies full at its turn
abbrev pub some_full : List Command → Maps → ℕ → Bool
some_full commands c capacity = list_any is_full (turn_replies commands c capacity)

-- whether the block would change something, if it weren't the last time: one that is full in part would change nothing
abbrev pub would_change : List Command → Maps → ℕ → Bool
would_change commands c capacity = not (some_full commands c capacity) && some_changes commands c capacity

-- The replies of a block on a catalogue, with this capacity, at the last time or not: all full where one would be; at the last time
-- all worn where it would change something; else those of its commands.
abbrev pub block_replies : List Command → Maps → ℕ → Bool → List Reply
block_replies commands c capacity last =
    if some_full commands c capacity then replicate (length commands) Full
    else (if would_change commands c capacity && last then replicate (length commands) Worn else turn_replies commands c capacity)

-- whether the block changes something
abbrev pub block_changes : List Command → Maps → ℕ → Bool → Bool
block_changes commands c capacity last = would_change commands c capacity && not last

-- The catalogue after the block: that after all of its commands, or as it was.
abbrev pub block_next : List Command → Maps → ℕ → Bool → Maps
block_next commands c capacity last = if block_changes commands c capacity last then after_turns commands c capacity else c
