-- What a command replies on a catalogue, and what it leaves there.
use Rattle.std.specs.Prelude.{ℕ, nat_lt, Bool, false, not, ◌&&◌, Option, None, Some, length, if◌then◌else◌}
use Rattle.std.specs.Option.{unwrap_or}
use Rattle.set_model.specs.Catalogue.{Maps, map_of, has_key, has_entry, value_of, next_key, with_key, without_key, cost}
use Rattle.set_model.specs.declared.commands.Command.{Command}
use Rattle.set_model.specs.declared.commands.Command.TheVariants.{Add, Put, Del, Has, Get, Move, Pair, Size, Next}
use Rattle.set_model.specs.declared.commands.Reply.{Reply}
use Rattle.set_model.specs.declared.commands.Reply.TheVariants.{Yes, No, Full, Worn, Both, Count, Key, NoKey, Value}

-- the value that the key has in the map of a name, or 0 where it is not there
abbrev pub value_at : ℕ → ℕ → Maps → ℕ
value_at name key c = unwrap_or (value_of key (map_of name c)) 0

-- The catalogue once the command's change is made. A move takes the key's value along.
abbrev pub changed : Command → Maps → Maps
changed (Add name key) c = with_key name key 0 c
changed (Put name key value) c = with_key name key value c
changed (Del name key) c = without_key name key c
changed (Move source target key) c = with_key target key (value_at source key c) (without_key source key c)
changed command c = c

-- whether there is something for the command to change
abbrev pub applies : Command → Maps → Bool
applies (Add name key) c = not (has_key key (map_of name c))
applies (Put name key value) c = not (has_entry key value (map_of name c))
applies (Del name key) c = has_key key (map_of name c)
applies (Move source target key) c = has_key key (map_of source c) && not (has_key key (map_of target c))
applies command c = false

-- whether the change would take more nodes than there are; a put of a key that is there takes none
abbrev pub overflows : Command → Maps → ℕ → Bool
overflows (Add name key) c capacity = nat_lt capacity (cost (changed (Add name key) c))
overflows (Put name key value) c capacity = not (has_key key (map_of name c)) && nat_lt capacity (cost (changed (Put name key value) c))
overflows (Move source target key) c capacity = nat_lt capacity (cost (changed (Move source target key) c))
overflows command c capacity = false

-- the reply of a command that would change something
abbrev pub change_reply : Command → Maps → ℕ → Bool → Reply
change_reply command c capacity last =
    if applies command c then (if overflows command c capacity then Full else (if last then Worn else Yes)) else No

-- the reply that names a value
abbrev pub value_reply : Option ℕ → Reply
value_reply None = NoKey
value_reply (Some value) = Value value

-- the reply that names a key
abbrev pub key_reply : Option ℕ → Reply
key_reply None = NoKey
key_reply (Some key) = Key key

-- The reply of a command on a catalogue, with this capacity, at the last time or not.
abbrev pub reply : Command → Maps → ℕ → Bool → Reply
reply (Has name key) c capacity last = if has_key key (map_of name c) then Yes else No
reply (Get name key) c capacity last = value_reply (value_of key (map_of name c))
reply (Pair first second key) c capacity last = Both (has_key key (map_of first c)) (has_key key (map_of second c))
reply (Size name) c capacity last = Count (length (map_of name c))
reply (Next name key) c capacity last = key_reply (next_key key (map_of name c))
reply command c capacity last = change_reply command c capacity last

-- whether the command changes the catalogue
abbrev pub changes : Command → Maps → ℕ → Bool → Bool
changes command c capacity last = applies command c && not (overflows command c capacity) && not last

-- The catalogue after the command.
abbrev pub next : Command → Maps → ℕ → Bool → Maps
next command c capacity last = if changes command c capacity last then changed command c else c
