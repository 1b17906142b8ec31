-- Replies of a growing hash set in a state.
use Rattle.grow_hash.specs.Terms.{Bool, State, reply, changes, Command, Reply, ℕ}
use Rattle.grow_hash.specs.Grown.{grown_catalogue, grown_capacity}

-- the command's reply in a state, at the last time or not
abbrev pub reply_grown : ℕ → Command → State → Bool → Reply
reply_grown levels command s last = reply command (grown_catalogue levels s) (grown_capacity levels s) last

-- whether it changes something there
abbrev pub changes_grown : ℕ → Command → State → Bool → Bool
changes_grown levels command s last = changes command (grown_catalogue levels s) (grown_capacity levels s) last
