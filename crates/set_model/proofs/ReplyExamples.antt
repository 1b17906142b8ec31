-- The replies of short scripts, from empty sets, as the definitions compute them. Name 0 is `l0`, 10 `h0` and 20 `t0`.
use Rattle.std.proofs.Common.{◌≡◌, ℕ, true, false, List, [], ◌∷◌, refl}
use Rattle.set_model.specs.Catalogue.{Maps, empty, cost}
use Rattle.set_model.specs.Replies.{reply, next}
use Rattle.set_model.specs.declared.commands.Command.{Command}
use Rattle.set_model.specs.declared.commands.Command.TheVariants.{Add, Put, Del, Has, Get, Move, Pair, Size, Next}
use Rattle.set_model.specs.declared.commands.Reply.{Reply}
use Rattle.set_model.specs.declared.commands.Reply.TheVariants.{Yes, No, Full, Worn, Both, Count, Key, NoKey, Value}

-- the replies of commands, one after another, at places before the last time
abbrev replies : Maps → ℕ → List Command → List Reply
replies c capacity [] = []
replies c capacity (command ∷ commands) = reply command c capacity false ∷ replies (next command c capacity false) capacity commands

-- a tree of two keys takes three nodes
room_for_two : replies empty 2 (Add 0 1 ∷ Add 0 2 ∷ Add 0 3 ∷ Del 0 1 ∷ Add 20 8 ∷ Add 20 9 ∷ []) ≡ Yes ∷ Yes ∷ Full ∷ Yes ∷ Yes ∷ Full ∷ []
unfolding cost
room_for_two = refl

-- a put of a key that is there takes none, however full the sets are
put_where_full : replies empty 1 (Put 0 1 7 ∷ Put 0 1 8 ∷ Put 0 2 8 ∷ Put 0 1 8 ∷ Get 0 1 ∷ []) ≡ Yes ∷ Yes ∷ Full ∷ No ∷ Value 8 ∷ []
unfolding cost
put_where_full = refl

-- a move takes the value along, and is full where the target takes more nodes than the source gives back
move_with_value : replies empty 3 (Put 0 5 7 ∷ Add 20 6 ∷ Move 0 20 5 ∷ Get 20 5 ∷ Get 0 5 ∷ Add 10 1 ∷ Move 20 0 6 ∷ []) ≡ Yes ∷ Yes ∷ Yes ∷ Value 7 ∷ NoKey
    ∷ Full ∷ Yes ∷ []
unfolding cost
move_with_value = refl

move_where_full : replies empty 2 (Add 0 5 ∷ Add 20 6 ∷ Move 0 20 5 ∷ Move 0 1 5 ∷ Move 1 0 6 ∷ []) ≡ Yes ∷ Yes ∷ Full ∷ Yes ∷ No ∷ []
unfolding cost
move_where_full = refl

-- questions
questions : replies empty 9 (Add 10 17 ∷ Add 10 2 ∷ Next 10 3 ∷ Next 10 18 ∷ Size 10 ∷ Pair 10 0 2 ∷ Has 0 2 ∷ Add 0 2 ∷ Move 10 0 2 ∷ []) ≡ Yes ∷ Yes
    ∷ Key 17 ∷ NoKey ∷ Count 2 ∷ Both true false ∷ No ∷ Yes ∷ No ∷ []
unfolding cost
questions = refl

-- at the last time a change is worn, and `no` and `full` stay
at_the_last_time : (reply (Add 0 1) empty 1 true ≡ Worn) × (reply (Add 0 1) empty 0 true ≡ Full) × (reply (Del 0 1) empty 1 true ≡ No)
    × (next (Add 0 1) empty 1 true ≡ empty)
unfolding cost
at_the_last_time = (refl, refl, refl, refl)
