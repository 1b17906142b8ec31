-- The replies of short blocks, from empty sets or from some, as the definitions compute them. Name 0 is `l0`, 10 `h0` and 20 `t0`.
use Rattle.set_model.specs.Catalogue.{cost}
use Rattle.std.proofs.Common.{◌≡◌, ◌∷◌, true, false, [], refl}
use Rattle.set_blocks.proofs.Terms.{empty, with_key, Add, Del, Has, Move, Pair, Yes, No, Full, Worn, Both, block_replies, block_changes, block_next}

-- each command sees what those before it changed
one_after_another : (block_replies (Add 0 5 ∷ Move 0 20 5 ∷ Pair 0 20 5 ∷ []) empty 3916 false ≡ Yes ∷ Yes ∷ Both false true ∷ [])
    × (block_next (Add 0 5 ∷ Move 0 20 5 ∷ Pair 0 20 5 ∷ []) empty 3916 false ≡ with_key 20 5 0 empty)
unfolding cost
one_after_another = (refl, refl)

-- where one is full all are, and nothing changes
full_in_part : (block_replies (Add 0 1 ∷ Has 0 1 ∷ Add 0 2 ∷ []) empty 1 false ≡ Full ∷ Full ∷ Full ∷ [])
    × (block_next (Add 0 1 ∷ Has 0 1 ∷ Add 0 2 ∷ []) empty 1 false ≡ empty)
unfolding cost
full_in_part = (refl, refl)

-- a node that one command gives back may be another's
room_given_back : block_replies (Del 0 1 ∷ Add 0 2 ∷ []) (with_key 0 1 0 empty) 1 false ≡ Yes ∷ Yes ∷ []
unfolding cost
room_given_back = refl

-- a block that changes something at a turn changes something, even if nothing of it stays; at the last time it is worn as a whole
undone : (block_changes (Add 0 1 ∷ Del 0 1 ∷ []) empty 1 false ≡ true) × (block_next (Add 0 1 ∷ Del 0 1 ∷ []) empty 1 false ≡ empty)
    × (block_replies (Has 0 2 ∷ Add 0 1 ∷ Del 0 1 ∷ []) empty 1 true ≡ Worn ∷ Worn ∷ Worn ∷ [])
unfolding cost
undone = (refl, refl, refl)

-- at the last time `full` stays, and so does a block that changes nothing
at_the_last_time : (block_replies (Add 0 1 ∷ Has 0 1 ∷ []) empty 0 true ≡ Full ∷ Full ∷ [])
    × (block_replies (Del 0 1 ∷ Has 0 1 ∷ []) empty 1 true ≡ No ∷ No ∷ [])
unfolding cost
at_the_last_time = (refl, refl)
