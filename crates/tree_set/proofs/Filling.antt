-- Two nodes after another are filled.
use Rattle.std.proofs.Common.{◌≡◌, ◌≢◌, ℕ, suc, ◌+◌, ◌*◌, ◌-◌, ◌<◌, ◌≤◌, ◌⊎◌, ◌||◌, inl, inr, Bool}
use Rattle.std.proofs.Common.{true, false, cond, List, [], ◌∷◌, ◌++◌, length, length-append, refl, sym, ap, ◌∙◌, subst, arith}
use Rattle.mv_history.specs.State.{State, Writes, rewritten, touches, state_after}
use Rattle.mv_history.specs.Meaning.{Seat, InSection, words_at, state_of}
use Rattle.mv_history.specs.Calls.{Enters, IsAsBefore}
use Rattle.mv_history.proofs.Writing.{length-written, length-rewritten, touches-append, words-written_other}
use Rattle.mv_history.proofs.Holding.{state_of-as_before}
use Rattle.set_model.specs.Objects.{owner, link}
use Rattle.section_work.specs.OwnWrites.{objects_of, with_locks, with_writes}
use Rattle.set_model.specs.Trees.{objects_in, EndsAt}
use Rattle.set_model.specs.Lawful.{IsLawful, IsOpening}
use Rattle.set_model.proofs.ObjectWords.{word}
use Rattle.set_model.proofs.Opening.{opening_owner, opening_lawful}
use Rattle.section_work.proofs.Objects.{IsIn, touches-out, in-touches}
use Rattle.set_model.proofs.TreeShape.{seek_in, Stands-node, Stands-owner}
use Rattle.section_work.proofs.OwnWrites.{touches-with_locks, touches-with_writes}
use Rattle.set_model.proofs.Ways.{IsAt}
use Rattle.section_work.specs.Held.{count_unheld, HasRoom}
use Rattle.section_work.specs.Locking.{Rewritten}
use Rattle.list_set.specs.Places.{put_writes}
use Rattle.list_set.proofs.Clients.{state-entered}
use Rattle.tree_set.specs.Places.{IsLeaf, IsParent}
use Rattle.tree_set.specs.Calls.{IsAdd, IsDel, Gains, Loses}
use Rattle.tree_set.specs.Calls.IsAdd.{first_leaf, beside_leaf}
use Rattle.tree_set.specs.Calls.IsDel.{last_leaf, leaf_and_parent}
use Rattle.tree_set.specs.Filling.{IsFilled}
use Rattle.tree_set.proofs.TreeWays.{parent_at_root}

-- objects that are held count for nothing
pub held_count : (own : Writes) (os : List ℕ) → ((o : ℕ) → IsIn o os → touches own o ≡ true) → count_unheld own os ≡ 0
held_count own [] f = refl
held_count own (o ∷ os) f =
    ap (λ (b : Bool). cond b 0 1 + count_unheld own os) (f o (inl refl)) ∙ omega (arith, held_count own os (λ p i. f p (inr i)))

one_count : (own : Writes) (o : ℕ) (os : List ℕ) → count_unheld own (o ∷ os) ≤ 1 + count_unheld own os
one_count own o os = go (touches own o)
  where
    go : (b : Bool) → cond b 0 1 + count_unheld own os ≤ 1 + count_unheld own os
    go true = omega arith
    go false = omega arith

none_count : (own : Writes) (o : ℕ) (os : List ℕ) → touches own o ≡ true → count_unheld own (o ∷ os) ≡ count_unheld own os
none_count own o os e = ap (λ (b : Bool). cond b 0 1 + count_unheld own os) e ∙ omega arith

-- with more that is held no more is not
fewer : (own more : Writes) (os : List ℕ) → count_unheld (own ++ more) os ≤ count_unheld own os
fewer own more [] = omega arith
fewer own more (o ∷ os) = go (touches own o) (touches (own ++ more) o) (touches-append own more o) (fewer own more os)
  where
    go : (b d : Bool) → d ≡ b || touches more o → count_unheld (own ++ more) os ≤ count_unheld own os
        → cond d 0 1 + count_unheld (own ++ more) os ≤ cond b 0 1 + count_unheld own os
    go true true e r = omega arith
    go true false e r = absurd (cc)
    go false true e r = omega arith
    go false false e r = omega arith

-- a lock takes in no more than one object that is not held
few_locks : (s : State) (own : Writes) (os : List ℕ) → length (with_locks s own os) ≤ length own + count_unheld own os
few_locks s own [] = omega arith
few_locks s own (o ∷ os) = go (touches own o) refl (few_locks s own os) (few_locks s (own ++ (o, words_at s o) ∷ []) os)
  where
    more : count_unheld (own ++ (o, words_at s o) ∷ []) os ≤ count_unheld own os
    more = fewer own ((o, words_at s o) ∷ []) os

    go : (b : Bool) → touches own o ≡ b → length (with_locks s own os) ≤ length own + count_unheld own os
        → length (with_locks s (own ++ (o, words_at s o) ∷ []) os) ≤ length (own ++ (o, words_at s o) ∷ []) + count_unheld (own ++ (o, words_at s o) ∷ []) os
        → length (with_locks s (cond b own (own ++ (o, words_at s o) ∷ [])) os) ≤ length own + (cond b 0 1 + count_unheld own os)
    go true e x y = omega arith
    go false e x y = let m = more in let len = length-append own ((o, words_at s o) ∷ []) in omega arith

same_writes : (own ws : Writes) → length (with_writes own ws) ≡ length own
same_writes own [] = refl
same_writes own (w ∷ ws) = same_writes (rewritten own w.0 w.1) ws ∙ length-rewritten own w.0 w.1

-- there is room for two objects more that are not held
filled_room : (s : InSection) (root n : ℕ) (os : List ℕ) → IsFilled s root n → n < 8 → count_unheld s.own os ≤ 2 → HasRoom s os
filled_room s root n os f lt few =
    let a = f.spare in let b = f.held in let m = f.most in record { spare = omega arith; held = omega arith }

-- A call whose objects but for `more` are held, and that writes no node from 180 + 2m on.
filled_step : (old new : InSection) (root n m : ℕ) (ws : Writes) → IsFilled old root n → n ≤ m → Rewritten old new (objects_of ws) ws
    → count_unheld old.own (objects_of ws) ≤ 2 * (m - n) → IsLawful (state_of new)
    → ((o : ℕ) → 180 + 2 * m ≤ o → owner (state_of old) o ≡ 0 → IsIn o (objects_of ws) → ⊥) → IsFilled new root m
filled_step old new root n m ws f more r few l out =
    let k = few_locks (state_of old) old.own (objects_of ws) in
    let own : length new.own ≡ length (with_locks (state_of old) old.own (objects_of ws)) =
    ap length r.holds.own ∙ same_writes (with_locks (state_of old) old.own (objects_of ws)) ws in
    record {
      lawful = l;
      objects = ap length r.state ∙ length-written (state_of old) ws ∙ f.objects;
      vacant = λ o lo.
          (let z : owner (state_of old) o ≡ 0 = f.vacant o (omega arith) in
          ap (λ (u : State). owner u o) r.state ∙ ap (word 0) (words-written_other (state_of old) ws o (touches-out ws o (out o lo z))) ∙ z);
      nodes_held = λ o lo some. held_now o (touches ws o) refl (λ e. f.nodes_held o lo (λ z. some (ap (word 0) (kept o e) ∙ z)));
      root_held = λ some. held_now root (touches ws root) refl (λ e. f.root_held (λ z. some (ap (word 3) (kept root e) ∙ z)));
      held = let a = f.held in omega arith;
      spare = let a = f.spare in let b = r.holds.spare in omega arith;
      most = let a = f.most in let b = r.holds.goes_on.continues.write_max in omega arith;
    }
  where
    kept : (o : ℕ) → touches ws o ≡ false → words_at (state_of new) o ≡ words_at (state_of old) o
    kept o e = ap (λ (u : State). words_at u o) r.state ∙ words-written_other (state_of old) ws o e

    now : (o : ℕ) → (touches old.own o ≡ true) ⊎ IsIn o (objects_of ws) → touches new.own o ≡ true
    now o h =
        ap (λ (u : Writes). touches u o) r.holds.own ∙ touches-with_writes (with_locks (state_of old) old.own (objects_of ws)) ws o
        ∙ touches-with_locks (state_of old) old.own (objects_of ws) o h

    held_now : (o : ℕ) (b : Bool) → touches ws o ≡ b → (touches ws o ≡ false → touches old.own o ≡ true) → touches new.own o ≡ true
    held_now o true e h = now o (inr (in-touches ws o e))
    held_now o false e h = now o (inl (h e))

-- a vacant node is none of a tree's
not_of : (s : State) (root p o : ℕ) → root < 180 → IsAt s root p → 180 ≤ o → owner s o ≡ 0 → o ≢ p
not_of s root p o lt (inl e) lo z q = omega arith
not_of s root p o lt (inr g) lo z q = let x : owner s o ≡ suc root = ap (owner s) q ∙ g.1 in omega arith

-- and what the tree has is held
node_held : (s : InSection) (root n o : ℕ) → IsFilled s root n → 180 ≤ o → owner (state_of s) o ≡ suc root → touches s.own o ≡ true
node_held s root n o f lo e = f.nodes_held o lo (omega arith)

parent_held : (s : InSection) (root n p o : ℕ) → IsFilled s root n → 180 ≤ o → IsParent (state_of s) root p o → touches s.own p ≡ true
parent_held s root n p o f lo (inl (e, c)) = ap (touches s.own) e ∙ f.root_held (omega arith)
parent_held s root n p o f lo (inr (i, c)) = node_held s root n p f i.0 i.1

ends_node : (s : State) (root k l : ℕ) → EndsAt s root k l → (180 ≤ l) × (owner s l ≡ suc root)
ends_node s root k l e =
    let i : IsIn l (objects_in e.0) = subst (λ (o : ℕ). IsIn o (objects_in e.0)) e.2 (seek_in k e.0) in
    (Stands-node s root e.0 e.1.stands l i, Stands-owner s root e.0 e.1.stands l i)

add_count : (s : InSection) (root n k v leaf inner : ℕ) (ws : Writes) → IsFilled s root n → IsAdd (state_of s) root k v leaf inner ws
    → count_unheld s.own (objects_of ws) ≤ 2
add_count s root n k v leaf inner ws f (first_leaf e) =
    let a = one_count s.own root (leaf ∷ []) in let b = one_count s.own leaf [] in omega arith
add_count s root n k v leaf inner ws f (beside_leaf p l place) =
    let g = ends_node (state_of s) root k l place.ends in
    let a = none_count s.own p (l ∷ leaf ∷ inner ∷ []) (parent_held s root n p l f g.0 place.above) in
    let b = none_count s.own l (leaf ∷ inner ∷ []) (node_held s root n l f g.0 g.1) in
    let c = one_count s.own leaf (inner ∷ []) in let d = one_count s.own inner [] in omega arith

add_out : (s : State) (root k v leaf inner : ℕ) (ws : Writes) → root < 180 → IsAdd s root k v leaf inner ws → (o : ℕ) → 180 ≤ o → owner s o ≡ 0 → o ≢ leaf
    → o ≢ inner → IsIn o (objects_of ws) → ⊥
add_out s root k v leaf inner ws lt (first_leaf e) o lo z nl ni (inl q) = omega arith
add_out s root k v leaf inner ws lt (first_leaf e) o lo z nl ni (inr (inl q)) = nl q
add_out s root k v leaf inner ws lt (first_leaf e) o lo z nl ni (inr (inr q)) = q
add_out s root k v leaf inner ws lt (beside_leaf p n place) o lo z nl ni (inl q) =
    not_of s root p o lt (parent_at_root s root p n place.above) lo z q
add_out s root k v leaf inner ws lt (beside_leaf p n place) o lo z nl ni (inr (inl q)) =
    not_of s root n o lt (inr (ends_node s root k n place.ends)) lo z q
add_out s root k v leaf inner ws lt (beside_leaf p n place) o lo z nl ni (inr (inr (inl q))) = nl q
add_out s root k v leaf inner ws lt (beside_leaf p n place) o lo z nl ni (inr (inr (inr (inl q)))) = ni q
add_out s root k v leaf inner ws lt (beside_leaf p n place) o lo z nl ni (inr (inr (inr (inr q)))) = q

pub add_room : (s : InSection) (n root k v leaf inner : ℕ) (ws : Writes) → IsFilled s root n → n < 8 → IsAdd (state_of s) root k v leaf inner ws
    → HasRoom s (objects_of ws)
add_room s n root k v leaf inner ws f lt a =
    filled_room s root n (objects_of ws) f lt (add_count s root n k v leaf inner ws f a)

-- an add fills two more
pub filled_more : (old new : InSection) (root k v leaf inner n m : ℕ) → root < 180 → IsFilled old root n → leaf ≡ 180 + 2 * n → inner ≡ 181 + 2 * n
    → m ≡ n + 1 → ((ws : Writes) × IsAdd (state_of old) root k v leaf inner ws × Gains old new root k v ws) → IsFilled new root m
filled_more old new root k v leaf inner n m lt f here there more (ws, a, g) =
    let c = add_count old root n k v leaf inner ws f a in
    filled_step old new root n m ws f (omega arith) g.change (omega arith) g.lawful
    (λ o lo z. add_out (state_of old) root k v leaf inner ws lt a o (omega arith) z (omega arith) (omega arith))

-- a put fills none
pub put_room : (s : InSection) (n root k leaf : ℕ) → IsFilled s root n → n < 8 → IsLeaf (state_of s) root k leaf → HasRoom s (leaf ∷ [])
put_room s n root k leaf f lt is =
    let c = none_count s.own leaf [] (node_held s root n leaf f is.0 is.1) in filled_room s root n (leaf ∷ []) f lt (omega arith)

pub filled_put : (old new : InSection) (root k v n : ℕ) → root < 180 → IsFilled old root n
    → ((leaf : ℕ) × IsLeaf (state_of old) root k leaf × Gains old new root k v (put_writes (state_of old) leaf v)) → IsFilled new root n
filled_put old new root k v n lt f (leaf, is, g) =
    let c = none_count old.own leaf [] (node_held old root n leaf f is.0 is.1) in
    filled_step old new root n n (put_writes (state_of old) leaf v) f (omega arith) g.change (omega arith) g.lawful
    (λ o lo z i. elim i [ inl q ↦ not_of (state_of old) root leaf o lt (inr (is.0, is.1)) (omega arith) z q | inr q ↦ q ])

-- and so does a del
del_held : (s : InSection) (root n k leaf inner : ℕ) (ws : Writes) → IsFilled s root n → IsDel (state_of s) root k leaf inner ws → (o : ℕ)
    → IsIn o (objects_of ws) → touches s.own o ≡ true
del_held s root n k leaf inner ws f (last_leaf l place) o (inl q) =
    ap (touches s.own) q ∙ f.root_held (let a = place.is_leaf.0 in let e = place.first in omega arith)
del_held s root n k leaf inner ws f (last_leaf l place) o (inr (inl q)) =
    ap (touches s.own) q ∙ node_held s root n l f place.is_leaf.0 place.is_leaf.1
del_held s root n k leaf inner ws f (last_leaf l place) o (inr (inr q)) = absurd q
del_held s root n k leaf inner ws f (leaf_and_parent g p l place) o (inl q) =
    ap (touches s.own) q ∙ parent_held s root n g p f place.is_inner.0 place.above
del_held s root n k leaf inner ws f (leaf_and_parent g p l place) o (inr (inl q)) =
    ap (touches s.own) q ∙ node_held s root n p f place.is_inner.0 place.is_inner.1
del_held s root n k leaf inner ws f (leaf_and_parent g p l place) o (inr (inr (inl q))) =
    ap (touches s.own) q ∙ node_held s root n l f place.is_leaf.0 place.is_leaf.1
del_held s root n k leaf inner ws f (leaf_and_parent g p l place) o (inr (inr (inr q))) = absurd q

del_out : (s : State) (root k leaf inner : ℕ) (ws : Writes) → root < 180 → IsDel s root k leaf inner ws → (o : ℕ) → 180 ≤ o → owner s o ≡ 0
    → IsIn o (objects_of ws) → ⊥
del_out s root k leaf inner ws lt (last_leaf n place) o lo z (inl q) = omega arith
del_out s root k leaf inner ws lt (last_leaf n place) o lo z (inr (inl q)) =
    not_of s root n o lt (inr (place.is_leaf.0, place.is_leaf.1)) lo z q
del_out s root k leaf inner ws lt (last_leaf n place) o lo z (inr (inr q)) = q
del_out s root k leaf inner ws lt (leaf_and_parent g p n place) o lo z (inl q) =
    not_of s root g o lt (parent_at_root s root g p place.above) lo z q
del_out s root k leaf inner ws lt (leaf_and_parent g p n place) o lo z (inr (inl q)) =
    not_of s root p o lt (inr (place.is_inner.0, place.is_inner.1)) lo z q
del_out s root k leaf inner ws lt (leaf_and_parent g p n place) o lo z (inr (inr (inl q))) =
    not_of s root n o lt (inr (place.is_leaf.0, place.is_leaf.1)) lo z q
del_out s root k leaf inner ws lt (leaf_and_parent g p n place) o lo z (inr (inr (inr q))) = q

pub del_room : (s : InSection) (n root k leaf inner : ℕ) (ws : Writes) → IsFilled s root n → n < 8 → IsDel (state_of s) root k leaf inner ws
    → HasRoom s (objects_of ws)
del_room s n root k leaf inner ws f lt d =
    let c = held_count s.own (objects_of ws) (del_held s root n k leaf inner ws f d) in
    filled_room s root n (objects_of ws) f lt (omega arith)

pub filled_less : (old new : InSection) (root k leaf inner n : ℕ) → root < 180 → IsFilled old root n
    → ((ws : Writes) × IsDel (state_of old) root k leaf inner ws × Loses old new root k ws) → IsFilled new root n
filled_less old new root k leaf inner n lt f (ws, d, g) =
    let c = held_count old.own (objects_of ws) (del_held old root n k leaf inner ws f d) in
    filled_step old new root n n ws f (omega arith) g.change (omega arith) g.lawful
    (λ o lo z. del_out (state_of old) root k leaf inner ws lt d o (omega arith) z)

-- what reads alike is filled alike
pub filled_same : (a b : InSection) (root n : ℕ) → a.at ≤ length a.seat.seen → IsAsBefore a b → IsFilled a root n → IsFilled b root n
filled_same a b root n le same f =
    let e : state_of b ≡ state_of a = state_of-as_before a b le same in
    let l : length b.own ≡ length a.own = ap length same.own in
    record {
      lawful = subst (λ (u : State). IsLawful u) (sym e) f.lawful;
      objects = ap length e ∙ f.objects;
      vacant = λ o lo. (ap (λ (u : State). owner u o) e ∙ f.vacant o lo);
      nodes_held = λ o lo some.
          (ap (λ (u : Writes). touches u o) same.own ∙ f.nodes_held o lo (λ z. some (ap (λ (u : State). owner u o) e ∙ z)));
      root_held = λ some.
          (ap (λ (u : Writes). touches u root) same.own ∙ f.root_held (λ z. some (ap (λ (u : State). link u root) e ∙ z)));
      held = let x = f.held in omega arith;
      spare = let x = same.seat.spare in let y = f.spare in omega arith;
      most = let x = same.seat.continues.write_max in let y = f.most in omega arith;
    }

-- what a view reads of a filled section
pub filled_view : (a : InSection) (s : State) (root n : ℕ) → IsFilled a root n → s ≡ state_of a → IsLawful s × (length s ≡ 200)
filled_view a s root n f e = (subst (λ (u : State). IsLawful u) (sym e) f.lawful, ap length e ∙ f.objects)

-- a section over a store whose objects are all zero
pub filled_none : (old : Seat) (new : InSection) (root : ℕ) → root < 180 → Enters old new → new.at ≡ length old.seen → old.seen ≡ [] → IsOpening old.start
    → length old.start ≡ 200 → 16 ≤ old.spare → 16 ≤ old.write_max → IsFilled new root 0
filled_none old new root lt e whole none zero size spare most =
    let here : state_of new ≡ old.start = state-entered old new e whole ∙ ap (state_after old.start) none in
    let own : length new.own ≡ 0 = ap length e.own in
    record {
      lawful = subst (λ (s : State). IsLawful s) (sym here) (opening_lawful old.start zero);
      objects = ap length here ∙ size;
      vacant = λ o lo. (ap (λ (s : State). owner s o) here ∙ opening_owner old.start zero o);
      nodes_held = λ o lo some. absurd (some (ap (λ (s : State). owner s o) here ∙ opening_owner old.start zero o));
      root_held = λ some. absurd (some (ap (λ (s : State). link s root) here ∙ ap (word 3) (zero.zeros root (let m = zero.some in omega arith))));
      held = omega arith;
      spare = let x = e.seat.spare in omega arith;
      most = let x = e.seat.continues.write_max in omega arith;
    }
