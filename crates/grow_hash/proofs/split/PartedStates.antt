-- The words that a split leaves.
use Rattle.std.proofs.Common.{◌≡◌, ◌≢◌, ◌<◌, ◌≤◌, ◌∷◌, ℕ, suc, inl, inr, List, [], length, set, refl, sym, ap, ◌∙◌, subst, arith, length-set, get_or-set_same}
use Rattle.grow_hash.proofs.Terms.{get_or-set_other, State, written, words_at, words-written_other, owner, key, value, list_words, objects_of, word, IsIn}
use Rattle.grow_hash.proofs.Terms.{touches-out, head_at, grown_map, split_bucket, first_to, parted_nodes, first_grown}
use Rattle.grow_hash.proofs.GrownMaps.{grown_map-same, used_owned}
use Rattle.grow_hash.proofs.split.Paths.{AreRising}
use Rattle.grow_hash.proofs.split.PartedLists.{AreParted}

-- the nodes of the bucket are those that are written
pub parted_objects : (levels : ℕ) (s : State) (ns : List ℕ) → objects_of (parted_nodes levels s ns) ≡ ns
parted_objects levels s [] = refl
parted_objects levels s (n ∷ ns) = ap (λ os. n ∷ os) (parted_objects levels s ns)

-- a node with the least key is none of the others
pub first_apart : (s : State) (head n : ℕ) (ns : List ℕ) → AreRising s head (n ∷ ns) → (m : ℕ) → IsIn m ns → m ≢ n
first_apart s head n ns r m i e = let x : key s n < key s m = r.1 m i in let y : key s m ≡ key s n = ap (key s) e in omega arith

-- another object keeps its words
pub parted_out : (levels : ℕ) (s t : State) (ns : List ℕ) (o : ℕ) → (IsIn o ns → ⊥) → words_at (written t (parted_nodes levels s ns)) o ≡ words_at t o
parted_out levels s t ns o n = words-written_other t (parted_nodes levels s ns) o
    (touches-out (parted_nodes levels s ns) o (λ i. n (subst (IsIn o) (parted_objects levels s ns) i)))

-- and each of them gets the words that are written
pub parted_in : (levels : ℕ) (s t : State) (head : ℕ) (ns : List ℕ) → AreRising s head ns → ((n : ℕ) → IsIn n ns → n < length t)
    → AreParted levels s (written t (parted_nodes levels s ns)) ns
parted_in levels s t head [] r f = tt
parted_in levels s t head (n ∷ ns) r f =
    let w : List ℕ = list_words (head_at (split_bucket levels s n)) (key s n) (value s n) (first_to levels s (split_bucket levels s n) ns) in (
      parted_out levels s (set t n w) ns n (λ i. first_apart s head n ns r n i refl) ∙ get_or-set_same t n w [] (f n (inl refl)),
      parted_in levels s (set t n w) head ns r.2 (λ m i. (let x : m < length t = f m (inr i) in omega (arith, length-set t n w))),
    )

-- The set keeps its keys.
pub parted_map : (levels : ℕ) (s t : State) (head : ℕ) (ns : List ℕ) → AreRising s head ns → ((n : ℕ) → IsIn n ns
    → (first_grown levels ≤ n) × (words_at t n ≡ words_at s n))
    → grown_map levels (written t (parted_nodes levels s ns)) ≡ grown_map levels t
parted_map levels s t head [] r f = refl
parted_map levels s t head (n ∷ ns) r f =
    let w : List ℕ = list_words (head_at (split_bucket levels s n)) (key s n) (value s n) (first_to levels s (split_bucket levels s n) ns) in
    let e : words_at t n ≡ words_at s n = (f n (inl refl)).1 in
    let own : owner s n ≡ suc head = r.0.1 in
    parted_map levels s (set t n w) head ns r.2
    (λ m i. ((f m (inr i)).0, get_or-set_other t n m w [] (first_apart s head n ns r m i) ∙ (f m (inr i)).1))
    ∙ grown_map-same levels t n w (f n (inl refl)).0
    (used_owned w (λ z. omega arith) ∙ sym (used_owned (words_at t n) (λ z. (let q : owner s n ≡ 0 = sym (ap (word 0) e) ∙ z in omega arith))))
    (sym (ap (word 2) e)) (sym (ap (word 5) e))
