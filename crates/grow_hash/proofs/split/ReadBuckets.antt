-- What is read along the list of a bucket.
use Rattle.std.proofs.Common.{◌≡◌, ◌≢◌, ◌+◌, ◌<◌, ◌≤◌, ◌∷◌, ◌++◌, ℕ, zero, suc, inl, inr, List, [], length, get_or, take, drop, set, length-drop, refl, sym, ap}
use Rattle.grow_hash.proofs.Terms.{subst, arith, take_more_set, State, Writes, words_at, objects_of, word, IsIn, tally-bound, IsCount, IsRead, IsPath}
use Rattle.set_model.specs.Objects.{most_objects}

pub read_first : (s : State) (o : ℕ) (w : List ℕ) → w ≡ words_at s o → IsRead s o [] (word 3 w)
read_first s o w e = sym (ap (word 3) e)

-- one node more
pub read_more : (s : State) (o : ℕ) (ws : Writes) (n : ℕ) (w : List ℕ) → IsRead s o ws n → n ≢ 0 → w ≡ words_at s n
    → IsRead s o (ws ++ (n, w) ∷ []) (word 3 w)
read_more s o [] n w r nz e = (r, nz, e, sym (ap (word 3) e))
read_more s o (v ∷ ws) n w r nz e = (r.0, r.1, r.2, read_more s v.0 ws n w r.3 nz e)

pub read_next : (s : State) (o : ℕ) (ws : Writes) (k n : ℕ) (w : List ℕ) → k < length ws → IsRead s o (take k ws) n → n ≢ 0 → w ≡ words_at s n
    → IsRead s o (take (k + 1) (set ws k (n, w))) (word 3 w)
read_next s o ws k n w lt r nz e =
    subst (λ (u : Writes). IsRead s o u (word 3 w)) (sym (take_more_set ws k (n, w) lt)) (read_more s o (take k ws) n w r nz e)

-- The objects that were read are the path,
pub read_path : (s : State) (o : ℕ) (ws : Writes) → IsRead s o ws 0 → IsPath s o (objects_of ws)
read_path s o [] r = r
read_path s o (w ∷ ws) r = (r.0, r.1, read_path s w.0 ws r.3)

-- and have these words.
pub read_words : (s : State) (o : ℕ) (ws : Writes) (to i : ℕ) (d : ℕ × List ℕ) → IsRead s o ws to → i < length ws
    → IsIn (get_or ws i d).0 (objects_of ws) × ((get_or ws i d).1 ≡ words_at s (get_or ws i d).0)
read_words s o [] to i d r lt = absurd (omega arith)
read_words s o (w ∷ ws) to zero d r lt = (inl refl, r.2)
read_words s o (w ∷ ws) to (suc i) d r lt = let m = read_words s w.0 ws to i d r.3 (omega arith) in (inr m.0, m.1)

-- a count along a list is of at most as many objects as there are
pub count_small : (s : State) (head node n : ℕ) → IsCount s head node n → length s ≤ most_objects → n ≤ most_objects
count_small s head node n c few =
    let most : n ≤ length (drop 180 s) = subst (λ u. u ≤ length (drop 180 s)) (sym c.count) (tally-bound _ (drop 180 s)) in
    omega (arith, length-drop 180 s)
