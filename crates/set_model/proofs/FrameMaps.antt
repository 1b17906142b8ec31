-- A change within one head leaves the maps of all names but its own.
use Rattle.std.proofs.Common.{◌≡◌, ◌≢◌, ℕ, suc, ◌+◌, ◌-◌, ◌<◌, ◌≤◌, ◌⊎◌, inl, inr, Bool, false, cond, List, []}
use Rattle.std.proofs.Common.{◌∷◌, length, drop, refl, sym, ap, ◌∙◌, arith, get_or-drop, length-drop}
use Rattle.std.proofs.lemmas.Bool.{false_from_ne_true}
use Rattle.mv_history.specs.State.{State}
use Rattle.mv_history.specs.Meaning.{words_at}
use Rattle.set_model.specs.Catalogue.{put}
use Rattle.set_model.specs.CatalogueOf.{name_of, is_key_of, map_among, map_in}
use Rattle.set_model.specs.Objects.{owner}
use Rattle.set_model.proofs.ObjectWords.{word}
use Rattle.set_model.proofs.Frames.{IsOf, IsWithin}
use Rattle.set_model.proofs.Mapped.{is_key-from, is_key-vacant}

-- objects that are picked neither before nor after may change
pub map_among-objects : (test : List ℕ → Bool) (s s' : State) → length s' ≡ length s
    → ((i : ℕ) → (words_at s' i ≡ words_at s i) ⊎ ((test (words_at s i) ≡ false) × (test (words_at s' i) ≡ false))) → map_among test s' ≡ map_among test s
unfolding map_among
map_among-objects test [] [] len f = refl
map_among-objects test [] (y ∷ ys) len f = absurd (omega arith)
map_among-objects test (x ∷ xs) [] len f = absurd (omega arith)
map_among-objects test (x ∷ xs) (y ∷ ys) len f = go (f 0) (map_among-objects test xs ys (omega arith) (λ i. f (suc i)))
  where
    go : (y ≡ x) ⊎ ((test x ≡ false) × (test y ≡ false)) → map_among test ys ≡ map_among test xs
        → cond (test y) (put (word 2 y) (word 5 y) (map_among test ys)) (map_among test ys) ≡ cond (test x) (put (word 2 x) (word 5 x) (map_among test xs))
        (map_among test xs)
    go (inl e) r =
        ap (λ w. cond (test w) (put (word 2 w) (word 5 w) (map_among test ys)) (map_among test ys)) e
        ∙ ap (λ m. cond (test x) (put (word 2 x) (word 5 x) m) m) r
    go (inr (p, q)) r =
        ap (λ b. cond b (put (word 2 y) (word 5 y) (map_among test ys)) (map_among test ys)) q ∙ r
        ∙ sym (ap (λ b. cond b (put (word 2 x) (word 5 x) (map_among test xs)) (map_among test xs)) p)

not_named : (s : State) (head name o : ℕ) → name ≢ name_of head → IsOf s head o → is_key_of name (words_at s o) ≡ false
not_named s head name o n (inl e) = is_key-vacant name (words_at s o) e
not_named s head name o n (inr e) = false_from_ne_true (is_key_of name (words_at s o)) (λ t.
    (let f = (is_key-from name (words_at s o) t).2 in
    let q : owner s o - 1 ≡ head = omega arith in n (sym f ∙ ap name_of q)))

pub map_in-within : (s s' : State) (head name : ℕ) → head < 180 → length s' ≡ length s → IsWithin s s' head → name ≢ name_of head
    → map_in s' name ≡ map_in s name
map_in-within s s' head name lh len w n =
    map_among-objects (is_key_of name) (drop 180 s) (drop 180 s') (omega (arith, length-drop 180 s, length-drop 180 s')) (λ i. at i (w (180 + i)))
  where
    at : (i : ℕ) → (words_at s' (180 + i) ≡ words_at s (180 + i)) ⊎ ((180 + i ≡ head) ⊎ ((180 ≤ 180 + i) × IsOf s head (180 + i) × IsOf s' head (180 + i)))
        → (words_at (drop 180 s') i ≡ words_at (drop 180 s) i)
        ⊎ ((is_key_of name (words_at (drop 180 s) i) ≡ false) × (is_key_of name (words_at (drop 180 s') i) ≡ false))
    at i (inl e) = inl (get_or-drop 180 s' i [] ∙ e ∙ sym (get_or-drop 180 s i []))
    at i (inr (inl e)) = absurd (omega arith)
    at i (inr (inr e)) =
        inr (
          ap (is_key_of name) (get_or-drop 180 s i []) ∙ not_named s head name (180 + i) n e.1,
          ap (is_key_of name) (get_or-drop 180 s' i [])
              ∙ not_named s' head name (180 + i) n e.2,
        )
