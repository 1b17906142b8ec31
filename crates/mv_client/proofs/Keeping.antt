-- Writes over a state: what each of them keeps, and what three of them leave.
use Rattle.std.proofs.Common.{◌≡◌, ◌≢◌, ℕ, ◌<◌, true, List, [], ◌∷◌, length, get_or, set, refl, sym, ap, ◌∙◌, inl, inr, arith}
use Rattle.std.proofs.Common.{length-set, get_or-set_same, get_or-set_other}
use Rattle.std.proofs.lemmas.Bool.{cases_eq}
use Rattle.std.proofs.lemmas.Bool.Decides.{nat_tests}
use Rattle.mv_history.specs.State.{State, Writes, written}
use Rattle.mv_history.specs.Legal.{are_distinct}
use Rattle.mv_history.specs.Meaning.{words_at}
use Rattle.mv_history.proofs.Writing.{words-written_same, words-written_other}
use Rattle.mv_client.specs.Keeping.{AllKeep}

module _ {X : Type 0} (f : List ℕ → X) where
  kept_set : (s : State) (a o : ℕ) (w : List ℕ) → a < length s → f w ≡ f (words_at s a) → f (words_at (set s a w) o) ≡ f (words_at s o)
  kept_set s a o w l same = elim (cases_eq o a) [
    | inl e ↦ ap (λ (k : ℕ). f (words_at (set s a w) k)) e ∙ ap f (get_or-set_same s a w [] l) ∙ same ∙ ap (λ (k : ℕ). f (words_at s k)) (sym e)
    | inr n ↦ ap f (get_or-set_other s a o w [] n)
  ]

  kept_later : (s : State) (a : ℕ) (w : List ℕ) (ws : Writes) → a < length s → f w ≡ f (words_at s a) → AllKeep f s ws → AllKeep f (set s a w) ws
  kept_later s a w [] l same all = tt
  kept_later s a w (v ∷ ws) l same all =
      (omega (arith, all.0, length-set s a w), all.1 ∙ sym (kept_set s a v.0 w l same), kept_later s a w ws l same all.2)

  -- what each write keeps of its object, each object keeps
  pub kept_written : (s : State) (ws : Writes) → AllKeep f s ws → (o : ℕ) → f (words_at (written s ws) o) ≡ f (words_at s o)
  kept_written s [] all o = refl
  kept_written s (w ∷ ws) all o =
      kept_written (set s w.0 w.1) ws (kept_later s w.0 w.1 ws all.0 all.1 all.2) o ∙ kept_set s w.0 o w.1 all.0 all.1

pub three_distinct : (p u h : ℕ) (x y z : List ℕ) → p ≢ u → p ≢ h → u ≢ h → are_distinct ((p, x) ∷ (u, y) ∷ (h, z) ∷ []) ≡ true
three_distinct p u h x y z pu ph uh = grind (arith, nat_tests)

-- what each of three different objects has that were written, and each other one
module _ (s : State) (p u h : ℕ) (x y z : List ℕ) (pu : p ≢ u) (ph : p ≢ h) (uh : u ≢ h) where
  abbrev three : Writes
  three = (p, x) ∷ (u, y) ∷ (h, z) ∷ []

  at : (i : ℕ) → i < 3 → (get_or three i (0, [])).0 < length s → words_at (written s three) (get_or three i (0, [])).0 ≡ (get_or three i (0, [])).1
  at i l b = words-written_same s three i (get_or three i (0, [])).0 (0, []) (three_distinct p u h x y z pu ph uh) l refl b

  pub written_first : p < length s → words_at (written s three) p ≡ x
  written_first l = at 0 (omega arith) l

  pub written_second : u < length s → words_at (written s three) u ≡ y
  written_second l = at 1 (omega arith) l

  pub written_third : h < length s → words_at (written s three) h ≡ z
  written_third l = at 2 (omega arith) l

  pub written_none : (o : ℕ) → o ≢ p → o ≢ u → o ≢ h → words_at (written s three) o ≡ words_at s o
  written_none o a b c = words-written_other s three o (grind (arith, nat_tests))
