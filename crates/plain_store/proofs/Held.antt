-- Lemmas on the writes of what is held.
use Rattle.std.proofs.Common.{
  ◌≡◌,
  ℕ,
  zero,
  suc,
  ◌+◌,
  ◌<◌,
  true,
  false,
  ◌||◌,
  List,
  [],
  ◌∷◌,
  ◌++◌,
  length,
  get_or,
  take,
  set,
  refl,
  ap,
  ◌∙◌,
  ⊎_elim,
  arith,
  length-take,
}
use Rattle.std.proofs.lemmas.Bool.{or_cases}
use Rattle.std.proofs.lemmas.Bool.Decides.{nat_tests}
use Rattle.std.proofs.lemmas.List.{take_more}
use Rattle.mv_history.specs.State.{State, Writes, written, touches, rewritten}
use Rattle.mv_history.specs.Legal.{AreWithin}
use Rattle.mv_history.proofs.Writing.{touches-append, written-append, set-rewritten}

pub written_more : (s : State) (ws : Writes) (i : ℕ) (d : ℕ × List ℕ) → i < length ws
    → written s (take (i + 1) ws) ≡ set (written s (take i ws)) (get_or ws i d).0 (get_or ws i d).1
written_more s ws i d l = rw (take_more ws i d l) (written-append s (take i ws) (get_or ws i d ∷ []))

pub AreWithin-push : (ws : Writes) (o : ℕ) (words : List ℕ) (n : ℕ) → AreWithin ws n → o < n → AreWithin (ws ++ (o, words) ∷ []) n
AreWithin-push ws o words n h l p t =
    let e : touches ws p || touches ((o, words) ∷ []) p ≡ true = rw touches-append at t in
    ⊎_elim (λ a. h p a) (λ b. grind (arith, nat_tests)) (or_cases (touches ws p) (touches ((o, words) ∷ []) p) e)

pub take_set_in : {X : Type 0} (xs : List X) (n i : ℕ) (y : X) → i < n → take n (set xs i y) ≡ set (take n xs) i y
take_set_in [] zero i y l = refl
take_set_in [] (suc n) i y l = refl
take_set_in (x ∷ xs) zero i y l = absurd (omega arith)
take_set_in (x ∷ xs) (suc n) zero y l = refl
take_set_in (x ∷ xs) (suc n) (suc i) y l = ap (λ zs. x ∷ zs) (take_set_in xs n i y (omega arith))

-- a write to the place of a held object
pub own_rewritten : (own : Writes) (held i o : ℕ) (words : List ℕ) → i < length (take held own) → (get_or (take held own) i (0, [])).0 ≡ o
    → touches (take i (take held own)) o ≡ false → take held (set own i (o, words)) ≡ rewritten (take held own) o words
own_rewritten own held i o words l e f =
    take_set_in own held i (o, words) (omega (arith, length-take held own)) ∙ set-rewritten (take held own) i o words (0, []) l e f
