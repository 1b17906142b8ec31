-- One object put in a section.
use Rattle.std.proofs.Common.{◌≡◌, ℕ, List, [], ◌∷◌, ◌++◌, false, Bool, cond, refl, ap, ◌∙◌, Result, Ok, Err, OnOk, eq-eqb, arith}
use Rattle.std.specs.Result.{IfErr}
use Rattle.std.proofs.lemmas.Bool.Decides.{nat_tests}
use Rattle.mv_history.specs.State.{Writes, touches, rewritten}
use Rattle.mv_history.specs.Meaning.{InSection, state_of, words_at, Lacks}
use Rattle.mv_history.specs.Calls.{GoesOn}
use Rattle.mv_history.proofs.Steps.{GoesOn-GoesOn}
use Rattle.section_work.specs.OwnWrites.{with_writes}
use Rattle.section_work.specs.Locking.{Rewritten, Refuses}
use Rattle.section_work.specs.declared.causes.Refusal.{Refusal}

rewritten-last : (own : Writes) (o : ℕ) (words w : List ℕ) → touches own o ≡ false → rewritten (own ++ (o, words) ∷ []) o w ≡ own ++ (o, w) ∷ []
rewritten-last [] o words w out = ap (λ (b : Bool). cond b ((o, w) ∷ []) ((o, words) ∷ [])) (eq-eqb o o refl)
rewritten-last (x ∷ own) o words w out = grind (arith, nat_tests, rewritten-last own o words w)

module _ (a b : InSection) (o : ℕ) (words : List ℕ) where
  -- whether the object was put there or not, the section goes on
  pub put_goes_on : (may : Type 0) (found : InSection → InSection → ℕ → ℕ → Type 0) (r : Result (Unit {0}) Refusal)
      → OnOk r (Rewritten a b (o ∷ []) ((o, words) ∷ [])) → IfErr r (λ e. Refuses may found a b (o ∷ []) e) → GoesOn a b
  put_goes_on may found (Ok u) put refused = put.holds.goes_on
  put_goes_on may found (Err e) put refused = GoesOn-GoesOn refused.holds.goes_on refused.refused.goes_on

  -- what was not held is held last
  pub put_own : (r : Result (Unit {0}) Refusal) → OnOk r (Rewritten a b (o ∷ []) ((o, words) ∷ []))
      → OnOk r (Lacks a o → b.own ≡ a.own ++ (o, words) ∷ [])
  put_own (Ok u) put = λ lacks.
      put.holds.own
      ∙ ap (λ (t : Bool). with_writes (cond t a.own (a.own ++ (o, words_at (state_of a) o) ∷ [])) ((o, words) ∷ [])) lacks
      ∙ rewritten-last a.own o (words_at (state_of a) o) words lacks
  put_own (Err e) put = tt
