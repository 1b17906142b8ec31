-- Which calls of files and of a sink in memory fail, and what a fault leaves of files.
use Rattle.std.proofs.Common.{◌≡◌, ◌∙◌, ◌↔◌, ◌==◌, ◌<◌, ◌^◌, ℕ, Bool, true, false, List, [], ◌∷◌, ◌++◌, length, Contains, IsTrue, Err, sym, ap, arith}
use Rattle.std.specs.Prelude.{Option, None, Some, IfSome}
use Rattle.std.specs.Option.{option_map}
use Rattle.std.proofs.lemmas.Bool.{false≢true}
use Rattle.std.proofs.lemmas.Bool.Decides.{Decides-eqb}
use Rattle.host_io.specs.Outside.{IsTold, next_count}
use Rattle.host_io.proofs.Counts.{has_cause}
use Rattle.memory_io.specs.Memory.{FilesState, faults_in}

module _ (fails listed : List ℕ) (calls number : ℕ) (answer : Bool) (l : listed ≡ fails) (n : number ≡ next_count calls) where
  -- a call that was found listed is
  pub is_in : (IsTrue answer ↔ Contains listed number) → answer ≡ true → Contains fails (next_count calls)
  is_in says t = rw (l, n) at (says.0 t)

  -- a call that wasn't found listed isn't
  pub is_not_in : (IsTrue answer ↔ Contains listed number) → answer ≡ false → Contains fails (next_count calls) → ⊥
  is_not_in says f h = false≢true (sym f ∙ says.1 (rw (l, n) h))

-- where no call is to fail, none is listed
pub lists_none : (fails : List ℕ) (number : ℕ) → IsTrue (length fails == 0) → Contains fails number → ⊥
lists_none fails number e h = omega (arith, (Decides-eqb (length fails) 0).0 e, h.1)

-- and the name is told
pub is_told : {T E : Type 0} (e : E) (old : FilesState) (faults new : ℕ) (before after : List (List ℕ)) (name : List ℕ) → faults ≡ old.faults
    → faults < 2 ^ 64 → new ≡ next_count faults → before ≡ old.failures → after ≡ before ++ name ∷ []
    → IsTold {T = T} (faults_in old) (record { count = new; names = after }) name (Err e)
is_told e old faults new before after name same small counted told named = record {
  cause = has_cause e old.faults faults new same small counted;
  names = named ∙ ap (λ names. names ++ name ∷ []) told;
}

-- what holds of the one name holds of it, where a text is open
pub if_named : {A : Type 0} (o : Option A) (name : List ℕ) (opened : Option (List ℕ)) (P : List ℕ → Type 0) → opened ≡ option_map (λ i. name) o → P name
    → IfSome opened P
if_named None name opened P e p = rw e tt
if_named (Some i) name opened P e p = rw e p
