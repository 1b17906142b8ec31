-- Where all files are scripts, reading stops at none of them; and it stops at one place alone.
use Rattle.std.proofs.Common.{inl, inr, ◌⊎◌, ◌≡◌, ◌≤◌, ◌<◌, ℕ, zero, suc, List, [], ◌∷◌, length, take, get_or}
use Rattle.std.proofs.Common.{slice_get, Bool, IsTrue, IsSome, Option, None, Some, Result, Ok, Err, refl, sym, ap, ◌∙◌, arith, subst, get_or-take, length-take}
use Rattle.std.proofs.lemmas.Bool.{cases_lt}
use Rattle.std.proofs.lemmas.Option.{slice_get-get_or, slice_get_within, get_or_from_slice_get}
use Rattle.host_io.specs.Outside.{Texts, HasText, Rose}
use Rattle.script_files.specs.Reading.{AreTold, Says}
use Rattle.script_files.specs.declared.stop.Stop.TheVariants.{Read}
use Rattle.script_files.specs.Scripts.{AllScripts, IsLong, IsRefused, IsScript, NoneFails, Reaches, StopsAt}

IsGood : {A E : Type 0} → Result A E → Type 0
IsGood (Ok a) = Unit {0}
IsGood (Err e) = ⊥

-- an answer is no error
pub ok_is_no_err : {A E : Type 0} (a : A) (e : E) → Ok a ≡ Err e → ⊥
unfolding IsGood
ok_is_no_err a e p = subst IsGood p tt

some_of : {A : Type 0} → A → Option A → A
some_of d None = d
some_of d (Some a) = a

pub some_inj : {A : Type 0} (a b : A) → Some a ≡ Some b → a ≡ b
unfolding some_of
some_inj a b p = ap (some_of a) p

-- of each grammar
module _ {A K : Type 0} (grammar : List ℕ → Result A (ℕ × K)) where
  -- a fact of texts that no script has
  abbrev pub Spoils : (List ℕ → Type 0) → Type 0
  Spoils P = (text : List ℕ) (script : A) → IsScript grammar text script → P text → ⊥

  pub fault_spoils : (line : ℕ) (kind : K) → Spoils (IsRefused grammar line kind)
  fault_spoils line kind text script s f = ok_is_no_err script (line, kind) (sym s.parses ∙ f.fault)

  pub length_spoils : Spoils IsLong
  length_spoils text script s f = omega (arith, s.short, f)

  script_at : (texts : Texts) (names : List (List ℕ)) (scripts : List A) (place : ℕ) (name : List ℕ) → AllScripts grammar (Some texts) names scripts
      → slice_get names place ≡ Some name → (text : List ℕ) × (script : A) × (texts name ≡ Some text) × IsScript grammar text script
  script_at texts [] scripts place name h at = absurd (omega (arith, slice_get_within {A = List ℕ} [] place name at))
  script_at texts (n ∷ names) [] place name h at = absurd h
  script_at texts (n ∷ names) (s ∷ scripts) zero name h at =
      (h.0.0, s, subst (λ x. texts x ≡ Some h.0.0) (get_or_from_slice_get (n ∷ names) 0 name n at) h.0.1, h.0.2)
  script_at texts (n ∷ names) (s ∷ scripts) (suc place) name h at =
      let lt : place < length names = omega (arith, slice_get_within (n ∷ names) (suc place) name at) in
      script_at texts names scripts place name h.1 (slice_get-get_or names place n lt ∙ ap Some (get_or_from_slice_get (n ∷ names) (suc place) name n at))

  -- a file among scripts has no such text
  pub no_stop : (t : Option Texts) (names : List (List ℕ)) (scripts : List A) (place : ℕ) (name : List ℕ) (P : List ℕ → Type 0) → AreTold t
      → AllScripts grammar t names scripts → slice_get names place ≡ Some name → Says t name P → Spoils P → ⊥
  no_stop None names scripts place name P is h at says spoils = absurd is
  no_stop (Some texts) names scripts place name P is h at says spoils =
      let own = script_at texts names scripts place name h at in
      let same = some_inj own.0 says.0 (sym own.2 ∙ says.1) in
      spoils says.0 own.1 (subst (λ x. IsScript grammar x own.1) same own.3) says.2

  front_at : (names : List (List ℕ)) (i j : ℕ) (name : List ℕ) → i < j → slice_get names i ≡ Some name → slice_get (take j names) i ≡ Some name
  front_at names i j name lt at =
      let within : i < length (take j names) = omega (arith, lt, length-take j names, slice_get_within names i name at) in
      let same : get_or (take j names) i [] ≡ get_or names i [] = get_or-take j names i [] lt in
      slice_get-get_or (take j names) i [] within ∙ ap Some (same ∙ get_or_from_slice_get names i name [] at)

  -- a file before the place that is reached has no such text
  not_before : (t : Option Texts) (names : List (List ℕ)) (i j : ℕ) (P : List ℕ → Type 0) → AreTold t → StopsAt grammar t names i P
      → Reaches grammar t names j → Spoils P → j ≤ i
  not_before t names i j P is stop reaches spoils =
      elim (cases_lt i j) as (λ _. j ≤ i) [
        | inl lt ↦ absurd (no_stop t (take j names) reaches.before i stop.reaches.name P is reaches.scripts
            (front_at names i j stop.reaches.name lt stop.reaches.named) stop.says spoils)
        | inr le ↦ le
      ]

  -- a file among scripts has a text
  has_text : (t : Option Texts) (names : List (List ℕ)) (scripts : List A) (place : ℕ) (name : List ℕ) → AreTold t → AllScripts grammar t names scripts
      → slice_get names place ≡ Some name → HasText t name
  has_text None names scripts place name is h at = absurd is
  has_text (Some texts) names scripts place name is h at = subst IsSome (sym (script_at texts names scripts place name h at).2) refl

  -- and so has the one at which reading stops, and each before it
  stop_has_text : (t : Option Texts) (names : List (List ℕ)) (i j : ℕ) (P : List ℕ → Type 0) (name : List ℕ) → AreTold t → StopsAt grammar t names i P
      → j ≤ i → slice_get names j ≡ Some name → HasText t name
  stop_has_text None names i j P name is stop le at = absurd is
  stop_has_text (Some texts) names i j P name is stop le at =
      elim (cases_lt j i) as (λ _. HasText (Some texts) name) [
        | inl lt ↦ has_text (Some texts) (take i names) stop.reaches.before j name is stop.reaches.scripts (front_at names j i name lt at)
        | inr ge ↦
            let place : i ≡ j = omega (arith, le, ge) in
            let same = some_inj stop.reaches.name name (sym stop.reaches.named ∙ ap (slice_get names) place ∙ at) in
            subst (λ n. IsSome (texts n)) same (subst IsSome (sym stop.says.1) refl)
      ]

  -- where no call failed or the files are steady, scripts are read
  pub scripts_are_read : (t : Option Texts) (names : List (List ℕ)) (scripts : List A) (place faults now : ℕ) (steady : Bool) → AreTold t
      → AllScripts grammar t names scripts → ¬ Rose faults now ⊎ IsTrue steady → NoneFails (Read place) steady t names → Rose faults now → ⊥
  scripts_are_read t names scripts place faults now steady is all files fails rose =
      elim files as (λ _. ⊥) [
        | inl none ↦ none rose
        | inr still ↦ let lacks = fails still in lacks.2 (has_text t names scripts place lacks.0 is all lacks.1)
      ]

  -- and so is the first file that is none, with those before it
  pub stops_are_read : (t : Option Texts) (names : List (List ℕ)) (i j : ℕ) (P : List ℕ → Type 0) (faults now : ℕ) (steady : Bool) → AreTold t
      → StopsAt grammar t names i P → Spoils P → Reaches grammar t names j → ¬ Rose faults now ⊎ IsTrue steady
      → NoneFails (Read j) steady t names → Rose faults now → ⊥
  stops_are_read t names i j P faults now steady is stop spoils reaches files fails rose =
      elim files as (λ _. ⊥) [
        | inl none ↦ none rose
        | inr still ↦
            let lacks = fails still in
            lacks.2 (stop_has_text t names i j P lacks.0 is stop (not_before t names i j P is stop reaches spoils) lacks.1)
      ]

  -- two stops are one, and one text has both faults
  pub one_stop : (t : Option Texts) (names : List (List ℕ)) (i j : ℕ) (P Q : List ℕ → Type 0) → AreTold t → StopsAt grammar t names i P
      → StopsAt grammar t names j Q → Spoils P → Spoils Q → (text : List ℕ) × P text × Q text
  one_stop None names i j P Q is p q sp sq = absurd is
  one_stop (Some texts) names i j P Q is p q sp sq =
      let low = not_before (Some texts) names i j P is p q.reaches sp in
      let high = not_before (Some texts) names j i Q is q p.reaches sq in
      let at : i ≡ j = omega (arith, low, high) in
      let name = some_inj p.reaches.name q.reaches.name (sym p.reaches.named ∙ ap (slice_get names) at ∙ q.reaches.named) in
      let same = some_inj p.says.0 q.says.0 (sym p.says.1 ∙ ap texts name ∙ q.says.1) in
      (q.says.0, subst P same p.says.2, q.says.2)
