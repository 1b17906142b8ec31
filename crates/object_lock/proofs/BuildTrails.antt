-- What building a version leaves of a view, and which steps it makes.
use Rattle.std.proofs.Common.{◌≡◌, ℕ, zero, suc, ◌+◌, ◌==◌, if◌then◌else◌, true, false, List, [], ◌∷◌, ◌++◌, length}
use Rattle.std.proofs.Common.{refl, sym, ap, ◌∙◌, subst, append-nil, append_assoc, length-append, arith, All}
use Rattle.std.specs.Prelude.{slice_index}
use Rattle.std.proofs.lemmas.List.Elements.{All-nil, All-cons, All-append}
use Rattle.mv_history.specs.declared.Step.{Step}
use Rattle.mv_layout.specs.declared.Config.{Config}
use Rattle.mv_layout.specs.Words.{unset_of}
use Rattle.seat_log.specs.mv_core.declared.view.Knowledge.{Knowledge}
use Rattle.seat_log.specs.Builds.{stored_next, words_stored, begun, linked, slot_built, build_cost}
use Rattle.object_lock.specs.Tops.{lock_exchanges}
use Rattle.object_lock.proofs.Exchanged.{exchanged_on}
use Rattle.object_lock.proofs.Looks.{IsLocks}

-- only the log and the trail changed, and the trail has so many steps of a lock more, none of which is an exchange of HEAD
pub record BuildsBy (v w : Knowledge) (n : ℕ) : Type 0 where
  pub rest : w ≡ record v { ring = w.ring; trail = w.trail }
  pub steps : (steps : List Step) × (w.trail ≡ v.trail ++ steps) × (length steps ≡ n) × All IsLocks steps
  pub none : lock_exchanges steps.0 ≡ []

pub builds_none : (v : Knowledge) → BuildsBy v v 0
builds_none v = record { rest = refl; steps = ([], sym (append-nil v.trail), refl, All-nil IsLocks); none = refl }

pub builds_on : (u v w : Knowledge) (a b : ℕ) → BuildsBy u v a → BuildsBy v w b → BuildsBy u w (a + b)
builds_on u v w a b one two =
    let s = one.steps in
    let t = two.steps in
    let long = length-append s.0 t.0 in
    let m = s.2 in
    let n = t.2 in record {
      rest = ap (λ (z : Knowledge). record z { ring = w.ring; trail = w.trail }) two.rest
          ∙ ap (λ (z : Knowledge). record z { ring = w.ring; trail = w.trail }) one.rest;
      steps = (s.0 ++ t.0, t.1 ∙ ap (λ (l : List Step). l ++ t.0) s.1 ∙ append_assoc u.trail s.0 t.0, (omega arith), All-append IsLocks s.0 t.0 s.3 t.3);
      none = exchanged_on s.0 t.0 one.none two.none;
    }

module _ (c : Config) (position : ℕ) where
  pub builds_next : (v : Knowledge) (field x : ℕ) → BuildsBy v (stored_next c v position field x) 1
  unfolding stored_next
  builds_next v field x = record { rest = refl; steps = (_ ∷ [], refl, refl, All-cons IsLocks _ [] tt (All-nil IsLocks)); none = refl }

  builds_words : (v : Knowledge) (words : List ℕ) (i : ℕ) → BuildsBy v (words_stored c v position words i) i
  unfolding words_stored
  builds_words v words zero = builds_none v
  builds_words v words (suc i) =
      subst (BuildsBy v (stored_next c (words_stored c v position words i) position (4 + i) (slice_index words i))) (let e : i + 1 ≡ suc i = omega arith in e)
      (builds_on v (words_stored c v position words i) _ i 1 (builds_words v words i)
      (builds_next (words_stored c v position words i) (4 + i) (slice_index words i)))

  builds_begun : (v : Knowledge) (first : ℕ) → BuildsBy v (begun c v position first) (if first == position then 2 else 1)
  unfolding begun
  builds_begun v first =
      elim (first == position) as
      (λ b. BuildsBy v (if b then stored_next c (stored_next c v position 0 first) position 1 (unset_of position) else stored_next c v position 0 first)
      (if b then 2 else 1)) [
        | true ↦ builds_on v (stored_next c v position 0 first) _ 1 1 (builds_next v 0 first)
            (builds_next (stored_next c v position 0 first) 1 (unset_of position))
        | false ↦ builds_next v 0 first
      ]

  cost_is : (first : ℕ) → (if first == position then 2 else 1) + 1 + 1 + 6 ≡ build_cost position first
  cost_is first = elim (first == position) as (λ b. (if b then 2 else 1) + 1 + 1 + 6 ≡ (if b then 10 else 9)) [
    | true ↦ refl
    | false ↦ refl
  ]

  -- a whole build
  pub builds_slot : (v : Knowledge) (first previous : ℕ) (words : List ℕ)
      → BuildsBy v (slot_built c v position first previous words) (build_cost position first)
  unfolding slot_built linked
  builds_slot v first previous words =
      let w : Knowledge = begun c v position first in
      let x : Knowledge = stored_next c w position 2 previous in
      let y : Knowledge = stored_next c x position 3 0 in
      let n : ℕ = if first == position then 2 else 1 in
      let links = builds_on v x y (n + 1) 1 (builds_on v w x n 1 (builds_begun v first) (builds_next w 2 previous)) (builds_next x 3 0) in
      subst (BuildsBy v (words_stored c y position words 6)) (cost_is first)
      (builds_on v y (words_stored c y position words 6) (n + 1 + 1) 6 links (builds_words y words 6))
