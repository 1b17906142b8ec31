-- A version was built, or HEAD exchanged: what the next part of a lock asks, and how its outcome is that of both.
use Rattle.std.proofs.Common.{◌≡◌, ℕ, ◌+◌, ◌<◌, ◌≤◌, ◌==◌, if◌then◌else◌, true, false, List, [], ◌∷◌, refl, sym}
use Rattle.std.proofs.Common.{ap, ◌∙◌, subst, ⊎_elim, inl, inr, arith, Option, Some, None}
use Rattle.mv_history.specs.declared.answers.LockAnswer.{LockAnswer}
use Rattle.mv_layout.specs.declared.Config.{Config}
use Rattle.seat_log.specs.mv_core.declared.view.Knowledge.{Knowledge}
use Rattle.seat_log.specs.mv_core.declared.view.Passed.TheVariants.{Nothing}
use Rattle.seat_log.specs.mv_core.declared.view.WalkStage.TheVariants as place
use Rattle.seat_log.specs.mv_core.Times.{words_of}
use Rattle.seat_log.specs.mv_core.Views.{time_in}
use Rattle.seat_log.specs.mv_core.LockSteps.{StandsToLock, lock_lost}
use Rattle.seat_log.proofs.mv_core_lemmas.kinds.walking.WalkOn.{at_zero}
use Rattle.seat_log.specs.Notes.{Noted, next_of, first_of, next_note, built_noted}
use Rattle.seat_log.specs.Stands.{Stands}
use Rattle.seat_log.specs.Builds.{slot_built, build_cost}
use Rattle.version_chain.specs.Walks.{MayWalk, inside_of, section_in, time_at}
use Rattle.version_chain.specs.Reads.{words_in}
use Rattle.object_lock.specs.Tops.{Tries, most_to_look}
use Rattle.object_lock.specs.Locks.{lost_step, HoldsObject, built_words, IsBuiltFor, OneOutcome, FewOutcome, most_to_start}
use Rattle.object_lock.proofs.BuildTrails.{BuildsBy, builds_slot}
use Rattle.object_lock.proofs.Holding.{Carries, own_kept, outcome_before, lost_tries, lost_carries, built_may, built_carries, built_tries, built_walk}

-- the words that a section reads stay with its section and what was seen
pub words_stay : (c : Config) (v w : Knowledge) (object : ℕ) → w.start ≡ v.start → w.past.seen ≡ v.past.seen → w.phase ≡ v.phase
    → words_in c w object ≡ words_in c v object
words_stay c v w object start seen phase = λ i. words_of c (start i) (seen i) (time_in (inside_of (phase i))) object

-- where a lock may be put
pub lock_carried : (v w : Knowledge) (object previous : ℕ) → w.walk ≡ v.walk → w.phase ≡ v.phase → StandsToLock v (section_in v) object previous
    → StandsToLock w (section_in w) object previous
lock_carried v w object previous walk phase =
    let same : time_at w ≡ time_at v = ap (λ p. time_in (inside_of p)) phase in
    ⊎_elim (λ a. inl (walk ∙ a.0, a.1)) (λ a. inr (a.0, a.1, walk ∙ a.2, a.3, a.4, a.5, (let le = a.6 in omega arith)))

module _ (c : Config) (v w : Knowledge) (l m : Noted) (object previous position : ℕ) (words : List ℕ) (may : MayWalk v) (s : Stands c v l) (t : Stands c w m)
    (noted : m ≡ built_noted l (next_note l object previous words))
    (built : w ≡ slot_built c v (next_of l) (first_of l) previous words) (at : position ≡ next_of l) where
  stores : BuildsBy v w (build_cost (next_of l) (first_of l))
  stores = subst (λ (u : Knowledge). BuildsBy v u (build_cost (next_of l) (first_of l))) (sym built) (builds_slot c (next_of l) v (first_of l) previous words)

  pub first_may : MayWalk w
  first_may = built_may c v w (build_cost (next_of l) (first_of l)) stores may

  pub first_carries : Carries c v w
  first_carries =
      built_carries c v w (build_cost (next_of l) (first_of l)) stores
      (own_kept c v w l m s t (ap (λ (q : Noted). q.live) noted) (ap (λ (q : Noted). q.held) noted))

  pub first_tries : (before after : ℕ) → after ≡ before + build_cost (next_of l) (first_of l) → Tries v w before after []
  first_tries = built_tries c v w (build_cost (next_of l) (first_of l)) stores

  pub first_words : built_words m ≡ words
  first_words = ap built_words noted

  pub first_is : IsBuiltFor m position object previous (built_words m)
  first_is = (next_note l object previous words, ap (λ (q : Noted). q.built) noted, sym at, refl, refl, sym first_words)

  pub first_lock : StandsToLock v (section_in v) object previous → StandsToLock w (section_in w) object previous
  first_lock = lock_carried v w object previous (built_walk c v w (build_cost (next_of l) (first_of l)) stores) (first_carries.phase)

  pub first_unheld : ¬ (HoldsObject l object) → ¬ (HoldsObject m object)
  first_unheld = subst (λ (q : Noted). ¬ (HoldsObject q object)) (sym noted)

  pub first_few : (most : ℕ) → l.held < most → m.held < most
  first_few most = subst (λ (q : Noted). q.held < most) (sym noted)

-- HEAD was exchanged, and another came first
module _ {words : List ℕ} (c : Config) (v w : Knowledge) (l : Noted) (object previous position : ℕ) (may : MayWalk v) (s : Stands c v l)
    (is : IsBuiltFor l position object previous words) (link : ℕ) (told : w ≡ lock_lost c v object link) where
  then_carries : Carries c v w
  then_carries = lost_carries c v w l object previous position may s is link told

  pub then_is : (below : ℕ) × IsBuiltFor l position object below words
  then_is = (previous, is)

  pub then_master : link ≡ 0 → w.walk ≡ place.Master object
  then_master zero = ap (λ (u : Knowledge). u.walk) told ∙ sym (at_zero object link Nothing true zero)

  -- and it was tried once more, at a chain that was cut
  pub then_again : (x : Knowledge) (q : Noted) (answer : LockAnswer) (first second last : ℕ) → second ≡ first + 1 → link ≡ 0
      → OneOutcome c w x q object words answer second last → FewOutcome c v x q object words answer first last
  then_again x q answer first second last e zero o = (
    lost_step c object link ∷ o.0 ∷ [],
    outcome_before c v w x q object answer first second last then_carries
        (subst (λ (n : ℕ). Tries v w first n (lost_step c object link ∷ [])) (sym e)
        (lost_tries c v w l object previous position may s is link told first)) o.1,
    (ap (lost_step c object) zero, o.2),
  )

-- one exchange is few
pub one_few : {words : List ℕ} (c : Config) (v w : Knowledge) (l : Noted) (object : ℕ) (answer : LockAnswer) (before after : ℕ)
    → OneOutcome c v w l object words answer before after → FewOutcome c v w l object words answer before after
one_few c v w l object answer before after o = (o.0 ∷ [], o.1, o.2)

-- how many steps a lock makes until its exchange
build_few : (position first : ℕ) → build_cost position first ≤ 10
build_few position first = elim (first == position) as (λ b. (if b then 10 else 9) ≤ 10) [
  | true ↦ omega arith
  | false ↦ omega arith
]

pub start_bound : (given : Option (List ℕ)) (a b d position first : ℕ) → b ≤ a + most_to_look given → d ≡ b + build_cost position first
    → d ≤ a + most_to_start given
start_bound None a b d position first looks builds = let few = build_few position first in omega arith
start_bound (Some words) a b d position first looks builds = let few = build_few position first in omega arith
