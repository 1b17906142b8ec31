-- What a view is after stores into the slot being built: only that slot and the trail have changed.
use Rattle.std.proofs.Common.{◌≡◌, ◌≢◌, ℕ, zero, suc, ◌+◌, ◌<◌, Bool, false, cond, count_by, List, [], ◌∷◌, ◌++◌}
use Rattle.std.proofs.Common.{length, map, refl, sym, ap, ◌∙◌, subst, arith, Option, Some}
use Rattle.std.specs.Prelude.{slice_set, slice_index, unwrap_or}
use Rattle.std.proofs.lemmas.List.{length-set}
use Rattle.std.proofs.lemmas.List.Sums.{sum_by-append}
use mathlib.Core.Logic.{dite}
use native.Mathlib.Decide.{ℕ_discrete}
use Rattle.mv_history.specs.declared.Step.{Step}
use Rattle.mv_layout.specs.declared.Config.{Config}
use Rattle.mv_layout.specs.Words.{unset_of}
use Rattle.reader_marks.specs.mv_core.declared.ring.Slot.{Slot}
use Rattle.reader_marks.specs.mv_core.declared.ring.Slot.TheVariants.{Built}
use Rattle.reader_marks.specs.mv_core.declared.ring.Build.{Build}
use Rattle.reader_marks.specs.mv_core.declared.view.Knowledge.{Knowledge}
use Rattle.reader_marks.specs.mv_core.Rings.{slot_at, index_of}
use Rattle.reader_marks.specs.mv_core.LockSteps.{nothing_built, build_in, built_too}
use Rattle.reader_marks.proofs.mv_core_lemmas.logs.Slots.{slot_here, slot_else}
use Rattle.reader_marks.proofs.mv_core_lemmas.logs.Counts.{count_same}
use Rattle.seat_log.specs.declared.version.Note.{Note}
use Rattle.seat_log.specs.Stands.{IsAllStored, is_free, is_won_cut}
use Rattle.seat_log.specs.Builds.{build_at, stored_next, words_stored, begun, linked, slot_built, MayBuild}
use Rattle.seat_log.proofs.MayBuild.{begun_first, begun_later}
use Rattle.seat_log.proofs.StepCounts.{KeepsLocks, keeps_one, keeps_then}

-- only the slot of this position and the trail have changed, and the slot is being built with this
pub record BuildsOn (c : Config) (v w : Knowledge) (position : ℕ) (b : Build) : Type 0 where
  pub rest : w ≡ record v { ring = record v.ring { slots = w.ring.slots }; trail = w.trail }
  pub here : slot_at w.ring (index_of c position) ≡ Built b
  pub others : (j : ℕ) → j ≢ index_of c position → slot_at w.ring j ≡ slot_at v.ring j
  pub wide : length w.ring.slots ≡ length v.ring.slots
  pub counts : (test : Slot → Bool) → ((a : Build) → test (Built a) ≡ test (slot_at v.ring (index_of c position)))
      → count_by test w.ring.slots ≡ count_by test v.ring.slots
  pub frees : count_by is_free w.trail ≡ count_by is_free v.trail
  pub backs : count_by is_won_cut w.trail ≡ count_by is_won_cut v.trail
  pub keeps : KeepsLocks v.trail w.trail

-- a step that doesn't pass a test
pub unpassed : (test : Step → Bool) (steps : List Step) (s : Step) → test s ≡ false → count_by test (steps ++ s ∷ []) ≡ count_by test steps
unpassed test steps s e =
    let more = sum_by-append (λ t. cond (test t) 1 0) steps (s ∷ []) in
    let none : count_by test (s ∷ []) ≡ 0 = ap (λ b. 0 + cond b 1 0) e in
    omega arith

-- the first store
pub builds_first : (c : Config) (v : Knowledge) (position field x : ℕ) → index_of c position < length v.ring.slots
    → BuildsOn c v (stored_next c v position field x) position (built_too (build_at c v position) field x)
unfolding stored_next
builds_first c v position field x within =
    let b : Build = built_too (build_at c v position) field x in
    let k = index_of c position in record {
      rest = refl;
      here = slot_here v.ring k (Built b) within;
      others = λ j ne. slot_else v.ring k j (Built b) ne;
      wide = length-set v.ring.slots k (Built b);
      counts = λ test same. count_same v.ring k (Built b) within test (same b);
      frees = unpassed is_free v.trail _ refl;
      backs = unpassed is_won_cut v.trail _ refl;
      keeps = keeps_one v.trail _ refl refl;
    }

-- and one more
pub builds_more : (c : Config) (v w : Knowledge) (position field x : ℕ) (b : Build) → index_of c position < length v.ring.slots → BuildsOn c v w position b
    → BuildsOn c v (stored_next c w position field x) position (built_too b field x)
unfolding stored_next
builds_more c v w position field x b within on =
    let k = index_of c position in
    let was : build_at c w position ≡ b = ap (λ z. unwrap_or (build_in z) nothing_built) on.here in
    let there : k < length w.ring.slots = (let wide = on.wide in omega arith) in
    let next = builds_first c w position field x there in record {
      rest = (λ i. record (on.rest i) {
        ring = record (on.rest i).ring { slots = (stored_next c w position field x).ring.slots };
        trail = (stored_next c w position field x).trail;
      });
      here = next.here ∙ ap (λ a. Built (built_too a field x)) was;
      others = λ j ne. next.others j ne ∙ on.others j ne;
      wide = next.wide ∙ on.wide;
      counts = λ test same. next.counts test (λ a. same a ∙ sym (ap test on.here ∙ same b)) ∙ on.counts test same;
      frees = next.frees ∙ on.frees;
      backs = next.backs ∙ on.backs;
      keeps = keeps_then v.trail w.trail _ on.keeps next.keeps;
    }

-- a list of six
six : {A : Type 0} (xs : List A) → length xs ≡ 6 → (a b d e f g : A) × (xs ≡ a ∷ b ∷ d ∷ e ∷ f ∷ g ∷ [])
six [] p = absurd (omega arith)
six (a ∷ []) p = absurd (omega arith)
six (a ∷ b ∷ []) p = absurd (omega arith)
six (a ∷ b ∷ d ∷ []) p = absurd (omega arith)
six (a ∷ b ∷ d ∷ e ∷ []) p = absurd (omega arith)
six (a ∷ b ∷ d ∷ e ∷ f ∷ []) p = absurd (omega arith)
six (a ∷ b ∷ d ∷ e ∷ f ∷ g ∷ []) p = (a, b, d, e, f, g, refl)
six (a ∷ b ∷ d ∷ e ∷ f ∷ g ∷ x ∷ xs) p = absurd (omega arith)

-- the six words, each set to one of these
abbrev six_set : List (Option ℕ) → List ℕ → List (Option ℕ)
six_set xs ws =
    slice_set (slice_set
    (slice_set (slice_set (slice_set (slice_set xs 0 (Some (slice_index ws 0))) 1 (Some (slice_index ws 1))) 2 (Some (slice_index ws 2))) 3
    (Some (slice_index ws 3))) 4 (Some (slice_index ws 4))) 5 (Some (slice_index ws 5))

all_set : (xs : List (Option ℕ)) (ws : List ℕ) → length xs ≡ 6 → length ws ≡ 6 → six_set xs ws ≡ map Some ws
all_set xs ws p q =
    let x = six xs p in
    let w = six ws q in
    (λ i. six_set (x.6 i) (w.6 i)) ∙ sym (ap (map Some) w.6)

module _ (c : Config) (v : Knowledge) (position first previous : ℕ) (words : List ℕ) (may : MayBuild c v position)
    (wide : length (build_at c v position).words ≡ 6) (long : length words ≡ 6) where
  -- what is stored after FIRST and STAMP
  record IsBegun (b : Build) : Type 0 where
    first_is : b.first ≡ Some first
    stamp_is : first ≡ position → b.stamp ≡ Some (unset_of position)
    words_are : length b.words ≡ 6

  begins : (b : Build) × BuildsOn c v (begun c v position first) position b × IsBegun b
  begins =
      let b : Build = built_too (build_at c v position) 0 first in
      let one = builds_first c v position 0 first may.within in
      dite (ℕ_discrete first position)
      (λ e. (
        built_too b 1 (unset_of position),
        subst (λ (w : Knowledge). BuildsOn c v w position (built_too b 1 (unset_of position))) (sym (begun_first c v position first e))
            (builds_more c v (stored_next c v position 0 first) position 1 (unset_of position) b may.within one),
        record { first_is = refl; stamp_is = λ _. refl; words_are = wide },
      ))
      (λ ne. (
        b,
        subst (λ (w : Knowledge). BuildsOn c v w position b) (sym (begun_later c v position first ne)) one,
        record { first_is = refl; stamp_is = λ e. absurd (ne e); words_are = wide },
      ))

  links : (b : Build) × BuildsOn c v (linked c v position first previous) position b × IsBegun b × (b.previous ≡ Some previous) × (b.successor ≡ Some 0)
  unfolding linked
  links =
      let a = begins in
      let w : Knowledge = begun c v position first in
      let b : Build = built_too (built_too a.0 2 previous) 3 0 in
      let two = builds_more c v w position 2 previous a.0 may.within a.1 in (
        b,
        builds_more c v (stored_next c w position 2 previous) position 3 0 (built_too a.0 2 previous) may.within two,
        record { first_is = a.2.first_is; stamp_is = a.2.stamp_is; words_are = a.2.words_are },
        refl,
        refl,
      )

  -- the build with so many of the words
  abbrev with_words : Build → ℕ → Build
  with_words b zero = b
  with_words b (suc i) = built_too (with_words b i) (4 + i) (slice_index words i)

  adds : (w : Knowledge) (b : Build) (i : ℕ) → BuildsOn c v w position b → BuildsOn c v (words_stored c w position words i) position (with_words b i)
  unfolding words_stored
  adds w b zero on = on
  adds w b (suc i) on = builds_more c v (words_stored c w position words i) position (4 + i) (slice_index words i) (with_words b i) may.within (adds w b i on)

  -- the slot is whole after all stores
  pub slot_whole : (n : Note) → n.position ≡ position → n.first ≡ first → n.previous ≡ previous → n.words ≡ words
      → (b : Build) × BuildsOn c v (slot_built c v position first previous words) position b × IsAllStored b n
  unfolding slot_built
  slot_whole n at firsts below same =
      let a = links in (
        with_words a.0 6,
        adds (linked c v position first previous) a.0 6 a.1,
        record {
          first = a.2.first_is ∙ ap Some (sym firsts);
          stamp = λ e. a.2.stamp_is (sym firsts ∙ e ∙ at) ∙ ap (λ p. Some (unset_of p)) (sym at);
          previous = a.3 ∙ ap Some (sym below);
          successor = a.4;
          words = all_set a.0.words words a.2.words_are long ∙ ap (map Some) (sym same);
          wide = ap length same ∙ long;
        },
      )
