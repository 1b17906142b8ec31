-- The stores of a build, one after another.
use Rattle.std.proofs.Common.{Bool, if◌then◌else◌, true, false}
use Rattle.std.proofs.Common.{◌≡◌, ◌≢◌, ℕ, suc, ◌+◌, ◌-◌, ◌<◌, List, refl, sym, ap, ◌∙◌, subst, arith, cond, eq-eqb, ne_eqb, Some, None}
use Rattle.std.specs.Prelude.{unwrap_or, slice_index}
use Rattle.mv_layout.specs.Words.{unset_of}
use Rattle.std.proofs.lemmas.List.{length-set}
use Rattle.mv_layout.specs.declared.Config.{Config}
use Rattle.reader_marks.specs.mv_core.declared.ring.Slot.{Slot}
use Rattle.reader_marks.specs.mv_core.declared.ring.Slot.TheVariants.{Free, Built, Live, Freeing}
use Rattle.reader_marks.specs.mv_core.declared.ring.Build.{Build}
use Rattle.reader_marks.specs.mv_core.declared.view.Knowledge.{Knowledge}
use Rattle.reader_marks.specs.mv_core.Rings.{slot_at, index_of, is_held, held_count}
use Rattle.reader_marks.specs.mv_core.LockSteps.{nothing_built, build_in, built_too, FitsField, MayStoreBuilt, built_stored}
use Rattle.reader_marks.proofs.mv_core_lemmas.logs.Slots.{slot_here}
use Rattle.reader_marks.proofs.mv_core_lemmas.logs.Counts.{held_same}
use Rattle.seat_log.specs.Builds.{build_at, stored_next, words_stored, begun, linked, slot_built, MayBuild, first_in}

-- what is in a slot that may be built isn't held
unheld : (slot : Slot) (b : Build) → build_in slot ≡ Some b → is_held slot ≡ false
unheld Free b e = refl
unheld (Built a) b e = refl
unheld (Live x st) b e = let none : None ≡ Some b = e in absurd (cc)
unheld (Freeing p f) b e = refl

module _ (c : Config) (v : Knowledge) (position : ℕ) (may : MayBuild c v position) where
  -- what was stored so far
  build_is : build_in (slot_at v.ring (index_of c position)) ≡ Some (build_at c v position)
  build_is = may.spare.1 ∙ ap Some (sym (ap (λ o. unwrap_or o nothing_built) may.spare.1))

  pub may_store : (field x : ℕ) → FitsField (first_in v) position field x → MayStoreBuilt c v position field x (build_at c v position)
  may_store field x fits =
      record { inside = may.open_is.0; phase = may.open_is.1; open_is = may.open_is.2; next = may.next; build = build_is; fits = fits }

  module _ (w : Knowledge) (field x : ℕ) (is : w ≡ built_stored c v position field x (build_at c v position)) where
    pub first_stays : first_in w ≡ first_in v
    first_stays =
        ap first_in is
        ∙ ap (λ (n : ℕ). v.ring.next - n)
        (held_same v.ring (index_of c position) (Built (built_too (build_at c v position) field x)) may.within
        (sym (unheld (slot_at v.ring (index_of c position)) (build_at c v position) build_is)))

    pub may_on : MayBuild c w position
    may_on =
        let b : Build = built_too (build_at c v position) field x in
        subst (λ (u : Knowledge). MayBuild c u position) (sym is) (record {
          open_is = may.open_is;
          next = may.next;
          within = subst (λ (n : ℕ). index_of c position < n) (sym (length-set v.ring.slots (index_of c position) (Built b))) may.within;
          spare = (b, ap build_in (slot_here v.ring (index_of c position) (Built b) may.within));
        })

    -- this is the view after one more word
    pub is_next : w ≡ stored_next c v position field x
    unfolding stored_next
    is_next = is

module _ (c : Config) (v : Knowledge) (position first : ℕ) where
  -- FIRST and STAMP, by whether the position is the first one
  pub begun_first : first ≡ position → begun c v position first ≡ stored_next c (stored_next c v position 0 first) position 1 (unset_of position)
  unfolding begun
  begun_first e =
      ap (λ b. cond b (stored_next c (stored_next c v position 0 first) position 1 (unset_of position)) (stored_next c v position 0 first))
      (eq-eqb first position e)

  pub begun_later : first ≢ position → begun c v position first ≡ stored_next c v position 0 first
  unfolding begun
  begun_later ne =
      ap (λ b. cond b (stored_next c (stored_next c v position 0 first) position 1 (unset_of position)) (stored_next c v position 0 first))
      (ne_eqb first position ne)

-- the views of the calls
pub is_begun_first : (c : Config) (v w u : Knowledge) (position first x : ℕ) → w ≡ stored_next c v position 0 first → u ≡ stored_next c w position 1 x
    → x ≡ unset_of position → first ≡ position → u ≡ begun c v position first
is_begun_first c v w u position first x e f unset same =
    f ∙ (λ i. stored_next c (e i) position 1 (unset i)) ∙ sym (begun_first c v position first same)

pub is_begun_later : (c : Config) (v w : Knowledge) (position first : ℕ) → w ≡ stored_next c v position 0 first → first ≢ position
    → w ≡ begun c v position first
is_begun_later c v w position first e ne = e ∙ sym (begun_later c v position first ne)

pub is_linked : (c : Config) (v b w u : Knowledge) (position first previous : ℕ) → b ≡ begun c v position first → w ≡ stored_next c b position 2 previous
    → u ≡ stored_next c w position 3 0 → u ≡ linked c v position first previous
unfolding linked
is_linked c v b w u position first previous e f g =
    g ∙ ap (λ (z : Knowledge). stored_next c z position 3 0) (f ∙ ap (λ (z : Knowledge). stored_next c z position 2 previous) e)

-- no data word yet, one more, and all
pub no_words : (c : Config) (v : Knowledge) (position : ℕ) (words : List ℕ) → v ≡ words_stored c v position words 0
unfolding words_stored
no_words c v position words = refl

pub is_more : (c : Config) (v w u : Knowledge) (position i : ℕ) (words : List ℕ) → w ≡ words_stored c v position words i
    → u ≡ stored_next c w position (4 + i) (slice_index words i) → u ≡ words_stored c v position words (i + 1)
unfolding words_stored
is_more c v w u position i words e f =
    f ∙ ap (λ (z : Knowledge). stored_next c z position (4 + i) (slice_index words i)) e
    ∙ ap (λ (n : ℕ). words_stored c v position words n) (let g : suc i ≡ i + 1 = omega arith in g)

pub is_slot : (c : Config) (v w u : Knowledge) (position first previous : ℕ) (words : List ℕ) → w ≡ linked c v position first previous
    → u ≡ words_stored c w position words 6 → u ≡ slot_built c v position first previous words
unfolding slot_built
is_slot c v w u position first previous words e f = f ∙ ap (λ (z : Knowledge). words_stored c z position words 6) e

-- the first position of the set that is held, by the notes
pub first_there : (v : Knowledge) (position held : ℕ) → v.ring.next ≡ position → held_count v.ring ≡ held → position - held ≡ first_in v
first_there v position held next same = λ i. sym next i - sym same i

-- the steps before the data words, by whether the version is the first of its set
pub link_cost : (first : Bool) (a b d e : ℕ) → b ≡ a + (if first then 2 else 1) → d ≡ b + 1 → e ≡ d + 1 → e ≡ a + (if first then 4 else 3)
link_cost true a b d e begun link super = omega arith
link_cost false a b d e begun link super = omega arith

-- the steps of a build, by whether its version is the first of its set
pub cost_there : (first : Bool) (a b d : ℕ) → b ≡ a + (if first then 4 else 3) → d ≡ b + 6 → d ≡ a + (if first then 10 else 9)
cost_there true a b d links words = omega arith
cost_there false a b d links words = omega arith
