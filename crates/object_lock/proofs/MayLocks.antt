-- A version that was built may be locked: its slot has what the log has noted.
use Rattle.std.proofs.Common.{◌≡◌, ℕ, ◌-◌, ◌<◌, List, [], ◌∷◌, map, refl, sym, ap, ◌∙◌, subst, arith, Option, Some}
use Rattle.std.specs.Prelude.{unwrap_or}
use Rattle.mv_layout.specs.declared.Config.{Config}
use Rattle.mv_layout.specs.Words.{unset_of}
use Rattle.seat_log.specs.mv_core.declared.ring.Slot.{Slot}
use Rattle.seat_log.specs.mv_core.declared.ring.Slot.TheVariants.{Built}
use Rattle.seat_log.specs.mv_core.declared.ring.Build.{Build}
use Rattle.seat_log.specs.mv_core.declared.view.Knowledge.{Knowledge}
use Rattle.seat_log.specs.mv_core.Rings.{slot_at, index_of, set_first}
use Rattle.seat_log.specs.mv_core.LockSteps.{nothing_built, build_in, StandsToLock, MayLock}
use Rattle.seat_log.proofs.Noting.{built_next}
use Rattle.seat_log.specs.declared.version.Note.{Note}
use Rattle.seat_log.specs.Notes.{Noted, IsNextOf}
use Rattle.seat_log.specs.Stands.{IsAllStored, HasBuilt, Stands}
use Rattle.seat_log.specs.Builds.{build_at}
use Rattle.version_chain.specs.Walks.{MayWalk, section_in}
use Rattle.object_lock.specs.Locks.{HoldsObject, stored_words, IsBuiltFor}
use Rattle.object_lock.proofs.OwnNotes.{unheld_is}

-- words that were stored
some_words : (ws : List ℕ) → map (λ (word : Option ℕ). unwrap_or word 0) (map Some ws) ≡ ws
some_words [] = refl
some_words (w ∷ ws) = ap (λ l. w ∷ l) (some_words ws)

module _ {words : List ℕ} (c : Config) (v : Knowledge) (l : Noted) (object previous position : ℕ) (s : Stands c v l)
    (is : IsBuiltFor l position object previous words) where
  abbrev n : Note
  n = is.0

  pub next_noted : IsNextOf l n
  next_noted = built_next l n is.1 s.log

  whole : (b : Build) × (slot_at v.ring (index_of c v.ring.next) ≡ Built b) × IsAllStored b n
  whole = subst (HasBuilt c v.ring) is.1 s.built

  pub position_next : position ≡ v.ring.next
  position_next = let a = is.2 in let b = next_noted.0 in let d = s.next in omega arith

  there : slot_at v.ring (index_of c position) ≡ Built whole.0
  there = ap (λ (p : ℕ). slot_at v.ring (index_of c p)) position_next ∙ whole.1

  build_is : build_at c v position ≡ whole.0
  build_is = ap (λ (z : Slot). unwrap_or (build_in z) nothing_built) there

  pub built_there : slot_at v.ring (index_of c position) ≡ Built (build_at c v position)
  built_there = there ∙ ap Built (sym build_is)

  pub first_noted : n.first ≡ set_first v.ring
  first_noted = let a = next_noted.1 in let b = s.next in let d = s.held in omega arith

  pub first_is : (first held : ℕ) → held ≡ l.held → first ≡ position - held → first ≡ set_first v.ring
  first_is first held e f = let a = position_next in let d = s.held in omega arith

  -- what was stored into its slot are the words that were noted
  pub stored_are : stored_words (build_at c v position) ≡ words
  stored_are =
      let some : (build_at c v position).words ≡ map Some words = ap (λ (b : Build). b.words) build_is ∙ whole.2.words ∙ ap (map Some) is.5 in
      ap (map (λ (word : Option ℕ). unwrap_or word 0)) some ∙ some_words words

  pub may_lock : (write_max : ℕ) → MayWalk v → object < c.objects → StandsToLock v (section_in v) object previous → ¬ (HoldsObject l object)
      → l.held < write_max → MayLock c write_max v object previous position (stored_words (build_at c v position)) (build_at c v position) (section_in v)
  may_lock write_max may range stands unheld few =
      let w = whole.2 in record {
        walking = may;
        in_range = range;
        stands = stands;
        unheld = unheld_is c v l s object unheld;
        room = (let e = s.held in omega arith);
        next = position_next;
        build = built_there;
        first = ap (λ (b : Build). b.first) build_is ∙ w.first ∙ ap Some first_noted;
        stamp = λ e. ap (λ (b : Build). b.stamp) build_is ∙ w.stamp (first_noted ∙ e ∙ sym is.2) ∙ ap (λ (p : ℕ). Some (unset_of p)) is.2;
        previous_is = ap (λ (b : Build). b.previous) build_is ∙ w.previous ∙ ap Some is.4;
        successor = ap (λ (b : Build). b.successor) build_is ∙ w.successor;
        words_are = ap (λ (b : Build). b.words) build_is ∙ w.words ∙ ap (map Some) is.5 ∙ ap (map Some) (sym stored_are);
      }
