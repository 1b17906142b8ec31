-- The log stands for the pass: in a new domain, after steps that leave the own log alone, after a won lock, and after a commit or an abort.
use Rattle.std.proofs.Common.{◌≡◌, ◌≢◌, ℕ, ◌+◌, ◌<◌, ◌≤◌, nat_le, true, count_by, [], ◌∷◌, ◌++◌, length, refl}
use Rattle.std.proofs.Common.{sym, ap, ◌∙◌, subst, ⊎_elim, arith, le-leb, length-append, Some, slice_get}
use Rattle.std.proofs.lemmas.List.{length-set}
use mathlib.Core.Logic.{dite}
use native.Mathlib.Decide.{ℕ_discrete}
use Rattle.mv_layout.specs.declared.Config.{Config}
use Rattle.reader_marks.specs.mv_core.declared.ring.Ring.{Ring}
use Rattle.reader_marks.specs.mv_core.declared.ring.Slot.{Slot}
use Rattle.reader_marks.specs.mv_core.declared.ring.Slot.TheVariants.{Free, Built, Live, Freeing}
use Rattle.reader_marks.specs.mv_core.declared.ring.WriteSetStatus.TheVariants.{Held}
use Rattle.reader_marks.specs.mv_core.declared.view.Knowledge.{Knowledge}
use Rattle.reader_marks.specs.mv_core.Rings.{slot_at, index_of, put_slot, is_held, held_count, is_spare, spare_count, set_first}
use Rattle.reader_marks.specs.mv_core.LockSteps.{locked_version, head_locked}
use Rattle.reader_marks.proofs.mv_core_lemmas.logs.Slots.{slot_here, slot_else, slot_within}
use Rattle.reader_marks.proofs.mv_core_lemmas.logs.Counts.{count_same, count_less, held_more}
use Rattle.seat_log.specs.declared.version.Note.{Note}
use Rattle.seat_log.specs.Notes.{Noted, next_of, held_from, built_list, IsNextOf, held_noted}
use Rattle.seat_log.specs.Stands.{version_of, IsAsNoted, HasNoted, HasBuilt, is_cut, cut_count, is_free, is_won_cut, is_won_lock, writes_in, Stands}
use Rattle.seat_log.proofs.Places.{push_before}
use Rattle.seat_log.proofs.Noting.{built_next, held_is_log}
use Rattle.seat_log.proofs.BuildsOn.{unpassed}
use Rattle.seat_log.proofs.FreedSlots.{passed}
use Rattle.seat_log.proofs.StepCounts.{KeepsLocks, aborts_kept, ends_last}

-- after steps that leave the own log, its commits and its rests alone, free no slot, cut no chain, lock nothing and give nothing up
pub stands_same : (c : Config) (v w : Knowledge) (l : Noted) → w.number ≡ v.number → w.ring ≡ v.ring → w.past.mine ≡ v.past.mine
    → w.past.rests ≡ v.past.rests → count_by is_free w.trail ≡ count_by is_free v.trail
    → count_by is_won_cut w.trail ≡ count_by is_won_cut v.trail → KeepsLocks v.trail w.trail → Stands c v l → Stands c w l
stands_same c v w l number ring mine rests frees backs keeps k = record {
  seat = k.seat ∙ sym number;
  slots = k.slots;
  wide = subst (λ (r : Ring). length r.slots ≡ c.slots) (sym ring) k.wide;
  log = k.log;
  next = subst (λ (r : Ring). r.next ≡ next_of l) (sym ring) k.next;
  held = subst (λ (r : Ring). held_count r ≡ l.held) (sym ring) k.held;
  live = λ i n e. subst (λ (r : Ring). HasNoted c r (l.freed + i) (nat_le (held_from l) i) n) (sym ring) (k.live i n e);
  all = λ j x st e. k.all j x st (subst (λ (r : Ring). slot_at r j ≡ Live x st) ring e);
  none_freeing = λ j p first e. k.none_freeing j p first (subst (λ (r : Ring). slot_at r j ≡ Freeing p first) ring e);
  builds = λ j b e. k.builds j b (subst (λ (r : Ring). slot_at r j ≡ Built b) ring e);
  built = subst (λ (r : Ring). HasBuilt c r l.built) (sym ring) k.built;
  spare = subst (λ (r : Ring). spare_count r + length l.live ≡ c.slots) (sym ring) k.spare;
  commits = k.commits ∙ ap length (sym mine);
  rests = k.rests ∙ sym rests;
  frees = k.frees ∙ sym frees;
  backs = k.backs ∙ sym backs;
  locks = k.locks ∙ sym keeps.locks;
  aborts = k.aborts ∙ sym keeps.aborts;
  settled = keeps.settled k.settled;
  cuts = subst (λ (r : Ring). l.back ≤ l.freed + cut_count r) (sym ring) k.cuts;
  used = subst (λ cs. writes_in cs + l.held ≤ next_of l) (sym mine) k.used;
  all_used = λ none. k.all_used none ∙ ap (λ cs. writes_in cs + l.held) (sym mine);
}

-- after a won lock of the built version, with what it was built with
module _ (c : Config) (v : Knowledge) (l : Noted) (n : Note) (k : Stands c v l) (built : l.built ≡ Some n) where
  abbrev s : ℕ
  s = index_of c n.position

  -- the version that the lock holds is the noted one
  version_is : locked_version v n.object n.previous n.position n.words ≡ version_of n
  version_is =
      let is = built_next l n built k.log in
      let held = k.held in
      let next = k.next in
      let first : set_first v.ring ≡ n.first = (let f = is.1 in omega arith) in
      λ i. record { position = n.position; first = first i; object = n.object; previous = n.previous; words = n.words }

  pub stands_locked : Stands c (head_locked c v n.object n.previous n.position n.words) (held_noted l)
  stands_locked =
      let is : IsNextOf l n = built_next l n built k.log in
      let o : HasBuilt c v.ring (Some n) = subst (HasBuilt c v.ring) built k.built in
      let at : n.position ≡ v.ring.next = is.0 ∙ sym k.next in
      let s : ℕ = index_of c n.position in
      let here : slot_at v.ring s ≡ Built o.0 = ap (λ p. slot_at v.ring (index_of c p)) at ∙ o.1 in
      let z : Slot = Live (locked_version v n.object n.previous n.position n.words) Held in
      let z_is : z ≡ Live (version_of n) Held = ap (λ x. Live x Held) version_is in
      let within : s < length v.ring.slots = slot_within v.ring s (λ free. let f : Free ≡ Built o.0 = sym free ∙ here in absurd (cc)) in
      let live : l.live ++ built_list l.built ≡ l.live ++ n ∷ [] = ap (λ p. l.live ++ built_list p) built in
      let long : length (l.live ++ built_list l.built) ≡ length l.live + 1 = ap length live ∙ length-append l.live (n ∷ []) in
      let few = k.log.held in
      let from : held_from (held_noted l) ≡ held_from l = omega arith in
      let next : next_of (held_noted l) ≡ next_of l + 1 = omega arith in
      let old_next = k.next in
      let spared : spare_count (put_slot v.ring s z) + 1 ≡ spare_count v.ring = count_less v.ring s z within is_spare (ap is_spare here) refl in
      let used_before = k.used in
      let spare_before = k.spare in
      let won : count_by is_won_lock (head_locked c v n.object n.previous n.position n.words).trail ≡ count_by is_won_lock v.trail + 1 =
      passed is_won_lock v.trail _ refl in record {
        seat = k.seat;
        slots = k.slots;
        wide = length-set v.ring.slots s z ∙ k.wide;
        log = held_is_log l n built k.log;
        next = (let e : n.position + 1 ≡ next_of (held_noted l) = (let p = is.0 in omega arith) in e);
        held = held_more v.ring s z within (ap is_held here) refl ∙ ap (λ m. m + 1) k.held;
        live = λ i m e.
            ⊎_elim
            (λ a.
            let h = k.live i m a.1 in
            let ne : index_of c (l.freed + i) ≢ s = λ f. let g : Built o.0 ≡ Live (version_of m) h.status = sym here ∙ ap (slot_at v.ring) (sym f) ∙ h.lives in
            absurd (cc) in
            record {
              status = h.status;
              lives = slot_else v.ring s (index_of c (l.freed + i)) z ne ∙ h.lives;
              as_noted = subst (λ j. IsAsNoted (nat_le j i) m h.status) (sym from) h.as_noted;
            })
            (λ b.
            let there : l.freed + i ≡ n.position = ap (λ j. l.freed + j) b.0 ∙ sym is.0 in
            let flag : nat_le (held_from (held_noted l)) i ≡ true = le-leb (held_from (held_noted l)) i (let q = b.0 in omega arith) in
            record {
              status = Held;
              lives = ap (λ p. slot_at (put_slot v.ring (index_of c n.position) z) (index_of c p)) there ∙ slot_here v.ring s z within ∙ z_is
                  ∙ ap (λ (x : Note). Live (version_of x) Held) (sym b.1);
              as_noted = (flag, ap (λ (x : Note). x.time) b.1 ∙ is.2, ap (λ (x : Note). x.dead) b.1 ∙ is.3);
            })
            (push_before l.live n i m (ap (λ ns. slice_get ns i) (sym live) ∙ e));
        all = λ j x st e.
            dite (ℕ_discrete j s)
            (λ at_s. (length l.live, (omega arith), at_s ∙ ap (index_of c) is.0))
            (λ ne. let r = k.all j x st (sym (slot_else v.ring s j z ne) ∙ e) in let lt = r.1 in (r.0, (omega arith), r.2));
        none_freeing = λ j p first e. k.none_freeing j p first (was z within j (Freeing p first) (λ f. absurd (cc)) e);
        builds = λ j b e. k.builds j b (was z within j (Built b) (λ f. absurd (cc)) e);
        built = tt;
        spare = (omega arith);
        commits = k.commits;
        rests = k.rests;
        frees = k.frees ∙ sym (unpassed is_free v.trail _ refl);
        backs = k.backs ∙ sym (unpassed is_won_cut v.trail _ refl);
        locks = (let old = k.locks in let one = won in omega arith);
        aborts = k.aborts ∙ sym (aborts_kept v.trail _ refl);
        settled = ends_last v.trail _;
        cuts = subst (λ m. l.back ≤ l.freed + m) (sym (count_same v.ring s z within is_cut (sym (ap is_cut here)))) k.cuts;
        used = (omega arith);
        all_used = λ none. let all = k.all_used none in (omega arith);
      }
    where
      was : (z : Slot) (within : index_of c n.position < length v.ring.slots) (j : ℕ) (y : Slot) → (z ≢ y)
          → slot_at (put_slot v.ring (index_of c n.position) z) j ≡ y → slot_at v.ring j ≡ y
      was z within j y other e =
          dite (ℕ_discrete j (index_of c n.position))
          (λ at_s.
          absurd (other (sym (slot_here v.ring (index_of c n.position) z within) ∙ ap (slot_at (put_slot v.ring (index_of c n.position) z)) (sym at_s) ∙ e)))
          (λ ne. sym (slot_else v.ring (index_of c n.position) j z ne) ∙ e)
