-- A won exchange of a lock, in the log of its seat: the slot that was built holds a version now, and the next position is used.
use Rattle.std.proofs.Common.{◌≡◌, ◌≢◌, ◌⊎◌, ℕ, ◌+◌, ◌<◌, ◌≤◌, cond, List, length, refl, sym, ap, ◌∙◌, subst, inl, inr, le_refl, arith, Option, Some, None}
use Rattle.std.specs.Prelude.{slice_index_or, slice_set}
use Rattle.std.proofs.lemmas.List.{get_or-map, get_or_past, length-map}
use Rattle.std.proofs.lemmas.List.Sums.{get_or-le-sum_by}
use Rattle.mv_core.proofs.Terms.{dite, ℕ_discrete, dec_lt, Entry, State, Writes, Config, Clock, First, Stamp, Prev, Super, Data, unset_of, Memory, Ring, Slot}
use Rattle.mv_core.proofs.Terms.{Free, Built, Live, Build, Version, WriteSetStatus, Held, Committed, CommitNote, Knowledge, OwnSection, slot_at, index_of}
use Rattle.mv_core.proofs.Terms.{is_held, held_count}
use Rattle.mv_core.proofs.Terms.{set_first, HoldsNothing, Lives, HasFirst, section_of, parts_of, set_at}
use Rattle.mv_core.proofs.FactTerms.{IsStored, HoldsBuild, HoldsSlot, SlotWords, StampedAs, Stamps, InHeldSet, InSet, IsHeldOrAborted, WriteSets}
use Rattle.mv_core.proofs.FactTerms.{Facts}
use Rattle.mv_core.specs.LockSteps.{MayLock, locked_version, head_locked}
use Rattle.mv_core.proofs.frames.FrameLaw.{set_at_here, set_at_else, set_at_all}
use Rattle.mv_core.proofs.frames.CommittedKept.{KeepsCommitted, commit_kept}
use Rattle.mv_core.proofs.frames.ClocksLoaded.{slot_in}
use Rattle.mv_core.proofs.logs.HeldSet.{HeldSet, held_set}
use Rattle.mv_core.proofs.logs.Links.{live_once}
use Rattle.mv_core.proofs.history.SectionWords.{section_is}
use Rattle.mv_core.proofs.logs.Slots.{slots_after, at_here, lives_else}

-- where none is counted nothing is held
pub none_held : (r : Ring) → held_count r ≡ 0 → HoldsNothing r
none_held r none k x e =
    dite (dec_lt k (length r.slots))
    (λ lt.
    let weight : Slot → ℕ = λ s. cond (is_held s) 1 0 in
    let some : weight (slot_at r k) ≤ held_count r = get_or-le-sum_by weight r.slots k Free lt in
    let one : weight (slot_at r k) ≡ 1 = ap weight e in
    omega arith)
    (λ past. let free : Live x Held ≡ Free = sym e ∙ get_or_past r.slots k Free (omega arith) in cc)

module _ {starts : State → Type 0} {allows : List ℕ → State → Writes → Type 0} {c : Config} {start : State} {m : Memory} {h : List Entry}
    (seats : ℕ → Knowledge)
    (k : Facts starts allows c start m h (parts_of seats))
    (v : Knowledge) (is : seats v.number ≡ v) (own : v.number < c.seats) (write_max object previous position : ℕ) (words : List ℕ) (b : Build)
    (inside : OwnSection)
    (may : MayLock c write_max v object previous position words b inside) where
  abbrev pub rings : ℕ → Ring
  rings s = (seats s).ring

  abbrev pub n : ℕ
  n = v.number

  abbrev pub slot : ℕ
  slot = index_of c position

  -- the version that is held now
  abbrev pub x : Version
  x = locked_version v object previous position words

  abbrev pub ring_now : Ring
  ring_now = (head_locked c v object previous position words).ring

  abbrev pub later : ℕ → Ring
  later = set_at rings n ring_now

  pub written : ring_now.slots ≡ slice_set (rings n).slots slot (Live x Held)
  written = ap (λ (u : Knowledge). slice_set u.ring.slots slot (Live x Held)) (sym is)

  pub within : slot < length (rings n).slots
  within = subst (λ (l : ℕ). slot < l) (sym (k.positions.wide n)) (slot_in c k.checked position)

  pub next_is : (rings n).next ≡ position
  next_is = ap (λ (u : Knowledge). u.ring.next) is ∙ sym may.next

  pub was_built : slot_at (rings n) slot ≡ Built b
  was_built = ap (λ (u : Knowledge). slot_at u.ring slot) is ∙ may.build

  -- what holds of the new version, and of each one as it was, holds of all
  pub each_live : (P : ℕ → ℕ → Version → WriteSetStatus → Type 0) → P n slot x Held
      → ((s j : ℕ) (y : Version) (st : WriteSetStatus) → Lives rings s j y st → P s j y st)
      → (s j : ℕ) (y : Version) (st : WriteSetStatus) → Lives later s j y st → P s j y st
  each_live P here rest =
      slots_after rings n slot (Live x Held) ring_now written within (λ s j z. (y : Version) (st : WriteSetStatus) → z ≡ Live y st → P s j y st)
      (λ y st e. let same : (x ≡ y) × (Held ≡ st) = live_once (Live x Held) x y Held st refl e in
      subst (λ (w : Version). P n slot w st) same.0 (subst (P n slot x) same.1 here))
      (λ s j ne. rest s j)

  -- the new version
  pub lives_new : Lives later n slot x Held
  lives_new = at_here rings n slot (Live x Held) ring_now written within

  -- each one stays
  pub lives_still : (s j : ℕ) (y : Version) (st : WriteSetStatus) → Lives rings s j y st → Lives later s j y st
  lives_still s j y st lives =
      lives_else rings n slot (Live x Held) ring_now written within s j y st
      (λ at. let there : slot_at (rings n) slot ≡ Live y st = subst (λ (p : ℕ × ℕ). slot_at (rings p.0) p.1 ≡ Live y st) (λ i. (at.0 i, at.1 i)) lives in
      let none : Built b ≡ Live y st = sym was_built ∙ there in cc)
      lives

  pub next_here : (later n).next ≡ position + 1
  next_here = ap (λ (r : Ring). r.next) (set_at_here rings n ring_now)

  pub next_else : (s : ℕ) → s ≢ n → (later s).next ≡ (rings s).next
  next_else s ne = ap (λ (r : Ring). r.next) (set_at_else rings n ring_now s ne)

  -- the positions of the versions before are below the new one's
  below_next : (j : ℕ) (y : Version) (st : WriteSetStatus) → Lives rings n j y st → y.position < position
  below_next j y st lives = let p = (k.positions.live n j y st lives).1 in let e = next_is in omega arith

  pub kept : KeepsCommitted rings later
  kept = record {
    was = λ s j y note lives. each_live (λ s j y st. (note : CommitNote) → st ≡ Committed note → Lives rings s j y (Committed note)) (λ note e. absurd (cc))
        (λ s j y st lives note e. subst (Lives rings s j y) e lives) s j y (Committed note) lives note refl;
    still = λ s j y note. lives_still s j y (Committed note);
    alive = λ s j y st lives. (y, st, lives_still s j y st lives, refl);
    known = each_live (λ s j y st. ((z : Version) × (su : WriteSetStatus) × Lives rings s j z su × (z.position ≡ y.position)) ⊎ ((rings s).next ≤ y.position))
        (inr (let e = next_is in omega arith)) (λ s j y st lives. inl (y, st, lives, refl));
    grows = set_at_all (λ s r. (rings s).next ≤ r.next) rings n ring_now (let e = next_is in omega arith) (λ s ne. le_refl (rings s).next);
  }

  -- the write set begins here, or with the versions held
  pub by_set : {A : Type 0} → (HoldsNothing (rings n) → x.first ≡ position → A) → ((set : HeldSet c rings n) → set.first ≡ x.first → A) → A
  by_set none some =
      dite (ℕ_discrete (held_count (rings n)) 0)
      (λ e. none (none_held (rings n) e) (let next = may.next in let same : held_count v.ring ≡ 0 = ap (λ (u : Knowledge). held_count u.ring) (sym is)
      ∙ e in omega arith))
      (λ ne.
      let section = section_is seats v inside k is may.walking.phase in
      let set = held_set c h (λ s. section_of (seats s).phase) rings n inside k.checked k.positions k.write_sets k.open_section section
      may.walking.open_is (omega arith) in
      some set (sym set.first_is ∙ ap (λ (u : Knowledge). set_first u.ring) is))

  pub first_le : x.first ≤ position
  first_le = let e = may.next in omega arith

  -- each version that the seat holds is of that set
  pub same_first : (j : ℕ) (y : Version) → Lives rings n j y Held → y.first ≡ x.first
  same_first j y lives = by_set (λ none _. absurd (none j y lives)) (λ set e. (set.all j y lives).0 ∙ e)

  pub first_there : HasFirst later c n x
  first_there =
      by_set
      (λ none e. record {
        version = x;
        status = Held;
        lives = subst (λ (p : ℕ). Lives later n (index_of c p) x Held) (sym e) lives_new;
        position_is = sym e;
        first_is = refl;
      })
      (λ set e.
      let a = set.at set.first (le_refl set.first) set.some in
      record {
        version = a.0;
        status = Held;
        lives = lives_still n (index_of c x.first) a.0 Held (subst (λ (p : ℕ). Lives rings n (index_of c p) a.0 Held) e a.1);
        position_is =
            a.2 ∙ e;
        first_is = a.3 ∙ e;
      })

  -- the positions from the first one on are of the set
  pub in_set : (p : ℕ) → x.first ≤ p → p < position + 1 → InHeldSet c later n x.first p (λ st. st ≡ Held)
  in_set p lo hi =
      dite (ℕ_discrete p position)
      (λ e. record {
        version = x;
        status = Held;
        lives = subst (λ (q : ℕ). Lives later n (index_of c q) x Held) (sym e) lives_new;
        position_is = sym e;
        first_is = refl;
        known = refl;
      })
      (λ ne.
      by_set
      (λ none e. absurd (omega arith))
      (λ set e.
      let next = next_is in
      let a = set.at p (omega arith) (omega arith) in
      record { version = a.0; status = Held; lives = lives_still n (index_of c p) a.0 Held a.1; position_is = a.2; first_is = a.3 ∙ e; known = refl }))

  stays_in : (s first p : ℕ) (P : WriteSetStatus → Type 0) → InHeldSet c rings s first p P → InHeldSet c later s first p P
  stays_in s first p P a =
      record {
        version = a.version;
        status = a.status;
        lives = lives_still s (index_of c p) a.version a.status a.lives;
        position_is = a.position_is;
        first_is = a.first_is;
        known = a.known;
      }

  -- what holds of each seat's held versions, where the seat that locked has one set
  pub each_set : (P : WriteSetStatus → Type 0) → P Held → (s j : ℕ) (y : Version) → Lives later s j y Held
      → (s ≢ n → Lives rings s j y Held → (p : ℕ) → y.first ≤ p → p < (rings s).next → InHeldSet c rings s y.first p P) → (p : ℕ) → y.first ≤ p
      → p < (later s).next → InHeldSet c later s y.first p P
  each_set P held s j y lives other p lo hi =
      dite (ℕ_discrete s n)
      (λ e.
      let of_set : y.first ≡ x.first =
      each_live (λ t i z st. t ≡ n → st ≡ Held → z.first ≡ x.first) (λ _ _. refl)
      (λ t i z st l at f. same_first i z (subst (λ (u : ℕ). Lives rings u i z Held) at (subst (Lives rings t i z) f l))) s j y Held lives e refl in
      let most : p < position + 1 = subst (λ (u : ℕ). p < u) (ap (λ (t : ℕ). (later t).next) e ∙ next_here) hi in
      let a = in_set p (subst (λ (u : ℕ). u ≤ p) of_set lo) most in
      record {
        version = a.version;
        status = a.status;
        lives = subst (λ (t : ℕ). Lives later t (index_of c p) a.version a.status) (sym e) a.lives;
        position_is = a.position_is;
        first_is = a.first_is ∙ sym of_set;
        known = subst P (sym a.known) held;
      })
      (λ ne.
      let before : Lives rings s j y Held = subst (λ (r : Ring). slot_at r j ≡ Live y Held) (set_at_else rings n ring_now s ne) lives in
      stays_in s y.first p P (other ne before p lo (subst (λ (u : ℕ). p < u) (next_else s ne) hi)))

  pub sets_after : WriteSets c h later
  sets_after = record {
    commit = λ s j y note lives. commit_kept rings later kept c h s y note (k.write_sets.commit s j y note (kept.was s j y note lives));
    once = λ s j l y z note other a d. k.write_sets.once s j l y z note other (kept.was s j y note a) (kept.was s l z other d);
    first = each_live (λ s j y st. HasFirst later c s y) first_there
        (λ s j y st lives. let a = k.write_sets.first s j y st lives in
        record {
          version = a.version;
          status = a.status;
          lives = lives_still s _ a.version a.status a.lives;
          position_is = a.position_is;
          first_is = a.first_is;
        });
    after_first = each_live (λ s j y st. y.first ≤ y.position) first_le k.write_sets.after_first;
    between = each_live (λ s j y st. (p : ℕ) → y.first ≤ p → p ≤ y.position → InSet c later s y.first p)
        (λ p from to.
        let a = in_set p from (omega arith) in
        record { version = a.version; status = a.status; lives = a.lives; position_is = a.position_is; first_is = a.first_is; known = tt })
        (λ s j y st lives p from to. stays_in s y.first p (λ st. Unit {0}) (k.write_sets.between s j y st lives p from to));
    apart = λ s j l y z st note a fate d.
        each_live (λ s j y st. IsHeldOrAborted st → Lives rings s l z (Committed note) → y.first ≢ z.first)
        (λ _ other same.
        by_set
        (λ none e. let low = below_next l z (Committed note) other in let first = k.write_sets.after_first n l z (Committed note) other in omega arith)
        (λ set e. let a = set.at set.first (le_refl set.first) set.some in
        k.write_sets.apart n (index_of c set.first) l a.0 z Held note a.1 tt other (a.3 ∙ e ∙ same)))
        (λ s j y st lives fate other. k.write_sets.apart s j l y z st note lives fate other)
        s j y st a fate (kept.was s l z note d);
    held = λ s j y lives. each_set IsHeldOrAborted tt s j y lives (λ ne before. k.write_sets.held s j y before);
  }

  -- the words of the new version's slot
  pub words_after : SlotWords (λ s j. m (First s j)) (λ s j. m (Prev s j)) (λ s j w. m (Data s j w)) later
  words_after =
      slots_after rings n slot (Live x Held) ring_now written within (λ s j z. HoldsSlot (m (First s j)) (m (Prev s j)) (λ i. m (Data s j i)) z)
      (let old : HoldsBuild (m (First n slot)) (m (Prev n slot)) (λ i. m (Data n slot i)) b = subst
      (HoldsSlot (m (First n slot)) (m (Prev n slot)) (λ i. m (Data n slot i))) was_built (k.slot_words n slot) in
      let wide : length x.words ≡ 6 = sym (length-map x.words Some) ∙ ap length (sym may.words_are) ∙ old.wide in
      record {
        first_is = subst (λ (o : Option ℕ). IsStored o (m (First n slot))) may.first old.first_is;
        prev_is = subst (λ (o : Option ℕ). IsStored o (m (Prev n slot))) may.previous_is old.prev_is;
        wide = wide;
        words = λ i lt. subst (λ (o : Option ℕ). IsStored o (m (Data n slot i)))
            (ap (λ (ws : List (Option ℕ)). slice_index_or ws i None) may.words_are ∙ get_or-map Some x.words i 0 None (omega arith)) (old.words i lt);
      })
      (λ s j ne. k.slot_words s j)

  stamp_new : m (Stamp n (index_of c x.first)) ≡ unset_of x.first
  stamp_new =
      by_set
      (λ none e.
      let stored : m (Stamp n slot) ≡ unset_of position =
      subst (λ (o : Option ℕ). IsStored o (m (Stamp n slot))) (may.stamp e) (k.stamps.built n slot b was_built) in
      ap (λ (p : ℕ). m (Stamp n (index_of c p))) e ∙ stored ∙ ap unset_of (sym e))
      (λ set e.
      let a = set.at set.first (le_refl set.first) set.some in
      subst (λ (p : ℕ). m (Stamp n (index_of c p)) ≡ unset_of p) (a.3 ∙ e) (k.stamps.live n (index_of c set.first) a.0 Held a.1))

  pub stamps_after : Stamps c (m Clock) (λ s j. m (Stamp s j)) later
  stamps_after = record {
    live = each_live (λ s j y st. StampedAs (m Clock) s (index_of c y.first) (m (Stamp s (index_of c y.first))) y.first st) stamp_new k.stamps.live;
    built = slots_after rings n slot (Live x Held) ring_now written within (λ s j z. (d : Build) → z ≡ Built d → IsStored d.stamp (m (Stamp s j)))
        (λ d e. absurd (cc)) (λ s j ne. k.stamps.built s j);
  }

  -- SUPER of the new version is 0
  pub super_new : m (Super n slot) ≡ 0
  super_new = subst (λ (o : Option ℕ). IsStored o (m (Super n slot))) may.successor (k.successors.built n slot b was_built)

  pub built_was : (s j : ℕ) (d : Build) → slot_at (later s) j ≡ Built d → (slot_at (rings s) j ≡ Built d) × (s ≢ n)
  built_was =
      slots_after rings n slot (Live x Held) ring_now written within (λ s j z. (d : Build) → z ≡ Built d → (slot_at (rings s) j ≡ Built d) × (s ≢ n))
      (λ d e. absurd (cc))
      (λ s j ne d e. (
        e,
        λ at.
            let there : slot_at (rings n) j ≡ Built d = subst (λ (t : ℕ). slot_at (rings t) j ≡ Built d) at e in
            let slot_is : slot ≡ j = ap (index_of c) (sym next_is) ∙ k.positions.built n j d there in ne (at, sym slot_is),
      ))
