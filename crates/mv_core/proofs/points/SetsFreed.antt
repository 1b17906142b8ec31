-- What holds while the slots of a write set are freed, and of the first free of a set.
use Rattle.std.proofs.Common.{◌≡◌, ◌≢◌, ℕ, ◌<◌, ◌≤◌, Bool, cond, List, sym, ap, ◌∙◌, subst, eq-eqb, arith}
use Rattle.mv_core.proofs.Terms.{State, Writes, Entry, Config, Clock, Memory, link_of, clock_slot_of, Live, Freeing, Version, WriteSetStatus, Committed, Ring}
use Rattle.mv_core.proofs.Terms.{Knowledge, slot_at, index_of, Lives, ViewParts, parts_of}
use Rattle.mv_core.proofs.FactTerms.{ReachesLink, Reaches, ClockIsAfter, FreeingIs, FreesHold, FirstFree, Facts}
use Rattle.mv_core.specs.ReclaimSteps.{MayStoreFree, IsDeadBy, freeing_slot, free_stored}
use Rattle.mv_core.proofs.frames.FrameLaw.{set_at_here}
use Rattle.mv_core.proofs.kinds.reclaiming.store_free.FreedLog as log
use Rattle.mv_core.proofs.kinds.reclaiming.store_free.FreedLog.{IsFreed, not_dead_by}
use Rattle.mv_core.proofs.kinds.reclaiming.store_free.StoreFree.{is_freed}
use Rattle.mv_core.proofs.kinds.walking.Landing.{not_above}
use Rattle.mv_core.proofs.logs.Links.{link_some, next_small, position_small, link_once}
use Rattle.mv_core.proofs.points.Reaching.{reached_are_live, reached_before_death}

module _ {starts : State → Type 0} {allows : List ℕ → State → Writes → Type 0} {c : Config} {start : State} {m : Memory} {h : List Entry}
    (seats : ℕ → Knowledge)
    (k : Facts starts allows c start m h (parts_of seats)) where
  abbrev f : ViewParts
  f = parts_of seats

  module _ (s i p first : ℕ) (at : slot_at (f.ring s) i ≡ Freeing p first) where
    -- the set of a live version begins after what is being freed
    later_sets : (l : ℕ) (x : Version) (st : WriteSetStatus) → Lives f.ring s l x st → p < x.first
    later_sets l x st lives =
        let a = k.write_sets.first s l x st lives in
        subst (λ (q : ℕ). p < q) a.position_is ((k.positions.oldest s i p first at).1 (index_of c x.first) a.version a.status a.lives)

    clock_later : ClockIsAfter m f s p
    clock_later names same =
        let a = k.freed_is_old.named names in
        let lives : Lives f.ring s (clock_slot_of (m Clock)) a.0 (Committed a.1) =
        subst (λ (u : ℕ). Lives f.ring u (clock_slot_of (m Clock)) a.0 (Committed a.1)) same a.2 in
        (a.0, a.1, lives, a.3, later_sets (clock_slot_of (m Clock)) a.0 (Committed a.1) lives)

    unreached : (j t link q : ℕ) → ReachesLink c m f j t link → q ≤ p → link ≢ link_of s q
    unreached j t link q r le is =
        let a = reached_are_live seats k j t link r (λ zero_is. link_some s q (sym is ∙ zero_is)) in
        let used = (k.positions.freeing s i p first at).1 in
        let next = next_small c h f.ring k.checked k.history.in_time k.positions s in
        let small = position_small c h f.ring k.checked k.history.in_time k.positions a.0.seat a.0.slot a.0.version a.0.status a.1.1 in
        let one = link_once c h f.ring k.checked k.history.in_time k.positions a.0.seat s a.0.version.position q small (omega arith) (sym a.1.0 ∙ is) in
        let lives : Lives f.ring s a.0.slot a.0.version a.0.status = subst (λ (u : ℕ). Lives f.ring u a.0.slot a.0.version a.0.status) one.0 a.1.1 in
        let after = (k.positions.oldest s i p first at).1 a.0.slot a.0.version a.0.status lives in
        let same : a.0.version.position ≡ q = one.1 in
        absurd (omega arith)

    freeing_is : FreeingIs c m f s p first
    freeing_is = record {
      after_first = (k.positions.oldest s i p first at).0;
      later_sets = later_sets;
      named_later = λ inside n there mode.
          let r = k.named_commit s inside n there mode in
          subst (λ (q : ℕ). p < q) r.first_is (later_sets (index_of c n.first) r.version (Committed r.note) r.lives);
      clock_later = clock_later;
      unreached = unreached;
      round = k.positions_and_grace.freeing s i p first at;
    }

  -- no section reaches what is dead by its seat's watermark
  dead_unreached : (s i : ℕ) (x : Version) (st : WriteSetStatus) → Lives f.ring s i x st → IsDeadBy (f.grace s) st → (j t : ℕ)
      → ¬ (Reaches c m f j t (record { seat = s; slot = i; version = x; status = st }))
  dead_unreached s i x st lives dead j t reaches =
      not_dead_by t (f.grace s) st (reached_before_death seats k j t (record { seat = s; slot = i; version = x; status = st }) reaches) dead
      (not_above (f.grace s) j t f.time (k.grace.views s).1 reaches.1.in_section)

  pub frees_hold : FreesHold c m h f
  frees_hold = record { freeing = freeing_is; dead = dead_unreached; old = k.freed_is_old.writes }

  module _ (n : ℕ) (own : (seats n).number ≡ n) (position : ℕ) (x : Version) (st : WriteSetStatus) (may : MayStoreFree c (seats n) position)
      (at : slot_at (seats n).ring (index_of c position) ≡ Live x st) where
    abbrev v : Knowledge
    v = seats n

    abbrev r : Ring
    r = (free_stored c v position).ring

    freed : IsFreed c f v.number position r
    freed = is_freed seats k v (ap seats own) position may

    -- the log after the step
    lives_after : (l : ℕ) (y : Version) (su : WriteSetStatus) → slot_at r l ≡ Live y su → Lives (log.later k v.number position r freed) v.number l y su
    lives_after l y su e = ap (λ (q : Ring). slot_at q l) (set_at_here f.ring v.number r) ∙ e

    -- what was in the log before it
    lives_before : (l : ℕ) (y : Version) (su : WriteSetStatus) → slot_at v.ring l ≡ Live y su → Lives f.ring v.number l y su
    lives_before l y su e = ap (λ (w : Knowledge). slot_at w.ring l) (ap seats own) ∙ e

    pub first_free : FirstFree c v position x
    first_free =
        let a = log.at_slot k v.number position r freed x st (lives_before (index_of c position) x st at) in
        record {
          position_is = a.0;
          first_is = a.1;
          dead = λ l y su lives same. subst (λ (w : Knowledge). IsDeadBy w.grace su) (ap seats own) (freed.dead l y su (lives_before l y su lives) same);
          gone = λ l y su lives. log.not_of_set k v.number position r freed l y su (lives_after l y su lives);
          freed = freed.here;
          freeing = λ l y su lives same ne.
              freed.apart l ne
              ∙ ap (freeing_slot position) (lives_before l y su lives)
              ∙ ap (λ (b : Bool). cond b (Freeing y.position y.first) (Live y su)) (eq-eqb y.first position same)
              ∙ ap (Freeing y.position) same;
        }
