-- store STAMP 0 (free), in the walks and sections: no walk stands at a version that was dropped, nor at an aborted one that links to such a version, since
-- both are dead by every section's time.
use Rattle.std.proofs.Common.{◌≡◌, ◌≢◌, ℕ, ◌<◌, ◌≤◌, List, refl, sym, ap, ◌∙◌, subst, inl, inr, ⊎_elim, arith, Some}
use Rattle.mv_core.proofs.Terms.{Entry, State, Writes, Config, Clock, Master, Stamp, clock_time_of, clock_seat_of, clock_slot_of, unset_of, Memory, Ring}
use Rattle.mv_core.proofs.Terms.{Version, WriteSetStatus, Held, Aborted, Committed, WalkStage, Stand, FoundStamp, index_of, Lives, Names, latest_at, ViewParts}
use Rattle.mv_core.specs.declared.view.WalkStage.TheVariants as walk
use Rattle.mv_core.proofs.FactTerms.{BelowIsStamped, UnstampedIsUnfinished, IsFound, FoundStamps, NamedCommit, StampedPastHelp, MasterServes}
use Rattle.mv_core.proofs.FactTerms.{MayStandAt, StandsRight, WalkerPlace, WalkerBeforeDeath, WalkerKnowledge, WalkerFalls, WriteBacks, Facts}
use Rattle.mv_core.proofs.frames.KeptRecords.{same_back, same_named}
use Rattle.mv_core.proofs.logs.Slots.{here_or_else}
use Rattle.mv_core.proofs.kinds.walking.Landing.{not_above}
use Rattle.mv_core.proofs.logs.SlotWords.{slot_word_here}
use Rattle.mv_core.proofs.kinds.reclaiming.store_free.FreedLog as log
use Rattle.mv_core.proofs.kinds.reclaiming.store_free.FreedLog.{IsFreed, IsDropped, not_dead_by}
use Rattle.mv_core.proofs.kinds.reclaiming.store_free.FreedSets as sets
use Rattle.mv_core.proofs.kinds.reclaiming.store_free.FreedChains as chain

module _ {starts : State → Type 0} {allows : List ℕ → State → Writes → Type 0} {c : Config} {start : State} {m : Memory} {h : List Entry} {f : ViewParts}
    (k : Facts starts allows c start m h f) (n position : ℕ) (r : Ring) (is : IsFreed c f n position r) where
  abbrev slot : ℕ
  slot = log.slot k n position r is

  abbrev later : ℕ → Ring
  later = log.later k n position r is

  abbrev master : ℕ → ℕ → ℕ
  master o i = m (Master o i)

  abbrev stamp : ℕ → ℕ → ℕ
  stamp s j = m (Stamp s j)

  abbrev after : ℕ → ℕ → ℕ
  after = sets.after k n position r is

  was : (s j : ℕ) (x : Version) (st : WriteSetStatus) → Lives later s j x st → Lives f.ring s j x st
  was = log.was k n position r is

  abbrev names_was : (link : ℕ) (x : Version) (st : WriteSetStatus) → Names later link x st → Names f.ring link x st
  names_was = chain.names_was k n position r is

  -- the watermark isn't above a section's time
  low : (s t : ℕ) → f.time s ≡ Some t → f.grace n ≤ t
  low s t timed = not_above (f.grace n) s t f.time (k.grace.views n).1 timed

  serves : (t o : ℕ) → MasterServes c start h master f.ring t o → MasterServes c start h master later t o
  serves t o a = (a.0, chain.uncut_still k n position r is o (latest_at c.base h o t) a.1)

  module _ (s t : ℕ) (timed : f.time s ≡ Some t) where
    module _ (stand : Stand) (at : f.walk s ≡ walk.At stand) where
      status : (x : Version) (st : WriteSetStatus) → Names f.ring stand.link x st → MayStandAt c start h master f.ring t x st
          → MayStandAt c start h master later t x st
      status x Held names may = tt
      status x (Committed note) names may = may
      status x (Aborted dead) names may =
          ⊎_elim
          (λ a. inl (a.0, serves t x.object a.1))
          (λ b.
          ⊎_elim
          (λ under. inr (b.0, b.1, under, b.3, b.4))
          (λ d. absurd (not_dead_by t (f.grace n) (Committed b.1) (k.walker_before_death.below s t stand x b.0 dead (Committed b.1) timed at names b.2) d.dead
          (low s t timed)))
          (chain.names_still k n position r is x.previous b.0 (Committed b.1) b.2))
          may

      stands_at : StandsRight c start h master f.ring t (walk.At stand) → StandsRight c start h master later t (walk.At stand)
      stands_at right =
          ⊎_elim
          (λ names. (right.0, right.1, names, right.3, status right.0 right.1 right.2 right.4))
          (λ d. absurd (not_dead_by t (f.grace n) right.1 (k.walker_before_death.here s t stand right.0 right.1 timed at right.2) d.dead (low s t timed)))
          (chain.names_still k n position r is stand.link right.0 right.1 right.2)

    stands : (w : WalkStage) → f.walk s ≡ w → StandsRight c start h master f.ring t w → StandsRight c start h master later t w
    stands walk.Nowhere at right = tt
    stands (walk.Master o) at right = serves t o right
    stands (walk.At stand) at right = stands_at stand at right

  pub places : WalkerPlace c start h master f.time f.walk later
  places s t timed = stands s t timed (f.walk s) refl (k.walker_place s t timed)

  pub deaths : WalkerBeforeDeath f.time f.walk later
  deaths = record {
    here = λ s t stand x st timed at names. k.walker_before_death.here s t stand x st timed at (names_was stand.link x st names);
    below = λ s t stand x y dead st timed at names under. k.walker_before_death.below s t stand x y dead st timed at
        (names_was stand.link x (Aborted dead) names) (names_was x.previous y st under);
  }

  pub knowledge : WalkerKnowledge f.section f.time f.clocks f.walk later
  knowledge = record {
    helped = k.walker_knowledge.helped;
    first = λ s first stand x st at e names. k.walker_knowledge.first s first stand x st at e (names_was stand.link x st names);
    stamp = λ s found stand x st at e small names. k.walker_knowledge.stamp s found stand x st at e small (names_was stand.link x st names);
    unset = λ s t found stand x note timed at e unset names. k.walker_knowledge.unset s t found stand x note timed at e unset
        (names_was stand.link x (Committed note) names);
  }

  stamp_same : (s j : ℕ) (x : Version) (st : WriteSetStatus) → Lives later s j x st → after s (index_of c x.first) ≡ stamp s (index_of c x.first)
  stamp_same = sets.stamp_same k n position r is

  pub falls : WalkerFalls c after f.walk later
  falls = record {
    stamped = λ s stand x st at passed names.
        let a = k.walker_falls.stamped s stand x st at passed (names_was stand.link x st names) in
        (a.0, a.1, stamp_same names.seat names.slot x st names.lives ∙ a.2, a.3);
    found = k.walker_falls.found;
  }

  pub below : BelowIsStamped c after later
  below s j x st lives uncommitted y note under =
      stamp_same under.seat under.slot y (Committed note) under.lives ∙
      k.below_is_stamped s j x st (was s j x st lives) uncommitted y note (names_was x.previous y (Committed note) under)

  pub past_help : StampedPastHelp c after f.section f.clocks later
  past_help s i there past t j x note lives le = stamp_same t j x (Committed note) lives ∙
      k.stamped_past_help s i there past t j x note (was t j x (Committed note) lives) le

  pub unfinished : UnstampedIsUnfinished c after f.section later
  unfinished s j x note lives unset = k.unstamped_is_unfinished s j x note (was s j x (Committed note) lives)
      (λ e. unset (stamp_same s j x (Committed note) lives ∙ e))

  pub named : NamedCommit c h after f.section later
  named s i naming there mode =
      let a = k.named_commit s i naming there mode in
      let lives = log.section_kept k n position r is s (index_of c naming.first) a.version (Committed a.note) i there a.lives in
      let same = stamp_same s (index_of c naming.first) a.version (Committed a.note) lives in
      same_named a a.note a.last (λ j y held. a.nothing j y (was s j y Held held)) lives a.time_is
      (λ made. subst (λ (p : ℕ). after s (index_of c p) ≡ stamp s (index_of c p)) a.first_is same ∙ a.stamped made)

  pub backs : WriteBacks c h master f.section f.time f.clocks f.grace f.back later
  backs s b e =
      let a = k.write_back s b e in
      let w = a.2 in
      let lives = log.section_kept k n position r is s (index_of c b.position) w.version (Committed w.note) a.0 a.1 w.lives in
      (a.0, a.1, same_back w w.note w.helped (λ j y held. w.nothing j y (was s j y Held held)) lives w.old w.known w.last w.uncut w.words)

  -- an unset stamp that was found isn't 0
  unset_some : (p : ℕ) → 0 ≢ unset_of p
  unset_some p e = absurd (omega arith)

  -- a stamp that was found and checked
  found_still : (g : FoundStamp) → IsFound c stamp f.ring g → IsFound c after later g
  found_still g a =
      let s : ℕ = clock_seat_of g.word in
      let j : ℕ = clock_slot_of g.word in record {
        position = a.position;
        unset_is = a.unset_is;
        slot_is = a.slot_is;
        used = subst (λ (p : ℕ). a.position < p) (sym (log.next_same k n position r is s)) a.used;
        live = λ x st lives e. a.live x st (was s j x st lives) e;
        gone = λ none e.
            ⊎_elim
            (λ at.
            let zero_is : after s j ≡ 0 = subst (λ (p : ℕ × ℕ). after p.0 p.1 ≡ 0) (λ i. (sym at.0 i, sym at.1 i)) (slot_word_here n slot 0 (stamp n slot)) in
            unset_some a.position (sym zero_is ∙ e ∙ a.unset_is))
            (λ ne.
            a.gone
            (λ x st lives at.
            ⊎_elim (λ l. none x st l at)
            (λ d.
            let first = (a.live x st lives at).0 in
            let p : a.position ≡ position = sym first ∙ d.first_is in
            ne (d.seat_is, sym a.slot_is ∙ ap (index_of c) p))
            (log.still k n position r is s j x st lives))
            (sym (sets.stamp_else k n position r is s j ne) ∙ e))
            (here_or_else s n j slot);
      }

  pub found : FoundStamps c (m Clock) after f.clocks later
  found = record {
    now = λ s g there at.
        let a = k.found_stamp.now s g there at in record {
          version = a.version;
          note = a.note;
          lives = log.clock_kept k n position r is a.version a.note (clock_seat_of g.word) (clock_slot_of g.word) a.lives
              (a.time_is ∙ ap clock_time_of (sym at));
          first_is = a.first_is;
          time_is = a.time_is;
          unset_is = a.unset_is;
        };
    checked = λ s g there checked. found_still g (k.found_stamp.checked s g there checked);
  }
