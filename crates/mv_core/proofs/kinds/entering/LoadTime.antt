-- load CLOCK (take time): a section begins, whose time is the clock's, and its seat sees the whole history. Nothing that bounds the times of all sections is
-- above the clock.
use Rattle.std.proofs.Common.{◌≡◌, ◌<◌, ◌≢◌, ℕ, suc, ◌+◌, ◌≤◌, cond, count_by, List, [], ◌∷◌, length, refl, sym, ap, ◌∙◌, subst, inl, inr, le_refl, arith, Some}
use Rattle.std.proofs.Common.{None, false}
use Rattle.std.specs.Prelude.{Contains, slice_index_or}
use Rattle.mv_core.proofs.Terms.{Entry, State, Writes, Config, Clock, Grace, Mark, Master, Stamp, Super, clock_time_of, clock_slot_of, Ring, Slot, Free, Built}
use Rattle.mv_core.proofs.Terms.{Live, Freeing, Version, Held, Aborted, Committed, Knowledge, Past, Outside, Marked, Inside, OwnSection, Open, LoadedClocks}
use Rattle.mv_core.proofs.Terms.{Scan}
use Rattle.mv_core.proofs.Terms.{CommitNote, is_held, held_count, HoldsNothing, Lives, is_by, last_own, IsNextWrite, section_of, time_in, low_of, IsUnnamed}
use Rattle.mv_core.proofs.Terms.{ViewParts, parts_of, set_at}
use Rattle.mv_core.specs.declared.view.WalkStage.TheVariants.{Nowhere}
use Rattle.mv_core.proofs.FactTerms.{BeginsWith, IsNaming, MarkedAs, IsWord, WasClock, IsDone, IsTimed, IsBegun, Loads, IsKept}
use Rattle.mv_core.specs.EnterSteps.{IsWhole, if_none, MayLoadTime, time_loaded}
use Rattle.mv_core.proofs.frames.FrameLaw.{set_at_else, set_at_all, unchanged, settle}
use Rattle.mv_core.proofs.kinds.helping.LoadCheck.{this_word, if_none_all, in_if_none}
use Rattle.mv_core.proofs.frames.ClocksLoaded.{one_more_word, past_help, clock_small}
use Rattle.mv_core.proofs.frames.SectionBounds.{by_seat, none_in, helped_after, found_after, inside_after, loaded_after}
use Rattle.mv_core.proofs.frames.Sections as more
use Rattle.mv_core.proofs.frames.ClockLoads.{whole_seen}
use Rattle.mv_core.proofs.history.Latest.{last_that-le}

-- where nothing is held, none is counted
none_counted : (slots : List Slot) → ((k : ℕ) (x : Version) → slice_index_or slots k Free ≢ Live x Held) → count_by is_held slots ≡ 0
none_counted [] none = refl
none_counted (Free ∷ xs) none = none_counted xs (λ k. none (suc k))
none_counted (Built b ∷ xs) none = none_counted xs (λ k. none (suc k))
none_counted (Freeing p f ∷ xs) none = none_counted xs (λ k. none (suc k))
none_counted (Live x Held ∷ xs) none = absurd (none 0 x refl)
none_counted (Live x (Aborted d) ∷ xs) none = none_counted xs (λ k. none (suc k))
none_counted (Live x (Committed n) ∷ xs) none = none_counted xs (λ k. none (suc k))

pub holds_none : (r : Ring) → HoldsNothing r → held_count r ≡ 0
holds_none r none = none_counted r.slots none

module _ (starts : State → Type 0) (allows : List ℕ → State → Writes → Type 0) (c : Config) (start : State) (v : Knowledge) (may : MayLoadTime v) where
  pub time_loads : Loads starts allows c start v Clock (λ n w. (((h : List Entry) × IsWhole c v n h × (w ≡ time_loaded c v n h)) × IsWord c n
      × HoldsNothing w.ring) × IsKept v w)
  time_loads m h seats old is own begins small =
      let clock = m Clock in
      let n = v.number in
      let f : ViewParts = parts_of seats in
      let p : Past = record (seats n).past { seen = h } in
      let k = whole_seen old n in
      let w : Knowledge = time_loaded c v clock h in
      let low = may.0 in
      let marked : (seats n).phase ≡ Marked low = ap (λ (u : Knowledge). u.phase) is ∙ may.1 in
      let no_section : section_of (seats n).phase ≡ None = ap section_of marked in
      let inside : OwnSection = record { low = low_of v.phase; word = clock; mode = Open } in
      let now = clock_time_of clock in
      let x : LoadedClocks = record { loaded = clock ∷ []; helped = if_none clock; found = None } in
      let stamp : ℕ → ℕ → ℕ = λ t j. m (Stamp t j) in
      let super : ℕ → ℕ → ℕ = λ t j. m (Super t j) in
      let master : ℕ → ℕ → ℕ = λ o j. m (Master o j) in
      let sets = k.write_sets in
      let late : c.base + length h ≤ now = (let l = k.history.long in omega arith) in
      let nothing : HoldsNothing (seats n).ring = λ j y lives. let r = k.open_section.held n j y lives in let e : None ≡ Some r.0 =
      sym no_section ∙ r.1 in absurd (cc) in
      let not_inside : (i : OwnSection) → section_of (seats n).phase ≡ Some i → ⊥ = λ i e. let g : None ≡ Some i = sym no_section ∙ e in cc in
      let same_inside : (i : OwnSection) → Some inside ≡ Some i → inside ≡ i = λ i e. cc in
      let unnamed : (i : OwnSection) → Some inside ≡ Some i → IsUnnamed i.mode = λ i e. subst (λ (s : OwnSection). IsUnnamed s.mode) (same_inside i e) tt in
      let this = this_word c clock k.loaded_words.clock_is in
      let helped_done : (word : ℕ) → Contains (if_none clock) word → IsDone clock stamp word =
      if_none_all (IsDone clock stamp) clock (λ none. inr (inl none)) in
      let words_of_all = loaded_after c clock stamp f.clocks n f.section (set_at f.section n (Some inside)) x refl
      (one_more_word (WasClock c clock) [] clock (λ u has. none_in u has) this)
      (if_none_all (WasClock c clock) clock (λ _. this))
      (one_more_word (λ word. clock_slot_of word ≡ 8191 → Contains (if_none clock) word) [] clock (λ u has. none_in u has) (in_if_none clock))
      (inside_after c clock stamp f.clocks n f.section (Some inside)
      (λ i e. subst (λ (s : OwnSection). WasClock c clock s.word) (same_inside i e) this) k.loaded_words)
      k.loaded_words in
      let helped_all = helped_after c clock stamp f.clocks n x helped_done k.helped_words in
      let front : BeginsWith h v.past.seen = subst (λ (u : Knowledge). BeginsWith h u.past.seen) is (old.history.seats n).seen in
      let marks = set_at_all (λ s q. MarkedAs clock (m (Mark s)) q) f.phase n (Inside inside)
      (let r = subst (MarkedAs clock (m (Mark n))) marked (k.marks n) in
      let lows : inside.low ≡ low = ap low_of may.1 in
      (subst (λ (l : ℕ). m (Mark n) ≡ 1 + l) (sym lows) r.0, subst (λ (l : ℕ). l ≤ now) (sym lows) r.1, le_refl now))
      (λ s ne. k.marks s) in
      let past_helped = past_help c clock stamp h f.ring k.checked (clock_small old) k.stamps k.positions
      (set_at f.section n (Some inside)) (set_at f.clocks n x) words_of_all helped_all in
      let naming : (s j : ℕ) (y : Version) (note : CommitNote) → Lives f.ring s j y (Committed note) → note.cut ≡ false → m (Super s j) ≡ 0
      → (next : ℕ) → IsNextWrite c.base h y.object note.time next → IsNaming (set_at f.section n (Some inside)) next (λ _. Unit {0}) =
      λ s j y note lives uncut zero_is next is_next.
      let by = k.successors.unfinished s j y note lives uncut zero_is next is_next in
      let ne : by.seat ≢ n = λ e. not_inside by.inside (ap f.section (sym e) ∙ by.in_section) in
      let there = set_at_else f.section n (Some inside) by.seat ne ∙ by.in_section in
      record { seat = by.seat; inside = by.inside; naming = by.naming; in_section = there; mode = by.mode; time_is = by.time_is; known = tt } in
      let unfinished = more.unfinished_more c h f.ring f.section n (Some inside) unnamed stamp (λ i naming e mode unset. not_inside i e)
      k.unstamped_is_unfinished in
      let opened = more.open_more c h f.ring f.section n (Some inside) unnamed nothing
      (λ i e. subst (λ (s : OwnSection). last_own c.base h n ≤ time_in s) (same_inside i e) (let l = last_that-le (is_by n) h in omega arith)) k.open_section in
      let backs = more.back_more c start h f.ring sets f.time n (Some now) late f.walk f.section f.clocks (Some inside) x master f.grace f.back k.write_back in
      let scanning = set_at_all (λ s q. (running : Scan) → f.scan s ≡ Some running → q ≡ Outside) f.phase n (Inside inside)
      (λ running e. let g : Marked low ≡ Outside = sym marked ∙ k.phases_and_scan.scanning n running e in absurd (cc))
      (λ s ne. k.phases_and_scan.scanning s) in
      let outside : (s : ℕ) → set_at f.time n (Some now) s ≡ None → (set_at f.walk n Nowhere s ≡ Nowhere) × (set_at f.back n None s ≡ None) =
      λ s. by_seat s n (λ b. cond b (Some now) (f.time s) ≡ None → (cond b Nowhere (f.walk s) ≡ Nowhere) × (cond b None (f.back s) ≡ None))
      (λ _ e. absurd (cc)) (λ _. k.phases_and_scan.outside s) in
      let seen : (s u : ℕ) → set_at f.time n (Some now) s ≡ Some u → u ≤ c.base + length (set_at f.past n p s).seen =
      λ s u. by_seat s n (λ b. cond b (Some now) (f.time s) ≡ Some u → u ≤ c.base + length (cond b p (f.past s)).seen)
      (λ _ e. let same : now ≡ u = cc in let l = k.history.long in omega arith)
      (λ ne e. old.phases_and_scan.seen s u e) in
      let within : (s u : ℕ) → set_at f.time n (Some now) s ≡ Some u → s < c.seats =
      λ s u. by_seat s n (λ b. cond b (Some now) (f.time s) ≡ Some u → s < c.seats) (λ same e. subst (λ (x : ℕ). x < c.seats) (sym same) own.range)
      (λ ne e. k.phases_and_scan.within s u e) in
      let begun = record unchanged { past = Some p; phase = Some (Inside inside); section = Some (Some inside); time = Some (Some now) } in (
        w,
        settle starts allows c start m h seats n v w is
            (record begun { clocks = Some x; walk = Some Nowhere; back = Some None })
            (ap (λ (u : Knowledge). record u.past { seen = h }) (sym is), refl, refl, refl, refl, refl, refl, refl, refl, refl, refl)
            (let grace_more = more.grace_more c start h f.ring sets f.time n (Some now) late clock (m Grace) f.grace f.scan k.history.long k.grace in
            let freshness_more = more.freshness_more c start h f.ring sets f.time n (Some now) late nothing k.lock_freshness in
            let master_more = more.master_more c start h f.ring sets f.time n (Some now) late master k.present_master in
            let foot_more = more.foot_more c start h f.ring sets f.time n (Some now) late master k.chain_foot in
            let place_more = more.place_more c start h f.ring sets f.time n (Some now) late f.walk master k.walker_place in
            let before_death_more = more.before_death_more c start h f.ring sets f.time n (Some now) late f.walk k.walker_before_death in
            let knowledge_more = more.knowledge_more c start h f.ring sets f.time n (Some now) late f.walk f.section f.clocks (Some inside) x
            k.walker_knowledge in
            let falls_more = more.falls_more c start h f.ring sets f.time n (Some now) late f.walk stamp k.walker_falls in
            let late_more = more.late_more c start h f.ring sets f.time n (Some now) late f.walk k.walker_late in
            let found = found_after c clock stamp f.clocks n f.ring x refl k.found_stamp in
            let named_more = more.named_more c h f.ring f.section n (Some inside) unnamed stamp k.named_commit in
            let flag_more = more.flag_more c h f.ring f.section n (Some inside) unnamed super k.successor_flag in
            let cut_more = more.cut_more c start h f.ring sets f.time n (Some now) late k.cut_is_old in
            assumption (k)),
        (
          ((h, (front, k.history.long, k.history.makers), refl), k.loaded_words.clock_is, subst (λ (u : Knowledge). HoldsNothing u.ring) is nothing),
          (refl, refl, refl, refl, refl, refl),
        ),
      )

-- what a pass has at run time in the section that begins
pub time_runs : (c : Config) (v w : Knowledge) (word time first : ℕ) (h : List Entry) → w ≡ time_loaded c v word h → HoldsNothing w.ring
    → time ≡ clock_time_of word
    → IsTimed time w × IsBegun first w
time_runs c v w word time first h e none is =
    let inside : OwnSection = record { low = low_of v.phase; word = word; mode = Open } in
    let phase : w.phase ≡ Inside inside = ap (λ (u : Knowledge). u.phase) e in (
      λ i in_section. let f : Inside inside ≡ Inside i = sym phase ∙ in_section in let same : inside ≡ i = cc in is ∙ ap time_in same,
      λ i in_section mode some_held. let z = holds_none w.ring none in absurd (omega arith),
    )
