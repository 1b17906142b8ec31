-- load CLOCK (low bound): the seat stays outside a section, and clock words are forgotten.
use Rattle.std.proofs.Common.{◌≡◌, ◌≢◌, ℕ, ◌≤◌, List, sym, refl, ap, ◌∙◌, subst, le_refl, Option, Some, None}
use Rattle.mv_core.proofs.Terms.{State, Writes, Config, Clock, Mark, Master, Stamp, clock_time_of, Knowledge, Outside, Lowered, Inside, OwnSection}
use Rattle.mv_core.proofs.Terms.{LoadedClocks, Scan, WriteBack, Ring, Version, Committed, CommitNote, Lives, section_of, time_of, no_clocks, time_in}
use Rattle.mv_core.proofs.FactTerms.{IsWrittenBack, stamp_of, MarkedAs, IsPastHelp, IsWord, RunsOn, Loads, IsKept}
use Rattle.mv_core.specs.declared.view.WalkStage.TheVariants.{Nowhere}
use Rattle.mv_core.specs.EnterSteps.{MayLoadLow, low_loaded}
use Rattle.mv_core.proofs.frames.FrameLaw.{set_at_all, unchanged, settle}
use Rattle.mv_core.proofs.frames.SectionBounds.{none_in, helped_after, found_after, loaded_after}
use Rattle.mv_core.proofs.kinds.entering.StoreMark.{runs_outside}

module _ (starts : State → Type 0) (allows : List ℕ → State → Writes → Type 0) (c : Config) (start : State) (v : Knowledge) where
  pub low_loads : MayLoadLow v → Loads starts allows c start v Clock (λ n w. (((w ≡ low_loaded c v n) × IsWord c n) × RunsOn v w) × IsKept v w)
  low_loads may m h seats k is own begins small =
      let w = low_loaded c v (m Clock) in
      let n = v.number in
      let low = clock_time_of (m Clock) in
      let phase_is : (seats n).phase ≡ Outside = ap (λ (u : Knowledge). u.phase) is ∙ may.outside in
      let no_section : section_of (seats n).phase ≡ None = ap section_of phase_is in
      let no_time : time_of (seats n).phase ≡ None = ap time_of phase_is in
      let clocks : ℕ → LoadedClocks = λ s. (seats s).clocks in
      let rings : ℕ → Ring = λ s. (seats s).ring in
      let section : ℕ → Option OwnSection = λ s. section_of (seats s).phase in
      let stamp : ℕ → ℕ → ℕ = λ t j. m (Stamp t j) in
      let helped_words = helped_after c (m Clock) stamp clocks n no_clocks (λ word has. none_in word has) k.helped_words in
      let marks = set_at_all (λ s p. MarkedAs (m Clock) (m (Mark s)) p) (λ s. (seats s).phase) n (Lowered low)
      (subst (MarkedAs (m Clock) (m (Mark n))) phase_is (k.marks n), le_refl low) (λ s ne. k.marks s) in
      let past_help = set_at_all
      (λ s u. (inside : OwnSection) → section s ≡ Some inside → IsPastHelp u inside → (t j : ℕ) (x : Version) (note : CommitNote)
      → Lives rings t j x (Committed note) → note.time ≤ time_in inside → stamp_of c stamp t x ≡ note.time)
      clocks n no_clocks (λ inside e past. none_in inside.word past) (λ s ne. k.stamped_past_help s) in
      let helped = set_at_all (λ s u. (inside : OwnSection) → section s ≡ Some inside → (seats s).walk ≢ Nowhere → IsPastHelp u inside) clocks n no_clocks
      (λ inside e stands. let f : None ≡ Some inside = sym no_section ∙ e in absurd (cc))
      (λ s ne. k.walker_knowledge.helped s) in
      let found = found_after c (m Clock) stamp clocks n rings no_clocks refl k.found_stamp in
      let words = loaded_after c (m Clock) stamp clocks n section section no_clocks refl (λ word has. none_in word has) (λ word has. none_in word has)
      (λ word has. none_in word has) k.loaded_words.inside k.loaded_words in
      let backs = set_at_all
      (λ s u. (b : WriteBack) → (seats s).back ≡ Some b → (inside : OwnSection) × (section s ≡ Some inside)
      × IsWrittenBack c h (λ o j. m (Master o j)) (λ t. time_of (seats t).phase) rings s u (seats s).grace b inside)
      clocks n no_clocks
      (λ b e. let f : None ≡ Some b = sym (k.phases_and_scan.outside n no_time).1 ∙ e in absurd (cc))
      (λ s ne. k.write_back s) in
      let scanning = set_at_all (λ s p. (running : Scan) → (seats s).scan ≡ Some running → p ≡ Outside) (λ s. (seats s).phase) n (Lowered low)
      (λ running e. let f : None ≡ Some running = sym may.no_scan ∙ (sym (ap (λ (u : Knowledge). u.scan) is) ∙ e) in absurd (cc))
      (λ s ne. k.phases_and_scan.scanning s) in (
        w,
        settle starts allows c start m h seats n v w is (record unchanged { phase = Some (Lowered low); clocks = Some no_clocks })
            (refl, refl, sym (ap section_of may.outside), sym (ap time_of may.outside), refl, refl, refl, refl, refl, refl, refl)
            (assumption (helped_words, marks, past_help, helped, found, words, backs, scanning, k)),
        (((refl, k.loaded_words.clock_is), runs_outside v w (λ s e. let f : Lowered low ≡ Inside s = e in absurd (cc))), (refl, refl, refl, refl, refl, refl)),
      )
