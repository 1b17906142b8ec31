-- One more entry, of what its seat holds: all facts.
use Rattle.std.proofs.Common.{◌≡◌, ℕ, ◌+◌, ◌≤◌, List, [], ◌∷◌, ◌++◌, length, subst, arith, Option, Some}
use Rattle.std.specs.Prelude.{Contains}
use Rattle.mv_core.proofs.Terms.{Entry, State, Writes, Config, Clock, Grace, Mark, Stamp, Memory, put, clock_of, clock_time_of, Version, Held}
use Rattle.mv_core.proofs.Terms.{Committed, CommitNote, Past, Phase, Outside, OwnSection, Scan, index_of, Lives, ViewParts}
use Rattle.mv_core.proofs.FactTerms.{stamp_of, Marks, History, Facts}
use Rattle.mv_core.proofs.frames.ClocksLoaded.{clock_small, past_help, stamped_by_done}
use Rattle.mv_core.proofs.logs.Written.{commit_within}
use Rattle.mv_core.proofs.history.Longer.{new_time}
use Rattle.mv_core.proofs.kinds.naming.entry.CommittedLogs as logs
use Rattle.mv_core.proofs.kinds.naming.entry.NewEntry.{Makes}
use Rattle.mv_core.proofs.kinds.naming.entry.NewSets as sets
use Rattle.mv_core.proofs.kinds.naming.entry.NewChains as chains
use Rattle.mv_core.proofs.kinds.naming.entry.NewWalks as walks
use Rattle.mv_core.proofs.kinds.naming.entry.NewSections as turned

module _ {starts : State → Type 0} {allows : List ℕ → State → Writes → Type 0} {c : Config} {start : State} {m : Memory} {h : List Entry} {f : ViewParts}
    (k : Facts starts allows c start m h f) where
  -- where the clock's word was helped, each commit is stamped
  pub all_stamped : (s j : ℕ) (x : Version) (note : CommitNote) → (u : ℕ) → Contains (f.clocks u).helped (m Clock) → Lives f.ring s j x (Committed note)
      → stamp_of c (λ s j. m (Stamp s j)) s x ≡ note.time
  all_stamped s j x note u helped lives =
      let le = (commit_within c h f.ring k.write_sets s j x note lives).1 in
      let long = k.history.long in
      stamped_by_done c (m Clock) (λ s j. m (Stamp s j)) h f.ring k.checked (clock_small k) k.stamps k.positions (m Clock)
      (k.loaded_words.helped u (m Clock) helped) (k.helped_words u (m Clock) helped) s j x note lives (omega arith)

  module _ (n : ℕ) (e : Entry) (helped : Contains (f.clocks n).helped (m Clock)) (makes : Makes f.ring n e) (set : sets.NewSet k n e)
      (clock : ℕ) (clock_is : (j : ℕ) (x : Version) → Lives f.ring n j x Held → clock ≡ clock_of (new_time c.base h e) n (index_of c x.first))
      (sections : ℕ → Option OwnSection) (turns : turned.Turns k n e clock sections)
      (past : ℕ → Past) (history : History starts allows c start clock (h ++ e ∷ []) past) (seen : (s : ℕ) → length (f.past s).seen ≤ length (past s).seen)
      (phase : ℕ → Phase) (marks : Marks (m Clock) (λ s. m (Mark s)) phase)
      (scanning : (s : ℕ) (running : Scan) → f.scan s ≡ Some running → phase s ≡ Outside) where
    later : clock_time_of (m Clock) ≤ clock_time_of clock
    later = let lt = turned.rises k n e makes clock sections turns in omega arith

    pub facts_after : Facts starts allows c start (put m Clock clock) (h ++ e ∷ [])
        (record f { past = past; phase = phase; section = sections; ring = logs.after f.ring n (new_time c.base h e) })
    facts_after =
        let stamps = sets.stamps_after k n e clock (λ s j x note lives. all_stamped s j x note n helped lives) clock_is in
        let positions = sets.positions_after k n e in
        let words = turned.words_after k n e makes clock sections turns in
        let helped_words = turned.helped_after k n e makes clock sections turns in
        let past_helped = past_help c clock (λ s j. m (Stamp s j)) (h ++ e ∷ []) (logs.after f.ring n (new_time c.base h e)) k.checked
        (let long = history.long in let low = history.in_time in omega arith) stamps positions sections f.clocks words helped_words in
        let knowledge = walks.knowledge_after k n e sections
        (λ s i is stands.
        let w = turned.past_help_words k n e makes clock sections turns s i is in
        subst (λ (word : ℕ). Contains (f.clocks s).helped word) w.2 (k.walker_knowledge.helped s w.0 w.1 stands)) in
        let times_seen : (s u : ℕ) → f.time s ≡ Some u → u ≤ c.base + length (past s).seen =
        λ s u at. let old = k.phases_and_scan.seen s u at in let more = seen s in omega arith in
        let words_after = sets.words_after k n e in
        let sets_after = sets.sets_after k n e set in
        let marks_later = turned.marks_later (m Clock) clock (λ s. m (Mark s)) phase later marks in
        let grace_later = turned.grace_later (m Clock) clock (m Grace) f.time f.grace f.scan later k.grace in
        let freshness_after = turned.freshness_after k n e makes clock sections turns in
        let successors_after = turned.successors_after k n e makes clock sections turns in
        let found_after = turned.found_after k n e makes clock sections turns in
        let unfinished_after = turned.unfinished_after k n e makes clock sections turns in
        let named_after = turned.named_after k n e makes clock sections turns in
        let open_after = turned.open_after k n e makes clock sections turns in
        let flags_after = turned.flags_after k n e makes clock sections turns in
        let succeeded_after = turned.succeeded_after k n e makes clock sections turns in
        let freed_after = turned.freed_after k n e makes clock sections turns in
        let backs_after = turned.backs_after k n e makes clock sections turns in
        let deaths_after = sets.deaths_after k n e in
        let deaths_seen_after = sets.deaths_seen_after k n e past seen in
        let cut_after = sets.cut_after k n e in
        let death_after_write = sets.death_after_write k n e in
        let grace_after = sets.grace_after k n e in
        let heads_after = chains.heads_after k n e makes in
        let held_links = chains.held_links k n e makes in
        let commit_links = chains.commit_links k n e makes in
        let aborted_links = chains.aborted_links k n e makes in
        let masters_present = chains.masters_present k n e makes in
        let feet_after = chains.feet_after k n e makes in
        let places_after = walks.places_after k n e in
        let deaths_after' = walks.deaths_after k n e in
        let below_after = walks.below_after k n e in
        let falls_after = walks.falls_after k n e in
        let lates_after = walks.lates_after k n e in
        assumption (history, scanning, k)
