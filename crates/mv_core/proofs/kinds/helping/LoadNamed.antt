-- load STAMP named.
use Rattle.std.proofs.Common.{◌≡◌, ◌≢◌, ◌⊎◌, ℕ, ◌<◌, ◌≤◌, Bool, true, false, cond, leb, List, sym, refl, ap, subst}
use Rattle.std.proofs.Common.{⊎_elim, inl, inr, leb-true, leb-false, arith, Some}
use Rattle.mv_core.proofs.Terms.{dite, ℕ_discrete, Entry, State, Writes, Config, Clock, Stamp, Memory, clock_time_of, clock_slot_of, unset_of, Knowledge}
use Rattle.mv_core.proofs.Terms.{LoadedClocks, FoundStamp, parts_of, set_at}
use Rattle.mv_core.proofs.FactTerms.{WasClock, IsDone, IsNamedCommit, RunsOn, Facts, Loads, IsKept}
use Rattle.mv_core.specs.EnterSteps.{stamp_place, helped_too, MayLoadNamed, named_clocks, named_loaded}
use Rattle.mv_core.proofs.frames.FrameLaw.{unchanged, settle}
use Rattle.mv_core.proofs.frames.ClocksLoaded.{ClocksAre, helped_one, clock_small, named_stamp, clocks_was, clocks_facts}

module _ {starts : State → Type 0} {allows : List ℕ → State → Writes → Type 0} {c : Config} {start : State} (v : Knowledge) (word : ℕ)
    (may : MayLoadNamed v word)
    {m : Memory} {h : List Entry} (seats : ℕ → Knowledge) (k : Facts starts allows c start m h (parts_of seats)) (is : seats v.number ≡ v) where
  abbrev stamp : ℕ → ℕ → ℕ
  stamp s i = m (Stamp s i)

  abbrev found : ℕ
  found = m (stamp_place word)

  was_clocks : ClocksAre c (m Clock) stamp (λ s. (seats s).ring) v.clocks v.clocks
  was_clocks = subst (λ (u : Knowledge). ClocksAre c (m Clock) stamp (λ s. (seats s).ring) u.clocks u.clocks) is (clocks_was k v.number)

  was : WasClock c (m Clock) word
  was = was_clocks.loaded word may.loaded

  in_time : clock_time_of word ≤ 35184372088831
  in_time = let now = clock_small k in let past = was.past in omega arith

  -- while the clock has the word, what is found is the commit's time or its unset stamp
  while_named : m Clock ≡ word → (found ≡ clock_time_of word) ⊎ IsNamedCommit (λ s. (seats s).ring) word found
  while_named e =
      subst (λ (w : ℕ). clock_slot_of w ≢ 8191 → (m (stamp_place w) ≡ clock_time_of w) ⊎ IsNamedCommit (λ s. (seats s).ring) w (m (stamp_place w))) e
      (named_stamp k) may.names

  clocks_after : (b : Bool) → leb 9223372036854775808 found ≡ b
      → ClocksAre c (m Clock) stamp (λ s. (seats s).ring) v.clocks
      (cond b (record v.clocks { found = Some (record { word = word; unset = found; checked = false }) }) (helped_too v.clocks word))
  clocks_after true is_unset =
      let big : 9223372036854775808 ≤ found = leb-true 9223372036854775808 found is_unset in record {
        grows = λ w a. a;
        loaded = was_clocks.loaded;
        none = was_clocks.none;
        helped = was_clocks.helped;
        done = was_clocks.done;
        found = λ f e. subst (λ (g : FoundStamp). WasClock c (m Clock) g.word × (clock_slot_of g.word ≢ 8191)) (injective e) (was, may.names);
        now = λ f e.
            subst (λ (g : FoundStamp). m Clock ≡ g.word → IsNamedCommit (λ s. (seats s).ring) g.word g.unset) (injective e)
            (λ same. ⊎_elim (λ (made : found ≡ clock_time_of word). let low = in_time in absurd (omega arith)) (λ t. t) (while_named same));
        checked = λ f e was_checked. let no_check : f.checked ≡ false = ap (λ (g : FoundStamp). g.checked) (sym (injective e)) in absurd (cc);
      }
    where
      injective : {f : FoundStamp} → Some (record { word = word; unset = found; checked = false }) ≡ Some f
          → record { word = word; unset = found; checked = false } ≡ f
      injective e = cc
  clocks_after false is_set =
      let low : found < 9223372036854775808 = leb-false 9223372036854775808 found is_set in
      let done : IsDone (m Clock) stamp word =
      dite (ℕ_discrete (m Clock) word)
      (λ e. ⊎_elim (λ made. inr (inr made)) (λ (t : IsNamedCommit (λ s. (seats s).ring) word found). let u : found ≡ unset_of t.version.first = t.unset_is in
      absurd (omega arith)) (while_named e))
      (λ ne. inl ne) in
      helped_one c (m Clock) stamp (λ s. (seats s).ring) v.clocks word was_clocks was done

  pub named_facts : (w : Knowledge) × Facts starts allows c start m h (parts_of (set_at seats v.number w))
      × (((w ≡ named_loaded c v word found) × RunsOn v w) × IsKept v w)
  named_facts =
      let w : Knowledge = named_loaded c v word found in
      let x : LoadedClocks = named_clocks v.clocks word found in
      let mine : ClocksAre c (m Clock) stamp (λ s. (seats s).ring) (seats v.number).clocks x =
      subst (λ (u : Knowledge). ClocksAre c (m Clock) stamp (λ s. (seats s).ring) u.clocks x) (sym is) (clocks_after (leb 9223372036854775808 found) refl) in (
        w,
        settle starts allows c start m h seats v.number v w is (record unchanged { clocks = Some x })
            (refl, refl, refl, refl, refl, refl, refl, refl, refl, refl, refl)
            (clocks_facts k v.number x mine),
        ((refl, (λ t f a b. (a, b))), (refl, refl, refl, refl, refl, refl)),
      )

module _ (starts : State → Type 0) (allows : List ℕ → State → Writes → Type 0) (c : Config) (start : State) (v : Knowledge) where
  pub named_loads : (word : ℕ) → MayLoadNamed v word
      → Loads starts allows c start v (stamp_place word) (λ n w. ((w ≡ named_loaded c v word n) × RunsOn v w) × IsKept v w)
  named_loads word may m h seats k is own begins small = named_facts v word may seats k is
