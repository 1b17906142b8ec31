-- A lost exchange of CLOCK: the word found is loaded, and the whole history is seen.
use Rattle.std.proofs.Common.{sym, ◌≢◌, ◌-◌, ◌+◌, ◌<◌, length, arith, ◌≡◌, ℕ, List, [], ◌∷◌, ◌++◌, subst, ⊎_elim, inl, inr, Some}
use Rattle.std.specs.Prelude.{Contains, slice_get, slice_index_or}
use Rattle.std.proofs.lemmas.Option.{slice_get-get_or}
use Rattle.mv_core.proofs.Terms.{dite, ℕ_discrete, Entry, Rest, Change, State, Writes, maker_of, Config, Clock, Stamp, Memory, clock_time_of}
use Rattle.mv_core.proofs.Terms.{clock_seat_of, clock_slot_of, Ring, Knowledge, Past, LoadedClocks, ViewParts, parts_of}
use Rattle.std.proofs.lemmas.List.Elements.{Contains-append_left, Contains-append_right, Contains-append_cases}
use Rattle.mv_core.proofs.FactTerms.{BeginsWith, NamedBy, IsWord, WasClock, IsDone, Facts}
use Rattle.mv_core.specs.EnterSteps.{IsWhole, if_none}
use Rattle.mv_core.specs.NameSteps.{IsOvertaken}
use Rattle.mv_core.proofs.history.CommitWords.{last_is}
use Rattle.mv_core.proofs.frames.FrameLaw.{unchanged, changed}
use Rattle.mv_core.proofs.kinds.helping.LoadCheck.{if_none_all, in_if_none, this_word}
use Rattle.mv_core.proofs.frames.ClocksLoaded.{ClocksAre, one_more_word, clocks_was, clocks_facts}
use Rattle.mv_core.proofs.frames.ClockLoads.{whole_seen}

-- the seat in the clock is that of the entry that it names
maker_named : (c : Config) (clock : ℕ) (e : Entry) → NamedBy c clock e → maker_of e ≡ clock_seat_of clock
maker_named c clock (Rest seat) named = sym named.1
maker_named c clock (Change commit) named = sym named.1

-- the clock words noted then
abbrev pub lost_clocks : LoadedClocks → ℕ → LoadedClocks
lost_clocks old word = record old { loaded = old.loaded ++ word ∷ []; helped = old.helped ++ if_none word }

module _ (c : Config) (clock : ℕ) (stamp : ℕ → ℕ → ℕ) (rings : ℕ → Ring) (old : LoadedClocks) (is : ClocksAre c clock stamp rings old old)
    (clock_is : IsWord c clock) where
  helped_all : (P : ℕ → Type 0) → ((w : ℕ) → Contains old.helped w → P w) → (clock_slot_of clock ≡ 8191 → P clock) → (w : ℕ)
      → Contains (lost_clocks old clock).helped w → P w
  helped_all P all none w has = ⊎_elim (all w) (if_none_all P clock none w) (Contains-append_cases old.helped (if_none clock) w has)

  clocks_lost : ClocksAre c clock stamp rings old (lost_clocks old clock)
  clocks_lost = record {
    grows = λ w a. Contains-append_left old.helped (if_none clock) w a;
    loaded = one_more_word (WasClock c clock) old.loaded clock is.loaded (this_word c clock clock_is);
    none = one_more_word (λ w. clock_slot_of w ≡ 8191 → Contains (lost_clocks old clock).helped w) old.loaded clock
        (λ w a e. Contains-append_left old.helped (if_none clock) w (is.none w a e))
        (λ e. Contains-append_right old.helped (if_none clock) clock (in_if_none clock e));
    helped = helped_all (WasClock c clock) is.helped (λ e. this_word c clock clock_is);
    done = helped_all (IsDone clock stamp) is.done (λ e. inr (inl e));
    found = is.found;
    now = is.now;
    checked = is.checked;
  }

module _ {starts : State → Type 0} {allows : List ℕ → State → Writes → Type 0} {c : Config} {start : State} (v : Knowledge) {m : Memory} {h : List Entry}
    (seats : ℕ → Knowledge) (k : Facts starts allows c start m h (parts_of seats)) (is : seats v.number ≡ v) where
  abbrev f : ViewParts
  f = parts_of seats

  abbrev p : Past
  p = record (seats v.number).past { seen = h }

  abbrev x : LoadedClocks
  x = lost_clocks (seats v.number).clocks (m Clock)

  pub lost_facts : Facts starts allows c start m h (changed f v.number (record unchanged { past = Some p; clocks = Some x }))
  lost_facts =
      clocks_facts (whole_seen k v.number) v.number x
      (clocks_lost c (m Clock) (λ s i. m (Stamp s i)) f.ring (seats v.number).clocks (clocks_was k v.number) k.loaded_words.clock_is)

  -- this is the whole history, by the word found
  pub lost_whole : IsWhole c v (m Clock) h
  lost_whole =
      let front : BeginsWith h v.past.seen = subst (λ (u : Knowledge). BeginsWith h u.past.seen) is (k.history.seats v.number).seen in
      (front, k.history.long, k.history.makers)

  -- a word that was loaded and isn't in the clock any more was overtaken
  pub lost_overtaken : (word : ℕ) → Contains v.clocks.loaded word → m Clock ≢ word → IsOvertaken c word (m Clock) h
  lost_overtaken word loaded lost =
      let was = k.loaded_words.loaded v.number word (subst (λ (u : Knowledge). Contains u.clocks.loaded word) (sym is) loaded) in
      let past = was.past in
      let later : clock_time_of word < clock_time_of (m Clock) =
      dite (ℕ_discrete (clock_time_of word) (clock_time_of (m Clock))) (λ e. absurd (lost (sym (was.same e)))) (λ ne. omega arith) in
      record {
        later = later;
        made = λ low.
            let long = k.history.long in
            let i : ℕ = length h - 1 in
            let e : Entry = slice_index_or h i (Rest 0) in
            let there = slice_get-get_or h i (Rest 0) (omega arith) in
            let split = last_is h i e there (omega arith) in
            let place : i ≡ clock_time_of (m Clock) - (c.base + 1) = omega arith in
            (e, (omega arith, subst (λ (j : ℕ). slice_get h j ≡ Some e) place there), maker_named c (m Clock) e (k.history.last split.0 e split.1));
      }
