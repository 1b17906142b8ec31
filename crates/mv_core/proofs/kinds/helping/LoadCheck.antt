-- load CLOCK (check).
use Rattle.std.proofs.Common.{◌≡◌, ◌≢◌, ℕ, ◌==◌, Bool, true, false, cond, List, [], ◌∷◌, ◌++◌, sym, refl, ap, ◌∙◌}
use Rattle.std.proofs.Common.{subst, ⊎_elim, inl, inr, le_refl, eqb-true, eq-eqb, arith, Option, Some, None}
use Rattle.std.proofs.lemmas.Bool.{eqb-false}
use Rattle.std.specs.Prelude.{Contains}
use Rattle.std.proofs.lemmas.List.Elements.{Contains-append_left, Contains-append_right, Contains-append_cases, Contains-push}
use Rattle.mv_core.proofs.Terms.{Entry, State, Writes, Config, Clock, Stamp, clock_time_of, clock_seat_of, clock_slot_of, Ring, Live, Version, WriteSetStatus}
use Rattle.mv_core.proofs.Terms.{Committed, Knowledge, Past, LoadedClocks, FoundStamp, index_of, Lives, names_none, ViewParts, parts_of}
use Rattle.mv_core.proofs.FactTerms.{Positions, IsWord, WasClock, IsDone, IsNamedCommit, IsFound, RunsOn, Loads, IsKept}
use Rattle.mv_core.specs.EnterSteps.{IsWhole, if_none, checked_found, checked_helped, checked_clocks, check_loaded}
use Rattle.mv_core.proofs.frames.FrameLaw.{unchanged, settle}
use Rattle.mv_core.proofs.frames.ClocksLoaded.{ClocksAre, one_more_word, clocks_was, clocks_facts}
use Rattle.mv_core.proofs.frames.ClockLoads.{whole_seen}

-- the unset stamp of the commit that a word names is what it seems
pub named_found : (c : Config) (h : List Entry) (stamp : ℕ → ℕ → ℕ) (rings : ℕ → Ring) (f : FoundStamp) → Positions c h rings
    → IsNamedCommit rings f.word f.unset → IsFound c stamp rings f
named_found c h stamp rings f positions is =
    let place = positions.live (clock_seat_of f.word) (clock_slot_of f.word) is.version (Committed is.note) is.lives in record {
      position = is.version.first;
      unset_is = is.unset_is;
      slot_is = ap (index_of c) (sym is.first_is) ∙ place.0;
      used = (let e = is.first_is in let low = place.1 in omega arith);
      live = λ x st lives at. (
        ap (λ (y : Version). y.first) (sym (same x st lives).0),
        (is.note, sym (same x st lives).1, is.time_is),
      );
      gone = λ none. absurd (none is.version (Committed is.note) is.lives is.first_is);
    }
  where
    same : (x : Version) (st : WriteSetStatus) → Lives rings (clock_seat_of f.word) (clock_slot_of f.word) x st → (is.version ≡ x) × (Committed is.note ≡ st)
    same x st lives = let e : Live is.version (Committed is.note) ≡ Live x st = sym is.lives ∙ lives in (cc, cc)

-- a checked stamp was found for the clock's word
checked_was : (o : Option FoundStamp) (word : ℕ) (g : FoundStamp) → checked_found o word ≡ Some g
    → (f : FoundStamp) × (o ≡ Some f) × (f.word ≡ word) × (record f { checked = true } ≡ g)
checked_was None word g e = let none : None ≡ Some g = e in absurd (cc)
checked_was (Some f) word g e = go (f.word == word) refl e
  where
    go : (b : Bool) → (f.word == word) ≡ b → cond b (Some (record f { checked = true })) None ≡ Some g
        → (d : FoundStamp) × (Some f ≡ Some d) × (d.word ≡ word) × (record d { checked = true } ≡ g)
    go true is e = let i : Some (record f { checked = true }) ≡ Some g = e in (f, refl, eqb-true f.word word is, cc)
    go false is e = let none : None ≡ Some g = e in absurd (cc)

-- what holds of the clock's word where it names no commit, and of the word of a stamp that the clock has no longer, holds of all that is helped besides
pub if_none_all : (P : ℕ → Type 0) (word : ℕ) → (clock_slot_of word ≡ 8191 → P word) → (w : ℕ) → Contains (if_none word) w → P w
if_none_all P word one w has = go (names_none word) refl has
  where
    go : (b : Bool) → names_none word ≡ b → Contains (cond b (word ∷ []) []) w → P w
    go true is has = one_more_word P [] word (λ x (a : Contains [] x). absurd (grind arith)) (one (eqb-true (clock_slot_of word) 8191 is)) w has
    go false is has = absurd (grind arith)

-- the word, if it names no commit, is there
pub in_if_none : (word : ℕ) → clock_slot_of word ≡ 8191 → Contains (if_none word) word
in_if_none word e = subst (λ (b : Bool). Contains (cond b (word ∷ []) []) word) (sym (eq-eqb (clock_slot_of word) 8191 e)) (Contains-push [] word)

gone_all : (P : ℕ → Type 0) (o : Option FoundStamp) (word : ℕ) → ((f : FoundStamp) → o ≡ Some f → word ≢ f.word → P f.word) → (w : ℕ)
    → Contains (checked_helped o word) w → P w
gone_all P None word one w has = absurd (grind arith)
gone_all P (Some f) word one w has = go (f.word == word) refl has
  where
    go : (b : Bool) → (f.word == word) ≡ b → Contains (cond b [] (f.word ∷ [])) w → P w
    go true is has = absurd (grind arith)
    go false is has = one_more_word P [] f.word (λ x (a : Contains [] x). absurd (grind arith)) (one f refl (λ e. eqb-false f.word word is (sym e))) w has

-- the word in the clock
pub this_word : (c : Config) (clock : ℕ) → IsWord c clock → WasClock c clock clock
this_word c clock is = record { past = le_refl (clock_time_of clock); same = λ e. refl; is_word = is }

module _ (c : Config) (clock : ℕ) (stamp : ℕ → ℕ → ℕ) (h : List Entry) (rings : ℕ → Ring) (positions : Positions c h rings) (clock_is : IsWord c clock)
    (old : LoadedClocks) (is : ClocksAre c clock stamp rings old old) where
  -- what holds of all helped words, of a word that names no commit and of one that the clock has no longer holds of all helped ones afterwards
  helped_all : (P : ℕ → Type 0) → ((w : ℕ) → Contains old.helped w → P w) → (clock_slot_of clock ≡ 8191 → P clock)
      → ((f : FoundStamp) → old.found ≡ Some f → clock ≢ f.word → P f.word) → (w : ℕ) → Contains (checked_clocks old clock).helped w → P w
  helped_all P all none gone w has =
      ⊎_elim (all w)
      (λ b. ⊎_elim (if_none_all P clock none w) (gone_all P old.found clock gone w)
      (Contains-append_cases (if_none clock) (checked_helped old.found clock) w b))
      (Contains-append_cases old.helped (if_none clock ++ checked_helped old.found clock) w has)

  pub clocks_checked : ClocksAre c clock stamp rings old (checked_clocks old clock)
  clocks_checked = record {
    grows = λ w a. Contains-append_left old.helped (if_none clock ++ checked_helped old.found clock) w a;
    loaded = one_more_word (WasClock c clock) old.loaded clock is.loaded (this_word c clock clock_is);
    helped = helped_all (WasClock c clock) is.helped (λ e. this_word c clock clock_is) (λ f e ne. (is.found f e).0);
    none = one_more_word (λ w. clock_slot_of w ≡ 8191 → Contains (checked_clocks old clock).helped w) old.loaded clock
        (λ w a e. Contains-append_left old.helped (if_none clock ++ checked_helped old.found clock) w (is.none w a e))
        (λ e. Contains-append_right old.helped (if_none clock ++ checked_helped old.found clock) clock
        (Contains-append_left (if_none clock) (checked_helped old.found clock) clock (in_if_none clock e)));
    done = helped_all (IsDone clock stamp) is.done (λ e. inr (inl e)) (λ f e ne. inl ne);
    found = λ g e. let b =
        checked_was old.found clock g e in subst (λ (d : FoundStamp). WasClock c clock d.word × (clock_slot_of d.word ≢ 8191)) b.3 (is.found b.0 b.1);
    now = λ g e. let b =
        checked_was old.found clock g e in subst (λ (d : FoundStamp). clock ≡ d.word → IsNamedCommit rings d.word d.unset) b.3 (is.now b.0 b.1);
    checked = λ g e was_checked.
        let b = checked_was old.found clock g e in
        let named : IsNamedCommit rings g.word g.unset = subst (λ (d : FoundStamp). IsNamedCommit rings d.word d.unset) b.3 (is.now b.0 b.1 (sym b.2)) in
        named_found c h stamp rings g positions named;
  }

module _ (starts : State → Type 0) (allows : List ℕ → State → Writes → Type 0) (c : Config) (start : State) (v : Knowledge) where
  pub check_loads : Loads starts allows c start v Clock
      (λ n w. ((((h : List Entry) × IsWhole c v n h × (w ≡ check_loaded c v n h)) × IsWord c n) × RunsOn v w) × IsKept v w)
  check_loads m h seats k is own begins wide =
      let clock = m Clock in
      let n = v.number in
      let f : ViewParts = parts_of seats in
      let w : Knowledge = check_loaded c v clock h in
      let p : Past = record (seats n).past { seen = h } in
      let x : LoadedClocks = checked_clocks (seats n).clocks clock in
      let seen = whole_seen k n in
      let clocks = clocks_facts seen n x
      (clocks_checked c clock (λ s i. m (Stamp s i)) h f.ring k.positions k.loaded_words.clock_is (f.clocks n) (clocks_was k n)) in
      let front : (rest : List Entry) × (h ≡ v.past.seen ++ rest) =
      subst (λ (u : Knowledge). (rest : List Entry) × (h ≡ u.past.seen ++ rest)) is (k.history.seats n).seen in (
        w,
        settle starts allows c start m h seats n v w is (record unchanged { past = Some p; clocks = Some x }) (
          ap (λ (u : Knowledge). record u.past { seen = h }) (sym is),
          refl,
          refl,
          refl,
          ap (λ (u : Knowledge). checked_clocks u.clocks clock) (sym is),
          refl,
          refl,
          refl,
          refl,
          refl,
          refl,
        ) clocks,
        ((((h, (front, k.history.long, k.history.makers), refl), k.loaded_words.clock_is), (λ t i a b. (a, b))), (refl, refl, refl, refl, refl, refl)),
      )
