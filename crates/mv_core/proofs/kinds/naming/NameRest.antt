-- compare_exchange CLOCK (rest): won, the history gets a rest, and its seat holds nothing that it would write; lost, the word found is loaded.
use Rattle.std.proofs.Common.{◌≡◌, ℕ, ◌+◌, ◌<◌, if◌then◌else◌, List, [], ◌∷◌, ◌++◌, length, refl, sym, ap, ◌∙◌, subst, arith, eq-eqb, append-nil, Some, None}
use Rattle.std.specs.Prelude.{Contains}
use Rattle.mv_history.specs.declared.Commit.{Commit}
use Rattle.mv_core.proofs.Terms.{Entry, Rest, Change, State, Writes, state_after, commits_of, rests_of, Config, Clock, Memory, put, clock_of}
use Rattle.mv_core.proofs.Terms.{clock_time_of, clock_slot_of, Knowledge, Past, OwnSection, HoldsNothing, section_of, time_of, ViewParts, parts_of, set_at}
use Rattle.mv_history.specs.Legal.{IsNext, IsLegal, IsAllowed}
use Rattle.mv_history.proofs.Histories.{splits_push}
use Rattle.mv_history.proofs.Writing.{commits_of-append}
use Rattle.mv_layout.proofs.Unpacking.{time_back, seat_back, slot_back}
use Rattle.mv_core.proofs.FactTerms.{KnowsPast, History, IsWord, RunsOn, Facts, Swaps, IsKept}
use Rattle.mv_core.specs.EnterSteps.{IsWhole}
use Rattle.mv_core.specs.NameSteps.{rest_word, MayNameRest, rest_named, rest_lost, RestTold}
use Rattle.mv_core.proofs.frames.FrameLaw.{unchanged, changed, settle}
use Rattle.mv_core.proofs.history.LongerSeen.{rests_of-append}
use Rattle.mv_core.proofs.history.Longer.{new_time}
use Rattle.mv_core.proofs.kinds.naming.entry.CommittedLogs.{committed_ring, nothing_committed}
use Rattle.mv_core.proofs.kinds.naming.entry.NewEntry.{Makes}
use Rattle.mv_core.proofs.kinds.naming.entry.NewSets.{NewSet}
use Rattle.mv_core.proofs.kinds.naming.entry.NewSections.{Turns}
use Rattle.mv_core.proofs.kinds.naming.entry.NewHistory.{history_after, seen_more}
use Rattle.mv_core.proofs.kinds.naming.entry.NewFacts.{facts_after}
use Rattle.mv_core.proofs.kinds.naming.LostClock.{lost_clocks, lost_facts, lost_whole, lost_overtaken}

-- a rest is legal and allowed anywhere
rest_legal : (n : ℕ) (h : List Entry) (s : ℕ) → IsLegal n h → IsLegal n (h ++ Rest s ∷ [])
rest_legal n h s legal front back d eq =
    splits_push (λ fr e. (d : Commit) → e ≡ Change d → IsNext n fr d) h (Rest s)
    (λ fr bk e q d r. legal fr bk d (q ∙ ap (λ z. fr ++ z ∷ bk) r))
    (λ d r. absurd cc)
    front back (Change d) eq d refl

rest_allowed : (allows : List ℕ → State → Writes → Type 0) (start : State) (h : List Entry) (s : ℕ) → IsAllowed allows start h
    → IsAllowed allows start (h ++ Rest s ∷ [])
rest_allowed allows start h s old front back d eq =
    splits_push (λ fr e. (d : Commit) → e ≡ Change d → allows d.tag (state_after start fr) d.writes) h (Rest s)
    (λ fr bk e q d r. old fr bk d (q ∙ ap (λ z. fr ++ z ∷ bk) r))
    (λ d r. absurd cc)
    front back (Change d) eq d refl

module _ (starts : State → Type 0) (allows : List ℕ → State → Writes → Type 0) (c : Config) (start : State) (v : Knowledge) (word : ℕ)
    (may : MayNameRest v word) where
  module _ (m : Memory) (h : List Entry) (seats : ℕ → Knowledge) (k : Facts starts allows c start m h (parts_of seats)) (is : seats v.number ≡ v)
      (own : v.number < c.seats) (won : m Clock ≡ word) where
    abbrev f : ViewParts
    f = parts_of seats

    abbrev n : ℕ
    n = v.number

    abbrev e : Entry
    e = Rest n

    abbrev t : ℕ
    t = new_time c.base h e

    ring_is : (seats n).ring ≡ v.ring
    ring_is = ap (λ (u : Knowledge). u.ring) is

    no_section : f.section n ≡ None
    no_section = ap (λ (u : Knowledge). section_of u.phase) is ∙ ap section_of may.outside

    not_inside : {X : Type 0} → (i : OwnSection) → f.section n ≡ Some i → X
    not_inside i at = let none : None ≡ Some i = sym no_section ∙ at in absurd cc

    nothing : HoldsNothing (f.ring n)
    nothing j x lives = let r = k.open_section.held n j x lives in not_inside r.0 r.1

    abbrev clock : ℕ
    clock = clock_of t n 8191

    seat_small : n < 64
    seat_small = let most = k.checked.seats.1 in omega arith

    clock_time : clock_time_of clock ≡ t
    clock_time = time_back t n 8191 seat_small (omega arith)

    clock_slot : clock_slot_of clock ≡ 8191
    clock_slot = slot_back t n 8191 seat_small (omega arith)

    knows : KnowsPast h n v.past
    knows = subst (λ (u : Knowledge). KnowsPast h n u.past) is (k.history.seats n)

    abbrev p : Past
    p = record (seats n).past { seen = h ++ e ∷ []; rests = v.past.rests + 1 }

    history : History starts allows c start clock (h ++ e ∷ []) (set_at f.past n p)
    history =
        let room = may.room in
        let rests = rests_of-append n h (e ∷ []) in
        let one : rests_of n (e ∷ []) ≡ 1 = ap (λ b. (if b then 1 else 0) + 0) (eq-eqb n n refl) in
        let old = knows.rests in
        let mine : (seats n).past.mine ≡ commits_of n (h ++ e ∷ []) =
        (k.history.seats n).mine ∙ sym (commits_of-append n h (e ∷ []) ∙ append-nil (commits_of n h)) in
        history_after starts allows c start (m Clock) clock h f.past k.history n e refl p own (omega arith) clock_time
        (clock_slot, seat_back t n 8191 seat_small (omega arith))
        (rest_legal (length start) h n k.history.legal) (rest_allowed allows start h n k.history.allowed)
        refl
        (record { seen = ([], sym (append-nil (h ++ e ∷ []))); seen_mine = mine; seen_rests = omega arith; mine = mine; rests = omega arith })

    makes : Makes f.ring n e
    makes = record { maker = refl; written = λ j x lives. absurd (nothing j x lives); only = λ o w. absurd cc }

    new_set : NewSet k n e
    new_set = record {
      commit = λ j x lives. absurd (nothing j x lives);
      one_set = λ j l x y a b. absurd (nothing j x a);
      none_aborted = λ j l x y dead a b. absurd (nothing j x a);
    }

    turns : Turns k n e clock f.section
    turns = record {
      time_is = clock_time;
      is_word = λ ne. absurd (ne clock_slot);
      names = λ ne. absurd (ne clock_slot);
      others = λ s ne. refl;
      before = λ i d at mode. not_inside i at;
      word_same = λ i at. not_inside i at;
      no_back = (k.phases_and_scan.outside n (ap (λ (u : Knowledge). time_of u.phase) is ∙ ap time_of may.outside)).1;
      named = λ j x lives. absurd (nothing j x lives);
      named_is = λ i d at mode. not_inside i at;
      named_time = λ i d at mode. not_inside i at;
      not_open = λ i at unnamed. not_inside i at;
    }

    facts : Facts starts allows c start (put m Clock clock) (h ++ e ∷ [])
        (changed f n (record unchanged { past = Some p; ring = Some (committed_ring t (f.ring n)) }))
    facts =
        facts_after k n e
        (subst (λ (w : ℕ). Contains (f.clocks n).helped w) (sym won) (subst (λ (u : Knowledge). Contains u.clocks.helped word) (sym is) may.helped))
        makes new_set clock
        (λ j x lives. absurd (nothing j x lives)) f.section turns (set_at f.past n p) history
        (seen_more starts allows c start (m Clock) clock h f.past k.history n e refl p refl)
        f.phase k.marks k.phases_and_scan.scanning

    rest_facts : Facts starts allows c start (put m Clock (rest_word v word)) (h ++ e ∷ []) (parts_of (set_at seats n (rest_named c v word h)))
    rest_facts =
        let time_now : t ≡ clock_time_of word + 1 = omega arith in
        let word_is : clock ≡ rest_word v word = ap (λ (u : ℕ). clock_of u n 8191) time_now in
        settle starts allows c start (put m Clock (rest_word v word)) (h ++ e ∷ []) seats n v (rest_named c v word h) is
        (record unchanged { past = Some p; ring = Some (committed_ring t (f.ring n)) }) (
          (λ i. record ((sym is i).past) { seen = h ++ e ∷ []; rests = v.past.rests + 1 }),
          refl,
          refl,
          refl,
          refl,
          refl,
          refl,
          sym (nothing_committed t (f.ring n) nothing ∙ ring_is),
          refl,
          refl,
          refl,
        )
        (subst (λ (x : ℕ). Facts starts allows c start (put m Clock x) (h ++ e ∷ [])
        (changed f n (record unchanged { past = Some p; ring = Some (committed_ring t (f.ring n)) }))) word_is facts)

  abbrev told : ℕ → Knowledge → Type 0
  told n w = ((RestTold c v word n w × IsWord c n) × RunsOn v w) × IsKept v w

  swaps_to : Swaps starts allows c start v Clock word (rest_word v word) told
  swaps_to = (
    (λ m h seats k is own begins won. (
      rest_named c v word h,
      h ++ Rest v.number ∷ [],
      rest_facts m h seats k is own won,
      (
        (
          (
            ((λ _. (h, subst (λ (n : ℕ). IsWhole c v n h) won (lost_whole v seats k is), refl)), (λ lost. absurd (lost refl))),
            subst (IsWord c) won k.loaded_words.clock_is,
          ),
          (λ time first a b. (a, b)),
        ),
        (refl, refl, refl, refl, refl, refl),
      ),
    )),
    (λ m h seats k is own begins lost small. (
      rest_lost c v (m Clock) h,
      settle starts allows c start m h seats v.number v (rest_lost c v (m Clock) h) is
          (record unchanged { past = Some (record (seats v.number).past { seen = h }); clocks = Some (lost_clocks (seats v.number).clocks (m Clock)) }) (
            ap (λ (u : Knowledge). record u.past { seen = h }) (sym is),
            refl,
            refl,
            refl,
            ap (λ (u : Knowledge). lost_clocks u.clocks (m Clock)) (sym is),
            refl,
            refl,
            refl,
            refl,
            refl,
            refl,
          ) (lost_facts v seats k is),
      (
        (
          (
            ((λ same. absurd (lost same)), (λ _. (h, lost_whole v seats k is, refl, lost_overtaken v seats k is word may.loaded lost))),
            k.loaded_words.clock_is,
          ),
          (λ t i a b. (a, b)),
        ),
        (refl, refl, refl, refl, refl, refl),
      ),
    )),
  )

  pub rest_swaps : (new : ℕ) → new ≡ rest_word v word → Swaps starts allows c start v Clock word new told
  rest_swaps new at = subst (λ (x : ℕ). Swaps starts allows c start v Clock word x told) (sym at) swaps_to
