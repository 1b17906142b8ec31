-- compare_exchange CLOCK (commit): won, the history gets the commit of what the section holds, whose versions are committed; lost, the word found is loaded.
use Rattle.std.proofs.Common.{◌≡◌, ℕ, ◌+◌, ◌-◌, ◌%◌, ◌<◌, ◌≤◌, true, false, List, if◌then◌else◌, [], ◌∷◌}
use Rattle.std.proofs.Common.{◌++◌, length, take, refl, sym, ap, ◌∙◌, subst, ⊎_elim, arith, eq-eqb, append-nil, Option, Some, None}
use Rattle.std.specs.Prelude.{Contains}
use Rattle.std.proofs.lemmas.List.{take-append-le}
use Rattle.mv_history.specs.declared.Commit.{Commit}
use Rattle.mv_core.proofs.Terms.{Entry, Change, State, Writes, state_after, state_at, commits_of, Config, Clock, Mark, Stamp, Memory, put, clock_of}
use Rattle.mv_core.proofs.Terms.{clock_time_of, clock_seat_of, clock_slot_of, Ring, Version, Held, Committed, Knowledge, Past, Outside, Inside, OwnSection}
use Rattle.mv_core.proofs.Terms.{Open, Named, Naming, WriteBack, Scan, slot_at, index_of, held_count, set_first, own_of, Lives, time_in, time_of}
use Rattle.mv_core.proofs.Terms.{IsUnnamed, ViewParts, parts_of, set_at}
use Rattle.mv_history.specs.Drift.{IsFit}
use Rattle.mv_history.proofs.Writing.{commits_of-append}
use Rattle.mv_layout.proofs.Unpacking.{time_back, seat_back, slot_back}
use Rattle.mv_core.proofs.FactTerms.{KnowsPast, History, MarkedAs, Marks, IsWord, NamedIs, IsBegun, RunsOn, Facts, Swaps, IsKept}
use Rattle.mv_core.specs.EnterSteps.{IsWhole}
use Rattle.mv_core.specs.NameSteps.{LogTold, commit_of, commit_word, MayNameCommit, commit_named, commit_lost, CommitTold}
use Rattle.mv_core.proofs.frames.FrameLaw.{set_at_here, set_at_else, set_at_all, unchanged, changed, settle}
use Rattle.mv_core.proofs.history.SectionWords.{section_is, time_is}
use Rattle.mv_core.proofs.frames.ClocksLoaded.{slot_in}
use Rattle.mv_core.proofs.logs.Links.{names_link}
use Rattle.mv_core.proofs.logs.Written.{commit_within}
use Rattle.mv_core.proofs.history.LongerSeen.{rests_of-append}
use Rattle.mv_core.proofs.logs.HeldSet.{HeldSet}
use Rattle.mv_core.proofs.history.Longer.{new_time, own-made}
use Rattle.mv_core.proofs.kinds.naming.entry.CommittedLogs as logs
use Rattle.mv_core.proofs.kinds.naming.entry.CommittedLogs.{new_note, committed_ring}
use Rattle.mv_core.proofs.kinds.naming.name_commit.NextCommit as next
use Rattle.mv_core.proofs.kinds.naming.entry.NewWalks.{section_old}
use Rattle.mv_core.proofs.kinds.naming.entry.NewSections.{Turns}
use Rattle.mv_core.proofs.kinds.naming.entry.NewHistory.{history_after, seen_more}
use Rattle.mv_core.proofs.kinds.naming.entry.NewFacts.{facts_after}
use Rattle.mv_core.proofs.kinds.naming.LostClock.{lost_clocks, lost_facts, lost_whole, lost_overtaken}

module _ (starts : State → Type 0) (allows : List ℕ → State → Writes → Type 0) (c : Config) (start : State) (v : Knowledge) (word : ℕ) (tag : List ℕ)
    (inside : OwnSection) (may : MayNameCommit allows c v word tag inside) where
  module _ (m : Memory) (h : List Entry) (seats : ℕ → Knowledge) (k : Facts starts allows c start m h (parts_of seats)) (is : seats v.number ≡ v)
      (own : v.number < c.seats) (begins : v.start ≡ start) (won : m Clock ≡ word) where
    abbrev f : ViewParts
    f = parts_of seats

    abbrev n : ℕ
    n = v.number

    ring_is : (seats n).ring ≡ v.ring
    ring_is = ap (λ (u : Knowledge). u.ring) is

    there : f.section n ≡ Some inside
    there = section_is seats v inside k is may.phase

    timed : f.time n ≡ Some (time_in inside)
    timed = time_is seats v inside k is may.phase

    some : 0 < held_count (f.ring n)
    some = subst (λ (r : Ring). 0 < held_count r) (sym ring_is) may.some_held

    set_is : HeldSet c f.ring n
    set_is = next.set_is k n inside there timed may.open_is some

    knows : KnowsPast h n v.past
    knows = subst (λ (u : Knowledge). KnowsPast h n u.past) is (k.history.seats n)

    number_is : length v.past.mine + 1 ≡ length (commits_of n h) + 1
    number_is = ap (λ l. length l + 1) knows.mine

    abbrev commit : Commit
    commit = next.commit k n inside there timed may.open_is some (length v.past.mine + 1) number_is tag

    commit_is : commit ≡ commit_of c v inside tag
    commit_is = ap (λ (r : Ring). record { seat = n; number = length v.past.mine + 1; snapshot = time_in inside - c.base; tag = tag; writes = own_of c r })
        ring_is

    abbrev e : Entry
    e = Change commit

    abbrev t : ℕ
    t = new_time c.base h e

    abbrev first : ℕ
    first = set_first (f.ring n)

    abbrev clock : ℕ
    clock = clock_of t n (index_of c first)

    seat_small : n < 64
    seat_small = let most = k.checked.seats.1 in omega arith

    slot_small : index_of c first ≤ 8191
    slot_small = let low = slot_in c k.checked first in let most = k.checked.slots.1 in omega arith

    clock_time : clock_time_of clock ≡ t
    clock_time = time_back t n (index_of c first) seat_small slot_small

    clock_seat : clock_seat_of clock ≡ n
    clock_seat = seat_back t n (index_of c first) seat_small slot_small

    clock_slot : clock_slot_of clock ≡ index_of c first
    clock_slot = slot_back t n (index_of c first) seat_small slot_small

    abbrev naming' : Naming
    naming' = record { time = t; first = first; stamped = false }

    abbrev inside' : OwnSection
    inside' = record inside { mode = Named naming' }

    abbrev p : Past
    p = record (seats n).past { seen = h ++ e ∷ []; mine = v.past.mine ++ commit ∷ [] }

    -- what was seen so far is a front of the history, of which the state of the section is a part
    fit : IsFit allows (state_at start h (time_in inside - c.base)) tag (own_of c (f.ring n))
    fit =
        let seen = k.phases_and_scan.seen n (time_in inside) timed in
        let past_is = ap (λ (u : Knowledge). length u.past.seen) is in
        let same : take (time_in inside - c.base) h ≡ take (time_in inside - c.base) v.past.seen =
        ap (take (time_in inside - c.base)) knows.seen.1 ∙ take-append-le (time_in inside - c.base) v.past.seen knows.seen.0 (omega arith) in
        subst (λ (r : Ring). IsFit allows (state_at start h (time_in inside - c.base)) tag (own_of c r)) (sym ring_is)
        (subst (λ (s : State). IsFit allows s tag (own_of c v.ring)) (λ i. state_after (begins i) (sym same i)) may.fit)

    history : History starts allows c start clock (h ++ e ∷ []) (set_at f.past n p)
    history =
        let room = may.room in
        let mine_is : commits_of n (h ++ e ∷ []) ≡ v.past.mine ++ commit ∷ [] =
        commits_of-append n h (e ∷ []) ∙ ap (λ b. commits_of n h ++ (if b then commit ∷ [] else [])) (eq-eqb n n refl)
        ∙ ap (λ l. l ++ commit ∷ []) (sym knows.mine) in
        let rests = rests_of-append n h (e ∷ []) in
        let old = (k.history.seats n).rests in
        history_after starts allows c start (m Clock) clock h f.past k.history n e refl p own (omega arith) clock_time
        (subst (λ (s : ℕ). s < c.slots) (sym clock_slot) (slot_in c k.checked first), clock_seat)
        (next.legal_after k n inside there timed may.open_is some (length v.past.mine + 1) number_is tag)
        (next.allowed_too k n inside there timed may.open_is some (length v.past.mine + 1) number_is tag fit)
        refl
        (record { seen = ([], sym (append-nil (h ++ e ∷ []))); seen_mine = sym mine_is; seen_rests = omega arith; mine = sym mine_is; rests = omega arith })

    same_section : (i : OwnSection) → set_at f.section n (Some inside') n ≡ Some i → inside' ≡ i
    same_section i at = let whole : Some inside' ≡ Some i = sym (set_at_here f.section n (Some inside')) ∙ at in cc

    same_naming : (i : OwnSection) (d : Naming) → set_at f.section n (Some inside') n ≡ Some i → i.mode ≡ Named d → naming' ≡ d
    same_naming i d at mode = let one : Named naming' ≡ Named d = ap (λ (j : OwnSection). j.mode) (same_section i at) ∙ mode in cc

    first_at : (x : Version) × Lives f.ring n (index_of c first) x Held × (x.position ≡ first) × (x.first ≡ first)
    first_at =
        let a = set_is.at set_is.first (let r : set_is.first ≤ set_is.first = omega arith in r) set_is.some in
        let same = sym set_is.first_is in
        (a.0, subst (λ (q : ℕ). Lives f.ring n (index_of c q) a.0 Held) same a.1, a.2 ∙ same, a.3 ∙ same)

    no_back : f.back n ≡ None
    no_back = go (f.back n) refl
      where
        go : (o : Option WriteBack) → f.back n ≡ o → f.back n ≡ None
        go None at = at
        go (Some b) at = let r = k.write_back n b at in absurd (r.2.nothing (index_of c first) first_at.0 first_at.1)

    turns : Turns k n e clock (set_at f.section n (Some inside'))
    turns = record {
      time_is = clock_time;
      is_word = λ _. (subst (λ (s : ℕ). s < c.seats) (sym clock_seat) own, subst (λ (s : ℕ). s < c.slots) (sym clock_slot) (slot_in c k.checked first));
      names = λ _.
          let a = first_at in
          let seat_is = sym clock_seat in
          let slot_is = sym clock_slot in (
            a.0,
            new_note t a.0,
            subst (λ (q : ℕ × ℕ). Lives (logs.after f.ring n t) q.0 q.1 a.0 (Committed (new_note t a.0))) (λ i. (seat_is i, slot_is i))
                (logs.now_committed f.ring n t (index_of c first) a.0 a.1),
            a.2 ∙ sym a.3,
            sym clock_time,
          );
      others = λ s ne. set_at_else f.section n (Some inside') s ne;
      before = λ i d at mode. let one : Some inside ≡ Some i = sym there ∙ at in let same : inside ≡ i = cc in let other : Open ≡ Named d =
          sym may.open_is ∙ ap (λ (j : OwnSection). j.mode) same ∙ mode in cc;
      word_same = λ i at. (inside, there, ap (λ (j : OwnSection). j.word) (same_section i at));
      no_back = no_back;
      named = λ j x lives. (inside', naming', set_at_here f.section n (Some inside'), refl, refl, refl);
      named_is = λ i d at mode.
          let a = first_at in
          let old = section_old k n e n (time_in inside) timed in
          let new : NamedIs c (h ++ e ∷ []) (λ s j. m (Stamp s j)) (logs.after f.ring n t) n inside' naming' = record {
            later = omega arith;
            last = own-made c.base h e n refl;
            nothing = logs.nothing_held f.ring n t;
            version = a.0;
            note = new_note t a.0;
            lives = logs.now_committed f.ring n t (index_of c first) a.0 a.1;
            position_is = a.2;
            first_is = a.3;
            time_is = refl;
            stamped = λ made. let other : false ≡ true = made in absurd cc;
          } in
          subst (λ (q : OwnSection × Naming). NamedIs c (h ++ e ∷ []) (λ s j. m (Stamp s j)) (logs.after f.ring n t) n q.0 q.1)
          (λ z. (same_section i at z, same_naming i d at mode z)) new;
      named_time = λ i d at mode. ap (λ (d : Naming). d.time) (sym (same_naming i d at mode));
      not_open = λ i at unnamed. subst (λ (j : OwnSection). IsUnnamed j.mode) (sym (same_section i at)) unnamed;
    }

    marks : Marks (m Clock) (λ s. m (Mark s)) (set_at f.phase n (Inside inside'))
    marks =
        set_at_all (λ s q. MarkedAs (m Clock) (m (Mark s)) q) f.phase n (Inside inside')
        (let old : MarkedAs (m Clock) (m (Mark n)) (Inside inside) = subst (MarkedAs (m Clock) (m (Mark n))) (ap (λ (u : Knowledge). u.phase) is ∙ may.phase)
        (k.marks n) in old)
        (λ s ne. k.marks s)

    scanning : (s : ℕ) (running : Scan) → f.scan s ≡ Some running → set_at f.phase n (Inside inside') s ≡ Outside
    scanning =
        set_at_all (λ s q. (running : Scan) → f.scan s ≡ Some running → q ≡ Outside) f.phase n (Inside inside')
        (λ running at. let out : Inside inside ≡ Outside = sym (ap (λ (u : Knowledge). u.phase) is ∙ may.phase)
        ∙ k.phases_and_scan.scanning n running at in absurd cc)
        (λ s ne. k.phases_and_scan.scanning s)

    helped : Contains (f.clocks n).helped (m Clock)
    helped = subst (λ (w : ℕ). Contains (f.clocks n).helped w) (sym won) (subst (λ (u : Knowledge). Contains u.clocks.helped word) (sym is) may.helped)

    facts : Facts starts allows c start (put m Clock clock) (h ++ e ∷ [])
        (changed f n
        (record unchanged { past = Some p; phase = Some (Inside inside'); section = Some (Some inside'); ring = Some (committed_ring t (f.ring n)) }))
    facts =
        facts_after k n e helped
        (next.makes k n inside there timed may.open_is some (length v.past.mine + 1) number_is tag)
        (next.new_set k n inside there timed may.open_is some (length v.past.mine + 1) number_is tag)
        clock
        (λ j x lives. let same : first ≡ x.first = set_is.first_is ∙ sym (set_is.all j x lives).0 in ap (λ q. clock_of t n (index_of c q)) same)
        (set_at f.section n (Some inside')) turns (set_at f.past n p) history
        (seen_more starts allows c start (m Clock) clock h f.past k.history n e refl p refl)
        (set_at f.phase n (Inside inside')) marks scanning

    abbrev w : Knowledge
    w = commit_named c v inside tag word h

    time_now : t ≡ clock_time_of word + 1
    time_now = omega arith

    naming_is : naming' ≡ record { time = clock_time_of word + 1; first = set_first v.ring; stamped = false }
    naming_is = λ i. record { time = time_now i; first = set_first (ring_is i); stamped = false }

    commit_facts : Facts starts allows c start (put m Clock (commit_word c v word)) (h ++ e ∷ []) (parts_of (set_at seats n w))
    commit_facts =
        let word_is : clock ≡ commit_word c v word = λ i. clock_of (time_now i) n (index_of c (set_first (ring_is i))) in
        let section' : record inside { mode = Named naming' }
        ≡ record inside { mode = Named (record { time = clock_time_of word + 1; first = set_first v.ring; stamped = false }) } =
        ap (λ (d : Naming). record inside { mode = Named d }) naming_is in
        settle starts allows c start (put m Clock (commit_word c v word)) (h ++ e ∷ []) seats n v w is
        (record unchanged { past = Some p; phase = Some (Inside inside'); section = Some (Some inside'); ring = Some (committed_ring t (f.ring n)) }) (
          (λ i. record ((sym is i).past) { seen = h ++ Change (sym commit_is i) ∷ []; mine = v.past.mine ++ sym commit_is i ∷ [] }),
          ap Inside (sym section'),
          ap (λ (s : OwnSection). Some s) (sym section'),
          ap time_of (sym may.phase),
          refl,
          refl,
          refl,
          (λ i. committed_ring (sym time_now i) (sym ring_is i)),
          refl,
          refl,
          refl,
        )
        (subst (λ (x : ℕ). Facts starts allows c start (put m Clock x) (h ++ e ∷ [])
        (changed f n
        (record unchanged { past = Some p; phase = Some (Inside inside'); section = Some (Some inside'); ring = Some (committed_ring t (f.ring n)) })))
        word_is facts)

  -- the section once its commit is named
  abbrev named_inside : OwnSection
  named_inside = record inside { mode = Named (record { time = clock_time_of word + 1; first = set_first v.ring; stamped = false }) }

  abbrev told : ℕ → Knowledge → Type 0
  told n w = ((CommitTold c v inside tag word n w × IsWord c n × LogTold c v n) × RunsOn v w) × IsKept v w

  -- what is held links to the top of its object, which is a live version or nothing; and each commit is an entry of the history
  log_told : (m : Memory) (h : List Entry) (seats : ℕ → Knowledge) → Facts starts allows c start m h (parts_of seats) → seats v.number ≡ v
      → LogTold c v (m Clock)
  log_told m h seats k is = record {
    links = λ j x lives some.
        ⊎_elim
        (λ a. names_link c h (λ s. (seats s).ring) k.checked k.history.in_time k.positions x.previous a.0 (Committed a.1) a.2.names)
        (λ b. absurd (some b.0))
        (k.held_link v.number j x (ap (λ (u : Knowledge). slot_at u.ring j) is ∙ lives));
    old = λ j x note lives.
        let le = (commit_within c h (λ s. (seats s).ring) k.write_sets v.number j x note (ap (λ (u : Knowledge). slot_at u.ring j) is ∙ lives)).1 in
        let long = k.history.long in
        omega arith;
  }

  same_inside : (s : OwnSection) → Inside named_inside ≡ Inside s → named_inside ≡ s
  same_inside s at = cc

  swaps_to : Swaps starts allows c start v Clock word (commit_word c v word) told
  swaps_to = (
    (λ m h seats k is own begins won. (
      commit_named c v inside tag word h,
      h ++ e m h seats k is own begins won ∷ [],
      commit_facts m h seats k is own begins won,
      (
        (
          (
            ((λ _. (h, subst (λ (n : ℕ). IsWhole c v n h) won (lost_whole v seats k is), refl)), (λ lost. absurd (lost refl))),
            subst (IsWord c) won k.loaded_words.clock_is,
            subst (LogTold c v) won (log_told m h seats k is),
          ),
          (λ time first a b. (
            (λ s at. a inside may.phase ∙ ap time_in (same_inside s at)),
            (λ s at opens some. let other : named_inside.mode ≡ Open = ap (λ (j : OwnSection). j.mode) (same_inside s at) ∙ opens in absurd cc),
          )),
        ),
        (refl, refl, refl, refl, refl, refl),
      ),
    )),
    (λ m h seats k is own begins lost small. (
      commit_lost c v (m Clock) h,
      settle starts allows c start m h seats v.number v (commit_lost c v (m Clock) h) is
          (record unchanged { past = Some (record (seats v.number).past { seen = h }); clocks = Some (lost_clocks (seats v.number).clocks (m Clock)) }) (
            ap (λ (u : Knowledge). record u.past { seen = h }) (sym is),
            refl,
            refl,
            refl,
            ap (λ (u : Knowledge). lost_clocks u.clocks (m Clock)) (sym is),
            refl,
            refl,
            refl,
            refl,
            refl,
            refl,
          ) (lost_facts v seats k is),
      (
        (
          (
            ((λ same. absurd (lost same)), (λ _. (h, lost_whole v seats k is, refl, lost_overtaken v seats k is word may.loaded lost))),
            k.loaded_words.clock_is,
            log_told m h seats k is,
          ),
          (λ t i a b. (a, b)),
        ),
        (refl, refl, refl, refl, refl, refl),
      ),
    )),
  )

  pub commit_swaps : (new : ℕ) → new ≡ commit_word c v word → Swaps starts allows c start v Clock word new told
  commit_swaps new at = subst (λ (x : ℕ). Swaps starts allows c start v Clock word x told) (sym at) swaps_to

-- the clock word of the commit, from what the pass has at run time
pub named_word : (c : Config) (v : Knowledge) (word time number from slots : ℕ) (allows : List ℕ → State → Writes → Type 0) (tag : List ℕ) (inside : OwnSection)
    → MayNameCommit allows c v word tag inside → time ≡ clock_time_of word → number ≡ v.number → slots ≡ c.slots → IsBegun from v
    → clock_of (time + 1) number (from % slots) ≡ commit_word c v word
named_word c v word time number from slots allows tag inside may time_is number_is slots_is begun =
    let first_is = begun inside may.phase may.open_is may.some_held in
    λ i. clock_of (time_is i + 1) (number_is i) (first_is i % slots_is i)
