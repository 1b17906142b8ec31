-- store HEAD (abort), over all facts: the section is aborting from now on.
use Rattle.std.proofs.Common.{◌≡◌, ◌≢◌, ℕ, ◌<◌, ◌≤◌, false, List, refl, sym, ap, ◌∙◌, subst, Option, Some}
use Rattle.std.specs.Prelude.{Contains}
use Rattle.mv_core.proofs.Terms.{dite, ℕ_discrete, Entry, State, Writes, Config, Clock, Head, Mark, Master, Stamp, Super, clock_time_of, Memory, put}
use Rattle.mv_core.proofs.Terms.{Ring, Live, Version, Held, Committed, CommitNote, Knowledge, Outside, Inside, OwnSection, Open, Aborting, Named, Naming}
use Rattle.mv_core.proofs.Terms.{Scan, slot_at, index_of, Lives, last_own, IsNextWrite, section_of, time_of, time_in, IsUnnamed, parts_of, set_at}
use Rattle.mv_core.specs.declared.view.WalkStage.TheVariants.{Nowhere}
use Rattle.mv_core.proofs.FactTerms.{IsNaming, MarkedAs, IsPastHelp, StampedPastHelp, WasClock, LoadedWords, OpenSection, WriteBacks, RunsOn, Facts}
use Rattle.mv_core.proofs.FactTerms.{Stores, IsKept}
use Rattle.mv_core.specs.LockSteps.{MayUnlock, head_unlocked}
use Rattle.mv_core.proofs.frames.FrameLaw.{set_at_here, set_at_else, set_at_all, unchanged, settle}
use Rattle.mv_core.proofs.frames.MatchedFacts.{LivesOnFacts, SameCutFacts}
use Rattle.mv_core.proofs.frames.InPlace.{InPlaceFacts}
use Rattle.mv_core.proofs.frames.Sections as more
use Rattle.mv_core.proofs.history.SectionWords.{section_is}
use Rattle.mv_core.proofs.kinds.locking.unlock_head.UnlockedLog as log

module _ {starts : State → Type 0} {allows : List ℕ → State → Writes → Type 0} {c : Config} {start : State} {m : Memory} {h : List Entry}
    (seats : ℕ → Knowledge)
    (k : Facts starts allows c start m h (parts_of seats))
    (v : Knowledge) (is : seats v.number ≡ v) (object previous slot : ℕ) (x : Version) (inside : OwnSection)
    (may : MayUnlock v object previous slot x inside) where
  abbrev rings : ℕ → Ring
  rings s = (seats s).ring

  abbrev n : ℕ
  n = v.number

  abbrev later : ℕ → Ring
  later = log.later seats k v is object previous slot x inside may

  abbrev section : ℕ → Option OwnSection
  section s = section_of (seats s).phase

  abbrev aborting : OwnSection
  aborting = record inside { mode = Aborting }

  abbrev sections : ℕ → Option OwnSection
  sections = set_at section n (Some aborting)

  abbrev time : ℕ → Option ℕ
  time s = time_of (seats s).phase

  abbrev stamp : ℕ → ℕ → ℕ
  stamp s j = m (Stamp s j)

  abbrev super : ℕ → ℕ → ℕ
  super s j = m (Super s j)

  abbrev master : ℕ → ℕ → ℕ
  master o w = m (Master o w)

  in_place : InPlaceFacts c m h (parts_of seats) later
  in_place = log.in_place seats k v is object previous slot x inside may

  live_on : LivesOnFacts c start m h (parts_of seats) stamp later
  live_on = log.live_on seats k v is object previous slot x inside may

  same_cut : SameCutFacts c start m h (parts_of seats) later
  same_cut = log.same_cut seats k v is object previous slot x inside may

  was_held : Lives rings n slot x Held
  was_held = log.was_held seats k v is object previous slot x inside may

  each_held : (P : ℕ → ℕ → Version → Type 0) → ((s j : ℕ) (y : Version) → ¬ ((s ≡ n) × (j ≡ slot)) → Lives rings s j y Held → P s j y) → (s j : ℕ) (y : Version)
      → Lives later s j y Held → P s j y
  each_held = log.each_held seats k v is object previous slot x inside may

  section_here : section n ≡ Some inside
  section_here = section_is seats v inside k is may.phase

  -- a section that named its commit is of another seat
  other_named : {A : Type 0} (i : OwnSection) (naming : Naming) → section n ≡ Some i → i.mode ≡ Named naming → A
  other_named i naming at mode =
      let one : Some inside ≡ Some i = sym section_here ∙ at in
      let same : inside ≡ i = cc in
      let named : inside.mode ≡ Named naming = ap (λ (j : OwnSection). j.mode) same ∙ mode in
      absurd (subst IsUnnamed named may.unnamed)

  ring_else : (s : ℕ) → s ≢ n → later s ≡ rings s
  ring_else s ne = set_at_else rings n (log.ring_now seats k v is object previous slot x inside may) s ne

  -- a section is as it was, but for its mode
  section_was : (s : ℕ) (i : OwnSection) → sections s ≡ Some i → (old : OwnSection) × (section s ≡ Some old) × (old.word ≡ i.word)
  section_was = set_at_all (λ s u. (i : OwnSection) → u ≡ Some i → (old : OwnSection) × (section s ≡ Some old) × (old.word ≡ i.word)) section n (Some aborting)
      (λ i e. let same : aborting ≡ i = cc in (inside, section_here, ap (λ (j : OwnSection). j.word) same))
      (λ s ne i e. (i, e, refl))

  open_after : OpenSection c h sections later
  open_after = record {
    own = set_at_all (λ s u. (i : OwnSection) → u ≡ Some i → IsUnnamed i.mode → last_own c.base h s ≤ time_in i) section n (Some aborting)
        (λ i e _. let same : aborting ≡ i = cc in subst (λ (j : OwnSection). last_own c.base h n ≤ time_in j) same
        (k.open_section.own n inside section_here may.unnamed))
        (λ s ne. k.open_section.own s);
    held = each_held (λ s j y. (i : OwnSection) × (sections s ≡ Some i) × IsUnnamed i.mode)
        (λ s j y ne lives.
        dite (ℕ_discrete s n)
        (λ e. (aborting, ap sections e ∙ set_at_here section n (Some aborting), tt))
        (λ apart. let r = k.open_section.held s j y lives in (r.0, set_at_else section n (Some aborting) s apart ∙ r.1, r.2)));
    one_set = λ s j l y z a d.
        each_held (λ s j y. Lives later s l z Held → y.first ≡ z.first)
        (λ s j y ne lives there. each_held (λ t i w. t ≡ s → y.first ≡ w.first)
        (λ t i w _ other e. k.open_section.one_set s j i y w lives (subst (λ (q : ℕ). Lives rings q i w Held) e other)) s l z there refl)
        s j y a d;
    whole = λ s j y i lives at mode p lo hi.
        dite (ℕ_discrete s n)
        (λ e.
        let here : Some aborting ≡ Some i = sym (set_at_here section n (Some aborting)) ∙ ap sections (sym e) ∙ at in
        let same : aborting ≡ i = cc in
        let clash : Aborting ≡ Open = ap (λ (j : OwnSection). j.mode) same ∙ mode in absurd (cc))
        (λ ne.
        let r = ring_else s ne in
        let a = k.open_section.whole s j y i (subst (λ (q : Ring). slot_at q j ≡ Live y Held) r lives)
        (sym (set_at_else section n (Some aborting) s ne) ∙ at) mode p lo (subst (λ (q : Ring). p < q.next) r hi) in
        record {
          version = a.version;
          status = a.status;
          lives = subst (λ (q : Ring). slot_at q (index_of c p) ≡ Live a.version a.status) (sym r) a.lives;
          position_is = a.position_is;
          first_is = a.first_is;
          known = a.known;
        });
  }

  naming_after : (s j : ℕ) (y : Version) (note : CommitNote) → Lives later s j y (Committed note) → note.cut ≡ false → super s j ≡ 0
      → (next : ℕ) → IsNextWrite c.base h y.object note.time next → IsNaming sections next (λ _. Unit {0})
  naming_after s j y note lives uncut zero next is_next =
      let by = in_place.successors.unfinished s j y note lives uncut zero next is_next in
      let ne : by.seat ≢ n = λ e. other_named by.inside by.naming (ap section (sym e) ∙ by.in_section) by.mode in
      let there = set_at_else section n (Some aborting) by.seat ne ∙ by.in_section in
      record { seat = by.seat; inside = by.inside; naming = by.naming; in_section = there; mode = by.mode; time_is = by.time_is; known = tt }

  aborting_unnamed : (i : OwnSection) → Some aborting ≡ Some i → IsUnnamed i.mode
  aborting_unnamed i e = let same : aborting ≡ i = cc in subst (λ (j : OwnSection). IsUnnamed j.mode) same tt

  words_after : LoadedWords c (m Clock) sections (λ s. (seats s).clocks)
  words_after =
      let now : (s : ℕ) (i : OwnSection) → sections s ≡ Some i → WasClock c (m Clock) i.word =
      λ s i at. let o = section_was s i at in subst (WasClock c (m Clock)) o.2 (k.loaded_words.inside s o.0 o.1) in
      assumption (now, k.loaded_words)

  backs_after : WriteBacks c h master sections time (λ s. (seats s).clocks) (λ s. (seats s).grace) (λ s. (seats s).back) later
  backs_after s b at =
      let o = k.write_back s b at in
      let apart : s ≢ n = λ e. o.2.nothing slot x (subst (λ (q : ℕ). Lives rings q slot x Held) (sym e) was_held) in
      let a = same_cut.backs s b at in
      (a.0, set_at_else section n (Some aborting) s apart ∙ a.1, a.2)

  pub unlock_stored : Facts starts allows c start (put m (Head object) previous) h
      (parts_of (set_at seats v.number (head_unlocked c v object previous slot x inside)))
  unlock_stored =
      let marks = set_at_all (λ s q. MarkedAs (m Clock) (m (Mark s)) q) (λ s. (seats s).phase) n (Inside aborting)
      (subst (MarkedAs (m Clock) (m (Mark n))) (ap (λ (u : Knowledge). u.phase) is ∙ may.phase) (k.marks n)) (λ s ne. k.marks s) in
      let past_help : StampedPastHelp c stamp sections (λ s. (seats s).clocks) later = λ s i at past t j y note lives le.
      let o = section_was s i at in
      live_on.past_help s o.0 o.1 (subst (Contains (seats s).clocks.helped) (sym o.2) past) t j y note lives
      (subst (λ (word : ℕ). note.time ≤ clock_time_of word) (sym o.2) le) in
      let helped : (s : ℕ) (i : OwnSection) → sections s ≡ Some i → (seats s).walk ≢ Nowhere → IsPastHelp (seats s).clocks i = λ s i at somewhere.
      let o = section_was s i at in subst (Contains (seats s).clocks.helped) o.2 (k.walker_knowledge.helped s o.0 o.1 somewhere) in
      let unfinished = more.unfinished_more c h later section n (Some aborting) aborting_unnamed stamp (λ i naming at mode. other_named i naming at mode)
      live_on.unfinished in
      let named = more.named_more c h later section n (Some aborting) aborting_unnamed stamp live_on.named in
      let flags = more.flag_more c h later section n (Some aborting) aborting_unnamed super
      (log.flags seats k v is object previous slot x inside may) in
      let scanning = set_at_all (λ s q. (running : Scan) → (seats s).scan ≡ Some running → q ≡ Outside) (λ s. (seats s).phase) n (Inside aborting)
      (λ running e.
      let out : Inside inside ≡ Outside = sym may.phase ∙ ap (λ (u : Knowledge). u.phase) (sym is) ∙ k.phases_and_scan.scanning n running e in absurd (cc))
      (λ s ne. k.phases_and_scan.scanning s) in
      settle starts allows c start (put m (Head object) previous) h seats v.number v (head_unlocked c v object previous slot x inside) is
      (record unchanged { phase = Some (Inside aborting); section = Some (Some aborting); ring = Some (head_unlocked c v object previous slot x inside).ring })
      (refl, refl, refl, ap time_of (sym may.phase), refl, refl, refl, refl, refl, refl, refl)
      (let slot_words = log.words_after seats k v is object previous slot x inside may in
      let same_death = log.same_death seats k v is object previous slot x inside may in
      let heads = log.heads seats k v is object previous slot x inside may in
      assumption (slot_words, same_death, heads, naming_after, open_after, words_after, backs_after, in_place, live_on, same_cut, k))

module _ (starts : State → Type 0) (allows : List ℕ → State → Writes → Type 0) (c : Config) (start : State) (v : Knowledge) (object previous slot : ℕ)
    (x : Version)
    (inside : OwnSection) (may : MayUnlock v object previous slot x inside) where
  -- what the pass has at run time of the section stays
  unlock_runs : RunsOn v (head_unlocked c v object previous slot x inside)
  unlock_runs time first timed begun = (
    (λ i e. let same : Inside (record inside { mode = Aborting }) ≡ Inside i = e in let one : record inside { mode = Aborting } ≡ i =
        cc in timed inside may.phase ∙ ap time_in one),
    (λ i e mode some.
        let same : Inside (record inside { mode = Aborting }) ≡ Inside i = e in
        let one : record inside { mode = Aborting } ≡ i = cc in
        let clash : Aborting ≡ Open = ap (λ (j : OwnSection). j.mode) one ∙ mode in absurd (cc)),
  )

  pub unlock_stores : Stores starts allows c start v (Head object) previous (λ w. ((w ≡ head_unlocked c v object previous slot x inside) × RunsOn v w)
      × IsKept v w)
  unlock_stores m h seats k is own begins = (
    head_unlocked c v object previous slot x inside,
    h,
    unlock_stored seats k v is object previous slot x inside may,
    ((refl, unlock_runs), (refl, refl, refl, refl, refl, refl)),
  )
