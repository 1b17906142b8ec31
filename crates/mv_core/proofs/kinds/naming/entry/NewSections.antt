-- One more entry, of what its seat holds: the clock words, the sections, and the commits that they have named.
use Rattle.std.proofs.Common.{◌≡◌, ◌≢◌, ℕ, ◌+◌, ◌<◌, ◌≤◌, ◌==◌, true, false, List, [], ◌∷◌, ◌++◌, length, refl, sym, ap, ◌∙◌, subst, inl, inr, ⊎_elim, arith}
use Rattle.std.proofs.Common.{eq-eqb, eqb-true, Option, Some, None}
use Rattle.mv_core.proofs.Terms.{dite, ℕ_discrete, Entry, State, Writes, Config, Clock, Master, Stamp, Super, Memory, clock_time_of, clock_seat_of}
use Rattle.mv_core.proofs.Terms.{clock_slot_of, link_of, Ring, Version, WriteSetStatus, Held, Committed, CommitNote, Phase, Outside, Lowered, Marked, Inside}
use Rattle.mv_core.proofs.Terms.{OwnSection}
use Rattle.mv_core.proofs.Terms.{Named, Naming, Scan, index_of, HoldsNothing, Lives, Names, writes_to, latest, IsNextWrite, time_in, IsUnnamed, ViewParts}
use Rattle.mv_core.proofs.FactTerms.{IsHeldOrAborted, IsNaming, Successors, UnstampedIsUnfinished, MarkedAs, IsWord, WasClock}
use Rattle.mv_core.proofs.FactTerms.{LoadedWords, HelpedWords, FoundStamps, ScanIs, LockFreshness, NamedIs, NamedCommit, OpenSection}
use Rattle.mv_core.proofs.FactTerms.{FreedIsOld, SuccessorFlag, WriteBacks, SucceededHasSuper, Facts}
use Rattle.mv_core.specs.SectionFacts as section
use Rattle.mv_core.proofs.frames.KeptRecords.{same_back, same_named}
use Rattle.mv_core.proofs.history.Latest.{latest-le, next_write-le}
use Rattle.mv_core.proofs.logs.Links.{none_names_zero}
use Rattle.mv_core.proofs.logs.Written.{commit_within}
use Rattle.mv_core.proofs.history.Longer.{new_time, longer_long, latest_at-longer, own-else, entry-was, next_write-longer, next_write-was, none-after}
use Rattle.mv_core.proofs.kinds.naming.entry.CommittedLogs as logs
use Rattle.mv_core.proofs.kinds.naming.entry.CommittedLogs.{new_note}
use Rattle.mv_core.proofs.kinds.naming.entry.NewEntry.{Makes, old_time, one_named, link_not_held, other_latest}

-- marks and scans under a later clock
marked_later : (clock clock' mark : ℕ) → clock_time_of clock ≤ clock_time_of clock' → (p : Phase) → MarkedAs clock mark p → MarkedAs clock' mark p
marked_later clock clock' mark le Outside k = k
marked_later clock clock' mark le (Lowered low) k = let a = k.1 in (k.0, omega arith)
marked_later clock clock' mark le (Marked low) k = let a = k.1 in (k.0, omega arith)
marked_later clock clock' mark le (Inside s) k = let a = k.2 in (k.0, k.1, omega arith)

scan_later : (clock clock' : ℕ) (time : ℕ → Option ℕ) → clock_time_of clock ≤ clock_time_of clock' → (o : Option Scan) → ScanIs clock time o
    → ScanIs clock' time o
scan_later clock clock' time le None k = tt
scan_later clock clock' time le (Some scan) k = let a = k.1 in (k.0, omega arith, k.2)

-- a mark fits its phase under a later clock, and the watermarks are still not above it
pub marks_later : (clock clock' : ℕ) (mark : ℕ → ℕ) (phase : ℕ → Phase) → clock_time_of clock ≤ clock_time_of clock' → section.Marks clock mark phase
    → section.Marks clock' mark phase
marks_later clock clock' mark phase le k s = marked_later clock clock' (mark s) le (phase s) (k s)

pub grace_later : (clock clock' word : ℕ) (time : ℕ → Option ℕ) (grace : ℕ → ℕ) (scan : ℕ → Option Scan) → clock_time_of clock ≤ clock_time_of clock'
    → section.Grace clock word time grace scan → section.Grace clock' word time grace scan
grace_later clock clock' word time grace scan le k = record {
  views = λ s. let r = k.views s in let a = r.0 in (omega arith, r.1);
  shared = (let a = k.shared.0 in omega arith, k.shared.1);
  scans = λ s. scan_later clock clock' time le (scan s) (k.scans s);
}

module _ {starts : State → Type 0} {allows : List ℕ → State → Writes → Type 0} {c : Config} {start : State} {m : Memory} {h : List Entry} {f : ViewParts}
    (k : Facts starts allows c start m h f) (n : ℕ) (e : Entry) where
  abbrev t : ℕ
  t = new_time c.base h e

  abbrev later : List Entry
  later = h ++ e ∷ []

  abbrev rings : ℕ → Ring
  rings = logs.after f.ring n t

  abbrev stamp : ℕ → ℕ → ℕ
  stamp s j = m (Stamp s j)

  abbrev super : ℕ → ℕ → ℕ
  super s j = m (Super s j)

  abbrev master : ℕ → ℕ → ℕ
  master o w = m (Master o w)

  -- the clock afterwards, and the sections: those of the other seats are as they were; that of this one had named nothing, keeps its word, and has named the
  -- new commit, if it held something
  pub record Turns (clock : ℕ) (sections : ℕ → Option OwnSection) : Type 0 where
    pub time_is : clock_time_of clock ≡ t
    pub is_word : IsWord c clock
    pub names : clock_slot_of clock ≢ 8191 → (x : Version) × (note : CommitNote) × Lives rings (clock_seat_of clock) (clock_slot_of clock) x (Committed note)
        × (x.position ≡ x.first) × (note.time ≡ clock_time_of clock)
    pub others : (s : ℕ) → s ≢ n → sections s ≡ f.section s
    pub before : (i : OwnSection) (d : Naming) → f.section n ≡ Some i → i.mode ≢ Named d
    pub word_same : (i : OwnSection) → sections n ≡ Some i → (j : OwnSection) × (f.section n ≡ Some j) × (j.word ≡ i.word)
    pub no_back : f.back n ≡ None
    pub named : (j : ℕ) (x : Version) → Lives f.ring n j x Held
        → (i : OwnSection) × (d : Naming) × (sections n ≡ Some i) × (i.mode ≡ Named d) × (d.time ≡ t) × (d.stamped ≡ false)
    pub named_is : (i : OwnSection) (d : Naming) → sections n ≡ Some i → i.mode ≡ Named d → NamedIs c later stamp rings n i d
    pub named_time : (i : OwnSection) (d : Naming) → sections n ≡ Some i → i.mode ≡ Named d → d.time ≡ t
    pub not_open : (i : OwnSection) → sections n ≡ Some i → ¬ (IsUnnamed i.mode)

  module _ (makes : Makes f.ring n e) (clock : ℕ) (sections : ℕ → Option OwnSection) (turns : Turns clock sections) where
    pub rises : clock_time_of (m Clock) < clock_time_of clock
    rises = let long = k.history.long in let time = turns.time_is in omega arith

    -- a clock word of before isn't in the clock any more
    was_later : (word : ℕ) → WasClock c (m Clock) word → WasClock c clock word
    was_later word was = let lt = rises in let past = was.past in record { past = omega arith; same = λ is. absurd (omega arith); is_word = was.is_word }

    moved_on : (word : ℕ) → WasClock c (m Clock) word → clock ≢ word
    moved_on word was is = let same : clock_time_of clock ≡ clock_time_of word = ap clock_time_of is in let lt = rises in let past = was.past in omega arith

    pub words_after : LoadedWords c clock sections f.clocks
    words_after = record {
      clock_is = turns.is_word;
      loaded = λ s word has. was_later word (k.loaded_words.loaded s word has);
      none = k.loaded_words.none;
      helped = λ s word has. was_later word (k.loaded_words.helped s word has);
      found = λ s g is. let r = k.loaded_words.found s g is in (was_later g.word r.0, r.1);
      inside = λ s i is.
          dite (ℕ_discrete s n)
          (λ at. let w = turns.word_same i (ap sections (sym at) ∙ is) in subst (WasClock c clock) w.2 (was_later w.0.word (k.loaded_words.inside n w.0 w.1)))
          (λ ne. was_later i.word (k.loaded_words.inside s i (sym (turns.others s ne) ∙ is)));
    }

    pub helped_after : HelpedWords clock stamp f.clocks
    helped_after s word has = inl (moved_on word (k.loaded_words.helped s word has))

    pub found_after : FoundStamps c clock stamp f.clocks rings
    found_after = record {
      now = λ s g is same. absurd (moved_on g.word (k.loaded_words.found s g is).0 same);
      checked = λ s g is checked.
          let r = k.found_stamp.checked s g is checked in
          let b = clock_seat_of g.word in
          let i = clock_slot_of g.word in
          record {
            position = r.position;
            unset_is = r.unset_is;
            slot_is = r.slot_is;
            used = subst (λ (p : ℕ). r.position < p) (sym (logs.next_same f.ring n t b)) r.used;
            live = λ x st lives at.
                let w = logs.was f.ring n t b i x st lives in
                let l = r.live x w.old w.lives at in
                (l.0, ⊎_elim (λ same. (l.1.0, sym same ∙ l.1.1, l.1.2)) (λ new. let other : Held ≡ Committed l.1.0 = sym new.1 ∙ l.1.1 in absurd cc) w.how);
            gone = λ none. r.gone (λ x st lives at. let w = logs.still_lives f.ring n t b i x st lives in none x w.0 w.1 at);
          };
    }

    -- a section's time isn't the new one
    section_time : (s : ℕ) (i : OwnSection) → f.section s ≡ Some i → time_in i ≤ c.base + length h
    section_time s i at = let past = (k.loaded_words.inside s i at).past in let long = k.history.long in omega arith

    pub past_help_words : (s : ℕ) (i : OwnSection) → sections s ≡ Some i → (j : OwnSection) × (f.section s ≡ Some j) × (j.word ≡ i.word)
    past_help_words s i is =
        dite (ℕ_discrete s n)
        (λ at. let w = turns.word_same i (ap sections (sym at) ∙ is) in (w.0, ap f.section at ∙ w.1, w.2))
        (λ ne. (i, sym (turns.others s ne) ∙ is, refl))

    pub freshness_after : LockFreshness c later f.time rings
    freshness_after s j x lives =
        let w = logs.was_held f.ring n t s j x lives in
        let r = k.lock_freshness s j x w.1 in
        let same = other_latest k n e makes s j x w.0 w.1 in
        (r.0, r.1, subst (λ (u : ℕ). u ≤ r.0) (sym same) r.2, r.3)

    -- who had named a commit is another seat
    naming_else : (s : ℕ) (i : OwnSection) (d : Naming) → f.section s ≡ Some i → i.mode ≡ Named d → s ≢ n
    naming_else s i d is mode at = turns.before i d (ap f.section (sym at) ∙ is) mode

    still_naming : (time : ℕ) → IsNaming f.section time (λ _. Unit {0}) → IsNaming sections time (λ _. Unit {0})
    still_naming time by =
        record {
          seat = by.seat;
          inside = by.inside;
          naming = by.naming;
          in_section = turns.others by.seat (naming_else by.seat by.inside by.naming by.in_section by.mode) ∙ by.in_section;
          mode = by.mode;
          time_is =
              by.time_is;
          known = tt;
        }

    now_naming : (o : ℕ) → writes_to o e ≡ true → IsNaming sections t (λ _. Unit {0})
    now_naming o w = let a = makes.only o w in let b =
        turns.named a.0 a.1 a.2 in record { seat = n; inside = b.0; naming = b.1; in_section = b.2; mode = b.3; time_is = b.4; known = tt }

    pub successors_after : Successors c later stamp super sections rings
    successors_after = record {
      held = λ s j x st lives fate. k.successors.held s j x st (logs.was_uncommitted f.ring n t s j x st lives (λ d is. subst IsHeldOrAborted is fate)) fate;
      next = λ s j x note lives some.
          ⊎_elim
          (λ old. next_write-longer c.base h e x.object note.time (super s j) (k.successors.next s j x note old some))
          (λ new. absurd (some (ap (λ (u : ℕ). super u j) new.0 ∙ k.successors.held n j x Held new.1 tt)))
          (logs.was_committed f.ring n t s j x note lives);
      stamped = λ s j x note lives u l y other there is.
          ⊎_elim
          (λ old_y.
          ⊎_elim
          (λ old. k.successors.stamped s j x note old u l y other old_y is)
          (λ new.
          let none : super s j ≡ 0 = ap (λ (r : ℕ). super r j) new.0 ∙ k.successors.held n j x Held new.1 tt in
          let low = (commit_within c h f.ring k.write_sets u l y other old_y).0 in
          absurd (omega arith))
          (logs.was_committed f.ring n t s j x note lives))
          (λ new_y.
          let time_is : other.time ≡ t = ap (λ (d : CommitNote). d.time) new_y.2 in
          let some : super s j ≢ 0 = λ none. omega arith in
          ⊎_elim
          (λ old.
          let le = next_write-le c.base h x.object note.time (super s j) (k.successors.next s j x note old some) in
          let top = latest-le c.base h x.object in
          absurd (omega arith))
          (λ new. absurd (some (ap (λ (r : ℕ). super r j) new.0 ∙ k.successors.held n j x Held new.1 tt)))
          (logs.was_committed f.ring n t s j x note lives))
          (logs.was_committed f.ring n t u l y other there);
      unfinished = λ s j x note lives uncut none next is_next.
          ⊎_elim
          (λ old.
          ⊎_elim
          (λ before. still_naming next (k.successors.unfinished s j x note old uncut none next before))
          (λ now. subst (λ (u : ℕ). IsNaming sections u (λ _. Unit {0})) (sym now.0) (now_naming x.object now.1))
          (next_write-was c.base h e x.object note.time next is_next))
          (λ new.
          let time_is : note.time ≡ t = ap (λ (d : CommitNote). d.time) new.2 in
          absurd (none-after c.base h e x.object note.time next (omega arith) is_next))
          (logs.was_committed f.ring n t s j x note lives);
      built = λ s j b at. k.successors.built s j b (logs.was_built f.ring n t s j b at);
    }

    pub unfinished_after : UnstampedIsUnfinished c stamp sections rings
    unfinished_after s j x note lives unset =
        ⊎_elim
        (λ old.
        let r = k.unstamped_is_unfinished s j x note old unset in
        (r.0, r.1, turns.others s (naming_else s r.0 r.1 r.2 r.3) ∙ r.2, r.3, r.4, r.5))
        (λ new.
        let b = turns.named j x new.1 in
        (b.0, b.1, ap sections new.0 ∙ b.2, b.3, b.4 ∙ ap (λ (d : CommitNote). d.time) (sym new.2), b.5))
        (logs.was_committed f.ring n t s j x note lives)

    still_nothing : (s : ℕ) → HoldsNothing (f.ring s) → HoldsNothing (rings s)
    still_nothing s nothing j x lives = nothing j x (logs.was_held f.ring n t s j x lives).1

    pub named_after : NamedCommit c later stamp sections rings
    named_after s i d is mode =
        dite (ℕ_discrete s n)
        (λ at. subst (λ (u : ℕ). NamedIs c later stamp rings u i d) (sym at) (turns.named_is i d (ap sections (sym at) ∙ is) mode))
        (λ ne.
        let r = k.named_commit s i d (sym (turns.others s ne) ∙ is) mode in
        let last = own-else c.base h e s (λ made. ne (sym made ∙ makes.maker)) ∙ r.last in
        same_named r r.note last (still_nothing s r.nothing)
        (logs.still_committed f.ring n t s (index_of c d.first) r.version r.note r.lives) r.time_is r.stamped)

    pub open_after : OpenSection c later sections rings
    open_after = record {
      own = λ s i is unnamed.
          dite (ℕ_discrete s n)
          (λ at. absurd (turns.not_open i (ap sections (sym at) ∙ is) unnamed))
          (λ ne. subst (λ (u : ℕ). u ≤ time_in i) (sym (own-else c.base h e s (λ made. ne (sym made ∙ makes.maker))))
          (k.open_section.own s i (sym (turns.others s ne) ∙ is) unnamed));
      held = λ s j x lives.
          let w = logs.was_held f.ring n t s j x lives in
          let r = k.open_section.held s j x w.1 in
          (r.0, turns.others s w.0 ∙ r.1, r.2);
      one_set = λ s j l x y lx ly. k.open_section.one_set s j l x y (logs.was_held f.ring n t s j x lx).1 (logs.was_held f.ring n t s l y ly).1;
      whole = λ s j x i lives is mode p lo hi.
          let w = logs.was_held f.ring n t s j x lives in
          let r = k.open_section.whole s j x i w.1 (sym (turns.others s w.0) ∙ is) mode p lo (subst (λ (u : ℕ). p < u) (logs.next_same f.ring n t s) hi) in
          record {
            version = r.version;
            status = Held;
            lives = logs.still_held f.ring n t s (index_of c p) r.version w.0 (subst (λ st. Lives f.ring s (index_of c p) r.version st) r.known r.lives);
            position_is = r.position_is;
            first_is = r.first_is;
            known = refl;
          };
    }

    -- what lies below a new commit is its object's last write before, which has no successor and no death yet
    new_below : (j : ℕ) (x y : Version) (other : CommitNote) → Lives f.ring n j x Held → (below : Names f.ring x.previous y (Committed other))
        → (super below.seat below.slot ≡ 0) × (other.dead ≡ None)
    new_below j x y other lives below =
        ⊎_elim
        (λ a.
        let one = one_named k n e x.previous y a.0 (Committed other) (Committed a.1) below a.2.names in
        let note_is : other ≡ a.1 = (let same : Committed other ≡ Committed a.1 = one.3 in cc) in
        let object_is : y.object ≡ x.object = ap (λ (z : Version). z.object) one.2 ∙ a.2.object_is in
        let time_is : other.time ≡ latest c.base h y.object = ap (λ (d : CommitNote). d.time) note_is ∙ a.2.time_is ∙ ap (latest c.base h) (sym object_is) in
        let uncut : other.cut ≡ false = ap (λ (d : CommitNote). d.cut) note_is ∙ a.3 in
        let no_next : (next : ℕ) → ¬ (IsNextWrite c.base h y.object other.time next) = λ next is. let le =
        next_write-le c.base h y.object other.time next is in let lt = is.later in omega arith in (
          dite (ℕ_discrete (super below.seat below.slot) 0) (λ zero_is. zero_is)
              (λ some. absurd (no_next (super below.seat below.slot) (k.successors.next below.seat below.slot y other below.lives some))),
          undead other.dead (λ dead is. no_next dead (k.deaths.superseded below.seat below.slot dead y other below.lives uncut is)),
        ))
        (λ b. absurd (none_names_zero f.ring x.previous b.0 y (Committed other) below))
        (k.held_link n j x lives)
      where
        undead : (o : Option ℕ) → ((dead : ℕ) → o ≢ Some dead) → o ≡ None
        undead None none = refl
        undead (Some dead) none = absurd (none dead refl)

    -- a commit below a live version was one before
    was_below : (s j : ℕ) (x y : Version) (st : WriteSetStatus) (other : CommitNote) → Lives f.ring s j x st
        → (below : Names rings x.previous y (Committed other))
        → Lives f.ring below.seat below.slot y (Committed other)
    was_below s j x y st other lives below =
        ⊎_elim
        (λ old. old)
        (λ new. absurd (link_not_held k n e s j x y st lives
        (record { seat = below.seat; slot = below.slot; lives = subst (λ (u : ℕ). Lives f.ring u below.slot y Held) (sym new.0) new.1; is = below.is })))
        (logs.was_committed f.ring n t below.seat below.slot y other below.lives)

    pub flags_after : SuccessorFlag super sections rings
    flags_after s j i d x note is mode lives time =
        dite (ℕ_discrete s n)
        (λ at.
        ⊎_elim
        (λ old. absurd (let le = old_time k n e s j x note old in let now =
        turns.named_time i d (ap sections (sym at) ∙ is) mode in omega arith))
        (λ new.
        let linked : note.linked ≡ (x.previous == 0) = ap (λ (q : CommitNote). q.linked) new.2 in (
          (λ none. linked ∙ eq-eqb x.previous 0 none),
          (λ y other below.
              let old = was_below n j x y Held other new.1 below in
              let before : Names f.ring x.previous y (Committed other) = record { seat = below.seat; slot = below.slot; lives = old; is = below.is } in (
                (λ yes_linked. absurd (none_names_zero f.ring x.previous (eqb-true x.previous 0 (sym linked ∙ yes_linked)) y (Committed other) before)),
                (λ _. new_below j x y other new.1 before),
              )),
        ))
        (logs.was_committed f.ring n t s j x note lives))
        (λ ne.
        ⊎_elim
        (λ old.
        let r = k.successor_flag s j i d x note (sym (turns.others s ne) ∙ is) mode old time in (
          r.0,
          λ y other below.
              r.1 y other (record { seat = below.seat; slot = below.slot; lives = was_below s j x y (Committed note) other old below; is = below.is }),
        ))
        (λ new. absurd (ne new.0))
        (logs.was_committed f.ring n t s j x note lives))

    pub succeeded_after : SucceededHasSuper c later super f.empty rings
    succeeded_after s g has =
        let r = k.succeeded_has_super s g has in
        let past = r.0 in (
          (let long = longer_long c.base h e in omega arith),
          λ j x note lives object_is le uncut.
              ⊎_elim
              (λ old. r.1 j x note old object_is le uncut)
              (λ new. let time_is : note.time ≡ t = ap (λ (d : CommitNote). d.time) new.2 in absurd (omega arith))
              (logs.was_committed f.ring n t s j x note lives),
        )

    pub freed_after : FreedIsOld c clock later f.grace rings
    freed_after = record {
      writes = λ u o x at w.
          ⊎_elim
          (λ old.
          ⊎_elim
          (λ v. inl (v.0, v.1, v.2, logs.still_version f.ring n t o u v.0 v.1 v.2 v.3))
          (λ gone. inr gone)
          (k.freed_is_old.writes u o x old w))
          (λ new.
          let a = makes.only o (ap (writes_to o) (sym new.1) ∙ w) in
          inl (
            link_of n a.1.position,
            a.1,
            new_note t a.1,
            record {
              names = record { seat = n; slot = a.0; lives = logs.now_committed f.ring n t a.0 a.1 a.2; is = refl };
              object_is = a.3;
              time_is = sym new.0;
            },
          ))
          (entry-was c.base h e u x at);
      named = turns.names;
    }

    pub backs_after : WriteBacks c later master sections f.time f.clocks f.grace f.back rings
    backs_after s b at =
        let ne : s ≢ n = λ here. let none : None ≡ Some b = sym turns.no_back ∙ ap f.back (sym here) ∙ at in cc in
        let o = k.write_back s b at in
        let r = o.2 in
        let le = section_time s o.0 o.1 in
        let lives = logs.still_committed f.ring n t s (index_of c b.position) r.version r.note r.lives in
        let last = latest_at-longer c.base h e b.object (time_in o.0) le ∙ r.last in
        (o.0, turns.others s ne ∙ o.1, same_back r r.note r.helped (still_nothing s r.nothing) lives r.old r.known last r.uncut r.words)
