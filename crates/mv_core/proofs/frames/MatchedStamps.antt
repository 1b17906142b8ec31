-- What holds of STAMP and SUPER, and of walks, stays where each live version stays what it is to the other seats, and the words of live versions stay.
use Rattle.std.proofs.Common.{◌≡◌, ◌≢◌, ◌⊎◌, ℕ, ◌<◌, ◌≤◌, List, sym, ◌∙◌, subst, Option}
use Rattle.mv_core.proofs.Terms.{Entry, Config, clock_of, clock_seat_of, clock_slot_of, unset_of, Ring, Built, Build, Version, WriteSetStatus, Held, Aborted}
use Rattle.mv_core.proofs.Terms.{Committed}
use Rattle.mv_core.proofs.Terms.{CommitNote, OwnSection, LoadedClocks, EmptyHead, WriteBack, slot_at, index_of, Lives, Names, IsNextWrite, NotAboveAny, time_in}
use Rattle.mv_core.proofs.FactTerms.{IsStored, StampedAs, stamp_of, Stamps, Successors, BelowIsStamped, UnstampedIsUnfinished, StampedPastHelp}
use Rattle.mv_core.proofs.FactTerms.{FoundStamps, NamedCommit, SucceededHasSuper, WriteBacks}
use Rattle.mv_core.proofs.frames.KeptRecords.{same_back, same_named}
use Rattle.mv_core.proofs.logs.Slots.{Matches}
use Rattle.mv_core.proofs.frames.Matching.{LivesOn, SameCut, uncut_back, on_place, uncommitted_back, is_committed_so, committed_back, committed_forth}
use Rattle.mv_core.proofs.frames.MatchedSets.{nothing_match}

-- the stamp of a write set goes on
stamped_alike : (clock s k stamp first : ℕ) (x : Version) (st : WriteSetStatus) (y : Version) (su : WriteSetStatus) → LivesOn x st y su
    → StampedAs clock s k stamp first st
    → StampedAs clock s k stamp first su
stamped_alike clock s k stamp first x Held y Held a e = e
stamped_alike clock s k stamp first x (Aborted d) y (Aborted f) a e = e
stamped_alike clock s k stamp first x (Committed m) y (Committed n) a e =
    subst (λ (t : ℕ). (stamp ≡ t) ⊎ ((stamp ≡ unset_of first) × (clock ≡ clock_of t s k))) (sym a.1) e
stamped_alike clock s k stamp first x Held y (Aborted f) a e = e
stamped_alike clock s k stamp first x Held y (Committed n) a e = absurd a
stamped_alike clock s k stamp first x (Aborted d) y Held a e = absurd a
stamped_alike clock s k stamp first x (Aborted d) y (Committed n) a e = absurd a
stamped_alike clock s k stamp first x (Committed m) y Held a e = absurd a
stamped_alike clock s k stamp first x (Committed m) y (Aborted f) a e = absurd a

module _ (c : Config) (h : List Entry) (before after : ℕ → Ring) (k : Matches LivesOn before after) where
  -- the stamps, and those after, where the stamp of each live version's write set stays
  module _ (stamp stamp' : ℕ → ℕ → ℕ)
      (same : (s j : ℕ) (x : Version) (st : WriteSetStatus) → Lives before s j x st → stamp_of c stamp' s x ≡ stamp_of c stamp s x) where
    -- of a committed version
    same_committed : (s j : ℕ) (x : Version) (m : CommitNote) → Lives before s j x (Committed m) → stamp_of c stamp' s x ≡ stamp_of c stamp s x
    same_committed s j x m lives = same s j x (Committed m) lives

    pub stamps_match : (clock : ℕ) → ((s j : ℕ) (b : Build) → slot_at (after s) j ≡ Built b → IsStored b.stamp (stamp' s j)) → Stamps c clock stamp before
        → Stamps c clock stamp' after
    stamps_match clock built old = record {
      live = λ s j y su lives.
          let b = k.back s j y su lives in
          let at = on_place b.0 b.1 y su b.3 in
          let word : StampedAs clock s (index_of c b.0.first) (stamp_of c stamp' s b.0) b.0.first b.1 =
          subst (λ (n : ℕ). StampedAs clock s (index_of c b.0.first) n b.0.first b.1) (sym (same s j b.0 b.1 b.2)) (old.live s j b.0 b.1 b.2) in
          stamped_alike clock s (index_of c y.first) (stamp_of c stamp' s y) y.first b.0 b.1 y su b.3
          (subst (λ (f : ℕ). StampedAs clock s (index_of c f) (stamp' s (index_of c f)) f b.1) (sym at.first) word);
      built = built;
    }

    pub past_help_match : (section : ℕ → Option OwnSection) (clocks : ℕ → LoadedClocks) → StampedPastHelp c stamp section clocks before
        → StampedPastHelp c stamp' section clocks after
    past_help_match section clocks old s inside in_section past t j x n lives le =
        let b = committed_back before after k t j x n lives in
        same_committed t j x b.0 b.1 ∙ old s inside in_section past t j x b.0 b.1 (subst (λ (u : ℕ). u ≤ time_in inside) b.2 le) ∙ sym b.2

    pub below_match : BelowIsStamped c stamp before → BelowIsStamped c stamp' after
    below_match old s j y su lives uncommitted z n names =
        let b = k.back s j y su lives in
        let d = committed_back before after k names.seat names.slot z n names.lives in
        let at = on_place b.0 b.1 y su b.3 in
        let below : Names before b.0.previous z (Committed d.0) =
        record { seat = names.seat; slot = names.slot; lives = d.1; is = sym at.previous ∙ names.is } in
        same_committed names.seat names.slot z d.0 d.1 ∙ old s j b.0 b.1 b.2 (uncommitted_back b.0 b.1 y su b.3 uncommitted) z d.0 below ∙ sym d.2

    pub unfinished_match : (section : ℕ → Option OwnSection) → UnstampedIsUnfinished c stamp section before → UnstampedIsUnfinished c stamp' section after
    unfinished_match section old s j x n lives unset =
        let b = committed_back before after k s j x n lives in
        let r = old s j x b.0 b.1 (λ e. unset (same_committed s j x b.0 b.1 ∙ e ∙ sym b.2)) in
        (r.0, r.1, r.2, r.3, r.4 ∙ sym b.2, r.5)

    pub named_match : (section : ℕ → Option OwnSection) → NamedCommit c h stamp section before → NamedCommit c h stamp' section after
    named_match section old s inside n in_section mode =
        let r = old s inside n in_section mode in
        let f = committed_forth before after k s (index_of c n.first) r.version r.note r.lives in
        let word = subst (λ (i : ℕ). stamp' s (index_of c i) ≡ stamp s (index_of c i)) r.first_is
        (same_committed s (index_of c n.first) r.version r.note r.lives) in
        same_named r f.0 r.last (nothing_match c h before after k s r.nothing) f.1 (f.2 ∙ r.time_is) (λ made. word ∙ r.stamped made)

    -- the stamps found hold, where no stamp becomes the unset one of a position that was used
    pub found_match : (clock : ℕ) (clocks : ℕ → LoadedClocks) → ((s j p : ℕ) → p < (before s).next → stamp s j ≢ unset_of p → stamp' s j ≢ unset_of p)
        → FoundStamps c clock stamp clocks before → FoundStamps c clock stamp' clocks after
    found_match clock clocks apart old = record {
      now = λ s f found is_clock.
          let r = old.now s f found is_clock in
          let g = committed_forth before after k _ _ r.version r.note r.lives in
          record { version = r.version; note = g.0; lives = g.1; first_is = r.first_is; time_is = g.2 ∙ r.time_is; unset_is = r.unset_is };
      checked = λ s f found checked.
          let r = old.checked s f found checked in
          let t : ℕ = clock_seat_of f.word in
          let j : ℕ = clock_slot_of f.word in record {
            position = r.position;
            unset_is = r.unset_is;
            slot_is = r.slot_is;
            used = subst (λ (n : ℕ). r.position < n) (sym (k.next t)) r.used;
            live = λ y su lives is.
                let b = k.back t j y su lives in
                let at = on_place b.0 b.1 y su b.3 in
                let q = r.live b.0 b.1 b.2 (sym at.position ∙ is) in
                let i = is_committed_so b.0 b.1 y su q.1.0 b.3 q.1.1 in
                (at.first ∙ q.0, (i.0, i.1, i.3 ∙ q.1.2));
            gone = λ none.
                let none_before : (x : Version) (st : WriteSetStatus) → Lives before t j x st → x.position ≢ r.position =
                λ x st lives e. let g = k.forth t j x st lives in none g.0 g.1 g.2 ((on_place x st g.0 g.1 g.3).position ∙ e) in
                let word : stamp t j ≢ unset_of r.position = λ e. r.gone none_before (e ∙ sym r.unset_is) in
                λ e. apart t j r.position r.used word (e ∙ r.unset_is);
          };
    }

  -- the SUPER words, and those after, where that of each live version stays
  module _ (super super' : ℕ → ℕ → ℕ) (same : (s j : ℕ) (x : Version) (st : WriteSetStatus) → Lives before s j x st → super' s j ≡ super s j) where
    pub successors_match : (stamp stamp' : ℕ → ℕ → ℕ) → ((s j : ℕ) (x : Version) (st : WriteSetStatus) → Lives before s j x st
        → stamp_of c stamp' s x ≡ stamp_of c stamp s x) → (section : ℕ → Option OwnSection)
        → ((s j : ℕ) (b : Build) → slot_at (after s) j ≡ Built b → IsStored b.successor (super' s j)) → Successors c h stamp super section before
        → Successors c h stamp' super' section after
    successors_match stamp stamp' stamps section built old = record {
      held = λ s j y su lives uncommitted.
          let b = k.back s j y su lives in
          same s j b.0 b.1 b.2 ∙ old.held s j b.0 b.1 b.2 (uncommitted_back b.0 b.1 y su b.3 uncommitted);
      next = λ s j x n lives ne.
          let b = committed_back before after k s j x n lives in
          let e : super' s j ≡ super s j = same s j x (Committed b.0) b.1 in
          subst (λ (u : ℕ). IsNextWrite c.base h x.object n.time u) (sym e)
          (subst (λ (t : ℕ). IsNextWrite c.base h x.object t (super s j)) (sym b.2) (old.next s j x b.0 b.1 (λ z. ne (e ∙ z))));
      stamped = λ s j x n lives t l y other p e.
          let b = committed_back before after k s j x n lives in
          let d = committed_back before after k t l y other p in
          stamps t l y (Committed d.0) d.1 ∙ old.stamped s j x b.0 b.1 t l y d.0 d.1 (sym d.2 ∙ e ∙ same s j x (Committed b.0) b.1) ∙ sym d.2;
      unfinished = λ s j x n lives uncut zero_is next is_next.
          let b = committed_back before after k s j x n lives in
          old.unfinished s j x b.0 b.1 (uncut_back b.0 n b.3 uncut) (sym (same s j x (Committed b.0) b.1) ∙ zero_is) next
          (subst (λ (t : ℕ). IsNextWrite c.base h x.object t next) b.2 is_next);
      built = built;
    }

    pub succeeded_match : (empty : ℕ → List EmptyHead) → SucceededHasSuper c h super empty before → SucceededHasSuper c h super' empty after
    succeeded_match empty old s e has =
        let r = old s e has in (
          r.0,
          λ j x n lives object le uncut zero_is.
              let b = committed_back before after k s j x n lives in
              r.1 j x b.0 b.1 object (subst (λ (t : ℕ). t ≤ e.time) b.2 le) (uncut_back b.0 n b.3 uncut) (sym (same s j x (Committed b.0) b.1) ∙ zero_is),
        )

  pub back_match : SameCut before after → (master : ℕ → ℕ → ℕ) (section : ℕ → Option OwnSection) (time : ℕ → Option ℕ) (clocks : ℕ → LoadedClocks) (grace : ℕ
      → ℕ) (back : ℕ → Option WriteBack) → WriteBacks c h master section time clocks grace back before
      → WriteBacks c h master section time clocks grace back after
  back_match same_cut master section time clocks grace back old s b is =
      let r = old s b is in
      let w = r.2 in
      let f = committed_forth before after k s (index_of c b.position) w.version w.note w.lives in
      let old_still = subst (λ (t : ℕ). NotAboveAny t time) (sym f.2) w.old in
      let known = subst (λ (t : ℕ). t ≤ grace s) (sym f.2) w.known in
      let nothing = nothing_match c h before after k s w.nothing in
      let cut_same = same_cut s (index_of c b.position) w.version w.note f.0 w.lives f.1 in
      (r.0, r.1, same_back w f.0 w.helped nothing f.1 old_still known (w.last ∙ sym f.2) (λ untried. cut_same ∙ w.uncut untried) w.words)
