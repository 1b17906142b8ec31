-- store HEAD (abort), in the log of its seat: a version that was held is aborted, in its place, and HEAD is the previous link again.
use Rattle.std.proofs.Common.{◌≡◌, ℕ, ◌<◌, List, length, refl, sym, ap, ◌∙◌, subst, ⊎_elim, None}
use Rattle.std.specs.Prelude.{slice_set}
use Rattle.mv_core.proofs.Terms.{Entry, State, Writes, Config, Head, First, Stamp, Prev, Super, Data, link_of, Memory, put, Ring, Live, Version, Held}
use Rattle.mv_core.proofs.Terms.{Aborted, Knowledge, OwnSection, slot_at, put_slot, Lives, Names, NoneHolds, IsTop, latest, parts_of, set_at}
use Rattle.mv_core.proofs.FactTerms.{HoldsSlot, SlotWords, SuccessorFlag, HeadIsTop, Facts}
use Rattle.mv_core.specs.LockSteps.{MayUnlock}
use Rattle.mv_core.proofs.logs.Links.{live_once, names_once}
use Rattle.mv_core.proofs.kinds.locking.lock_head.LockWon.{put_head}
use Rattle.mv_core.proofs.logs.Slots.{Matches, match_weaker, match_put, live_within, here_or_else, slots_after, lives_else}
use Rattle.mv_core.proofs.frames.Matching.{LivesOn, SameCut, same_cuts, top_forth}
use Rattle.mv_core.proofs.kinds.reclaiming.cut_head.Cuts.{SameDeath, SameNotes, Aborts, aborts_self, SameDeathFacts, same_death_facts, flags_match}
use Rattle.mv_core.proofs.frames.MatchedFacts.{LivesOnFacts, SameCutFacts, live_on_facts, same_cut_facts}
use Rattle.mv_core.proofs.frames.InPlace.{InPlaceFacts, in_place_put, in_place_facts}

module _ {starts : State → Type 0} {allows : List ℕ → State → Writes → Type 0} {c : Config} {start : State} {m : Memory} {h : List Entry}
    (seats : ℕ → Knowledge)
    (k : Facts starts allows c start m h (parts_of seats))
    (v : Knowledge) (is : seats v.number ≡ v) (object previous slot : ℕ) (x : Version) (inside : OwnSection)
    (may : MayUnlock v object previous slot x inside) where
  abbrev pub rings : ℕ → Ring
  rings s = (seats s).ring

  abbrev pub n : ℕ
  n = v.number

  abbrev pub ring_now : Ring
  ring_now = put_slot v.ring slot (Live x (Aborted None))

  abbrev pub later : ℕ → Ring
  later = set_at rings n ring_now

  pub was_held : Lives rings n slot x Held
  was_held = ap (λ (u : Knowledge). slot_at u.ring slot) is ∙ may.held

  written : ring_now.slots ≡ slice_set (rings n).slots slot (Live x (Aborted None))
  written = ap (λ (u : Knowledge). slice_set u.ring.slots slot (Live x (Aborted None))) (sym is)

  within : slot < length (rings n).slots
  within = live_within (rings n) slot x Held was_held

  -- what holds of each other held version as it was holds of all that are still held
  pub each_held : (P : ℕ → ℕ → Version → Type 0) → ((s j : ℕ) (y : Version) → ¬ ((s ≡ n) × (j ≡ slot)) → Lives rings s j y Held → P s j y)
      → (s j : ℕ) (y : Version) → Lives later s j y Held → P s j y
  each_held P rest =
      slots_after rings n slot (Live x (Aborted None)) ring_now written within (λ s j z. (y : Version) → z ≡ Live y Held → P s j y) (λ y e. absurd (cc))
      (λ s j ne y lives. rest s j y ne lives)

  aborts : Matches Aborts rings later
  aborts = match_put Aborts aborts_self rings n slot (Live x (Aborted None)) ring_now written within (ap (λ (u : Knowledge). u.ring.next) (sym is)) x Held x
      (Aborted None) was_held refl ((((refl, refl), refl), refl), refl)

  on : Matches LivesOn rings later
  on = match_weaker Aborts LivesOn rings later (λ y st z su a. a.0.0.0) aborts

  cut_same : SameCut rings later
  cut_same = same_cuts Aborts (λ y st z su a. a.1) rings later aborts

  -- each other one is held still
  held_still : (s j : ℕ) (y : Version) → ¬ ((s ≡ n) × (j ≡ slot)) → Lives rings s j y Held → Lives later s j y Held
  held_still s j y ne = lives_else rings n slot (Live x (Aborted None)) ring_now written within s j y Held ne

  pub words_after : SlotWords (λ s j. m (First s j)) (λ s j. m (Prev s j)) (λ s j w. m (Data s j w)) later
  words_after =
      slots_after rings n slot (Live x (Aborted None)) ring_now written within
      (λ s j z. HoldsSlot (m (First s j)) (m (Prev s j)) (λ i. m (Data s j i)) z)
      (subst (HoldsSlot (m (First n slot)) (m (Prev n slot)) (λ i. m (Data n slot i))) was_held (k.slot_words n slot))
      (λ s j ne. k.slot_words s j)

  -- the facts that stay
  pub in_place : InPlaceFacts c m h (parts_of seats) later
  in_place = in_place_facts k later on (in_place_put rings n slot ring_now x x Held (Aborted None) was_held written)

  pub live_on : LivesOnFacts c start m h (parts_of seats) (λ s j. m (Stamp s j)) later
  live_on = live_on_facts k later (λ s j. m (Stamp s j)) (λ s j y st l. refl) (λ s j p used apart. apart) on

  pub same_cut : SameCutFacts c start m h (parts_of seats) later
  same_cut = same_cut_facts k later on cut_same

  pub same_death : SameDeathFacts c h (parts_of seats) later
  same_death = same_death_facts k later (match_weaker Aborts SameDeath rings later (λ y st z su a. a.0.0) aborts)

  pub flags : SuccessorFlag (λ s j. m (Super s j)) (parts_of seats).section later
  flags = flags_match k later (λ s j. m (Super s j)) (λ s j y st l. refl)
      (match_weaker Aborts SameNotes rings later (λ y st z su a. a.0) aborts)

  -- HEAD is the previous link again
  pub heads : HeadIsTop c h (λ o. put m (Head object) previous (Head o)) later
  heads = record {
    held = each_held (λ s j y. put m (Head object) previous (Head y.object) ≡ link_of s y.position)
        (λ s j y ne lives.
        put_head m object previous (λ o w. o ≡ y.object → w ≡ link_of s y.position)
        (λ e.
        let mine : Names rings (m (Head object)) x Held =
        record { seat = n; slot = slot; lives = was_held; is = ap (λ (o : ℕ). m (Head o)) (sym may.object_is) ∙ k.head_is_top.held n slot x was_held } in
        let other : Names rings (m (Head object)) y Held =
        record { seat = s; slot = j; lives = lives; is = ap (λ (o : ℕ). m (Head o)) e ∙ k.head_is_top.held s j y lives } in
        let r = names_once c h rings k.checked k.history.in_time k.positions (m (Head object)) y x Held Held other mine in
        absurd (ne (r.0, r.1)))
        (λ o apart e. ap (λ (p : ℕ). m (Head p)) e ∙ k.head_is_top.held s j y lives) y.object refl);
    top = put_head m object previous (λ o w. NoneHolds later o → IsTop later o (latest c.base h o) w)
        (λ none. top_forth rings later on cut_same object (latest c.base h object) previous
        (subst (λ (o : ℕ). IsTop rings o (latest c.base h o) previous) may.object_is
        (subst (IsTop rings x.object (latest c.base h x.object)) may.previous_is (k.held_link n slot x was_held))))
        (λ o ne none. top_forth rings later on cut_same o (latest c.base h o) (m (Head o)) (k.head_is_top.top o (λ s j y lives e.
        ⊎_elim
        (λ at.
        let there : Lives rings n slot y Held = subst (λ (p : ℕ × ℕ). Lives rings p.0 p.1 y Held) (λ i. (at.0 i, at.1 i)) lives in
        let one = (live_once (slot_at (rings n) slot) x y Held Held was_held there).0 in
        ne (sym e ∙ ap (λ (z : Version). z.object) (sym one) ∙ may.object_is))
        (λ apart. none s j y (held_still s j y apart lives) e)
        (here_or_else s n j slot))));
  }
