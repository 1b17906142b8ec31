-- What the rule tells a seat of the low time that it loaded, of the clock words that it loaded, of an unset stamp that it found, and of its positions.
use Rattle.std.proofs.Common.{◌≡◌, ◌≢◌, ℕ, ◌+◌, ◌*◌, ◌<◌, ◌≤◌, ◌^◌, List, length, sym, ap, ◌∙◌, subst, arith, mul-le-mul, Some}
use Rattle.std.specs.Prelude.{All, Contains}
use Rattle.mv_core.proofs.Terms.{Entry, State, Writes, maker_of, Config, Clock, Mark, Memory, clock_slot_of, Built, Build, Committed, Knowledge, FoundStamp}
use Rattle.mv_core.proofs.Terms.{WriteBack, index_of, slot_at, parts_of}
use Rattle.mv_core.specs.declared.view.Phase.TheVariants.{Lowered, Inside}
use Rattle.mv_core.specs.declared.view.OwnSection.{OwnSection}
use Rattle.mv_core.specs.declared.view.Mode.TheVariants.{Named}
use Rattle.mv_core.specs.declared.view.Naming.{Naming}
use Rattle.mv_core.specs.Views.{section_of}
use Rattle.mv_core.proofs.FactTerms.{BeginsWith, MarkedAs, KnownInDomain, Facts}
use Rattle.mv_core.proofs.history.Fronts.{All-front}
use Rattle.mv_core.proofs.logs.Links.{position_small}
use Rattle.mv_core.proofs.kinds.locking.lock_head.NextPosition.{below_rounds}

module _ {starts : State → Type 0} {allows : List ℕ → State → Writes → Type 0} {c : Config} {start : State} {m : Memory} {h : List Entry}
    (seats : ℕ → Knowledge)
    (w : Knowledge) (k : Facts starts allows c start m h (parts_of seats)) (is : seats w.number ≡ w) where
  abbrev n : ℕ
  n = w.number

  -- a low time isn't above the clock's
  pub known_low : (low : ℕ) → w.phase ≡ Lowered low → low ≤ 35184372088831
  known_low low e =
      let marked = subst (MarkedAs (m Clock) (m (Mark n))) (ap (λ (u : Knowledge). u.phase) is ∙ e) (k.marks n) in
      let low_is = marked.1 in
      let long = k.history.long in
      let in_time = k.history.in_time in
      omega arith

  -- an unset stamp was found for a word that names a commit
  pub known_found : (f : FoundStamp) → w.clocks.found ≡ Some f → clock_slot_of f.word ≢ 8191
  known_found f e = (k.loaded_words.found n f (ap (λ (u : Knowledge). u.clocks.found) is ∙ e)).1

  -- a word that was loaded and names no commit counts as helped
  pub known_none : (word : ℕ) → Contains w.clocks.loaded word → clock_slot_of word ≡ 8191 → Contains w.clocks.helped word
  known_none =
      subst (λ (u : Knowledge). (word : ℕ) → Contains u.clocks.loaded word → clock_slot_of word ≡ 8191 → Contains u.clocks.helped word) is
      (k.loaded_words.none n)

  -- each word that was loaded, or found a stamp for, names a seat and a slot of the domain, or no commit, and what was seen is by its seats
  pub known_in_domain : KnownInDomain c w
  known_in_domain = (
    λ word has. (k.loaded_words.loaded n word (subst (λ (u : Knowledge). Contains u.clocks.loaded word) (sym is) has)).is_word,
    λ f e. (k.loaded_words.found n f (ap (λ (u : Knowledge). u.clocks.found) is ∙ e)).0.is_word,
    (let begins = subst (λ (u : Knowledge). BeginsWith h u.past.seen) is (k.history.seats n).seen in
        All-front (λ e. maker_of e < c.seats) w.past.seen begins.0 (subst (All (λ e. maker_of e < c.seats)) begins.1 k.history.makers)),
  )

  -- the position that is written back fits a link
  pub known_back : (b : WriteBack) → w.back ≡ Some b → b.position < 2 ^ 57
  known_back b e =
      let written = (k.write_back n b (ap (λ (u : Knowledge). u.back) is ∙ e)).2 in
      subst (λ (p : ℕ). p < 2 ^ 57) written.position_is
      (position_small c h (λ s. (seats s).ring) k.checked k.history.in_time k.positions n (index_of c b.position) written.version
      (Committed written.note) written.lives)

  -- so does the first one of a commit that the section has named
  pub known_named : (inside : OwnSection) (naming : Naming) → w.phase ≡ Inside inside → inside.mode ≡ Named naming → naming.first < 2 ^ 57
  known_named inside naming e named =
      let is_named = k.named_commit n inside naming (ap (λ (u : Knowledge). section_of u.phase) is ∙ ap section_of e) named in
      subst (λ (p : ℕ). p < 2 ^ 57) is_named.position_is
      (position_small c h (λ s. (seats s).ring) k.checked k.history.in_time k.positions n (index_of c naming.first) is_named.version
      (Committed is_named.note) is_named.lives)

  -- and so does the next one, while something is being built for it
  pub known_next : (j : ℕ) (b : Build) → slot_at w.ring j ≡ Built b → w.ring.next < 2 ^ 57
  known_next j b e =
      let low = k.positions_and_grace.built n j b (ap (λ (u : Knowledge). slot_at u.ring j) is ∙ e) in
      let now = (k.grace.views n).0 in
      let long = k.history.long in
      let in_time = k.history.in_time in
      let some = k.checked.slots.0 in
      let few = k.checked.slots.1 in
      let below = below_rounds c.slots (seats n).ring.next (length h) (omega arith) (omega arith) in
      let most : c.slots * (length h + 1) ≤ 4096 * 35184372088832 = mul-le-mul few (let e : length h + 1 ≤ 35184372088832 = omega arith in e) in
      let next_is : (seats n).ring.next ≡ w.ring.next = ap (λ (u : Knowledge). u.ring.next) is in
      omega arith
