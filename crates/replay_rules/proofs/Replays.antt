-- The states of a replay: none of its seats is joined, and each state is one of the core's rule.
use Rattle.std.proofs.Common.{◌≡◌, ◌≢◌, ◌⊎◌, ℕ, zero, suc, ◌+◌, ◌-◌, ◌<◌, ◌≤◌, inl, inr, false, if◌then◌else◌, List, [], ◌∷◌, refl, ap, ◌∙◌, arith, eq-eqb}
use Rattle.std.proofs.Common.{ne_eqb, subst, All, slice_index, replicate}
use Rattle.std.proofs.lemmas.List.{get_or_past, get_or-replicate, length-replicate}
use Rattle.std.proofs.lemmas.List.Elements.{All-replicate}
use Rattle.std.proofs.lemmas.Bool.{cases_lt}
use Rattle.mv_history.specs.Meaning.{words_at}
use Rattle.mv_history.specs.Legal.{IsWords}
use Rattle.mv_core.specs.declared.view.Knowledge.{Knowledge}
use Rattle.mv_core.proofs.Terms.{Config, Checked, set_at}
use Rattle.mv_core.specs.SeatSteps.{made_one, newly_made}
use Rattle.mv_core.specs.Moves.{Moment, Act, act, IsSeat, Reached, moved, makes, steps, opening_of}
use Rattle.mv_core.specs.Moves as moves
use Rattle.mv_core.specs.MoveLaws.{Holds, IsOpening}
use Rattle.mv_core.proofs.frames.FrameLaw.{set_at_all}
use Rattle.mv_core.proofs.moves.Moving.{reached_hold}
use Rattle.mv_core.proofs.moves.Kinds.{kept}
use Rattle.mv_core.proofs.moves.Notes.{seat_is}
use Rattle.replay_rules.specs.States.{any_commit, any_start, zeros, with_made, opened, Made, state_of, AreMade}

-- a seat that isn't joined and has no note; the first one has made so many, and no other one any
abbrev pub IsUnjoined : ℕ → ℕ → Knowledge → Type 0
IsUnjoined made n v = (n ≡ 0 → v.made ≡ made) × (n ≢ 0 → v.made ≡ 0) × (v.spent ≡ false) × (v.notes ≡ [])

abbrev pub AreUnjoined : ℕ → (ℕ → Knowledge) → Type 0
AreUnjoined made seats = (n : ℕ) → IsUnjoined made n (seats n)

-- a step of a seat leaves that
unjoined_after : (made : ℕ) (seats : ℕ → Knowledge) (n : ℕ) (w : Knowledge) → AreUnjoined made seats → w.made ≡ (seats n).made → w.notes ≡ (seats n).notes
    → w.spent ≡ (seats n).spent → AreUnjoined made (set_at seats n w)
unjoined_after made seats n w u m notes spent =
    set_at_all (IsUnjoined made) seats n w (λ e. m ∙ (u n).0 e, λ ne. m ∙ (u n).1 ne, spent ∙ (u n).2, notes ∙ (u n).3) (λ t ne. u t)

module _ (c : Config) where
  -- the making of a seat makes one more
  unjoined_made : (made : ℕ) (seats : ℕ → Knowledge) → 0 < made → AreUnjoined made seats
      → AreUnjoined (made + 1) (set_at (set_at seats 0 (made_one c (seats 0))) (seats 0).made (newly_made c (seats 0)))
  unjoined_made made seats pos u =
      let first : (seats 0).made ≡ made = (u 0).0 refl in
      let w = made_one c (seats 0) in
      set_at_all (IsUnjoined (made + 1)) (set_at seats 0 w) (seats 0).made (newly_made c (seats 0))
      (λ e. absurd (omega (arith, pos, first, e)), λ ne. refl, refl, refl)
      (λ t _. set_at_all (IsUnjoined (made + 1)) seats 0 w (λ e. ap (λ (n : ℕ). n + 1) first, λ ne. absurd (ne refl), (u 0).2, (u 0).3)
      (λ s ne. (λ e. absurd (ne e), (u s).1, (u s).2, (u s).3)) t)

  -- a state of a domain with so many seats that are made
  abbrev IsMade : ℕ → Moment → Type 0
  IsMade made s = AreUnjoined made s.seats × Reached any_commit c (zeros c) s

  -- in a new domain the first seat alone is made
  made_first : AreUnjoined 1 (opening_of c (zeros c)).seats
  made_first n = (λ e. ap (λ b. if b then 1 else 0) (eq-eqb n 0 e), λ ne. ap (λ b. if b then 1 else 0) (ne_eqb n 0 ne), refl, refl)

  -- and then the others are
  made_all : (count : ℕ) → count < c.seats → IsMade (count + 1) (with_made c count (opening_of c (zeros c)))
  made_all zero lt = (made_first, moves.opened)
  made_all (suc count) lt =
      let before = made_all count (omega arith) in
      let s = with_made c count (opening_of c (zeros c)) in
      let first : (s.seats 0).made ≡ count + 1 = (before.0 0).0 refl in
      let more : count + 1 + 1 ≡ suc count + 1 = omega arith in (
        subst (λ n. AreUnjoined n (with_made c (suc count) (opening_of c (zeros c))).seats) more (unjoined_made (count + 1) s.seats (omega arith) before.0),
        moved s _ before.1 (0, record { made = omega arith; unspent = (before.0 0).2 }, makes refl (omega arith) refl),
      )

  -- the words are as a new domain's
  pub memory_made : (count : ℕ) (s : Moment) → (with_made c count s).memory ≡ s.memory
  memory_made zero s = refl
  memory_made (suc count) s = memory_made count s

  -- an object that is all zeros, or isn't there, has no other word
  word_zero : (words : List ℕ) → (words ≡ replicate 6 0) ⊎ (words ≡ []) → (w : ℕ) → slice_index words w ≡ 0
  word_zero words (inl e) w = ap (λ l. slice_index l w) e ∙ within (cases_lt w 6)
    where
      within : (w < 6) ⊎ (6 ≤ w) → slice_index (replicate 6 0) w ≡ 0
      within (inl lt) = get_or-replicate 6 w 0 0 lt
      within (inr ge) = get_or_past (replicate {A = ℕ} 6 0) w 0 (omega (arith, length-replicate {A = ℕ} 6 0, ge))
  word_zero words (inr e) w = ap (λ l. slice_index l w) e ∙ get_or_past [] w 0 (omega arith)

  pub zero_words : (o w : ℕ) → slice_index (words_at (zeros c) o) w ≡ 0
  zero_words o w = word_zero (words_at (zeros c) o) (object (cases_lt o c.objects)) w
    where
      object : (o < c.objects) ⊎ (c.objects ≤ o) → (words_at (zeros c) o ≡ replicate 6 0) ⊎ (words_at (zeros c) o ≡ [])
      object (inl lt) = inl (get_or-replicate c.objects o (replicate 6 0) [] lt)
      object (inr ge) = inr (get_or_past (zeros c) o [] (omega (arith, length-replicate c.objects (replicate {A = ℕ} 6 0), ge)))

  module _ (k : Checked c) where
    -- what a domain of a replay is opened with
    opening : IsOpening any_start c (zeros c)
    opening = record {
      checked = k;
      lawful = tt;
      sized = length-replicate c.objects (replicate 6 0);
      six = six_words c.objects;
      small = λ o w. (let e = zero_words o w in omega (arith, e));
    }
      where
        six_words : (n : ℕ) → All IsWords (replicate n (replicate 6 0))
        six_words n = All-replicate IsWords n (replicate 6 0) refl

    -- a state that is reached is one of the rule
    holds_at : (s : Moment) → Reached any_commit c (zeros c) s → Holds any_start any_commit c (zeros c) s
    holds_at = reached_hold any_start any_commit c (zeros c) opening

    -- a state behind steps that were made
    pub made_behind : (made : List Made) → AreMade c made → AreUnjoined c.seats (state_of c made).seats × Reached any_commit c (zeros c) (state_of c made)
    made_behind [] a =
        let all = made_all (c.seats - 1) (let s = k.seats.0 in omega arith) in
        subst (λ n. AreUnjoined n (opened c).seats × Reached any_commit c (zeros c) (opened c)) (let s = k.seats.0 in omega arith) all
    made_behind (step ∷ before) a =
        let s = state_of c before in
        let u = made_behind before a.1 in
        let h = holds_at s u.1 in
        let m = a.0 in
        let made_is : (s.seats 0).made ≡ c.seats = (u.0 0).0 refl in
        let active : IsSeat s step.seat = record { made = (let lt = m.seat in omega (arith, lt, made_is)); unspent = (u.0 step.seat).2 } in
        let own = h.seats.own step.seat in
        let r = (kept any_start any_commit c (zeros c) (s.seats step.seat) step.kind m.may).keeps s.memory s.history s.seats h.facts (ap s.seats own.0)
        (seat_is c (zeros c) s.seats h.seats h.notes step.seat active.made active.unspent) own.1
        (h.words (act any_commit c (s.seats step.seat) step.kind).place) in (
          unjoined_after c.seats s.seats step.seat _ u.0 r.1.3 r.1.4 r.1.5,
          moved s _ u.1 (step.seat, active, steps step.kind m.may m.fits refl),
        )

    pub holds_behind : (made : List Made) → AreMade c made → Holds any_start any_commit c (zeros c) (state_of c made)
    holds_behind made a = holds_at (state_of c made) (made_behind made a).1
