-- What the rule tells a seat of its section and of what it holds.
use Rattle.std.proofs.Common.{◌≡◌, ℕ, ◌+◌, ◌<◌, ◌≤◌, Bool, List, length, take, sym, ap, ◌∙◌, subst, arith, Some}
use Rattle.std.proofs.lemmas.List.{take_all}
use Rattle.std.proofs.Math.Seq.{take-append-le}
use Rattle.mv_core.proofs.Terms.{Entry, State, Writes, Config, Head, First, Prev, Data, Memory, Ring, Live, Version, Held, Knowledge, Inside, OwnSection}
use Rattle.mv_core.proofs.Terms.{slot_at, Lives, Names, writes_to, is_by, last_that, time_in, parts_of}
use Rattle.mv_core.proofs.FactTerms.{BeginsWith, HoldsSlot, KnownHeld, KnownSection, Facts}
use Rattle.mv_core.proofs.history.Latest.{last_that-take-mono, last_that-take-all}
use Rattle.mv_core.proofs.logs.Links.{names_once}
use Rattle.mv_core.proofs.history.SectionWords.{section_is, time_is}

-- the last entry of a beginning that passes isn't after that of the whole
last_that-front : (test : Entry → Bool) (h seen : List Entry) → BeginsWith h seen → last_that test seen ≤ last_that test h
last_that-front test h seen front =
    let cut : take (length seen) h ≡ seen =
    ap (take (length seen)) front.1 ∙ take-append-le (length seen) seen front.0 (let e : length seen ≤ length seen = omega arith in e)
    ∙ take_all (length seen) seen (omega arith) in
    let less = last_that-take-mono test h (length seen) (length h + length seen) (omega arith) in
    let all = last_that-take-all test h (length h + length seen) (omega arith) in
    let same : last_that test (take (length seen) h) ≡ last_that test seen = ap (last_that test) cut in
    omega arith

module _ {starts : State → Type 0} {allows : List ℕ → State → Writes → Type 0} {c : Config} {start : State} {m : Memory} {h : List Entry}
    (seats : ℕ → Knowledge)
    (w : Knowledge) (k : Facts starts allows c start m h (parts_of seats)) (is : seats w.number ≡ w) (begins : w.start ≡ start) (from : w.base ≡ c.base)
    (inside : OwnSection) (phase : w.phase ≡ Inside inside) where
  abbrev n : ℕ
  n = w.number

  abbrev rings : ℕ → Ring
  rings s = (seats s).ring

  front : BeginsWith h w.past.seen
  front = subst (λ (u : Knowledge). BeginsWith h u.past.seen) is (k.history.seats n).seen

  lives_in : (j : ℕ) (x : Version) → slot_at w.ring j ≡ Live x Held → Lives rings n j x Held
  lives_in j x e = ap (λ (u : Knowledge). slot_at u.ring j) is ∙ e

  held_is : (j : ℕ) (x : Version) → slot_at w.ring j ≡ Live x Held → KnownHeld w inside x
  held_is j x e =
      let lives = lives_in j x e in
      let fresh = k.lock_freshness n j x lives in
      let same : Some fresh.0 ≡ Some (time_in inside) = sym fresh.1 ∙ time_is seats w inside k is phase in
      let t : fresh.0 ≡ time_in inside = cc in
      let late = fresh.2 in
      let less = last_that-front (writes_to x.object) h w.past.seen front in
      let words = subst (HoldsSlot (m (First n j)) (m (Prev n j)) (λ i. m (Data n j i))) lives (k.slot_words n j) in
      record {
        in_range = subst (λ (l : ℕ). x.object < l) (sym (ap length begins ∙ k.history.sized)) fresh.3;
        wide = words.wide;
        unwritten = omega arith;
      }

  apart_are : (i j : ℕ) (x y : Version) → slot_at w.ring i ≡ Live x Held → slot_at w.ring j ≡ Live y Held → x.object ≡ y.object → i ≡ j
  apart_are i j x y a b e =
      let mine : Names rings (m (Head x.object)) x Held =
      record { seat = n; slot = i; lives = lives_in i x a; is = k.head_is_top.held n i x (lives_in i x a) } in
      let other : Names rings (m (Head x.object)) y Held =
      record { seat = n; slot = j; lives = lives_in j y b; is = ap (λ (o : ℕ). m (Head o)) e ∙ k.head_is_top.held n j y (lives_in j y b) } in
      (names_once c h rings k.checked k.history.in_time k.positions (m (Head x.object)) x y Held Held mine other).1

  pub known_section : KnownSection w inside
  known_section = record {
    seen = (let seen = subst (λ (u : Knowledge). time_in inside ≤ c.base + length u.past.seen) is
        (k.phases_and_scan.seen n (time_in inside) (time_is seats w inside k is phase)) in omega arith);
    own = λ unnamed.
        let late = k.open_section.own n inside (section_is seats w inside k is phase) unnamed in
        let less = last_that-front (is_by n) h w.past.seen front in
        omega arith;
    held = held_is;
    apart = apart_are;
  }
