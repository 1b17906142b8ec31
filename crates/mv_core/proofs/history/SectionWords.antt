-- What a seat has seen of the history serves for all times up to what it has seen.
use Rattle.std.proofs.Common.{◌≡◌, ℕ, ◌+◌, ◌-◌, ◌<◌, ◌≤◌, List, [], length, take, drop, sym, ap, ◌∙◌, subst, arith, take-append-drop, Some}
use Rattle.mv_history.specs.Legal.{AreWords, IsLegal}
use Rattle.mv_history.specs.WordsLaws.{AreWords-state_after}
use Rattle.mv_history.proofs.Histories.{IsLegal-front}
use Rattle.mv_history.proofs.Writing.{length-state_after}
use Rattle.std.proofs.lemmas.List.{take-append-le}
use Rattle.mv_core.proofs.Terms.{Entry, State, Writes, state_after, Config, Memory, Knowledge, Inside, OwnSection, words_of, time_in, section_of, time_of}
use Rattle.mv_core.proofs.Terms.{parts_of}
use Rattle.mv_history.specs.Meaning.{words_at}
use Rattle.mv_core.proofs.FactTerms.{BeginsWith, Facts}

-- up to a time that was seen the words of the objects are those of what was seen
pub words_seen : (c : Config) (start : State) (h seen : List Entry) (t o : ℕ) → BeginsWith h seen → t ≤ c.base + length seen
    → words_of c start h t o ≡ words_of c start seen t o
words_seen c start h seen t o front le =
    let cut : take (t - c.base) h ≡ take (t - c.base) seen = ap (λ l. take (t - c.base) l) front.1 ∙ take-append-le (t - c.base) seen front.0 (omega arith) in
    ap (λ l. words_at (state_after start l) o) cut

-- at each time each object has its six words
pub words_wide : (c : Config) (start : State) (h : List Entry) (t o : ℕ) → AreWords start → IsLegal (length start) h → o < length start
    → length (words_of c start h t o) ≡ 6
words_wide c start h t o six legal range =
    let n = t - c.base in
    let front = IsLegal-front (length start) (take n h) (drop n h) (subst (IsLegal (length start)) (sym (take-append-drop n h)) legal) in
    AreWords-state_after (length start) [] (take n h) start front six o [] (subst (λ (l : ℕ). o < l) (sym (length-state_after start (take n h))) range)

module _ {starts : State → Type 0} {allows : List ℕ → State → Writes → Type 0} {c : Config} {start : State} {m : Memory} {h : List Entry}
    (seats : ℕ → Knowledge)
    (v : Knowledge) (inside : OwnSection) (k : Facts starts allows c start m h (parts_of seats)) (is : seats v.number ≡ v)
    (phase : v.phase ≡ Inside inside) where
  pub section_is : section_of (seats v.number).phase ≡ Some inside
  section_is = ap (λ u. section_of u.phase) is ∙ ap section_of phase

  pub time_is : time_of (seats v.number).phase ≡ Some (time_in inside)
  time_is = ap (λ u. time_of u.phase) is ∙ ap time_of phase

  -- the state of the section is a part of what its seat has seen
  pub section_words : (o : ℕ) → words_of c start h (time_in inside) o ≡ words_of c start v.past.seen (time_in inside) o
  section_words o =
      let past_is = ap (λ (u : Knowledge). u.past.seen) is in
      let le = k.phases_and_scan.seen v.number (time_in inside) time_is in
      words_seen c start h (seats v.number).past.seen (time_in inside) o (k.history.seats v.number).seen le
      ∙ ap (λ s. words_of c start s (time_in inside) o) past_is
