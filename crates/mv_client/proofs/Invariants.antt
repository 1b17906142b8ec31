-- How often what each allowed commit raises was raised.
use Rattle.std.proofs.Common.{◌≡◌, ℕ, ◌+◌, ◌≤◌, List, [], ◌∷◌, ◌++◌, length, take, ap, ◌∙◌, arith}
use Rattle.std.proofs.lemmas.List.{length-take-le}
use Rattle.mv_history.specs.State.{State, Writes, state_after}
use Rattle.mv_history.specs.declared.history.Entry.{Entry}
use Rattle.mv_history.specs.declared.history.Entry.TheVariants.{Rest, Change}
use Rattle.mv_history.specs.declared.history.TheConstants.{LAST}
use Rattle.mv_history.specs.Legal.{IsAllowed}
use Rattle.mv_history.specs.Meaning.{InSection, IsSection, snapshot_of, state_of}
use Rattle.mv_history.proofs.Kept.{keeps_along, seen_allowed}
use Rattle.section_work.proofs.Entering.{reads_snapshot}
use Rattle.mv_client.specs.Invariants.{IsRaised, count_changes}

count_changes-append : (xs ys : List Entry) → count_changes (xs ++ ys) ≡ count_changes xs + count_changes ys
count_changes-append [] ys = omega arith
count_changes-append (Rest by ∷ xs) ys = count_changes-append xs ys
count_changes-append (Change c ∷ xs) ys = omega (arith, count_changes-append xs ys)

few_changes : (es : List Entry) → count_changes es ≤ length es
few_changes [] = omega arith
few_changes (Rest by ∷ es) = omega (arith, few_changes es)
few_changes (Change c ∷ es) = omega (arith, few_changes es)

module _ (allowed : List ℕ → State → Writes → Type 0) (f : State → ℕ) (raises : IsRaised allowed f) where
  -- What each allowed commit raises by one has been raised as often as there were commits.
  pub raised_after : (start : State) (es : List Entry) → IsAllowed allowed start es → f (state_after start es) ≡ f start + count_changes es
  raised_after start es h =
      keeps_along allowed (λ front s. f s ≡ f start + count_changes front)
      (λ front by s q. omega (arith, q, count_changes-append front (Rest by ∷ [])))
      (λ front c s a q. omega (arith, q, raises c.tag s c.writes a, count_changes-append front (Change c ∷ [])))
      start es h (omega arith)

  -- So in what a section began with it is at most as much greater as there are times.
  pub raised_in : {starts : State → Type 0} {s : InSection} → IsSection starts allowed s → f (snapshot_of s) ≤ f s.seat.start + LAST
  raised_in {starts} {s} lawful =
      let is = raised_after s.seat.start (take s.at s.seat.seen) (seen_allowed s.seat lawful.seat s.at) in
      omega (arith, is, few_changes (take s.at s.seat.seen), length-take-le s.at s.seat.seen lawful.at, lawful.at, lawful.seat.time, lawful.seat.last)

  -- And so it is in what a section reads that holds nothing.
  pub raised_read : {starts : State → Type 0} {s : InSection} {u : State} → IsSection starts allowed s → s.own ≡ [] → u ≡ state_of s
      → f u ≤ f s.seat.start + LAST
  raised_read {starts} {s} lawful none reads = omega (arith, raised_in lawful, ap f (reads ∙ reads_snapshot s none))
