-- A count is planned, and fit.
use Rattle.std.proofs.Common.{◌≡◌, ℕ, ◌<◌, true, List, [], ◌∷◌, length, refl, ap, ◌∙◌, arith}
use Rattle.std.proofs.lemmas.Bool.Decides.{nat_tests}
use Rattle.mv_history.specs.State.{State, touches}
use Rattle.mv_history.specs.Legal.{AreWithin}
use Rattle.mv_history.specs.Drift.{IsFit}
use Rattle.mv_history.specs.Meaning.{InSection, IsSection, state_of, words_at}
use Rattle.mv_history.proofs.Drifting.{words-drifts, length-drifts}
use Rattle.mv_history.proofs.Snapshots.{length-state_of}
use Rattle.section_work.specs.Works.{IsPlanned}
use Rattle.work_tests.specs.Counting.{IsCounter, CountsOne, count_meaning, one_more}
use Rattle.work_tests.specs.declared.told.Told.TheVariants.{Counted}

-- a section reads one object
pub one_object : (s : InSection) (u : State) → u ≡ state_of s → IsSection IsCounter CountsOne s → 0 < length u
one_object s u e h = let one : length u ≡ 1 = ap length e ∙ length-state_of s ∙ h.seat.start in omega (arith, one)

touches-it : (w : List ℕ) → touches ((0, w) ∷ []) 0 ≡ true
touches-it w = grind (arith, nat_tests)

within-it : (n : ℕ) (w : List ℕ) → 0 < n → AreWithin ((0, w) ∷ []) n
within-it n w lt o t = grind (arith, nat_tests)

-- others who count nothing meanwhile leave the count
count_fit : (tag : List ℕ) (s : State) (w : List ℕ) → 0 < length s → w ≡ one_more s → IsFit CountsOne s tag ((0, w) ∷ [])
count_fit tag s w some is t drifts =
    let same : words_at t 0 ≡ words_at s 0 = words-drifts CountsOne ((0, w) ∷ []) s t 0 drifts (touches-it w) in
    let as_many = length-drifts CountsOne ((0, w) ∷ []) s t drifts in
    (rw as_many some, rw (same, is) refl)

pub planned : (s : State) (w : List ℕ) (tag : List ℕ) → 0 < length s → w ≡ one_more s → IsPlanned CountsOne count_meaning s tag ((0, w) ∷ []) Counted
planned s w tag some is = record {
  plan = ((some, rw is refl), refl);
  some = omega arith;
  few = omega arith;
  distinct = refl;
  within = within-it (length s) w some;
  fit = count_fit tag s w some is;
}
