-- Which objects are vacant for a section that stays as it was.
use Rattle.std.proofs.Common.{◌≡◌, ℕ, ◌+◌, List, ◌<◌, length, sym, ap, ◌∙◌, subst, ⊎_elim, arith}
use Rattle.std.proofs.lemmas.Bool.{cases_lt}
use Rattle.mv_history.specs.State.{State, Writes, touches}
use Rattle.mv_history.specs.Meaning.{InSection, IsSection, state_of, words_at}
use Rattle.mvrlu.specs.Standing.{Stays, stays_state}
use Rattle.object_seats.specs.Vacant.{IsVacant, NoneVacant}

module _ (starts : State → Type 0) (allows : List ℕ → State → Writes → Type 0) (s t : InSection) (is : IsSection starts allows s) (stays : Stays s t) where
  same : state_of t ≡ state_of s
  same = stays_state starts allows s t is stays

  -- what is vacant for the later one was so for the earlier one
  pub vacant_before : (object : ℕ) → IsVacant t object → IsVacant s object
  vacant_before object v = record {
    there = subst (λ (x : State). object < length x) same v.there;
    zeros = ap (λ (x : State). words_at x object) (sym same) ∙ v.zeros;
    lacks = ap (λ (w : Writes). touches w object) (sym stays.0.own) ∙ v.lacks;
  }

  -- and the other way round
  pub vacant_after : (object : ℕ) → IsVacant s object → IsVacant t object
  vacant_after object v = record {
    there = subst (λ (x : State). object < length x) (sym same) v.there;
    zeros = ap (λ (x : State). words_at x object) same ∙ v.zeros;
    lacks = ap (λ (w : Writes). touches w object) stays.0.own ∙ v.lacks;
  }

-- none is vacant up to an object that isn't, nor up to the one behind it
pub none_more : (s : InSection) (from n : ℕ) → NoneVacant s from n → ¬ IsVacant s n → NoneVacant s from (n + 1)
none_more s from n none not object above below v =
    ⊎_elim (λ lt. none object above lt v)
    (λ ge. let here : object ≡ n = omega arith in not (subst (IsVacant s) here v)) (cases_lt object n)
