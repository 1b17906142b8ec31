-- Sums, one after another.
use Rattle.accounts.proofs.Terms.{List, [], refl, sym, ap, subst, ◌∙◌, arith, State, Seat, InSection, state_of, Continues, Enters, IsAsBefore, Leaves}
use Rattle.accounts.proofs.Terms.{Continues-Continues, length-seen, state_at-later, total, IsSum, ReadsEach, reads_snapshot, ◌≡◌, ◌+◌, ◌∷◌, ◌++◌}
use Rattle.accounts.specs.declared.reading.SumAt.{SumAt}
use Rattle.accounts.proofs.Sections.{IsLawful}

-- a sum that a section read which then left
pub sum_by : (took : Seat → InSection → Type 0) (old new : Seat) (s t : InSection) (u : State) (sum : SumAt) → Enters old s → took old s → u ≡ state_of s
    → IsLawful s → IsAsBefore s t → Leaves t new → sum.time ≡ s.seat.base + s.at → sum.total ≡ total u → IsSum took old new sum
sum_by took old new s t u sum e taken read h same left time_is total_is =
    let goes : Continues s.seat new = Continues-Continues same.seat.continues left.continues in
    record {
      entered = s;
      enters = e;
      took_is = taken;
      leaves = goes;
      mine = left.mine ∙ same.seat.mine ∙ e.seat.mine;
      seen = omega (arith, h.at, length-seen goes);
      time_is = omega (arith, time_is, goes.base);
      total_is = total_is ∙ ap total (read ∙ reads_snapshot s e.own ∙ sym (state_at-later goes s.at h.at));
    }

-- one more
pub reads_more : (took : Seat → InSection → Type 0) (old between new : Seat) (sums : List SumAt) (sum : SumAt) → ReadsEach took old between sums
    → IsSum took between new sum → ReadsEach took old new (sums ++ sum ∷ [])
reads_more took old between new [] sum same is = (new, subst (λ s. IsSum took s new sum) same is, refl)
reads_more took old between new (first ∷ sums) sum each is = (each.0, each.1, reads_more took each.0 between new sums sum each.2 is)
