-- The seats of a domain that met, by the law of the whole.
use Rattle.mv_history.specs.declared.Entry.{Entry}
use Rattle.mv_core.specs.HistoryFacts.{BeginsWith}
use Rattle.mvrlu.specs.Holding.{AreTablesOf}
use Rattle.mvrlu.specs.Whole.{Whole, IsMetSeat, AreApart}
use Rattle.domain_loan.proofs.Terms.{◌≡◌, ◌<◌, ◌∷◌, ◌∙◌, ℕ, List, [], length, map, All, ap, subst, Contains, AllZip, All-head, All-tail, All-weaker}
use Rattle.domain_loan.proofs.Terms.{All-contains, All-contains_itself, State, Writes, maker_of, commits_of, rests_of, Domain, Seat, numbers_of, opening_of}
use Rattle.domain_loan.proofs.Terms.{seat_of, LawOfTheWhole, AllContinue, HasMet, HaveMet, AreNewFrom}
use Rattle.domain_loan.proofs.Seats.{all_below}
use Rattle.mv_history.specs.Meaning as history

module _ {P : Type 0} {rules : _} (w : Whole) where
  each_met : (firsts : List history.Seat) (seats : List (Seat P rules)) → AllContinue firsts (map (λ s. seat_of s) seats)
      → All (λ s. (before : List Entry) → BeginsWith (seat_of s).seen before → BeginsWith w.history before) seats
      → All (λ s. (seat_of s).mine ≡ commits_of (seat_of s).number w.history) seats
      → All (λ s. (seat_of s).rests ≡ rests_of (seat_of s).number w.history) seats → All (λ s. IsMetSeat w (seat_of s)) seats
      → AllZip (HasMet w) firsts (map (λ s. seat_of s) seats)
  each_met [] [] on seen mine rests named = tt
  each_met [] (s ∷ seats) on seen mine rests named = absurd on
  each_met (f ∷ firsts) [] on seen mine rests named = absurd on
  each_met (f ∷ firsts) (s ∷ seats) on seen mine rests named = (
    record {
      continues = on.0;
      seen = All-head (λ t. (before : List Entry) → BeginsWith (seat_of t).seen before → BeginsWith w.history before) s seats seen;
      mine = All-head (λ t. (seat_of t).mine ≡ commits_of (seat_of t).number w.history) s seats mine ∙ ap (λ n. commits_of n w.history) on.0.number;
      rests = All-head (λ t. (seat_of t).rests ≡ rests_of (seat_of t).number w.history) s seats rests ∙ ap (λ n. rests_of n w.history) on.0.number;
      named = All-head (λ t. IsMetSeat w (seat_of t)) s seats named;
    },
    each_met firsts seats on.1
        (All-tail (λ t. (before : List Entry) → BeginsWith (seat_of t).seen before → BeginsWith w.history before) s seats seen)
        (All-tail (λ t. (seat_of t).mine ≡ commits_of (seat_of t).number w.history) s seats mine)
        (All-tail (λ t. (seat_of t).rests ≡ rests_of (seat_of t).number w.history) s seats rests)
        (All-tail (λ t. IsMetSeat w (seat_of t)) s seats named),
  )

module _ {P : Type 0} {rules : _} (d : Domain P) (starts : State → Type 0) (allows : List ℕ → State → Writes → Type 0) where
  -- seats of a domain that went on from new ones have met
  pub have_met : (firsts : List history.Seat) (seats : List (Seat P rules)) (w : Whole) → AreNewFrom d 0 firsts
      → AllContinue firsts (map (λ s. seat_of s) seats) → length seats ≡ (numbers_of d).seats → LawOfTheWhole starts allows seats w → AreApart w
      → AreTablesOf (map (λ s. seat_of s) seats) w.tables
      → w.config ≡ numbers_of d → w.start ≡ opening_of d → w.base ≡ (numbers_of d).base
      → HaveMet allows (numbers_of d) (opening_of d) firsts (map (λ s. seat_of s) seats) w
  have_met firsts seats w new on many law apart tables config opening base = record {
    config = config;
    opening = opening;
    base = base;
    legal = law.legal;
    allowed = law.allowed;
    time = law.time;
    makers = subst (λ (n : ℕ). All (λ e. maker_of e < n) w.history) many
        (All-weaker (Contains w.history) (λ e. maker_of e < length seats)
        (λ e there. let maker = law.makers e there in
        subst (λ k. k < length seats) maker.2
        (All-contains (λ s. (seat_of s).number < length seats) seats maker.0 (all_below d firsts seats new on) maker.1))
        w.history (All-contains_itself w.history));
    each = each_met w firsts seats on law.seen law.mine law.rests law.named;
    numbered = apart;
    tables = tables;
  }
