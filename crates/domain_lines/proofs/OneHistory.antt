-- The seats of a domain have met: what each had seen begins its one history, and the table of each counts what that seat did in it.
use Rattle.std.proofs.lemmas.List.Elements.{length_all_zip}
use Rattle.mv_history.specs.declared.answers.LogTable.{LogTable}
use Rattle.mv_history.specs.declared.history.TheConstants.{LAST}
use Rattle.mv_history.specs.Legal.{IsLegal, IsAllowed}
use Rattle.mv_history.specs.State.{State, Writes, maker_of, commits_of}
use Rattle.mvrlu.specs.Holding.{AreTablesOf, IsSeatTable}
use Rattle.run_report.specs.Worked.{Past}
use Rattle.run_report.specs.Whole.{IsTableOf}
use Rattle.domain_lines.proofs.Terms.{◌≡◌, ◌+◌, ◌<◌, ◌∷◌, ◌∙◌, ℕ, zero, suc, List, [], length, Some, refl, sym, ap, subst, arith, All, AllZip, slice_get}
use Rattle.domain_lines.proofs.Terms.{append-nil, Seat, numbers_of, opening_of, Whole, Domain, AreKnown, HasMet, HaveMet, AreNewFrom}
use Rattle.domain_lines.specs.Joined.{past_of_whole}

-- What holds of the one history of so many seats, which went on from these to those that met, and of the tables of their logs.
pub record IsOneHistory (starts : State → Type 0) (allows : List ℕ → State → Writes → Type 0) (p : Past) (count : ℕ) (olds news : List Seat)
    (tables : List LogTable) : Type 0 where
  pub opening : starts p.start
  pub legal : IsLegal (length p.start) p.entries
  pub allowed : IsAllowed allows p.start p.entries
  pub last : p.last ≡ LAST
  pub makers : All (λ e. maker_of e < count) p.entries
  pub known : AreKnown p 0 olds news
  pub table_each : length tables ≡ count
  pub table_of : (seat : ℕ) (table : LogTable) → slice_get tables seat ≡ Some table → IsTableOf p.entries seat table

-- the tables are as many as the seats
tables_each : (seats : List Seat) (tables : List LogTable) → AreTablesOf seats tables → length tables ≡ length seats
tables_each [] [] are = refl
tables_each [] (t ∷ tables) are = absurd are
tables_each (s ∷ seats) [] are = absurd are
tables_each (s ∷ seats) (t ∷ tables) are = ap (λ n. suc n) (tables_each seats tables are.1)

-- the table of a seat that met counts what this seat did in the whole history
table_counts : (w : Whole) (first met : Seat) (table : LogTable) → HasMet w first met → IsSeatTable met table → IsTableOf w.history first.number table
table_counts w first met table has is = record {
  commits = is.commits ∙ ap length has.mine;
  rests = is.rests ∙ has.rests;
  used = rw (← has.mine) is.used;
  all_used = λ none. rw (← has.mine) (is.all_used none);
}

module _ {P : Type 0} (d : Domain P) (w : Whole) where
  -- what the meeting knows of each seat
  known : w.start ≡ opening_of d → w.base ≡ (numbers_of d).base → (number : ℕ) (olds news : List Seat) → AreNewFrom d number olds
      → AllZip (HasMet w) olds news → AreKnown (past_of_whole w) number olds news
  known start base number [] news new met = tt
  known start base number (o ∷ olds) [] new met = tt
  known start base number (o ∷ olds) (n ∷ news) new met =
      let begins = met.0.seen n.seen ([], sym (append-nil n.seen)) in
      let its = ap (λ (r : Seat). r.number) new.0 in (
        record {
          start = ap (λ (r : Seat). r.start) new.0 ∙ sym start;
          base = ap (λ (r : Seat). r.base) new.0 ∙ sym base;
          last = ap (λ (r : Seat). r.last) new.0;
          seen = ap (λ (r : Seat). r.seen) new.0;
          mine = ap (λ (r : Seat). r.mine) new.0;
        },
        record {
          numbered = met.0.continues.number ∙ its;
          more = begins.0;
          seen = begins.1;
          mine = met.0.mine ∙ ap (λ n. commits_of n w.history) its;
        },
        known start base (suc number) olds news new.1 met.1,
      )

  -- each table counts what its seat did in the whole history
  counted : (number : ℕ) (olds news : List Seat) (tables : List LogTable) → AreNewFrom d number olds → AllZip (HasMet w) olds news
      → AreTablesOf news tables → (k seat : ℕ) (table : LogTable) → seat ≡ number + k → slice_get tables k ≡ Some table
      → IsTableOf w.history seat table
  counted number olds news [] new met are k seat table at is = absurd (cc)
  counted number olds [] (t ∷ tables) new met are k seat table at is = absurd are
  counted number [] (n ∷ news) (t ∷ tables) new met are k seat table at is = absurd met
  counted number (o ∷ olds) (n ∷ news) (t ∷ tables) new met are zero seat table at is =
      let same : t ≡ table = cc in
      let its : o.number ≡ seat = omega (arith, at, ap (λ (r : Seat). r.number) new.0) in
      subst (λ u. IsTableOf w.history seat u) same
      (subst (λ n. IsTableOf w.history n t) its (table_counts w o n t met.0 are.0))
  counted number (o ∷ olds) (n ∷ news) (t ∷ tables) new met are (suc k) seat table at is =
      counted (suc number) olds news tables new.1 met.1 are.1 k seat table (omega (arith, at)) is

  -- seats that went on from new ones and have met made one history
  pub one_history : (starts : State → Type 0) (allows : List ℕ → State → Writes → Type 0) (count : ℕ) (olds news : List Seat)
      → starts (opening_of d) → AreNewFrom d 0 olds → HaveMet allows (numbers_of d) (opening_of d) olds news w
      → length olds ≡ count → (numbers_of d).seats ≡ count → IsOneHistory starts allows (past_of_whole w) count olds news w.tables
  one_history starts allows count olds news lawful new met many seats = record {
    opening = subst starts (sym met.opening) lawful;
    legal = met.legal;
    allowed = met.allowed;
    last = refl;
    makers = subst (λ (n : ℕ). All (λ e. maker_of e < n) w.history) seats met.makers;
    known = known met.opening met.base 0 olds news new met.each;
    table_each = tables_each news w.tables met.tables ∙ sym (length_all_zip (HasMet w) olds news met.each) ∙ many;
    table_of = λ seat table is. counted 0 olds news w.tables new met.each met.tables seat seat table (omega arith) is;
  }
