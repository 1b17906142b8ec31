-- The tables of the seats of a row, taken one after another.
use Rattle.std.proofs.Common.{◌≡◌, ℕ, ◌+◌, ◌<◌, List, [], ◌∷◌, ◌++◌, length, map, take, get_or, sym, ap, ◌∙◌, subst}
use Rattle.std.proofs.lemmas.List.{map-append, take_more}
use Rattle.mv_history.specs.declared.answers.LogTable.{LogTable}
use Rattle.mv_history.specs.Meaning as history
use Rattle.mvrlu.specs.Holding.{IsSeatTable, AreTablesOf}

tables_push : (seats : List history.Seat) (tables : List LogTable) (s : history.Seat) (t : LogTable) → AreTablesOf seats tables → IsSeatTable s t
    → AreTablesOf (seats ++ s ∷ []) (tables ++ t ∷ [])
tables_push [] [] s t are is = (is, tt)
tables_push [] (u ∷ tables) s t are is = absurd are
tables_push (r ∷ seats) [] s t are is = absurd are
tables_push (r ∷ seats) (u ∷ tables) s t are is = (are.0, tables_push seats tables s t are.1 is)

-- the table of one more seat of a row
pub tables_more : {S : Type 0} (means : S → history.Seat) (seats : List S) (i : ℕ) (seat : S) (tables : List LogTable) (t : LogTable) → i < length seats
    → seat ≡ get_or seats i seat → AreTablesOf (map means (take i seats)) tables → IsSeatTable (means seat) t
    → AreTablesOf (map means (take (i + 1) seats)) (tables ++ t ∷ [])
tables_more means seats i seat tables t lt is are table =
    let more : map means (take (i + 1) seats) ≡ map means (take i seats) ++ means seat ∷ [] =
    ap (map means) (take_more seats i seat lt)
    ∙ map-append means (take i seats) (get_or seats i seat ∷ [])
    ∙ ap (λ z. map means (take i seats) ++ means z ∷ []) (sym is) in
    subst (λ ss. AreTablesOf ss (tables ++ t ∷ [])) (sym more) (tables_push (map means (take i seats)) tables (means seat) t are table)
