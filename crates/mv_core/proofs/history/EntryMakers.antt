-- Each entry of the history is of a seat that has an unspent view, or a note in one: a seat that isn't made yet has made none.
use Rattle.std.proofs.Common.{◌≡◌, ℕ, zero, suc, eqb, Bool, true, false, cond, List, [], ◌∷◌, sym, refl, ap, ◌∙◌, ⊎_elim, eq-eqb, arith}
use Rattle.std.specs.Prelude.{Contains}
use Rattle.mv_history.specs.declared.Commit.{Commit}
use Rattle.mv_core.proofs.Terms.{Entry, Rest, Change, State, maker_of, commits_of, rests_of, Config, Knowledge, Past}
use Rattle.mv_core.proofs.FactTerms.{KnowsPast, Seated}
use Rattle.mv_core.specs.Points.{EntriesAreNamed}
use Rattle.mv_core.proofs.frames.SectionBounds.{none_in}

-- the front of a list that is empty where it has one more
none_front : (b : Bool) (x : Commit) (l : List Commit) → cond b (x ∷ l) l ≡ [] → (b ≡ false) × (l ≡ [])
none_front true x l e = absurd cc
none_front false x l e = (refl, e)

-- who made an entry has a commit or a rest
pub some_made : (s : ℕ) (h : List Entry) (e : Entry) → Contains h e → maker_of e ≡ s → commits_of s h ≡ [] → rests_of s h ≡ 0 → ⊥
some_made s [] e has makes none few = none_in e has
some_made s (Rest by ∷ es) e (zero, lt, same) makes none few =
    let one : ◌≡◌ {A = ℕ} (cond (eqb by s) 1 0) 1 = ap (λ (b : Bool). cond b 1 0) (eq-eqb by s (ap maker_of same ∙ makes)) in
    omega arith
some_made s (Change c ∷ es) e (zero, lt, same) makes none few =
    let mine : eqb c.seat s ≡ true = eq-eqb c.seat s (ap maker_of same ∙ makes) in
    let other : eqb c.seat s ≡ false = (none_front (eqb c.seat s) c (commits_of s es) none).0 in
    let clash : true ≡ false = sym mine ∙ other in
    absurd cc
some_made s (Rest by ∷ es) e (suc i, lt, same) makes none few =
    some_made s es e (i, omega (arith, lt), same) makes none (omega (arith, few))
some_made s (Change c ∷ es) e (suc i, lt, same) makes none few =
    some_made s es e (i, omega (arith, lt), same) makes (none_front (eqb c.seat s) c (commits_of s es) none).1 few

-- each entry is of a seat with a view or a note: a seat that isn't made yet has made none
pub entries_named : (c : Config) (start : State) (vs : List Knowledge) (seats : ℕ → Knowledge) (h : List Entry) → Seated c start vs seats
    → ((s : ℕ) → KnowsPast h s (seats s).past) → EntriesAreNamed vs h
entries_named c start vs seats h k knows e has =
    ⊎_elim (λ there. there)
    (λ new.
    let p = knows (maker_of e) in
    let past : (seats (maker_of e)).past ≡ record { seen = []; mine = []; rests = 0 } = ap (λ (v : Knowledge). v.past) new in
    absurd (some_made (maker_of e) h e has refl (sym p.mine ∙ ap (λ (q : Past). q.mine) past) (sym p.rests ∙ ap (λ (q : Past). q.rests) past)))
    (k.all (maker_of e))
