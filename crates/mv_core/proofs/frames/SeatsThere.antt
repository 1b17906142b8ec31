-- Each seat that has an unspent view, or a note in one, has it still where a view takes the place of another and the list gets longer.
use Rattle.std.proofs.Common.{◌≡◌, ◌⊎◌, ℕ, zero, suc, ◌<◌, false, List, [], ◌∷◌, ◌++◌, length, set, sym, ap, ◌∙◌, subst, inl, inr, ⊎_elim, arith}
use Rattle.std.specs.Prelude.{Contains}
use Rattle.mv_core.proofs.Terms.{dite, some, some-injective, some-ne-none, ℕ_discrete, get_elem?, Knowledge, JoinedSeat}
use Rattle.atomic_table.proofs.Lists.{set_here, set_else, at_longer}
use Rattle.mv_core.specs.Rule.{IsThere}

-- what is at a place of a list is within it
pub at_within : {A : Type 0} (l : List A) (i : ℕ) (a : A) → get_elem? l i ≡ some a → i < length l
at_within [] i a e = absurd (some-ne-none a (sym e))
at_within (x ∷ xs) zero a e = omega arith
at_within (x ∷ xs) (suc i) a e = let lt = at_within xs i a e in omega arith

-- a view that takes the place of another, with its number and its notes, is there for each seat that the other was there for
pub named_still : (v w : Knowledge) (s : ℕ) → w.number ≡ v.number → ((n : JoinedSeat) → Contains v.notes n → Contains w.notes n)
    → (v.number ≡ s) ⊎ ((n : JoinedSeat) × Contains v.notes n × (n.number ≡ s)) → (w.number ≡ s) ⊎ ((n : JoinedSeat) × Contains w.notes n × (n.number ≡ s))
named_still v w s number notes =
    ⊎_elim (λ own. inl (number ∙ own)) (λ noted. inr (noted.0, notes noted.0 noted.1, noted.2))

pub there_still : (vs : List Knowledge) (id : ℕ) (v w : Knowledge) → get_elem? vs id ≡ some v → w.spent ≡ false → w.number ≡ v.number
    → ((n : JoinedSeat) → Contains v.notes n → Contains w.notes n) → (s : ℕ) → IsThere vs s → IsThere (set vs id w) s
there_still vs id v w at unspent number notes s t =
    dite (ℕ_discrete t.id id)
    (λ e.
    let same : t.holder ≡ v = some-injective t.holder v (sym t.place ∙ ap (get_elem? vs) e ∙ at) in
    record {
      id = id;
      holder = w;
      place = set_here vs id w (at_within vs id v at);
      unspent = unspent;
      named = named_still v w s number notes (subst (λ (u : Knowledge). (u.number ≡ s) ⊎ ((n : JoinedSeat) × Contains u.notes n × (n.number ≡ s)))
          same t.named);
    })
    (λ ne. record { id = t.id; holder = t.holder; place = set_else vs id t.id w ne ∙ t.place; unspent = t.unspent; named = t.named })

-- and the same where the list gets longer
pub there_longer : (vs more : List Knowledge) (s : ℕ) → IsThere vs s → IsThere (vs ++ more) s
there_longer vs more s t =
    record { id = t.id; holder = t.holder; place = at_longer vs more t.id t.holder t.place; unspent = t.unspent; named = t.named }
