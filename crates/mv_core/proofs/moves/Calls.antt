-- What the answers of the calls cite to show that each is a move of its kind.
use Rattle.std.proofs.Common.{◌≡◌, ◌≢◌, ℕ, ◌==◌, Bool, true, false, if◌then◌else◌, refl, ap, eq-eqb, ne_eqb, Option, Some, None}
use Rattle.mv_core.proofs.Terms.{Entry, Scan}
use Rattle.mv_core.specs.Moves.{if_won}

-- an exchange that is won, and one that is lost
pub won_is : {A : Type 0} (old x : ℕ) (won lost : A) → x ≡ old → if_won old x won lost ≡ won
won_is old x won lost e = ap (λ (b : Bool). if b then won else lost) (eq-eqb x old e)

pub lost_is : {A : Type 0} (old x : ℕ) (won lost : A) → x ≢ old → if_won old x won lost ≡ lost
lost_is old x won lost ne = ap (λ (b : Bool). if b then won else lost) (ne_eqb x old ne)

-- no entry, won or lost
abbrev pick : Bool → Option Entry
pick b = if b then None else None

pub no_made : (old x : ℕ) → if_won {A = Option Entry} old x None None ≡ None
no_made old x = go (x == old)
  where
    go : (b : Bool) → pick b ≡ None
    go true = refl
    go false = refl

-- the scan under way
abbrev pub scan_or : Option Scan → Scan
scan_or None = record { clock = 0; least = 0; next = 0 }
scan_or (Some s) = s
