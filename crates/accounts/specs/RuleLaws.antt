-- That the rules are propositions, as a `Protocol` asks.
use Rattle.std.proofs.Props.{props}
use Rattle.mv_client.specs.Rules.{Writes-set}
use Rattle.std.specs.Prelude.{◌≡◌, ◌≢◌, ◌^◌, ◌<◌, ◌≤◌}
use Rattle.accounts.specs.Terms.{ℕ, List, length, ACCOUNTS, State, Writes}
use Rattle.accounts.specs.Rules.{balance, total, IsOpening, from_of, to_of, amount_of, IsTransfer}

pub IsOpening-prop : (s : State) → IsProp (IsOpening s)
IsOpening-prop s x y =
    let accounts_prop : IsProp (length s ≡ ACCOUNTS) = hlevel props in
    let fits_prop : IsProp (total s < 2 ^ 64) = hlevel props in
    λ i. record { accounts = accounts_prop x.accounts y.accounts i; fits = fits_prop x.fits y.fits i }

pub IsTransfer-prop : (tag : List ℕ) (before : State) (writes : Writes) → IsProp (IsTransfer tag before writes)
IsTransfer-prop tag before writes x y =
    let from_prop : IsProp (from_of tag < length before) = hlevel props in
    let to_prop : IsProp (to_of tag < length before) = hlevel props in
    let other_prop : IsProp (from_of tag ≢ to_of tag) = hlevel props in
    let some_prop : IsProp (0 < amount_of tag) = hlevel props in
    let enough_prop : IsProp (amount_of tag ≤ balance before (from_of tag)) = hlevel props in
    λ i. record {
      from = from_prop x.from y.from i;
      to = to_prop x.to y.to i;
      other = other_prop x.other y.other i;
      some = some_prop x.some y.some i;
      enough = enough_prop x.enough y.enough i;
      moves = Writes-set writes _ x.moves y.moves i;
    }
