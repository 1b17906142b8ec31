-- What a transfer means, as a unit of work.
use Rattle.section_work.specs.Works.{Meaning}
use Rattle.std.specs.Prelude.{◌≡◌, ◌≢◌, ◌<◌, ◌≤◌, ◌∷◌}
use Rattle.accounts.specs.Terms.{ℕ, true, Bool, List, [], State, Writes, written, ACCOUNTS, Funds, Enough, Late}
use Rattle.accounts.specs.declared.transfer_work.Funds.TheVariants.{Short}
use Rattle.accounts.specs.Rules.{balance, from_of, amount_of, IsTransfer}

-- some amount, between two different accounts
pub record IsBetween (from to amount : ℕ) : Type 0 where
  pub from_is : from < ACCOUNTS
  pub to_is : to < ACCOUNTS
  pub other : from ≢ to
  pub some : 0 < amount

-- the tag of a transfer's commit
abbrev pub transfer_tag : ℕ → ℕ → ℕ → List ℕ
transfer_tag from to amount = from ∷ to ∷ amount ∷ 0 ∷ []

-- what is planned for it: the transfer of its tag
pub record PlansTransfer (tag : List ℕ) (s : State) (planned : List ℕ) (ws : Writes) : Type 0 where
  pub tagged : planned ≡ tag
  pub moves : IsTransfer planned s ws

-- why none is made: the balance is less than the amount, or it is as much, but no time is left
abbrev pub SettlesTransfer : List ℕ → State → Bool → Funds → Type 0
SettlesTransfer tag s last Enough = ⊥
SettlesTransfer tag s last (Short had) = (had ≡ balance s (from_of tag)) × (had < amount_of tag)
SettlesTransfer tag s last Late = (amount_of tag ≤ balance s (from_of tag)) × (last ≡ true)

-- the state after is the state before with the transfer made on it
pub record MakesTransfer (tag : List ℕ) (before after : State) : Type 0 where
  pub writes : Writes
  pub moves : IsTransfer tag before writes
  pub after_is : after ≡ written before writes

-- the transfer of this tag, as a work
abbrev pub transfer_meaning : List ℕ → Meaning Funds
transfer_meaning tag = record {
  most = 2;
  changes = λ s. amount_of tag ≤ balance s (from_of tag);
  plans = λ s planned ws found. PlansTransfer tag s planned ws;
  settles = λ s last found. SettlesTransfer tag s last found;
  makes = λ before after found. MakesTransfer tag before after;
}
