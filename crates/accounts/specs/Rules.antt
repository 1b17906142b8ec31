-- Which states the accounts open with, and which commits are transfers.
use Rattle.std.specs.Prelude.{◌≡◌, ◌≢◌, ◌+◌, ◌-◌, ◌^◌, ◌<◌, ◌≤◌, ◌∷◌}
use Rattle.accounts.specs.Terms.{ℕ, List, [], length, slice_index, sum_by, ACCOUNTS, State, Writes, words_at}
use Rattle.accounts.specs.Layout.{words_of, account_in, account_of}

-- the balance that the words of an account say
abbrev pub balance_of : List ℕ → ℕ
balance_of words = (account_in words).balance

-- the balance of an account in a state
abbrev pub balance : State → ℕ → ℕ
balance s account = balance_of (words_at s account)

-- the sum of all balances of a state
abbrev pub total : State → ℕ
total s = sum_by balance_of s

-- eight accounts, whose sum is a number of 64 bits
pub record IsOpening (s : State) : Type 0 where
  pub accounts : length s ≡ ACCOUNTS
  pub fits : total s < 2 ^ 64

-- from which account the transfer with this tag moves
abbrev pub from_of : List ℕ → ℕ
from_of tag = slice_index tag 0

-- to which account it moves
abbrev pub to_of : List ℕ → ℕ
to_of tag = slice_index tag 1

-- and how much
abbrev pub amount_of : List ℕ → ℕ
amount_of tag = slice_index tag 2

-- The commit with this tag moves the tag's amount, which is some and which the one account has on the state before, to another account.
pub record IsTransfer (tag : List ℕ) (before : State) (writes : Writes) : Type 0 where
  pub from : from_of tag < length before
  pub to : to_of tag < length before
  pub other : from_of tag ≢ to_of tag
  pub some : 0 < amount_of tag
  pub enough : amount_of tag ≤ balance before (from_of tag)
  pub moves : writes ≡ (from_of tag, words_of (account_of (balance before (from_of tag) - amount_of tag)))
      ∷ (to_of tag, words_of (account_of (balance before (to_of tag) + amount_of tag))) ∷ []
