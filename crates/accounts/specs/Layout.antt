-- What the words of an account say.
use Rattle.std.specs.Prelude.{◌∷◌, ℕ, List, [], slice_index}
use Rattle.accounts.specs.declared.layout.Account.{Account}
use Rattle.accounts.specs.declared.layout.TheConstants.{BALANCE}

-- the words of an account
abbrev pub words_of : Account → List ℕ
words_of account = account.balance ∷ 0 ∷ 0 ∷ 0 ∷ 0 ∷ 0 ∷ []

-- the account that words say
abbrev pub account_in : List ℕ → Account
account_in words = record { balance = slice_index words BALANCE }

-- the account that has this balance
abbrev pub account_of : ℕ → Account
account_of balance = record { balance = balance }
