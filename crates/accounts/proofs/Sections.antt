-- What a section of the accounts reads.
use Rattle.mv_history.proofs.Snapshots.{length-state_of}
use Rattle.std.proofs.Common.{◌≡◌, ◌≢◌, ◌+◌, ◌^◌, ◌<◌, ◌≤◌}
use Rattle.accounts.proofs.Terms.{ℕ, [], length, ap, ◌∙◌, arith, State, InSection, IsSection, state_of, reads_snapshot, balance, total, IsOpening, IsTransfer}
use Rattle.accounts.specs.declared.rules.TheConstants.{ACCOUNTS}
use Rattle.accounts.proofs.Totals.{total-state_at, balances-le}

abbrev pub IsLawful : InSection → Type 0
IsLawful s = IsSection IsOpening IsTransfer s

-- a section reads eight accounts
pub length-read : (s : InSection) (u : State) → u ≡ state_of s → IsLawful s → length u ≡ ACCOUNTS
length-read s u e h = ap length e ∙ length-state_of s ∙ h.seat.start.accounts

pub within-read : (s : InSection) (u : State) (a : ℕ) → u ≡ state_of s → IsLawful s → a < ACCOUNTS → a < length u
within-read s u a e h l = rw (length-read s u e h) l

-- the total that a section reads which holds nothing is the opening one
pub total-read : (s : InSection) (u : State) → u ≡ state_of s → s.own ≡ [] → IsLawful s → total u ≡ total s.seat.start
total-read s u e none h = ap total (e ∙ reads_snapshot s none) ∙ total-state_at s.seat h.seat s.at

-- and so it is a number of 64 bits
pub total-read-fits : (s : InSection) (u : State) → u ≡ state_of s → s.own ≡ [] → IsLawful s → total u < 2 ^ 64
total-read-fits s u e none h = rw (total-read s u e none h) h.seat.start.fits

-- what an account gains fits too, since another account has it
pub gain-fits : (s : InSection) (u : State) (a b amount had got : ℕ) → u ≡ state_of s → s.own ≡ [] → IsLawful s → a < ACCOUNTS → b < ACCOUNTS → a ≢ b
    → had ≡ balance u a → got ≡ balance u b → amount ≤ had → got + amount < 2 ^ 64
gain-fits s u a b amount had got e none h la lb n had_is got_is enough =
    let both = balances-le u a b (within-read s u a e h la) (within-read s u b e h lb) n in
    let whole = total-read-fits s u e none h in
    omega (arith, both, whole, enough, had_is, got_is)
