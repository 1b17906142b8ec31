-- Transfers keep the total.
use Rattle.std.proofs.lemmas.List.Sums.{sum_by-set, get_or-le-sum_by}
use Rattle.mv_history.specs.declared.history.Entry.{Entry}
use Rattle.mv_history.proofs.Kept.{keeps_after, keeps_at}
use Rattle.std.proofs.Common.{◌≡◌, ◌≢◌, ◌+◌, ◌-◌, ◌<◌, ◌≤◌, ℕ, List, [], length, set, refl, sym, ap, ◌∙◌, arith, length-set, get_or-set_other}
use Rattle.accounts.proofs.Terms.{State, Writes, written, state_after, state_at, IsAllowed, Seat, IsSeat, words_of, account_of, balance_of, balance, total}
use Rattle.accounts.proofs.Terms.{IsOpening, from_of, to_of, amount_of, IsTransfer}

-- an account that gets another balance changes the total by the difference
total-set : (s : State) (a b : ℕ) → a < length s → total (set s a (words_of (account_of b))) + balance s a ≡ total s + b
total-set s a b l = sum_by-set balance_of s a (words_of (account_of b)) [] l

-- a transfer keeps the total
pub total-transfer : (tag : List ℕ) (s : State) (ws : Writes) → IsTransfer tag s ws → total (written s ws) ≡ total s
total-transfer tag s ws t =
    let from = from_of tag in
    let to = to_of tag in
    let paid : State = set s from (words_of (account_of (balance s from - amount_of tag))) in
    let first = total-set s from (balance s from - amount_of tag) t.from in
    let second = total-set paid to (balance s to + amount_of tag) (rw length-set t.to) in
    let same : balance paid to ≡ balance s to =
    ap balance_of (get_or-set_other s from to (words_of (account_of (balance s from - amount_of tag))) [] (λ e. t.other (sym e))) in
    rw t.moves (omega (arith, first, second, same, t.enough))

-- after an allowed history the total is the opening one
pub total-history : (start : State) (history : List Entry) → IsAllowed IsTransfer start history → total (state_after start history) ≡ total start
total-history start history h =
    keeps_after IsTransfer (λ s. total s ≡ total start) (λ tag s ws t e. total-transfer tag s ws t ∙ e) start history h refl

-- at every time that a seat has seen, the total is the opening one
pub total-state_at : (s : Seat) → IsSeat IsOpening IsTransfer s → (t : ℕ) → total (state_at s.start s.seen t) ≡ total s.start
total-state_at s lawful t =
    keeps_at IsTransfer (λ u. total u ≡ total s.start) (λ tag u ws m e. total-transfer tag u ws m ∙ e) IsOpening s lawful refl t

-- the two balances of different accounts are part of the total
pub balances-le : (s : State) (a b : ℕ) → a < length s → b < length s → a ≢ b → balance s a + balance s b ≤ total s
balances-le s a b la lb n =
    let without : State = set s a (words_of (account_of 0)) in
    let one = total-set s a 0 la in
    let same : balance without b ≡ balance s b = ap balance_of (get_or-set_other s a b (words_of (account_of 0)) [] (λ e. n (sym e))) in
    let other : balance without b ≤ total without = get_or-le-sum_by balance_of without b [] (rw length-set lb) in
    omega (arith, one, same, other)
