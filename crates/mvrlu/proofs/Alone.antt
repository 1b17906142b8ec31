-- In a domain of one seat each entry that was seen is the own seat's: so none is later than its section, none is another's, and no lock is refused.
use Rattle.std.proofs.Common.{◌≡◌, ◌≢◌, ℕ, ◌+◌, ◌-◌, ◌<◌, drop, List, sym, ap, ◌∙◌, subst, arith, length-drop, All, Some}
use Rattle.std.specs.Prelude.{slice_get, slice_index, slice_index_or}
use Rattle.std.proofs.lemmas.List.{get_or-drop}
use Rattle.std.proofs.lemmas.Option.{slice_get_within, slice_get-get_or}
use Rattle.mv_history.specs.declared.Entry.{Entry}
use Rattle.mv_history.specs.declared.Entry.TheVariants.{Rest}
use Rattle.mv_history.specs.declared.answers.LockAnswer.{LockAnswer}
use Rattle.mv_history.specs.declared.answers.LockAnswer.TheVariants.{Busy, Stale}
use Rattle.mv_history.specs.State.{State, Writes, maker_of}
use Rattle.mv_history.specs.Meaning.{InSection, IsSection}
use Rattle.mv_history.specs.Calls.{GoesOn, IsStale}
use Rattle.object_lock.specs.mv_core.Times.{IsEntry}
use Rattle.mvrlu.specs.Causes.{FoundLocked}
use Rattle.mvrlu.specs.Holding.{seats_of}

-- an entry that was seen is by a seat of the domain, if all are
pub within_seats : (base : ℕ) (h : List Entry) (seats time : ℕ) (e : Entry) → All (λ x. maker_of x < seats) h → IsEntry base h time e
    → maker_of e < seats
within_seats base h seats time e all is =
    let i : ℕ = time - (base + 1) in
    let within = slice_get_within h i e is.1 in
    let there : slice_get h i ≡ Some (slice_index_or h i e) = slice_get-get_or h i e within in
    let both : Some (slice_index_or h i e) ≡ Some e = sym there ∙ is.1 in
    let same : slice_index_or h i e ≡ e = cc in
    subst (λ (x : Entry). maker_of x < seats) same (all i e within)

-- no commit after its time was seen
pub none_later : {starts : State → Type 0} {allows : List ℕ → State → Writes → Type 0} (s : InSection) → IsSection starts allows s → (seats number : ℕ)
    → seats ≡ 1 → number < seats → s.seat.number ≡ number → All (λ e. maker_of e < seats) s.seat.seen → (object time : ℕ) → ¬ (IsStale s object time)
none_later s lawful seats number one own same_number makers object time stale =
    let i : ℕ = time - (s.seat.base + 1) in
    let later = stale.later in
    let after : s.seat.base < time = stale.entry.later in
    let within = slice_get_within s.seat.seen i _ stale.entry.there in
    let long = length-drop s.at s.seat.seen in
    let place : s.at + (i - s.at) ≡ i = omega arith in
    let maker : maker_of (slice_index_or s.seat.seen i (Rest 0)) < seats = makers i (Rest 0) within in
    let other : maker_of (slice_index_or (drop s.at s.seat.seen) (i - s.at) (Rest 0)) ≢ s.seat.number = lawful.in_order (i - s.at) (Rest 0) (omega arith) in
    let same : slice_index_or (drop s.at s.seat.seen) (i - s.at) (Rest 0) ≡ slice_index_or s.seat.seen i (Rest 0) =
    get_or-drop s.at s.seat.seen (i - s.at) (Rest 0) ∙ ap (λ (k : ℕ). slice_index_or s.seat.seen k (Rest 0)) place in
    let made : maker_of (slice_index_or (drop s.at s.seat.seen) (i - s.at) (Rest 0)) ≡ maker_of (slice_index_or s.seat.seen i (Rest 0)) = ap maker_of same in
    other (omega arith)

-- so a lock is refused neither for another seat nor for a later commit: that seat would be another of the domain's, and so would be the commit's
pub none_refuses : {starts : State → Type 0} {allows : List ℕ → State → Writes → Type 0} (s t : InSection) → IsSection starts allows t → GoesOn s t
    → s.seat.number < seats_of s.seat → All (λ e. maker_of e < seats_of s.seat) t.seat.seen → (answer : LockAnswer) (object : ℕ)
    → ((seat : ℕ) → answer ≡ Busy seat → (seat ≢ s.seat.number) × FoundLocked s t object seat)
    → ((time : ℕ) → answer ≡ Stale time → IsStale t object time)
    → seats_of s.seat ≡ 1 → ((seat : ℕ) → answer ≢ Busy seat) × ((time : ℕ) → answer ≢ Stale time)
none_refuses s t lawful goes_on here makers answer object taken stale one = (
  λ seat e.
      let other = (taken seat e).0 in
      let found = (taken seat e).1 in
      let first : List ℕ → ℕ = λ names. slice_index names 0 in
      let seats : found.config.seats ≡ 1 = sym (ap first found.home) ∙ ap first goes_on.continues.home ∙ one in
      let there = found.found.in_range in
      other (omega (arith, seats, one, here, there)),
  λ time e. none_later t lawful _ _ one here goes_on.continues.number makers object time (stale time e),
)
