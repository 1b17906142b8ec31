-- What a seat sees more of the history while it makes no entry is by other seats.
use Rattle.std.proofs.Common.{◌≡◌, ℕ, ◌+◌, ◌-◌, ◌<◌, ◌≤◌, List, length, get_or, arith}
use Rattle.std.proofs.lemmas.Option.{slice_get-get_or}
use Rattle.mv_history.specs.declared.Entry.TheVariants.{Rest}
use Rattle.mv_history.specs.State.{State, Writes}
use Rattle.seat_log.specs.mv_core.declared.view.Knowledge.{Knowledge}
use Rattle.seat_log.specs.mv_core.HistoryFacts.{BeginsWith}
use Rattle.seat_log.specs.mv_core.Known.{Known}
use Rattle.seat_log.proofs.mv_core_lemmas.history.OwnEntries.{other_maker}
use Rattle.log_reclaim.specs.Holders.{IsOthers}

module _ (starts : State → Type 0) (allows : List ℕ → State → Writes → Type 0) (v w : Knowledge) (before : ∥ Known starts allows v ∥₁)
    (after : ∥ Known starts allows w ∥₁) (number : w.number ≡ v.number) (base : w.base ≡ v.base) (seen : BeginsWith w.past.seen v.past.seen)
    (mine : w.past.mine ≡ v.past.mine) (rests : w.past.rests ≡ v.past.rests) where
  -- an entry of a time that was seen only meanwhile is of another seat
  pub others_meanwhile : (time : ℕ) → v.base + length v.past.seen < time → time ≤ w.base + length w.past.seen → IsOthers w time
  others_meanwhile time late seen_now =
      let i : ℕ = time - (w.base + 1) in
      let at = slice_get-get_or w.past.seen i (Rest 0) (omega arith) in
      record {
        entry = get_or w.past.seen i (Rest 0);
        at = (omega arith, at);
        not_own = other_maker starts allows v w before after number seen mine rests i (get_or w.past.seen i (Rest 0)) at (omega arith);
      }
