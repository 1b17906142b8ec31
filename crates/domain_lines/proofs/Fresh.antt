-- A section is no older than what its seat had seen when its work began.
use Rattle.mv_history.specs.declared.history.Entry.{Entry}
use Rattle.mv_history.specs.Calls.{Continues, IsEntryAt}
use Rattle.section_work.specs.Causes.{Causes}
use Rattle.work_runner.specs.Tries.{IsEnteredBetween}
use Rattle.domain_lines.proofs.Terms.{◌≡◌, ◌+◌, ◌-◌, ◌<◌, ◌≤◌, ◌∷◌, ◌++◌, ◌∙◌, ℕ, zero, suc, List, [], length, drop, Some, sym, ap, subst, arith, slice_get}
use Rattle.domain_lines.proofs.Terms.{take-append-drop, Seat, Whole, there_longer, HasMet}

there_below : (es : List Entry) (i : ℕ) (e : Entry) → slice_get es i ≡ Some e → i < length es
there_below [] i e is = absurd (cc)
there_below (f ∷ es) zero e is = omega arith
there_below (f ∷ es) (suc i) e is = let b = there_below es i e is in omega arith

-- On a seat's way from its first to the one that met a section was entered behind this seat, at this printed time. Then each entry that this
-- seat had seen stands in the whole history, at its printed time, and the section's time isn't below that.
pub fresh_between : (k : Causes) (w : Whole) (first met s t : Seat) (time : ℕ) → HasMet w first met → first.base ≡ w.base → Continues first s
    → Continues s met → IsEnteredBetween k s t time
    → (at : ℕ) (e : Entry) → IsEntryAt s at e → (at ≤ time) × (slice_get w.history (at - (w.base + 1)) ≡ Some e)
fresh_between k w first met s t time has base from to fresh at e entry =
    let below = there_below s.seen (at - (s.base + 1)) e entry.there in
    let same : s.base ≡ w.base = from.base ∙ base in
    let rest = drop (length s.seen) met.seen in
    let begins = has.seen s.seen (rest, sym (take-append-drop (length s.seen) met.seen) ∙ ap (λ es. es ++ rest) to.seen) in (
      omega (arith, below, entry.later, fresh.time_is, fresh.holds, fresh.comes.base, fresh.enters.enters.seat.continues.base),
      ap (λ es. slice_get es (at - (w.base + 1))) begins.1
          ∙ there_longer s.seen begins.0 (at - (w.base + 1)) e (subst (λ (n : ℕ). slice_get s.seen (at - (n + 1)) ≡ Some e) same entry.there),
    )
