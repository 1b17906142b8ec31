-- Every state of a store of the sets is lawful.
use Rattle.std.proofs.Common.{◌≡◌, ℕ, []}
use Rattle.mv_history.specs.State.{state_at}
use Rattle.mv_history.specs.Meaning.{Seat, InSection, IsSeat, IsSection, state_of}
use Rattle.mv_history.proofs.Kept.{keeps_at, keeps_read}
use Rattle.set_model.specs.Lawful.{IsLawful, IsOpening}
use Rattle.set_model.specs.Rules.{IsSetCommit}
use Rattle.set_model.proofs.Opening.{opening_lawful}

-- the state of each time that a seat has seen
pub lawful_at : (s : Seat) → IsSeat IsOpening IsSetCommit s → (t : ℕ) → IsLawful (state_at s.start s.seen t)
lawful_at s h t = keeps_at IsSetCommit IsLawful (λ tag u ws makes l. makes.keeps.lawful_after) IsOpening s h (opening_lawful s.start h.start) t

-- and what a section reads that holds nothing
pub lawful_read : (s : InSection) → IsSection IsOpening IsSetCommit s → s.own ≡ [] → IsLawful (state_of s)
lawful_read s h none =
    keeps_read IsSetCommit IsLawful (λ tag u ws makes l. makes.keeps.lawful_after) IsOpening s h none (opening_lawful s.seat.start h.seat.start)
