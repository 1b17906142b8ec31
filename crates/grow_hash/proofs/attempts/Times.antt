-- What a section of a store of a growing hash set reads.
use Rattle.mv_history.proofs.Kept.{keeps_read}
use Rattle.grow_hash.proofs.Terms.{◌≡◌, ℕ, [], InSection, IsSection, state_of, IsGrown, IsGrownOpening, IsGrowCommit}
use Rattle.grow_hash.proofs.GrownOpenings.{grown_opening}

-- what a section reads that holds nothing is lawful
pub grown_read : (levels : ℕ) (s : InSection) → IsSection (IsGrownOpening levels) (IsGrowCommit levels) s → s.own ≡ [] → IsGrown levels (state_of s)
grown_read levels s h none =
    keeps_read (IsGrowCommit levels) (IsGrown levels) (λ tag u ws makes l. makes.keeps.lawful_after) (IsGrownOpening levels) s h none
    (grown_opening levels s.seat.start h.seat.start)
