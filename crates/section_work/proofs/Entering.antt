-- What a section reads that holds nothing, and seats at the last time.
use Rattle.section_work.proofs.Terms.{◌≡◌, ◌+◌, ◌≤◌, [], length, ap, written, Seat, InSection, IsWorn, snapshot_of, state_of, IsAsBefore, Leaves, IsWorn-later}

-- a section that holds nothing reads its snapshot
pub reads_snapshot : (s : InSection) → s.own ≡ [] → state_of s ≡ snapshot_of s
reads_snapshot s none = ap (written (snapshot_of s)) none

pub worn_left : (locked left : InSection) (new : Seat) → IsAsBefore locked left → IsWorn left.seat → Leaves left new → new.base + length new.seen ≤ new.last
    → IsWorn new
worn_left locked left new same worn gone most = IsWorn-later gone.continues worn most
