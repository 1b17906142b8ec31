use Rattle.std.proofs.Common.{◌≡◌, ◌≤◌, length, map, take, vec_capacity}
use Rattle.mvrlu.specs.Holding.{AreTablesOf}
use Rattle.mvrlu.specs.Meant.{seat_of}
use Rattle.mvrlu.proofs.meeting.take_tables.Given as goal

abbrev pub invariant-loop-seat : goal.invariant-loop-seat
invariant-loop-seat g l = record {
  taken : AreTablesOf (map seat_of (take l.seat-index l.seats)) l.tables.items;
  count : length l.tables.items ≡ l.seat-index;
  room : length l.seats ≤ vec_capacity l.tables;
}
