use Rattle.std.proofs.Common.{◌≡◌, ◌++◌, drop, string_bytes}
use Rattle.run_report.specs.Text.{text_of_tables}
use Rattle.run_report.proofs.text.write_tables.Given as goal

abbrev pub invariant-loop-seat : goal.invariant-loop-seat
invariant-loop-seat l = string_bytes l.text ++ text_of_tables l.seat (drop l.seat l.tables) ≡ string_bytes l.fn.text ++ text_of_tables 0 l.tables
