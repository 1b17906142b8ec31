use Rattle.std.proofs.Common.{◌≡◌, ◌<◌, ◌++◌, drop, length, string_bytes}
use Rattle.run_report.specs.Text.{text_of_sets}
use Rattle.run_report.proofs.text.write_sets.Given as goal

abbrev pub invariant-loop-name : goal.invariant-loop-name
invariant-loop-name l = record {
  told : string_bytes l.text ++ text_of_sets l.name (drop l.name l.end) ≡ string_bytes l.fn.text ++ text_of_sets 0 l.end;
  whole : 0 < l.name → length l.end ≡ 30;
}
