use Rattle.std.proofs.Common.{◌≡◌, ◌<◌, ◌++◌, drop, length, string_bytes}
use Rattle.run_report.specs.Summary.{text_of_sizes}
use Rattle.run_report.proofs.counts.write_sizes.Given as goal

abbrev pub invariant-loop-name : goal.invariant-loop-name
invariant-loop-name l = record {
  told : string_bytes l.text ++ text_of_sizes l.name (drop l.name l.end) ≡ string_bytes l.fn.text ++ text_of_sizes 0 l.end;
  whole : 0 < l.name → length l.end ≡ 30;
}
