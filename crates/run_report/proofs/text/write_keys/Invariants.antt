use Rattle.std.proofs.Common.{◌≡◌, ◌++◌, take, string_bytes}
use Rattle.std.specs.List.{flat_map, zip}
use Rattle.run_report.specs.Text.{text_of_key}
use Rattle.run_report.proofs.text.write_keys.Given as goal

abbrev pub invariant-loop-i : goal.invariant-loop-i
invariant-loop-i l = string_bytes l.text ≡ string_bytes l.fn.text ++ flat_map text_of_key (take l.i (zip l.keys l.values))
