use Rattle.std.proofs.Common.{◌≡◌, ◌≤◌, ◌<◌, map, length, string_bytes, All}
use Rattle.script_files.specs.declared.stop.TheConstants.{MOST_BYTES}
use Rattle.script_files.specs.Reading.{AreFirstTexts, text_of}
use Rattle.script_files.specs.Scripts.{NoneFailed}
use Rattle.script_files.proofs.reading.read_each.Given as goal

abbrev pub invariant-loop-place : goal.invariant-loop-place
invariant-loop-place g l = record {
  first : AreFirstTexts (g.F.Files.texts l.fn.files) (map string_bytes l.names) (map text_of l.texts.items);
  len : length l.texts.items ≡ l.place;
  short : All (λ text. length text.items ≤ MOST_BYTES) l.texts.items;
  room : 0 < length l.piece;
  texts : g.F.Files.texts l.files ≡ g.F.Files.texts l.fn.files;
  steady : g.F.Files.steady l.files ≡ g.F.Files.steady l.fn.files;
  none : NoneFailed (g.F.Files.faults l.fn.files) (g.F.Files.faults l.files);
}
