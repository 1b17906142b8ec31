use Rattle.std.proofs.Common.{◌≡◌, ◌<◌, ◌≤◌, ◌+◌, ◌-◌, length, Some}
use Rattle.script_files.specs.declared.stop.TheConstants.{MOST_BYTES}
use Rattle.script_files.specs.Scripts.{NoneFailed}
use Rattle.script_files.proofs.TextParts.{LeftOf}
use Rattle.script_files.proofs.reading.read_text.Given as goal

abbrev pub invariant-loop-text : goal.invariant-loop-text
invariant-loop-text g l = record {
  room : 0 < length l.piece;
  short : length l.text.items ≤ MOST_BYTES + 1;
  left : LeftOf (g.F.Files.texts l.fn.files) l.name l.text.items (g.F.Files.left l.files);
  opened : g.F.Files.opened l.files ≡ Some l.name;
  texts : g.F.Files.texts l.files ≡ g.F.Files.texts l.fn.files;
  steady : g.F.Files.steady l.files ≡ g.F.Files.steady l.fn.files;
  none : NoneFailed (g.F.Files.faults l.fn.files) (g.F.Files.faults l.files);
}

abbrev pub decreases-loop-text : goal.decreases-loop-text
decreases-loop-text g l = MOST_BYTES + 1 - length l.text.items
