use Rattle.std.proofs.Common.{◌+◌, ◌*◌}
use Rattle.run_report.proofs.parts.+parts.Given as goal

abbrev pub decreases-part_of : goal.decreases-part_of
decreases-part_of g l = 2 * l.parts

abbrev pub decreases-first : goal.decreases-first
decreases-first g l = 2 * l.low + 1

abbrev pub decreases-second : goal.decreases-second
decreases-second g l = 2 * l.high + 1
