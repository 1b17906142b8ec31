-- When a line is not ahead of another, and lines in order with one more at their end.
use Rattle.std.proofs.Common.{◌≤◌, arith}
use Rattle.section_work.specs.declared.place.Place.{Place}
use Rattle.section_work.specs.declared.place.Place.TheVariants.{Commit, Read}
use Rattle.run_report.specs.Order.{rank_of}

pub rank_low : (place : Place) → rank_of place ≤ 1
rank_low (Commit time) = omega arith
rank_low (Read time) = omega arith
