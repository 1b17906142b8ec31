use Rattle.mv_layout.proofs.Distinct.{same_is}
use Rattle.mv_layout.proofs.InCells.{in_cells, one_cell}
use Rattle.mv_layout.proofs.cells.cells_differ.Goals as goal

pub returns-clause-apart : goal.returns-clause-apart
returns-clause-apart c d p q checked here there one = same_is p q (one_cell d p q checked here there one)
