use Rattle.std.proofs.Common.{refl}
use Rattle.mv_layout.proofs.cells.mark_cell.Goals as goal

pub returns : goal.returns
returns c = refl
