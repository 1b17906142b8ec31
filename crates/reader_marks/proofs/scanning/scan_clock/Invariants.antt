use Rattle.std.proofs.Common.{◌<◌}
use Rattle.std.specs.Prelude.{All}
use Rattle.mv_history.specs.State.{maker_of}
use Rattle.commit_clock.specs.mv_core.Passes.{view, IsSame, config_of}
use Rattle.reader_marks.specs.Lowering.{Looks}
use Rattle.reader_marks.proofs.scanning.scan_clock.Given as goal

abbrev pub invariant-loop-seat : goal.invariant-loop-seat
invariant-loop-seat g l =
    IsSame l.fn.pass l.pass × Looks (config_of l.shared) (view l.fn.pass) (view l.pass) l.clock l.seat l.lowest l.fn.steps l.steps
    × All (λ e. maker_of e < (config_of l.shared).seats) (view l.pass).past.seen
