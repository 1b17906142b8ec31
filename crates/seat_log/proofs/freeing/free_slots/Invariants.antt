use Rattle.std.proofs.Common.{◌≡◌, ◌+◌}
use Rattle.reader_marks.specs.mv_core.Passes.{view, IsSame, config_of}
use Rattle.seat_log.specs.Frees.{slots_freed}
use Rattle.seat_log.proofs.freeing.free_slots.Given as goal

abbrev pub invariant-loop-freed : goal.invariant-loop-freed
invariant-loop-freed g l =
    IsSame l.initial.pass l.pass × (view l.pass ≡ slots_freed (config_of l.shared) (view l.initial.pass) l.position l.freed)
    × (l.steps ≡ l.initial.steps + l.freed)
