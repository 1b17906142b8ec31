use Rattle.std.proofs.Common.{refl, ◌∙◌, arith}
use Rattle.reader_marks.specs.mv_core.Passes.{view, config_of}
use Rattle.seat_log.proofs.FreedLogs.{none_freed, one_freed}
use Rattle.seat_log.proofs.freeing.free_slots.Goals as goal

pub loop-freed-init : goal.loop-freed-init
loop-freed-init g c = ((refl, refl, refl, refl, refl, refl), none_freed _ _ _, omega arith)

pub loop-freed-preserved : goal.loop-freed-preserved
loop-freed-preserved g c =
    let a = c.loop-freed.invariant.0 in
    let b = c.store_free.ensures.same in
    let was = c.loop-freed.invariant.2 in
    let step = c.store_free.ensures.step in (
      (b.0 ∙ a.0, b.1 ∙ a.1, b.2 ∙ a.2, b.3 ∙ a.3, b.4 ∙ a.4, b.5 ∙ a.5),
      one_freed (config_of c.args.shared.now) (view c.args.pass.now) (view c.loop-freed.pass) (view c.store_free.new.pass) c.args.position c.loop-freed.freed
          c.loop-freed.invariant.1 c.store_free.ensures.view,
      omega arith,
    )
