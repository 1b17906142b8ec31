use Rattle.std.proofs.Common.{subst}
use Rattle.seat_log.specs.mv_core.Passes.{view, config_of}
use Rattle.seat_log.specs.declared.version.Note.{Note}
use Rattle.commit_abort.specs.Finishes.{TellsOne}
use Rattle.commit_abort.proofs.FinishParts.{one_note}
use Rattle.commit_abort.proofs.finishing.store_super_below.Goals as goal

pub returns-then-above-ne0-clause-tells : goal.returns-then-above-ne0-clause-tells
returns-then-above-ne0-clause-tells g c = λ n there.
    subst
    (λ (noted : Note).
    TellsOne (config_of c.args.shared.now) (view c.args.pass.now) (view c.store_super.new.pass) noted c.args.time c.args.steps.now c.store_super.new.steps
    g.above)
    (one_note c.args.log.now c.args.index c.note-above.result n c.note-above.ensures there)
    (record { none = λ e. absurd (c.if-above-ne0.true e); one = λ ne. (c.store_super.ensures.view, c.store_super.ensures.step) })

pub store_super-requires : goal.store_super-requires
store_super-requires g c κs within =
    let may = c.requires.1.1.1.1 c.note-above.result c.note-above.ensures c.if-above-ne0.true in
    (within.0, (within.1, (c.requires.1.1.0, (may.0, may.1))))

pub note-above-requires : goal.note-above-requires
note-above-requires g c = c.requires.1.1.1.0

pub returns-then-above-ne0-clause-same : goal.returns-then-above-ne0-clause-same
returns-then-above-ne0-clause-same g c = c.store_super.ensures.same
