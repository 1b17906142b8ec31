use Rattle.reader_marks.specs.mv_core.Passes.{view, config_of}
use Rattle.seat_log.proofs.MayBuild.{is_begun_first, is_begun_later}
use Rattle.seat_log.proofs.building.begin_slot.Goals as goal

pub returns-then-first-position-clause-view : goal.returns-then-first-position-clause-view
returns-then-first-position-clause-view g c =
    is_begun_first (config_of c.args.shared.now) (view c.args.pass.now) (view c.store_next.new.pass) (view c.store_next-then-first-position.new.pass)
    c.args.position c.args.first c.unset_stamp.result
    c.store_next.ensures.view c.store_next-then-first-position.ensures.view c.unset_stamp.ensures.word c.if-first-position.true

pub returns-else-first-position-clause-view : goal.returns-else-first-position-clause-view
returns-else-first-position-clause-view g c =
    is_begun_later (config_of c.args.shared.now) (view c.args.pass.now) (view c.store_next.new.pass) c.args.position c.args.first c.store_next.ensures.view
    c.if-first-position.false
