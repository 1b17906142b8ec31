use Rattle.std.proofs.Common.{refl}
use Rattle.seat_log.specs.mv_core.Passes.{view, config_of}
use Rattle.object_lock.proofs.Looks.{none_tried}
use Rattle.object_lock.proofs.Locked.{held_none, held_some}
use Rattle.object_lock.proofs.locking.lock_start.Goals as goal

pub returns-then-holds-clause-answers : goal.returns-then-holds-clause-answers
returns-then-holds-clause-answers g c =
    held_some (config_of c.args.shared.now) (view c.args.pass.now) c.args.log.now c.args.object c.requires.stands (c.if-holds.ensures.yes refl)

pub returns-then-holds-clause-tries : goal.returns-then-holds-clause-tries
returns-then-holds-clause-tries g c = none_tried (view c.args.pass.now) c.args.steps.now

pub returns-clause-again : goal.returns-clause-again
returns-clause-again g c =
    held_none (config_of c.args.shared.now) (view c.args.pass.now) c.args.log.now c.args.object c.requires.stands (c.if-holds.ensures.not refl)
