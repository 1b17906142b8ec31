use Rattle.std.proofs.Common.{List, ℕ, refl, subst}
use Rattle.seat_log.specs.mv_core.Passes.{view, config_of}
use Rattle.seat_log.specs.mv_core.LockSteps.{LockTold, OneMoreWrite}
use Rattle.seat_log.specs.mv_core.Swaps.{found_by}
use Rattle.object_lock.proofs.MayLocks.{may_lock, stored_are, first_is}
use Rattle.object_lock.proofs.locking.exchange.Goals as goal

pub lock_head-requires : goal.lock_head-requires
lock_head-requires g c κs lives =
    let config = config_of c.args.shared.now in
    let v = view c.args.pass.now in
    let l = c.args.log.now in
    let may = may_lock config v l c.args.object c.args.previous c.args.position c.requires.stands c.requires.built config.write_max c.requires.may
    c.requires.range c.requires.lock c.requires.unheld c.requires.few in
    let first = first_is config v l c.args.object c.args.previous c.args.position c.requires.stands c.requires.built _ c.held.result c.held.ensures.held refl in
    (lives.0, (lives.1, (c.requires.of, (may, first))))

pub returns-clause-told : goal.returns-clause-told
returns-clause-told g c =
    let config = config_of c.args.shared.now in
    let v = view c.args.pass.now in
    let p = c.args.previous in
    let same = stored_are config v c.args.log.now c.args.object p c.args.position c.requires.stands c.requires.built in
    subst (λ (ws : List ℕ). LockTold config v c.args.object p c.args.position ws (found_by p c.lock_head.result) (view c.lock_head.new.pass)) same
    c.lock_head.ensures.view

pub returns-clause-own : goal.returns-clause-own
returns-clause-own g c =
    let config = config_of c.args.shared.now in
    let v = view c.args.pass.now in
    let same = stored_are config v c.args.log.now c.args.object c.args.previous c.args.position c.requires.stands c.requires.built in
    λ won. subst (λ (ws : List ℕ). OneMoreWrite config v c.args.object ws (view c.lock_head.new.pass)) same (c.lock_head.ensures.own won)
