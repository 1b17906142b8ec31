use Rattle.std.proofs.Common.{◌<◌, ◌^◌, refl, arith}
use mathlib.Core.Logic.{dite}
use native.Mathlib.Decide.{dec_lt}
use Rattle.seat_log.specs.mv_core.Passes.{view, config_of}
use Rattle.object_lock.proofs.Outcomes.{lost_busy, lost_stale}
use Rattle.object_lock.proofs.locking.lost.Goals as goal

pub returns-then-is_unset-clause-outcome : goal.returns-then-is_unset-clause-outcome
returns-then-is_unset-clause-outcome g c =
    λ words start first lost e.
    lost_busy (config_of c.args.shared.now) (view c.args.pass.now) (view c.stamp_at-stamp.new.pass) c.args.object c.args.link c.stamp_at-stamp.result
    c.requires.may c.requires.first c.stamp_at-stamp.ensures.looked start lost
    c.args.log.now c.drop_built.new.log words c.link_seat.result first c.stamp_at-stamp.new.steps c.stamp_at-stamp.ensures.may c.requires.stands
    c.drop_built.ensures c.link_seat.ensures (c.if-is_unset.ensures.0 refl) (let two = c.stamp_at-stamp.ensures.step in omega arith)

pub returns-clause-outcome : goal.returns-clause-outcome
returns-clause-outcome g c =
    let low : c.stamp_at-stamp.result < 2 ^ 63 =
    dite (dec_lt c.stamp_at-stamp.result 9223372036854775808) (λ lt. lt)
    (λ high. let no_way = c.if-is_unset.ensures.1 (let h = high in omega arith) in absurd (cc)) in
    λ words start first lost e.
    lost_stale (config_of c.args.shared.now) (view c.args.pass.now) (view c.stamp_at-stamp.new.pass) c.args.object c.args.link c.stamp_at-stamp.result
    c.requires.may c.requires.first c.stamp_at-stamp.ensures.looked start lost
    c.args.log.now c.drop_built.new.log words first c.stamp_at-stamp.new.steps c.stamp_at-stamp.ensures.may c.requires.stands c.drop_built.ensures low
    (let two = c.stamp_at-stamp.ensures.step in omega arith)
