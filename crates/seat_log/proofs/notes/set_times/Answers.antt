use Rattle.std.proofs.Common.{◌<◌, ◌≤◌, length, refl, arith}
use Rattle.seat_log.proofs.Places.{goes_first, goes_on, goes_last}
use Rattle.seat_log.proofs.notes.set_times.Goals as goal

pub loop-i-init : goal.loop-i-init
loop-i-init c = let long = c.args.live.now.ok.0 in let le = c.requires in (goes_first _ _ _ (omega arith), refl)

pub index_mut-requires : goal.index_mut-requires
index_mut-requires c =
    let was = c.args.live.now.ok.0 in
    let now = c.loop-i.live.ok.0 in
    let same = c.loop-i.invariant.0.long in
    let end_is = c.len-i-end.ensures in
    let lt = c.loop-i-test.true in
    omega arith

pub loop-i-preserved : goal.loop-i-preserved
loop-i-preserved c =
    let was = c.args.live.now.ok.0 in
    let end_is = c.len-i-end.ensures in
    let lt : c.loop-i.i < length c.args.live.now.items = (let test = c.loop-i-test.true in omega arith) in
    (goes_on _ _ _ c.loop-i.i _ c.index_mut.result.now c.index_mut.ensures.value lt c.loop-i.invariant.0, c.loop-i.invariant.1)

pub returns-clause-items : goal.returns-clause-items
returns-clause-items c =
    let was = c.args.live.now.ok.0 in
    let end_is = c.len-i-end.ensures in
    let late : length c.args.live.now.items ≤ c.loop-i.i = (let ge = c.loop-i-test.false in omega arith) in
    goes_last _ _ _ c.loop-i.i _ late c.loop-i.invariant.0

pub returns-clause-capacity : goal.returns-clause-capacity
returns-clause-capacity c = c.loop-i.invariant.1
