use Rattle.std.proofs.Common.{◌≡◌, ◌<◌, sym, ap, ◌∙◌, subst}
use Rattle.mv_layout.specs.declared.SharedWord.TheVariants.{Clock}
use Rattle.mv_layout.specs.declared.Config.{Config}
use Rattle.mv_layout.specs.Words.{clock_time_of}
use Rattle.replay_rules.specs.States.{opened}
use Rattle.step_replay.proofs.FirstSteps.{low_turn, mark_turn, time_turn, leave_turn, low_next, mark_next, time_next, leave_next}
use Rattle.replay_tests.proofs.machines.enter_and_leave.Goals as goal

pub returns : goal.returns
returns c =
    let here = c.args.machine.now in
    let seat = c.args.seat in
    let first = c.load-first.ensures.makes (low_turn seat) c.requires.behind (low_next here seat c.requires.seat) in
    let low = c.clock_time-low.result in
    let is : low ≡ clock_time_of ((opened here.config).memory Clock) = c.clock_time-low.ensures ∙ ap clock_time_of first.1 in
    let second = c.store-outside.ensures.makes (mark_turn seat low) first.0 (mark_next here seat c.requires.seat low is) in
    let there = c.store-outside.new.self in
    let back : here.config ≡ there.config = sym c.store-outside.ensures.numbers in
    let in_range = subst (λ (k : Config). seat < k.seats) back c.requires.seat in
    let is_there = subst (λ (k : Config). low ≡ clock_time_of ((opened k).memory Clock)) back is in
    let third = c.load-second.ensures.makes (time_turn seat low) second.0 (time_next there seat in_range low is_there) in
    let fourth = c.store-inside.ensures.makes (leave_turn seat low) third.0 (leave_next there seat in_range low is_there) in
    (low, fourth.0)
