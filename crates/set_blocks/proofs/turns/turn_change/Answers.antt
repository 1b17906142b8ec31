use Rattle.std.proofs.Common.{◌<◌, ℕ, take, sym, ap, ap₂, ◌∙◌, subst, arith}
use Rattle.set_blocks.proofs.Terms.{State, Writes, written, catalogue_of, IsLawful, applies, No, merged, writes_in, vacant_nodes, is_full, changing}
use Rattle.set_blocks.proofs.Turning.{vacant_few, count_same, state_same, count_plan, is_full_there, nothing_applies, turn_kept, held_after}
use Rattle.set_blocks.proofs.turns.turn_change.Goals as goal

pub find_plan_near-found-requires-clause-few : goal.find_plan_near-found-requires-clause-few
find_plan_near-found-requires-clause-few g c =
    let o = c.args.overlay.now in
    subst (λ (n : ℕ). vacant_nodes (written (g.V.View.state o.view) (take o.count o.writes)) < n) (sym c.objects-few.ensures)
    (vacant_few (written (g.V.View.state o.view) (take o.count o.writes)) c.requires.lawful)

pub write-requires : goal.write-requires
write-requires g c =
    let same = count_same c.args.overlay.now c.find_plan_near-found.new.view c.find_plan_near-found.ensures.as_before.1 in
    let few = count_plan _ _ _ c.writes.ensures.writes in
    omega (arith, c.requires.room, c.in-Open.ensures.found.1)

pub returns-in-Open-clause-turn : goal.returns-in-Open-clause-turn
returns-in-Open-clause-turn g c = (
  writes_in c.find_plan_near-found.new.plan,
  changing (writes_in c.find_plan_near-found.new.plan) c.in-Open.ensures.found.0 c.in-Open.ensures.found.2.plan,
  c.write.ensures.writes ∙ ap₂ (λ (a : Writes) (b : Writes). merged a b) c.find_plan_near-found.ensures.as_before.1 c.writes.ensures.writes,
)

pub returns-in-Open-clause-count : goal.returns-in-Open-clause-count
returns-in-Open-clause-count g c =
    let same = count_same c.args.overlay.now c.find_plan_near-found.new.view c.find_plan_near-found.ensures.as_before.1 in
    let few = count_plan _ _ _ c.writes.ensures.writes in
    omega (arith, c.write.ensures.count, c.in-Open.ensures.found.1)

pub returns-then-is_full-clause-turn : goal.returns-then-is_full-clause-turn
returns-then-is_full-clause-turn g c =
    is_full_there _ _ c.in-Settled.reply c.in-Settled.ensures.found.0 (sym c.is_full.ensures ∙ c.if-is_full.true)

pub returns-then-is_full-clause-count : goal.returns-then-is_full-clause-count
returns-then-is_full-clause-count g c =
    let same = count_same c.args.overlay.now c.find_plan_near-found.new.view c.find_plan_near-found.ensures.as_before.1 in
    omega arith

pub hold_unchanged-requires : goal.hold_unchanged-requires
hold_unchanged-requires g c =
    let o = c.args.overlay.now in
    let mid = c.find_plan_near-found.new.view in
    let same = count_same o mid c.find_plan_near-found.ensures.as_before.1 in
    let here = state_same o mid c.find_plan_near-found.ensures.as_before.1 g.V.View.state
    (g.met.V.View.same_state _ _ c.find_plan_near-found.ensures.as_before.0) in
    record {
      lawful = subst IsLawful (sym here) c.requires.lawful;
      room = omega (arith, c.requires.room);
      may = c.requires.may;
      nothing = ap (λ (s : State). applies c.args.command.now (catalogue_of s)) here
          ∙ nothing_applies c.args.command.now (written (g.V.View.state o.view) (take o.count o.writes)) c.in-Settled.ensures.found.1
          (ap is_full (sym c.in-Settled.ensures.found.0) ∙ sym c.is_full.ensures ∙ c.if-is_full.false);
    }

pub returns-else-is_full : goal.returns-else-is_full
returns-else-is_full g c =
    let o = c.args.overlay.now in
    let mid = c.find_plan_near-found.new.view in
    let same = count_same o mid c.find_plan_near-found.ensures.as_before.1 in
    let here = state_same o mid c.find_plan_near-found.ensures.as_before.1 g.V.View.state
    (g.met.V.View.same_state _ _ c.find_plan_near-found.ensures.as_before.0) in
    record {
      turn = turn_kept _ _ _ _ _ (held_after c.args.command.now No _ _ _ _ _ here c.find_plan_near-found.ensures.as_before.1 c.hold_unchanged.ensures.held);
      view = g.met.V.View.as_long_before _ _ _ c.find_plan_near-found.ensures.as_before.0 c.hold_unchanged.ensures.view;
      count = omega (arith, c.hold_unchanged.ensures.count);
    }
