use Rattle.std.proofs.Common.{◌≡◌, ◌+◌, ◌<◌, ℕ, List, length, get_or, drop, sym, ap, ◌∙◌, subst, arith, length-set}
use Rattle.std.proofs.lemmas.List.{length-map}
use Rattle.std.proofs.lemmas.List.Elements.{All-get_or}
use Rattle.replay_text.specs.replay_rules.declared.plan.CallOf.{CallOf}
use Rattle.replay_text.specs.replay_rules.Plans.{plan_of}
use Rattle.replay_text.specs.replay_rules.Runs.{new_seats, turned, turns_taken}
use Rattle.step_replay.specs.Shown.{seat_of, seats_of, tape_of, scene_of}
use Rattle.replay_text.proofs.replay_rules_lemmas.NewSeats.{seats_long}
use Rattle.step_replay.proofs.TurnLaws.{turns_next, begun_is, turn_shown}
use Rattle.replay_text.proofs.replay_rules_lemmas.runs.Turns.{plan_ruled}
use Rattle.step_replay.proofs.schedule.replay.Goals as goal

pub loop-seat-init : goal.loop-seat-init
loop-seat-init c =
    let p = plan_of c.args.plan.now in
    let are : seats_of p.calls c.in_ok-seats.seats.items ≡ new_seats p.calls 0 p.config.seats =
    subst (λ (calls : List CallOf). seats_of calls c.in_ok-seats.seats.items ≡ new_seats calls 0 p.config.seats) c.deref.ensures.value
    c.in_ok-seats.ensures in
    record {
      same = c.in_ok-new.ensures.numbers;
      room = omega arith;
      long = sym (length-map c.in_ok-seats.seats.items (seat_of p.calls)) ∙ ap length are ∙ seats_long p.calls 0 p.config.seats;
      rest = begun_is p (seats_of p.calls c.in_ok-seats.seats.items) c.in_ok-new.field-0.words.items _ are c.in_ok-new.ensures.words c.new-2.ensures.bytes;
    }

pub loop-seat-preserved : goal.loop-seat-preserved
loop-seat-preserved c =
    let p = plan_of c.args.plan.now in
    let l = c.loop-seat in
    let steps = c.deref-seat-items.result.now in
    let same : steps ≡ p.steps = c.deref-seat-items.ensures.value in
    let n = get_or steps l.seat-index 0 in
    let lt : l.seat-index < length p.steps = subst (λ (xs : List ℕ). l.seat-index < length xs) same c.loop-seat-test.true in
    let here : n ≡ get_or p.steps l.seat-index 0 = ap (λ xs. get_or xs l.seat-index 0) same in
    let one = All-get_or (λ seat. seat < p.config.seats) p.steps l.seat-index 0 lt c.requires.fit.steps.0 in
    let within : n < length l.seats.items = (let long = l.invariant.long in omega (arith, here, one, long)) in
    let turn =
    subst (λ (calls : List CallOf). scene_of calls c.turn.new.self c.turn.new.tape ≡ turned p.config (scene_of calls c.index_mut.result.now l.tape))
    c.deref-in-loop-seat.ensures.value c.in_ok-turn.ensures.turned in
    record {
      same = c.turn.ensures.same;
      room = (let more = c.turn.ensures.room in let so_far = l.invariant.room in omega arith);
      long = length-set l.seats.items n c.turn.new.self ∙ l.invariant.long;
      rest = l.invariant.rest
          ∙ turns_next p.config p.steps l.seat-index n _ lt (sym (ap (λ xs. get_or xs l.seat-index 0) same))
          ∙ ap (λ r. turns_taken p.config r (drop (l.seat-index + 1) p.steps))
          (turn_shown p.config p.calls l.seats.items n c.index_mut.result.now c.turn.new.self (tape_of l.tape) (tape_of c.turn.new.tape) within
          c.index_mut.ensures.value turn);
    }

pub returns-clause-ruled : goal.returns-clause-ruled
returns-clause-ruled c = plan_ruled (plan_of c.args.plan.now) c.requires.fit
