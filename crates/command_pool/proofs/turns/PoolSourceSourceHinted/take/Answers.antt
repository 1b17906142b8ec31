use Rattle.command_pool.proofs.Terms.{◌-◌, ap, refl, arith, view, Hand, last_of}
use Rattle.command_pool.proofs.Sharing.{last_push}
use Rattle.command_pool.proofs.Taking.{command_found, command_there}
use Rattle.command_pool.proofs.turns.PoolSourceSourceHinted.take.Goals as goal

-- numbers are positive
pub overflow_sub-place : goal.overflow_sub-place
overflow_sub-place g c = omega (arith, c.take-number.ensures.later)

-- a number of a command is above those that were taken
pub returns-then-place-self-clause-taken : goal.returns-then-place-self-clause-taken
returns-then-place-self-clause-taken g c =
    let number = c.take-number.result in
    let took = c.take-number.ensures in
    let commands = c.args.self.now.commands.now in
    let there = command_there commands (number - 1) c.if-place-self.true in (
      there.0,
      there.1,
      tt,
      record {
        took = record { pass = took.pass; view_is = took.taken; commands = refl {a = commands} };
        later = took.later;
        there = command_found commands number there.0 (omega (arith, took.later)) there.1;
      },
      omega (
        arith,
        ap (λ (v : Hand). last_of v.taken) took.taken,
        last_push (view c.args.self.now.pass).taken number,
        c.if-place-self.true,
        took.later,
      ),
    )

-- an end mark
pub returns-else-place-self-clause-taken : goal.returns-else-place-self-clause-taken
returns-else-place-self-clause-taken g c = record {
  mark = c.take-number.result;
  took = record { pass = c.take-number.ensures.pass; view_is = c.take-number.ensures.taken; commands = refl };
  beyond = omega (arith, c.if-place-self.false, c.take-number.ensures.later);
}
