use Rattle.std.proofs.Common.{◌≡◌, ◌*◌, ◌-◌, ◌++◌, length, vec_capacity}
use Rattle.rand_core.specs.Steps.{first_words}
use Rattle.rand_pcg.specs.Pcg.{pcg32}
use Rattle.script_gen.specs.Script.{commands_of, script}
use Rattle.script_gen.proofs.script.commands.Given as goal

abbrev pub invariant-loop : goal.invariant-loop
invariant-loop l = record {
  told : l.commands.items ++ commands_of l.seat (first_words pcg32 (4 * (2000 - l.counter)) l.rng) ≡ script l.number l.seat;
  count : length l.commands.items ≡ l.counter;
  room : vec_capacity l.commands ≡ 2000;
}
