use Rattle.std.proofs.Common.{rules, List, All, sym, subst}
use Rattle.rand_pcg.specs.Pcg.{pcg32}
use Rattle.set_model.specs.declared.commands.Command.{Command}
use Rattle.script_gen.specs.Script.{IsGenerated}
use Rattle.script_gen.proofs.Drawing.{none_drawn, all_drawn}
use Rattle.script_gen.proofs.Generated.{script_generated}
use Rattle.script_gen.proofs.script.commands.Goals as goal

pub loop-init : goal.loop-init
loop-init c = record {
  told = none_drawn c.args.number c.args.seat c.new-rng.result c.in_ok-commands.commands.items (search rules) (rw c.from.ensures at c.new-rng.ensures);
  count = search rules;
  room = search rules;
}

pub returns-clause-drawn : goal.returns-clause-drawn
returns-clause-drawn c = all_drawn pcg32 c.args.seat 2000 c.loop.counter c.loop.rng _ _ c.loop-test.false c.loop.invariant.told

pub returns-clause-generated : goal.returns-clause-generated
returns-clause-generated c =
    let drawn = all_drawn pcg32 c.args.seat 2000 c.loop.counter c.loop.rng _ _ c.loop-test.false c.loop.invariant.told in
    subst (λ (commands : List Command). All (IsGenerated c.args.seat) commands) (sym drawn) (script_generated c.args.number c.args.seat c.requires)
