use Rattle.std.proofs.Common.{◌≡◌, ◌-◌, suc, sym, ap, ◌∙◌, arith}
use Rattle.replay_text.specs.replay_rules.Tasks.{field_word}
use Rattle.step_replay.proofs.access.field_word.Goals as goal

pub returns-in-0 : goal.returns-in-0
returns-in-0 c = ap (field_word c.args.version.now c.args.at) (sym c.in-0.is)

pub returns-in-1 : goal.returns-in-1
returns-in-1 c = c.stamp_from.ensures ∙ ap (field_word c.args.version.now c.args.at) (sym c.in-1.is)

pub returns-in-2 : goal.returns-in-2
returns-in-2 c = ap (field_word c.args.version.now c.args.at) (sym c.in-2.is)

pub returns-in-3 : goal.returns-in-3
returns-in-3 c = ap (field_word c.args.version.now c.args.at) (sym c.in-3.is)

pub returns-in_default : goal.returns-in_default
returns-in_default c =
    let is : suc (suc (suc (suc (c.args.field - 4)))) ≡ c.args.field = omega arith in
    c.word_of.ensures ∙ ap (field_word c.args.version.now c.args.at) is
