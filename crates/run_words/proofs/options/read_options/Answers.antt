use Rattle.std.proofs.Common.{◌∙◌, sym}
use Rattle.run_words.proofs.Taken.{takes}
use Rattle.run_words.proofs.options.read_options.Goals as goal

pub loop-rest-preserved : goal.loop-rest-preserved
loop-rest-preserved c =
    let flag = rw c.as_str.ensures.value at c.in-Some.ensures in
    let number = rw c.as_str-in-len2-up.ensures.value at c.in_ok-number.ensures in
    let given = c.loop-rest.given in
    let next = c.in_ok-given.given in
    c.loop-rest.invariant ∙ takes given next c.in-Some.flag c.in_ok-number.number c.loop-rest.rest.now c.word-item.result c.value-item.result
    c.in-len2-up.len_at_least c.word-item.is c.value-item.is (sym flag) (sym number) (sym c.in_ok-given.ensures)
