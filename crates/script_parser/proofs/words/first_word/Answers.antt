use Rattle.script_parser.proofs.WordParts.{no_word, comment, word}
use Rattle.script_parser.proofs.words.first_word.Goals as goal

pub returns-in_err-first : goal.returns-in_err-first
returns-in_err-first c =
    rw c.from_residual.ensures (no_word c.args.bytes.now c.skip_blanks-rest.result.now c.skip_blanks-rest.ensures c.in_err-first.ensures.value)

pub returns-then-first-eq35 : goal.returns-then-first-eq35
returns-then-first-eq35 c =
    comment c.args.bytes.now c.skip_blanks-rest.result.now c.in_ok-first.field-0.now c.skip_blanks-rest.ensures c.in_ok-first.ensures.value c.if-first-eq35.true

pub returns : goal.returns
returns c =
    rw (c.split_at.ensures.front, c.split_at.ensures.back)
    (word c.args.bytes.now c.skip_blanks-rest.result.now c.in_ok-first.field-0.now c.word_length.result c.skip_blanks-rest.ensures c.in_ok-first.ensures.value
    c.if-first-eq35.false c.word_length.ensures.is)
