use Rattle.run_words.specs.Words.{asks_of}
use Rattle.mvrlu_run.proofs.program.carry_out.Goals as goal

pub returns-in-Ok-send-clause-cause : goal.returns-in-Ok-send-clause-cause
returns-in-Ok-send-clause-cause g c =
    let sent = rw c.deref.ensures.value at c.in-Ok-send.ensures.ok in
    (asks_of c.in-Ok.request, c.in-Ok.ensures.asked, (c.in-Ok-make_text.made.text.items, c.in-Ok-make_text.ensures.made, sent))
