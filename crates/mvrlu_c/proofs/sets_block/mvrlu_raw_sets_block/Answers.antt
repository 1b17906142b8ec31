use Rattle.std.proofs.Common.{rules, ◌≡◌, length, refl, sym, ap, ◌∙◌, Some, None}
use Rattle.c_answers.specs.Blocks.{status_of_block}
use Rattle.mvrlu_c.specs.SetsBlock.TellsBlock.{no_block, attempted}
use Rattle.c_answers.specs.Statuses.{code_of}
use Rattle.c_answers.specs.declared.status.Status.TheVariants.{Closed}
use Rattle.c_answers.proofs.SaidBlocks.{as_many_said}
use Rattle.c_answers.proofs.Numbers.{code_back}
use Rattle.mvrlu_c.proofs.Blocks.{many_told}
use Rattle.mvrlu_c.proofs.sets_block.mvrlu_raw_sets_block.Goals as goal

pub returns-in-Err : goal.returns-in-Err
returns-in-Err c = record {
  tells = no_block c.in-Err.why c.in-Err.ensures.fault (code_back c.in-Err.why c.code-in-Err.result c.code-in-Err.ensures, refl, refl);
}

pub returns-in-None : goal.returns-in-None
returns-in-None c =
    let long : length c.args.replies.now ≡ length c.args.commands.now = search rules in
    record {
      tells = attempted c.in-Ok.block long c.in-Ok.ensures.block (record {
        closed = λ shut. (code_back Closed c.code-in-None.result c.code-in-None.ensures, (c.in-None.ensures.closed shut).1, refl);
        open_is = λ is. (c.in-None.ensures.open is).0;
        answered = λ is. absurd ((c.in-None.ensures.open is).1);
      });
    }

pub tell_block-requires : goal.tell_block-requires
tell_block-requires c =
    let long : length c.args.replies.now ≡ length c.args.commands.now = search rules in
    record {
      as_many = many_told c.args.sets.now c.on_open-answer.new.handle c.in-Ok.block c.in-Some.answer (length c.args.replies.now)
          (λ shut. let none : Some c.in-Some.answer ≡ None = (c.in-Some.ensures.closed shut).0 in cc)
          (λ is. (c.in-Some.ensures.open is).1)
          (long ∙ sym (as_many_said c.args.commands.now c.in-Ok.block c.in-Ok.ensures.block.said));
    }

pub returns : goal.returns
returns c =
    let long : length c.args.replies.now ≡ length c.args.commands.now = search rules in
    record {
      tells = attempted c.in-Ok.block long c.in-Ok.ensures.block (record {
        closed = λ shut. let none : Some c.in-Some.answer ≡ None = (c.in-Some.ensures.closed shut).0 in absurd (cc);
        open_is = λ is. (c.in-Some.ensures.open is).0;
        answered = λ is. (
          c.in-Some.answer,
          (c.in-Some.ensures.open is).1,
          c.tell_block.ensures.replies,
          code_back (status_of_block c.in-Some.answer) c.code-in-Some.result (c.code-in-Some.ensures ∙ ap code_of c.tell_block.ensures.status),
        );
      });
    }
