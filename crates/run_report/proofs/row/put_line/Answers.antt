use Rattle.std.proofs.Common.{rules, ◌∙◌, append_assoc}
use Rattle.std.proofs.lemmas.List.{drop_all}
use Rattle.run_report.proofs.row.put_line.Goals as goal

pub returns-clause-text : goal.returns-clause-text
returns-clause-text c = c.put_number.ensures.text
    ∙ rw (
      c.put-at-4.ensures.text,
      c.put_number-at.ensures.text,
      c.put-at-3.ensures.text,
      c.put_place-at.ensures.text,
      c.put-at-2.ensures.text,
      c.put_reply-at.ensures.text,
      c.put-at.ensures.text,
      drop_all 96 c.args.row.now (search rules),
    ) (simp append_assoc)
