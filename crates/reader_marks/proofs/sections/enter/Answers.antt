use Rattle.reader_marks.proofs.sections.enter.Goals as goal

pub returns-clause-begins : goal.returns-clause-begins
returns-clause-begins g c = c.enter_clock.ensures.begins
