use Rattle.std.proofs.Common.{ap}
use Rattle.commit_clock.specs.mv_core.declared.view.Knowledge.{Knowledge}
use Rattle.reader_marks.proofs.sections.enter_mark.Goals as goal

pub returns-clause-next : goal.returns-clause-next
returns-clause-next g c = (c.args.low, ap (λ (u : Knowledge). u.phase) c.store_mark.ensures.view)
