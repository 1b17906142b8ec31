use Rattle.std.proofs.Common.{ap, ◌∙◌, length}
use Rattle.mv_history.proofs.Snapshots.{length-state_of}
use Rattle.mv_client.proofs.beginning.begin.Goals as goal

pub returns-clause-objects : goal.returns-clause-objects
returns-clause-objects g c =
    ap length (g.met.S.Open.Section.reads c.enter.result) ∙ length-state_of (g.S.Open.Section.section c.enter.result)
    ∙ ap length c.enter.ensures.enters.seat.continues.start
