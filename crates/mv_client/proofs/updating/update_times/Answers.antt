use Rattle.std.proofs.Common.{◌+◌, length, refl, ap, ◌∙◌, arith}
use Rattle.mv_history.specs.CallLaws.{Continues-itself}
use Rattle.mv_history.proofs.Steps.{Continues-Continues}
use Rattle.mv_client.specs.Updates.{commits_in, outcome_of}
use Rattle.mv_client.proofs.Filled.{opened_before, done_commits}
use Rattle.mv_client.proofs.updating.update_times.Goals as goal

pub loop-nth-init : goal.loop-nth-init
loop-nth-init g c = record { continues = Continues-itself _; mine = omega arith; each = refl }

pub until-next-requires-clause-callable : goal.until-next-requires-clause-callable
until-next-requires-clause-callable g c s o = c.requires.callable s (opened_before _ _ _ _ c.loop-nth.invariant.continues o)

pub until-next-requires-clause-fills : goal.until-next-requires-clause-fills
until-next-requires-clause-fills g c s t r o shows = c.requires.fills s t r (opened_before _ _ _ _ c.loop-nth.invariant.continues o) shows

pub loop-nth-preserved : goal.loop-nth-preserved
loop-nth-preserved g c =
    let i = c.loop-nth.invariant in
    let u = c.until-next.ensures in
    let one = done_commits _ _ _ _ _ c.until-next.result.1 c.in-Some.field-0 c.requires.commits c.in-Some.is u.updated u.commits in record {
      continues = Continues-Continues i.continues u.continues;
      mine = omega (arith, one, i.mine);
      each = omega (arith, i.each);
    }

pub returns-in-None : goal.returns-in-None
returns-in-None g c =
    let i = c.loop-nth.invariant in
    let u = c.until-next.ensures in record {
      continues = Continues-Continues i.continues u.continues;
      mine = u.commits ∙ ap (λ r. length (g.S.Store.seat_of c.loop-nth.store).mine + commits_in (outcome_of r)) c.in-None.is ∙ omega (arith, i.mine);
      most = omega (arith, i.each, c.loop-nth-test.true);
      all = λ less. u.worn c.in-None.is;
    }
