use Rattle.section_work.proofs.Terms.{◌≡◌, ◌==◌, ◌∙◌, true, arith, nat_tests}
use Rattle.section_work.proofs.attempting.in_time.Goals as goal

pub returns-then-time-last : goal.returns-then-time-last
returns-then-time-last g c = record {
  settled = λ memo s reply h is. (rw is at h) (c.args.time == c.args.last);
  change = λ plan reply is. (c.if-time-last.true, is);
}

pub returns-in-Settled : goal.returns-in-Settled
returns-in-Settled g c = record {
  settled = λ memo s reply h is. let e = c.in-Settled.is ∙ is in (rw e at h) (c.args.time == c.args.last);
  change = λ plan reply is. absurd (cc);
}

pub returns-in-Change : goal.returns-in-Change
returns-in-Change g c = record {
  settled = λ memo s reply h is.
      let f = rw c.in-Change.is at h in
      let same : c.at_last.result ≡ reply = cc in
      let last : true ≡ (c.args.time == c.args.last) = grind (arith, nat_tests) in
      rw (← last, ← same) (c.at_last.ensures s _ _ f.0 f.1.plan);
  change = λ plan reply is. absurd (cc);
}
