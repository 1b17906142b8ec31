use Rattle.std.proofs.Common.{arith}
use Rattle.run_ends.proofs.SentParts.{sent_more, part_fits}
use Rattle.run_ends.proofs.sending.send.Goals as goal

pub loop-sent-preserved : goal.loop-sent-preserved
loop-sent-preserved g c =
    let t = c.in_ok-sent.ensures.takes in
    let i = c.loop-sent.invariant in
    record {
      within = part_fits c.args.bytes.now c.loop-sent.sent c.in_ok-sent.field-0 i.within t.2;
      grows = sent_more _ _ _ c.args.bytes.now c.loop-sent.sent c.in_ok-sent.field-0 i.grows t.0;
      later = omega (arith, i.later, c.in_ok-sent.ensures.cause.later);
    }
