use Rattle.mv_client.proofs.Puts.{put_goes_on, put_own}
use Rattle.mv_client.proofs.holding.put.Goals as goal

pub returns-clause-goes_on : goal.returns-clause-goes_on
returns-clause-goes_on g c =
    put_goes_on _ _ c.args.object c.args.words _ _ c.rewrite.result c.rewrite.ensures.written c.rewrite.ensures.refused

pub returns-clause-own : goal.returns-clause-own
returns-clause-own g c = put_own _ _ c.args.object c.args.words c.rewrite.result c.rewrite.ensures.written
