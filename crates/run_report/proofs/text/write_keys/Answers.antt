use Rattle.run_report.proofs.Texts.{keys_more, keys_all}
use Rattle.run_report.proofs.text.write_keys.Goals as goal

pub loop-i-preserved : goal.loop-i-preserved
loop-i-preserved c = keys_more _ _ _ _ _ c.loop-i.i c.loop-i-test.true c.requires c.loop-i.invariant c.in_ok-write_key.ensures

pub returns : goal.returns
returns c = keys_all _ _ _ _ c.loop-i.i c.loop-i-test.false c.requires c.loop-i.invariant
