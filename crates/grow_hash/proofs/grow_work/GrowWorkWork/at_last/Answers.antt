use Rattle.grow_hash.proofs.attempts.Found.{change_late, unchanging_late}
use Rattle.grow_hash.proofs.grow_work.GrowWorkWork.at_last.Goals as goal

pub returns : goal.returns
returns g c = λ s tag ws changes p. (
  change_late g.row.LEVELS c.args.self.now.command s ws changes p.plan,
  unchanging_late g.row.LEVELS c.args.self.now.command s,
)
