use Rattle.std.proofs.Common.{arith, take}
use Rattle.tree_balance.proofs.Merging.{written_there, written_last, count_there, count_last, below_most}
use Rattle.tree_balance.proofs.plan.WritePlan.write_one.Goals as goal

pub returns-in-Some : goal.returns-in-Some
returns-in-Some c =
    let there = c.in-Some.ensures in
    let w = written_there c.args.self.now.writes c.args.self.now.count c.in-Some.place c.args.object c.args.words (omega (arith, c.args.self.now.few))
    there.0 there.1 there.2 in
    record { writes = w.0; count = count_there (take c.args.self.now.count c.args.self.now.writes) c.args.self.now.count c.args.object w.1 }

pub returns-in-None : goal.returns-in-None
returns-in-None c =
    let few = below_most (take c.args.self.now.count c.args.self.now.writes) c.args.self.now.count c.args.object c.in-None.ensures c.requires.room in
    record {
      writes = written_last c.args.self.now.writes c.args.self.now.count c.args.object c.args.words (omega (arith, few)) c.in-None.ensures;
      count = count_last (take c.args.self.now.count c.args.self.now.writes) c.args.self.now.count c.args.object c.in-None.ensures;
    }
