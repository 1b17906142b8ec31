use Rattle.std.proofs.Common.{◌∙◌}
use Rattle.tree_balance.specs.Drafts.{writes_in}
use Rattle.tree_balance.proofs.Drafting.{words_there, words_elsewhere}
use Rattle.tree_balance.proofs.plan.WritePlan.words.Goals as goal

pub returns-in-Some-clause-words : goal.returns-in-Some-clause-words
returns-in-Some-clause-words g c =
    words_there (g.V.View.state c.args.view.now) c.args.self.now.writes c.args.self.now.count c.in-Some.place c.args.object c.requires.distinct
    c.in-Some.ensures c.requires.object

pub returns-in-None-clause-words : goal.returns-in-None-clause-words
returns-in-None-clause-words g c =
    c.read.ensures.words ∙ words_elsewhere (g.V.View.state c.args.view.now) (writes_in c.args.self.now) c.args.object c.in-None.ensures
