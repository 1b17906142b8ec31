use Rattle.set_blocks.proofs.Terms.{ℕ, sym, subst, vacant_nodes, ◌<◌}
use Rattle.set_blocks.proofs.Turning.{vacant_few}
use Rattle.set_blocks.proofs.finding.read_alone.Goals as goal

pub find_plan-requires-clause-few : goal.find_plan-requires-clause-few
find_plan-requires-clause-few g c =
    subst (λ (n : ℕ). vacant_nodes (g.V.View.state c.args.view.now) < n) (sym c.objects-few.ensures)
    (vacant_few (g.V.View.state c.args.view.now) c.requires.lawful)
