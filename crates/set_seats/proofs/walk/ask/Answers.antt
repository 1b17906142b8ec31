use Rattle.std.proofs.Common.{ℕ, ◌+◌, ◌<◌, sym, subst}
use Rattle.set_catalog.specs.Picks.{vacant_nodes}
use Rattle.set_model.specs.Objects.{most_objects}
use Rattle.set_catalog.proofs.Costs.{vacant_bound}
use Rattle.set_seats.proofs.walk.ask.Goals as goal

pub find_plan_near-found-requires-clause-few : goal.find_plan_near-found-requires-clause-few
find_plan_near-found-requires-clause-few g c =
    let bound : vacant_nodes (g.V.View.state c.args.view.now) < most_objects + 1 = vacant_bound (g.V.View.state c.args.view.now) c.requires.lawful in
    subst (λ (n : ℕ). vacant_nodes (g.V.View.state c.args.view.now) < n) (sym c.unknown-few.ensures.few) bound
