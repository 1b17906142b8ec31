use Rattle.std.proofs.Common.{◌≡◌, subst}
use Rattle.mv_core.specs.declared.swap.Swap.{Swap}
use Rattle.mv_core.specs.declared.swap.Swap.TheVariants.{Won, Found}
use Rattle.mv_core.specs.Passes.{view, config_of}
use Rattle.mv_core.specs.NameSteps.{rest_named, rest_lost}
use Rattle.commit_clock.specs.Names.{named_by}
use Rattle.commit_clock.proofs.Answered.{names_told}
use Rattle.commit_clock.proofs.naming.rest.Goals as goal

pub returns-clause-names : goal.returns-clause-names
returns-clause-names g c =
    let d = config_of c.args.shared.now in
    let v = view c.args.pass.now in
    let swap = c.name_rest.ensures in
    let answers : (s : Swap) → c.name_rest.result ≡ s → c.answer.result ≡ named_by c.args.word s =
    λ s is. subst (λ (t : Swap). c.answer.result ≡ named_by c.args.word t) is c.answer.ensures in
    names_told d v (view c.name_rest.new.pass) c.args.word (rest_named d v c.args.word) (rest_lost d v) c.name_rest.result
    c.answer.result (answers Won) (λ found. answers (Found found)) swap.word swap.swap swap.view.0 swap.view.1
