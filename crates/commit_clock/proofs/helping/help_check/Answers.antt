use Rattle.mv_core.specs.Passes.{view, config_of}
use Rattle.commit_clock.proofs.Views.{checks}
use Rattle.commit_clock.proofs.helping.help_check.Goals as goal

pub returns-clause-checked : goal.returns-clause-checked
returns-clause-checked g c =
    let v = c.load_check-clock.ensures.view in
    checks (config_of c.args.shared.now) (view c.args.pass.now) _ c.args.started c.load_check-clock.result v.0 c.requires.started v.2
