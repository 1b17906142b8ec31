use Rattle.mv_core.specs.Passes.{view, config_of}
use Rattle.commit_clock.proofs.Views.{loaded_now}
use Rattle.commit_clock.proofs.helping.now.Goals as goal

pub returns-clause-loaded : goal.returns-clause-loaded
returns-clause-loaded g c = let v = c.load_check.ensures.view in loaded_now (config_of c.args.shared.now) (view c.args.pass.now) _ _ v.0 v.2
