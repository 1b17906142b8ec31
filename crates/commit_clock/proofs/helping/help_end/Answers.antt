use Rattle.std.proofs.Common.{inl}
use Rattle.mv_core.specs.Passes.{view, config_of}
use Rattle.commit_clock.proofs.Ending.{ends_stamped, ends_gone}
use Rattle.commit_clock.proofs.helping.help_end.Goals as goal

pub stamp-requires-clause-may : goal.stamp-requires-clause-may
stamp-requires-clause-may g c = inl (c.requires.checked.due c.if-clock-word.true)

pub returns-then-clock-word-clause-ends : goal.returns-then-clock-word-clause-ends
returns-then-clock-word-clause-ends g c =
    ends_stamped (config_of c.args.shared.now) (view c.args.pass.now) (view c.stamp.new.pass) c.args.checked _ _ _ c.if-clock-word.true c.stamp.ensures.view
    c.stamp.ensures.step

pub returns-else-clock-word-clause-ends : goal.returns-else-clock-word-clause-ends
returns-else-clock-word-clause-ends g c =
    ends_gone (config_of c.args.shared.now) (view c.args.pass.now) c.args.checked c.args.steps.now c.requires.checked c.if-clock-word.false
