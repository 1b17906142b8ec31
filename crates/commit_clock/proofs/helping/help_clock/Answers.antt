use Rattle.std.proofs.Common.{subst}
use Rattle.mv_core.specs.Passes.{view, config_of}
use Rattle.commit_clock.specs.Helps.{HelpStarts}
use Rattle.commit_clock.proofs.Hearing.{hears_start, hears_by_parts}
use Rattle.commit_clock.proofs.NoneHelped.{none_is_helped}
use Rattle.commit_clock.proofs.Views.{helps_at_once, helps_by_parts}
use Rattle.commit_clock.proofs.helping.help_clock.Goals as goal

pub returns-in_default-clause-helps : goal.returns-in_default-clause-helps
returns-in_default-clause-helps g c =
    helps_at_once (config_of c.args.shared.now) (view c.args.pass.now) (view c.help_start.new.pass) c.args.word _ _
    (none_is_helped _ _ (view c.args.pass.now) c.args.word c.args.pass.now.known c.requires.loaded)
    (subst (HelpStarts (config_of c.args.shared.now) (view c.args.pass.now) (view c.help_start.new.pass) c.args.word _ _) c.in_default.is
    c.help_start.ensures.starts)

pub returns-clause-helps : goal.returns-clause-helps
returns-clause-helps g c =
    let v = c.help_check-checked.ensures.view in
    let starts = subst (HelpStarts (config_of c.args.shared.now) (view c.args.pass.now) (view c.help_start.new.pass) c.args.word _ _) c.in-Some.is
    c.help_start.ensures.starts in
    helps_by_parts (config_of c.args.shared.now) (view c.args.pass.now) _ _ (view c.help_end.new.pass) c.args.word c.in-Some.started
    c.help_check-checked.result v.0 _ _ starts.0 c.help_check-checked.ensures.help v.1.0 v.2 c.help_end.ensures.ends

pub returns-in_default-clause-hears : goal.returns-in_default-clause-hears
returns-in_default-clause-hears g c =
    hears_start (config_of c.args.shared.now) (view c.args.pass.now) (view c.help_start.new.pass) c.args.word _ _
    (subst (HelpStarts (config_of c.args.shared.now) (view c.args.pass.now) (view c.help_start.new.pass) c.args.word _ _) c.in_default.is
    c.help_start.ensures.starts)

pub returns-clause-hears : goal.returns-clause-hears
returns-clause-hears g c =
    let v = c.help_check-checked.ensures.view in
    let starts = subst (HelpStarts (config_of c.args.shared.now) (view c.args.pass.now) (view c.help_start.new.pass) c.args.word _ _) c.in-Some.is
    c.help_start.ensures.starts in
    hears_by_parts (config_of c.args.shared.now) (view c.args.pass.now) _ _ (view c.help_end.new.pass) c.args.word c.in-Some.started
    c.help_check-checked.result v.0 _ _ starts.0 v.2 c.help_end.ensures.ends
