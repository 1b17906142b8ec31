use Rattle.seat_log.specs.mv_core.Passes.{view, config_of}
use Rattle.version_chain.proofs.Going.{may_looked}
use Rattle.object_lock.proofs.Looks.{looked_at}
use Rattle.object_lock.proofs.top.stamp_at.Goals as goal

pub returns-clause-may : goal.returns-clause-may
returns-clause-may g c =
    may_looked (config_of c.args.shared.now) (view c.args.pass.now) (view c.load_first-first.new.pass) _ _ _ _ c.load_first-first.ensures.view
    c.load_stamp.ensures.view c.requires.may

pub returns-clause-looked : goal.returns-clause-looked
returns-clause-looked g c =
    looked_at (config_of c.args.shared.now) (view c.args.pass.now) (view c.load_first-first.new.pass) (view c.load_stamp.new.pass) c.args.link _ _
    c.requires.stands c.load_first-first.ensures.view c.load_stamp.ensures.view c.load_stamp.ensures.says c.load_stamp.ensures.own
