use Rattle.std.proofs.Common.{sym, subst}
use Rattle.mv_core.specs.Passes.{view, config_of}
use Rattle.seat_log.specs.Notes.{Noted}
use Rattle.seat_log.specs.Stands.{Stands}
use Rattle.seat_log.proofs.Changes.{open_still}
use Rattle.seat_log.proofs.Standing.{stands_dropped}
use Rattle.runtime_tests.proofs.first_logs.build_and_drop.Goals as goal

pub clear_previous-requires-clause-open : goal.clear_previous-requires-clause-open
clear_previous-requires-clause-open g c = open_still (view c.args.pass.now) (view c.build-position.new.pass) c.build-position.ensures.rest c.requires.open

pub put_word-requires-clause-open : goal.put_word-requires-clause-open
put_word-requires-clause-open g c =
    open_still (view c.build-position.new.pass) (view c.clear_previous.new.pass) c.clear_previous.ensures.rest
    (open_still (view c.args.pass.now) (view c.build-position.new.pass) c.build-position.ensures.rest c.requires.open)

pub returns-clause-stands : goal.returns-clause-stands
returns-clause-stands g c =
    subst (λ (m : Noted). Stands (config_of c.args.shared.now) (view c.put_word.new.pass) m) (sym c.drop_built.ensures)
    (stands_dropped (config_of c.args.shared.now) (view c.put_word.new.pass) c.put_word.new.log c.put_word.ensures.stands)

pub returns-clause-open : goal.returns-clause-open
returns-clause-open g c =
    open_still (view c.clear_previous.new.pass) (view c.put_word.new.pass) c.put_word.ensures.rest
    (open_still (view c.build-position.new.pass) (view c.clear_previous.new.pass) c.clear_previous.ensures.rest
    (open_still (view c.args.pass.now) (view c.build-position.new.pass) c.build-position.ensures.rest c.requires.open))
