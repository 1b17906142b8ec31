use Rattle.reader_marks.specs.mv_core.Passes.{view, config_of}
use Rattle.seat_log.proofs.MayBuild.{may_store, first_stays, may_on, is_next}
use Rattle.seat_log.proofs.building.store_next.Goals as goal

pub store_built-requires : goal.store_built-requires
store_built-requires g c =
    λ lives in_lives. (
      in_lives.0,
      (
        in_lives.1,
        (
          c.requires.of,
          (
            c.requires.slot,
            may_store (config_of c.args.shared.now) (view c.args.pass.now) c.args.position c.requires.may c.args.field c.args.value
                c.requires.fits,
          ),
        ),
      ),
    )

pub returns-clause-may : goal.returns-clause-may
returns-clause-may g c =
    may_on (config_of c.args.shared.now) (view c.args.pass.now) c.args.position c.requires.may (view c.store_built.new.pass) c.args.field c.args.value
    c.store_built.ensures.view

pub returns-clause-first : goal.returns-clause-first
returns-clause-first g c =
    first_stays (config_of c.args.shared.now) (view c.args.pass.now) c.args.position c.requires.may (view c.store_built.new.pass) c.args.field c.args.value
    c.store_built.ensures.view

pub returns-clause-view : goal.returns-clause-view
returns-clause-view g c =
    is_next (config_of c.args.shared.now) (view c.args.pass.now) c.args.position c.requires.may (view c.store_built.new.pass) c.args.field c.args.value
    c.store_built.ensures.view
