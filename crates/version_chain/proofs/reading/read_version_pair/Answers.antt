use Rattle.std.proofs.Common.{◌+◌, refl, ◌∙◌, arith, slice_index}
use Rattle.mv_history.specs.declared.StepKind.TheVariants.{LoadData}
use Rattle.mv_core.specs.declared.view.Knowledge.{Knowledge}
use Rattle.mv_core.specs.Passes.{view, config_of}
use Rattle.version_chain.specs.Reads.{words_in}
use Rattle.version_chain.specs.Walks.{stand_in}
use Rattle.version_chain.proofs.Going.{same_on, of_still, may_loaded, reads_two, read_still}
use Rattle.version_chain.proofs.Standing.{may_data}
use Rattle.version_chain.proofs.reading.read_version_pair.Goals as goal

pub load_data-requires : goal.load_data-requires
load_data-requires g c lives within =
    let at = c.requires.stands in
    let lt = c.requires.place in (
      within.0,
      (
        within.1,
        (
          of_still c.args.shared.now c.args.pass.now c.load_data-first.new.pass c.load_data-first.ensures.same c.requires.of,
          (
            at.packed,
            (
              at.slot,
              may_data (config_of c.args.shared.now) (view c.args.pass.now) (view c.load_data-first.new.pass) c.args.at (c.args.place + 1) _ c.requires.may at
                  c.load_data-first.ensures.view (omega arith),
            ),
          ),
        ),
      ),
    )

pub returns-clause-may : goal.returns-clause-may
returns-clause-may g c =
    may_loaded (view c.args.pass.now) (view c.load_data-first.new.pass) (view c.load_data.new.pass) _ _ c.load_data-first.ensures.view c.load_data.ensures.view
    c.requires.may

pub load_data-first-requires : goal.load_data-first-requires
load_data-first-requires g c lives within =
    let at = c.requires.stands in
    let lt = c.requires.place in (
      within.0,
      (
        within.1,
        (
          c.requires.of,
          (
            at.packed,
            (
              at.slot,
              may_data (config_of c.args.shared.now) (view c.args.pass.now) (view c.args.pass.now) c.args.at c.args.place
                  (view c.args.pass.now).trail c.requires.may at refl (omega arith),
            ),
          ),
        ),
      ),
    )

pub returns-clause-same : goal.returns-clause-same
returns-clause-same g c =
    same_on c.args.pass.now c.load_data-first.new.pass c.load_data.new.pass c.load_data-first.ensures.same c.load_data.ensures.same

pub returns-clause-reads : goal.returns-clause-reads
returns-clause-reads g c =
    reads_two LoadData (view c.args.pass.now) (view c.load_data-first.new.pass) (view c.load_data.new.pass) _ _ c.load_data-first.ensures.view
    c.load_data.ensures.view refl refl

pub returns-clause-second : goal.returns-clause-second
returns-clause-second g c =
    c.load_data.ensures.word
    ∙ read_still (λ (u : Knowledge). slice_index (words_in (config_of c.args.shared.now) u (stand_in u).object) (c.args.place + 1)) (view c.args.pass.now)
    (view c.load_data-first.new.pass) _ (λ t. refl) c.load_data-first.ensures.view

pub returns-clause-first : goal.returns-clause-first
returns-clause-first g c = c.load_data-first.ensures.word

pub returns-clause-cost : goal.returns-clause-cost
returns-clause-cost g c =
    let one = c.load_data-first.ensures.step in
    let two = c.load_data.ensures.step in
    omega (arith, one, two)
