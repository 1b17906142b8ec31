use Rattle.std.proofs.Common.{◌≡◌, refl, ◌∙◌, arith}
use Rattle.mv_history.specs.declared.StepKind.TheVariants.{LoadData}
use Rattle.mv_core.specs.declared.view.Knowledge.{Knowledge}
use Rattle.mv_core.specs.Passes.{view, config_of}
use Rattle.version_chain.specs.Walks.{stand_in}
use Rattle.version_chain.specs.Reads.{words_in}
use Rattle.version_chain.proofs.Going.{of_still, may_read_on}
use Rattle.version_chain.proofs.Standing.{may_data}
use Rattle.version_chain.proofs.SoFar.{read_one, read_all}
use Rattle.version_chain.proofs.reading.read_version.Goals as goal

pub loop-word-preserved : goal.loop-word-preserved
loop-word-preserved g c =
    let a = c.loop-word.invariant.0 in
    let b = c.load_data.ensures.same in (
      (b.0 ∙ a.0, b.1 ∙ a.1, b.2 ∙ a.2, b.3 ∙ a.3, b.4 ∙ a.4, b.5 ∙ a.5),
      read_one LoadData (view c.args.pass.now) _ _ (view c.loop-word.pass) _ _ _ _ _ _ _
          (λ (u : Knowledge). words_in (config_of c.args.shared.now) u (stand_in u).object) (λ t. refl) c.loop-word.invariant.1
          c.load_data.ensures.view refl c.load_data.ensures.word c.load_data.ensures.wide c.loop-word-test.true c.load_data.ensures.step,
    )

pub returns-clause-may : goal.returns-clause-may
returns-clause-may g c =
    let le = c.loop-word.auto.word-end in
    let ge = c.loop-word-test.false in
    let end : c.loop-word.word ≡ 6 = omega arith in
    may_read_on LoadData 6 (view c.args.pass.now) (view c.loop-word.pass) (read_all LoadData _ _ _ _ _ _ _ c.loop-word.invariant.1 end).1 c.requires.may

pub returns-clause-words : goal.returns-clause-words
returns-clause-words g c =
    let le = c.loop-word.auto.word-end in
    let ge = c.loop-word-test.false in
    let end : c.loop-word.word ≡ 6 = omega arith in
    (read_all LoadData _ _ _ _ _ _ _ c.loop-word.invariant.1 end).0

pub returns-clause-same : goal.returns-clause-same
returns-clause-same g c = c.loop-word.invariant.0

pub returns-clause-reads : goal.returns-clause-reads
returns-clause-reads g c =
    let le = c.loop-word.auto.word-end in
    let ge = c.loop-word-test.false in
    let end : c.loop-word.word ≡ 6 = omega arith in
    (read_all LoadData _ _ _ _ _ _ _ c.loop-word.invariant.1 end).1

pub returns-clause-cost : goal.returns-clause-cost
returns-clause-cost g c =
    let le = c.loop-word.auto.word-end in
    let ge = c.loop-word-test.false in
    let count = c.loop-word.invariant.1.count in
    omega (arith, le, ge, count)

pub load_data-requires : goal.load_data-requires
load_data-requires g c lives within =
    let at = c.requires.stands in
    let so = c.loop-word.invariant in (
      within.0,
      (
        within.1,
        (
          of_still c.args.shared.now c.args.pass.now c.loop-word.pass so.0 c.requires.of,
          (
            at.packed,
            (
              at.slot,
              may_data (config_of c.args.shared.now) (view c.args.pass.now) (view c.loop-word.pass) c.args.at c.loop-word.word
                  (view c.loop-word.pass).trail c.requires.may at so.1.rest c.loop-word-test.true,
            ),
          ),
        ),
      ),
    )
