use Rattle.std.proofs.Common.{◌≡◌, refl, ◌∙◌, arith}
use Rattle.mv_history.specs.declared.StepKind.TheVariants.{LoadMaster}
use Rattle.mv_core.specs.declared.view.Knowledge.{Knowledge}
use Rattle.mv_core.specs.Passes.{view, config_of}
use Rattle.version_chain.specs.Reads.{words_in}
use Rattle.version_chain.proofs.Going.{may_read_on}
use Rattle.version_chain.proofs.SoFar.{read_one, read_all}
use Rattle.version_chain.proofs.reading.read_master.Goals as goal

pub loop-word-preserved : goal.loop-word-preserved
loop-word-preserved g c =
    let a = c.loop-word.invariant.0 in
    let b = c.load_master.ensures.same in (
      (b.0 ∙ a.0, b.1 ∙ a.1, b.2 ∙ a.2, b.3 ∙ a.3, b.4 ∙ a.4, b.5 ∙ a.5),
      read_one LoadMaster (view c.args.pass.now) _ _ (view c.loop-word.pass) _ _ _ _ _ _ _
          (λ (u : Knowledge). words_in (config_of c.args.shared.now) u c.args.object) (λ t. refl) c.loop-word.invariant.1
          c.load_master.ensures.view refl c.load_master.ensures.word c.load_master.ensures.wide c.loop-word-test.true c.load_master.ensures.step,
    )

pub returns-clause-may : goal.returns-clause-may
returns-clause-may g c =
    let le = c.loop-word.auto.word-end in
    let ge = c.loop-word-test.false in
    let end : c.loop-word.word ≡ 6 = omega arith in
    may_read_on LoadMaster 6 (view c.args.pass.now) (view c.loop-word.pass) (read_all LoadMaster _ _ _ _ _ _ _ c.loop-word.invariant.1 end).1 c.requires.may

pub returns-clause-words : goal.returns-clause-words
returns-clause-words g c =
    let le = c.loop-word.auto.word-end in
    let ge = c.loop-word-test.false in
    let end : c.loop-word.word ≡ 6 = omega arith in
    (read_all LoadMaster _ _ _ _ _ _ _ c.loop-word.invariant.1 end).0

pub returns-clause-same : goal.returns-clause-same
returns-clause-same g c = c.loop-word.invariant.0

pub returns-clause-reads : goal.returns-clause-reads
returns-clause-reads g c =
    let le = c.loop-word.auto.word-end in
    let ge = c.loop-word-test.false in
    let end : c.loop-word.word ≡ 6 = omega arith in
    (read_all LoadMaster _ _ _ _ _ _ _ c.loop-word.invariant.1 end).1

pub returns-clause-cost : goal.returns-clause-cost
returns-clause-cost g c =
    let le = c.loop-word.auto.word-end in
    let ge = c.loop-word-test.false in
    let count = c.loop-word.invariant.1.count in
    omega (arith, le, ge, count)
