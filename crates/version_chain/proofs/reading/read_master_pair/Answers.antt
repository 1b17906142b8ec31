use Rattle.std.proofs.Common.{◌+◌, refl, ◌∙◌, arith, slice_index}
use Rattle.mv_history.specs.declared.StepKind.TheVariants.{LoadMaster}
use Rattle.mv_core.specs.declared.view.Knowledge.{Knowledge}
use Rattle.mv_core.specs.Passes.{view, config_of}
use Rattle.version_chain.specs.Reads.{words_in}
use Rattle.version_chain.proofs.Going.{same_on, may_loaded, reads_two, read_still}
use Rattle.version_chain.proofs.reading.read_master_pair.Goals as goal

pub returns-clause-may : goal.returns-clause-may
returns-clause-may g c =
    may_loaded (view c.args.pass.now) (view c.load_master-first.new.pass) (view c.load_master.new.pass) _ _
    c.load_master-first.ensures.view c.load_master.ensures.view
    c.requires.may

pub returns-clause-same : goal.returns-clause-same
returns-clause-same g c =
    same_on c.args.pass.now c.load_master-first.new.pass c.load_master.new.pass c.load_master-first.ensures.same c.load_master.ensures.same

pub returns-clause-reads : goal.returns-clause-reads
returns-clause-reads g c =
    reads_two LoadMaster (view c.args.pass.now) (view c.load_master-first.new.pass) (view c.load_master.new.pass) _ _ c.load_master-first.ensures.view
    c.load_master.ensures.view refl refl

pub returns-clause-second : goal.returns-clause-second
returns-clause-second g c =
    c.load_master.ensures.word
    ∙ read_still (λ (u : Knowledge). slice_index (words_in (config_of c.args.shared.now) u c.args.object) (c.args.place + 1)) (view c.args.pass.now)
    (view c.load_master-first.new.pass) _ (λ t. refl) c.load_master-first.ensures.view

pub returns-clause-first : goal.returns-clause-first
returns-clause-first g c = c.load_master-first.ensures.word

pub returns-clause-cost : goal.returns-clause-cost
returns-clause-cost g c =
    let one = c.load_master-first.ensures.step in
    let two = c.load_master.ensures.step in
    omega (arith, one, two)
