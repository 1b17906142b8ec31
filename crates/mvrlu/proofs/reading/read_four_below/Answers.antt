use Rattle.std.proofs.Common.{ℕ, refl, ap, ◌∙◌}
use Rattle.mv_history.specs.declared.StepKind.TheVariants.{LoadData, LoadMaster}
use Rattle.mv_history.specs.Fours.{four_from}
use Rattle.object_lock.specs.mv_core.Passes.{view, config_of}
use Rattle.object_lock.specs.version_chain.Reads.{words_in}
use Rattle.object_lock.proofs.seat_log_lemmas.OwnSlots.{of_still}
use Rattle.mvrlu.specs.Placed.{placed}
use Rattle.mvrlu.proofs.Names.{range_of}
use Rattle.mvrlu.proofs.Behind.{lend_busy}
use Rattle.mvrlu.proofs.ReadBelow.{HasReadBelow, read_below}
use Rattle.mvrlu.proofs.reading.read_four_below.Goals as goal

-- the read of a master's words
by_master : (g : _) (c : goal.After-drop-steps-inside-in-None g)
    → HasReadBelow c.args.shared.now c.args.busy.now (placed c.read_master_four.new.pass c.deref_mut.result.now.log) c.find.new.pass 4
by_master g c =
    let f = c.find.ensures in
    let r = c.read_master_four.ensures in
    read_below (lend_busy c.args.shared.now c.deref_mut.ensures.value c.busy.view_is c.requires.fits c.busy.invariant) c.find.new.pass f.same f.walks f.bound
    LoadMaster 4 refl (refl, refl) c.read_master_four.new.pass r.same r.may r.reads

-- and that of a version's
by_version : (g : _) (c : goal.After-drop-steps-inside-3 g)
    → HasReadBelow c.args.shared.now c.args.busy.now (placed c.read_version_four.new.pass c.deref_mut.result.now.log) c.find.new.pass 4
by_version g c =
    let f = c.find.ensures in
    let r = c.read_version_four.ensures in
    read_below (lend_busy c.args.shared.now c.deref_mut.ensures.value c.busy.view_is c.requires.fits c.busy.invariant) c.find.new.pass f.same f.walks f.bound
    LoadData 4 refl (refl, refl) c.read_version_four.new.pass r.same r.may r.reads

pub invariant_of-busy : goal.invariant_of-busy
invariant_of-busy g c = (by_master g c).busy

pub invariant_of-busy-2 : goal.invariant_of-busy-2
invariant_of-busy-2 g c = (by_version g c).busy

pub returns-in-None : goal.returns-in-None
returns-in-None g c =
    let r = by_master g c in
    record {
      fits = r.fits;
      lawful = r.lawful;
      words = c.read_master_four.ensures.words ∙ ap (four_from c.args.place) (r.words c.args.object);
      stays = r.stays;
      aborts = r.aborts;
      bound = r.bound;
    }

pub returns : goal.returns
returns g c =
    let r = by_version g c in
    let at = ap (λ (o : ℕ). words_in (config_of c.args.shared.now) (view c.find.new.pass) o) c.in-Some.ensures.found.1 in
    record {
      fits = r.fits;
      lawful = r.lawful;
      words = c.read_version_four.ensures.words ∙ ap (four_from c.args.place) (at ∙ r.words c.args.object);
      stays = r.stays;
      aborts = r.aborts;
      bound = r.bound;
    }

pub find-requires : goal.find-requires
find-requires g c =
    let l = lend_busy c.args.shared.now c.deref_mut.ensures.value c.busy.view_is c.requires.fits c.busy.invariant in
    record { of = l.of; may = l.is.may; range = range_of c.args.shared.now c.args.object c.requires.range }

pub read_master_four-requires-clause-of : goal.read_master_four-requires-clause-of
read_master_four-requires-clause-of g c =
    of_still c.args.shared.now c.deref_mut.result.now.pass c.find.new.pass c.find.ensures.same
    (lend_busy c.args.shared.now c.deref_mut.ensures.value c.busy.view_is c.requires.fits c.busy.invariant).of

pub read_version_four-requires-clause-of : goal.read_version_four-requires-clause-of
read_version_four-requires-clause-of g c =
    of_still c.args.shared.now c.deref_mut.result.now.pass c.find.new.pass c.find.ensures.same
    (lend_busy c.args.shared.now c.deref_mut.ensures.value c.busy.view_is c.requires.fits c.busy.invariant).of
