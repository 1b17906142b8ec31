use Rattle.std.proofs.Common.{subst, ◌<◌, length, sym, ap, ◌∙◌}
use Rattle.mv_history.specs.declared.StepKind.TheVariants.{LoadData, LoadMaster}
use Rattle.object_lock.specs.mv_core.Passes.{view, config_of}
use Rattle.mvrlu.specs.Whole.{Whole, whole_from, IsStill, last_state}
use Rattle.mvrlu.proofs.whole.Reads.{Looks, walked, looked, looks_still, reads_last, in_range, reading_on}
use Rattle.mv_history.specs.Meaning.{words_at}
use Rattle.object_lock.specs.version_chain.Reads.{words_in}
use Rattle.object_lock.proofs.seat_log_lemmas.OwnSlots.{same_on, of_still}
use Rattle.mvrlu.proofs.closing.read_last.Goals as goal

pub returns-in-None-clause-still : goal.returns-in-None-clause-still
returns-in-None-clause-still g c =
    let d = config_of c.last.inside.shared in
    let ts = c.last.inside.tables.items in
    let v = view c.last.inside.pass in
    let w = view c.read_master.new.pass in
    let walk : Looks v (view c.find.new.pass) = walked v (view c.find.new.pass) _ _ c.find.ensures.walks in
    let k : Looks v w = looked LoadMaster v (view c.find.new.pass) w tt walk c.read_master.ensures.reads in
    subst (λ (x : Whole). IsStill x (whole_from d ts w)) c.last.view_is (looks_still v w k c.last.invariant.seen d ts)

pub returns-clause-still : goal.returns-clause-still
returns-clause-still g c =
    let d = config_of c.last.inside.shared in
    let ts = c.last.inside.tables.items in
    let v = view c.last.inside.pass in
    let w = view c.read_version.new.pass in
    let walk : Looks v (view c.find.new.pass) = walked v (view c.find.new.pass) _ _ c.find.ensures.walks in
    let k : Looks v w = looked LoadData v (view c.find.new.pass) w tt walk c.read_version.ensures.reads in
    subst (λ (x : Whole). IsStill x (whole_from d ts w)) c.last.view_is (looks_still v w k c.last.invariant.seen d ts)

pub find-requires-clause-of : goal.find-requires-clause-of
find-requires-clause-of g c = c.last.invariant.of

pub find-requires-clause-may : goal.find-requires-clause-may
find-requires-clause-may g c = c.last.invariant.may

pub find-requires-clause-range : goal.find-requires-clause-range
find-requires-clause-range g c =
    in_range c.last.inside.shared (view c.last.inside.pass) c.args.object c.last.invariant.of.3
    (subst (λ (x : Whole). c.args.object < length x.start) (sym c.last.view_is) c.requires.range)

pub read_master-requires-clause-of : goal.read_master-requires-clause-of
read_master-requires-clause-of g c = of_still c.last.inside.shared c.last.inside.pass c.find.new.pass c.find.ensures.same c.last.invariant.of

pub read_master-requires-clause-may : goal.read_master-requires-clause-may
read_master-requires-clause-may g c = c.find.ensures.may

pub read_master-requires-clause-range : goal.read_master-requires-clause-range
read_master-requires-clause-range g c =
    in_range c.last.inside.shared (view c.last.inside.pass) c.args.object c.last.invariant.of.3
    (subst (λ (x : Whole). c.args.object < length x.start) (sym c.last.view_is) c.requires.range)

pub read_master-requires-clause-stands : goal.read_master-requires-clause-stands
read_master-requires-clause-stands g c = c.in-None.ensures.found

pub invariant_of-last : goal.invariant_of-last
invariant_of-last g c =
    let k : Looks (view c.last.inside.pass) (view c.read_master.new.pass) = looked LoadMaster (view c.last.inside.pass) (view c.find.new.pass)
    (view c.read_master.new.pass) tt
    (walked (view c.last.inside.pass) (view c.find.new.pass) _ _ c.find.ensures.walks) c.read_master.ensures.reads in
    reading_on c.last.inside.shared c.last.inside.pass c.read_master.new.pass
    (same_on c.last.inside.pass c.find.new.pass c.read_master.new.pass c.find.ensures.same c.read_master.ensures.same) c.last.invariant k
    c.read_master.ensures.may

pub returns-in-None-clause-words : goal.returns-in-None-clause-words
returns-in-None-clause-words g c =
    let d = config_of c.last.inside.shared in
    let ts = c.last.inside.tables.items in
    let v = view c.last.inside.pass in
    let w = view c.find.new.pass in
    let k : Looks v w = walked v w _ _ c.find.ensures.walks in
    c.read_master.ensures.words
    ∙ reads_last d ts v w c.args.object c.last.invariant.of.2 (looks_still v w k c.last.invariant.seen d ts)
    ∙ ap (λ (x : Whole). words_at (last_state x) c.args.object) c.last.view_is

pub read_version-requires-clause-of : goal.read_version-requires-clause-of
read_version-requires-clause-of g c = of_still c.last.inside.shared c.last.inside.pass c.find.new.pass c.find.ensures.same c.last.invariant.of

pub read_version-requires-clause-may : goal.read_version-requires-clause-may
read_version-requires-clause-may g c = c.find.ensures.may

pub read_version-requires-clause-stands : goal.read_version-requires-clause-stands
read_version-requires-clause-stands g c = c.in-Some.ensures.found.0

pub invariant_of-last-in-Some : goal.invariant_of-last-in-Some
invariant_of-last-in-Some g c =
    let k : Looks (view c.last.inside.pass) (view c.read_version.new.pass) = looked LoadData (view c.last.inside.pass) (view c.find.new.pass)
    (view c.read_version.new.pass) tt
    (walked (view c.last.inside.pass) (view c.find.new.pass) _ _ c.find.ensures.walks) c.read_version.ensures.reads in
    reading_on c.last.inside.shared c.last.inside.pass c.read_version.new.pass
    (same_on c.last.inside.pass c.find.new.pass c.read_version.new.pass c.find.ensures.same c.read_version.ensures.same) c.last.invariant k
    c.read_version.ensures.may

pub returns-clause-words : goal.returns-clause-words
returns-clause-words g c =
    let d = config_of c.last.inside.shared in
    let ts = c.last.inside.tables.items in
    let v = view c.last.inside.pass in
    let w = view c.find.new.pass in
    let k : Looks v w = walked v w _ _ c.find.ensures.walks in
    c.read_version.ensures.words ∙ ap (words_in (config_of c.last.inside.shared) (view c.find.new.pass)) c.in-Some.ensures.found.1
    ∙ reads_last d ts v w c.args.object c.last.invariant.of.2 (looks_still v w k c.last.invariant.seen d ts)
    ∙ ap (λ (x : Whole). words_at (last_state x) c.args.object) c.last.view_is
