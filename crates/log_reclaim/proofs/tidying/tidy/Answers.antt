use Rattle.std.proofs.Common.{◌+◌, ◌<◌, [], ◌∷◌, ◌++◌, length, refl, sym, ap, ◌∙◌, subst, arith}
use Rattle.seat_log.specs.mv_core.Passes.{view, config_of}
use Rattle.log_reclaim.specs.Parts.{grace_load}
use Rattle.log_reclaim.specs.Tidies.{TidiesLeft}
use Rattle.log_reclaim.proofs.Idle.{still_of}
use Rattle.log_reclaim.proofs.Reclaiming.{reclaims_may, reclaims_still}
use Rattle.log_reclaim.proofs.ScanParts.{grace_makes, grace_stands, grace_may}
use Rattle.log_reclaim.proofs.FirstFrees.{frees_shrinks, frees_again, grace_plain, sweeps_all, sweeps_on}
use Rattle.log_reclaim.proofs.Tidied.{left_from, left_begins, left_rests, left_shrinks, left_reclaims, left_alone, emptied, no_notes, none_held}
use Rattle.log_reclaim.proofs.causes.FreshTimes.{left_fresh}
use Rattle.log_reclaim.proofs.tidying.tidy.Given.{Over}
use Rattle.seat_log.specs.mv_core.declared.view.Knowledge.{Knowledge}
use Rattle.seat_log.proofs.OwnSlots.{same_on, of_still}
use Rattle.log_reclaim.proofs.Lengths.{one_longer, freed_longer, live_few, whole_bound}
use Rattle.log_reclaim.proofs.tidying.tidy.Goals as goal

pub free_all-freed-requires-clause-stands : goal.free_all-freed-requires-clause-stands
free_all-freed-requires-clause-stands g c =
    let k = c.known-mark in
    grace_stands (config_of c.args.shared.now) (view c.args.pass.now) (view k.new.pass) k.result.time k.ensures.view c.args.log.now c.requires.stands

pub returns-then-live-eq0-clause-reclaims : goal.returns-then-live-eq0-clause-reclaims
returns-then-live-eq0-clause-reclaims g c =
    let k = c.known-mark in
    let f = c.free_all-freed in
    let load = grace_makes (config_of c.args.shared.now) (view c.args.pass.now) (view k.new.pass) k.result.time k.ensures.view c.requires.may
    (still_of _ _ (view c.args.pass.now) c.args.pass.now.known c.requires.may.outside) in
    let a = c.known in
    let freed = sweeps_all (config_of c.args.shared.now) (view c.args.pass.now) (view k.new.pass) (view f.new.pass) c.args.log.now f.new.log
    (grace_load (config_of c.args.shared.now) k.result.time ∷ []) f.ensures.frees.0 k.result.time f.result load
    (grace_plain (config_of c.args.shared.now) k.result.time) f.ensures.frees.1 (sym c.live.ensures ∙ c.if-live-eq0.true) in
    let first = (grace_load (config_of c.args.shared.now) k.result.time ∷ []) ++ f.ensures.frees.0 in
    let again = grace_makes (config_of c.args.shared.now) (view f.new.pass) (view a.new.pass) a.result.time a.ensures.view
    (reclaims_may (view c.args.pass.now) (view f.new.pass) first freed.reclaims)
    (reclaims_still (view c.args.pass.now) (view f.new.pass) first freed.reclaims) in
    emptied (config_of c.args.shared.now) (view c.args.pass.now) (view a.new.pass) c.args.log.now f.new.log
    (first ++ grace_load (config_of c.args.shared.now) a.result.time ∷ []) f.result
    (sweeps_on (config_of c.args.shared.now) (view c.args.pass.now) (view f.new.pass) (view a.new.pass) c.args.log.now f.new.log first
    (grace_load (config_of c.args.shared.now) a.result.time ∷ []) f.result freed again (grace_plain (config_of c.args.shared.now) a.result.time))
    (frees_again (config_of c.args.shared.now) (view k.new.pass) (view f.new.pass) c.args.log.now f.new.log f.ensures.frees.0 k.result.time f.result
    f.ensures.frees.1 a.result.time) _ refl

pub returns-then-live-eq0-clause-stands : goal.returns-then-live-eq0-clause-stands
returns-then-live-eq0-clause-stands g c =
    grace_stands (config_of c.args.shared.now) (view c.free_all-freed.new.pass) (view c.known.new.pass) c.known.result.time c.known.ensures.view
    c.free_all-freed.new.log c.free_all-freed.ensures.stands

-- the whole tidy, of which the first frees left something
all : (g : Over) (c : goal.After-struct_known-1 g)
    → TidiesLeft g.P.Protocol.start g.P.Protocol.allowed (config_of c.args.shared.now) (view c.args.pass.now) (view c.tidy_left-left.new.pass)
    c.args.log.now c.tidy_left-left.new.log (c.free_all-freed.result + c.tidy_left-left.result.freed) c.tidy_left-left.result.held
all g c =
    let k = c.known-mark in
    let f = c.free_all-freed in
    let t = c.tidy_left-left in
    let load = grace_makes (config_of c.args.shared.now) (view c.args.pass.now) (view k.new.pass) k.result.time k.ensures.view c.requires.may
    (still_of _ _ (view c.args.pass.now) c.args.pass.now.known c.requires.may.outside) in
    left_from _ _ (config_of c.args.shared.now) (view c.args.pass.now) (view k.new.pass) (view f.new.pass) (view t.new.pass) c.args.log.now f.new.log
    t.new.log f.ensures.frees.0 k.result.time f.result t.result.freed t.result.held load
    f.ensures.frees.1 t.ensures.tidies

pub overflow_add-result : goal.overflow_add-result
overflow_add-result g c =
    let few = (left_shrinks _ _ _ _ _ _ _ _ _ (all g c)).few in
    let slots = c.requires.stands.log.slots in
    let room = c.requires.stands.log.room in
    omega arith

pub returns-clause-shrinks : goal.returns-clause-shrinks
returns-clause-shrinks g c = left_shrinks _ _ _ _ _ _ _ _ _ (all g c)

pub returns-clause-rests : goal.returns-clause-rests
returns-clause-rests g c = left_rests _ _ _ _ _ _ _ _ _ (all g c)

pub returns-clause-reclaims : goal.returns-clause-reclaims
unfolding all
returns-clause-reclaims g c =
    let k = c.known-mark in
    let f = c.free_all-freed in
    let t = c.tidy_left-left in
    let load = grace_makes (config_of c.args.shared.now) (view c.args.pass.now) (view k.new.pass) k.result.time k.ensures.view c.requires.may
    (still_of _ _ (view c.args.pass.now) c.args.pass.now.known c.requires.may.outside) in
    left_reclaims _ _ _ _ _ _ _ _ _ (all g c) c.requires.stands t.ensures.stands c.args.pass.now.known t.new.pass.known
    (left_begins _ _ (config_of c.args.shared.now) (view c.args.pass.now) (view k.new.pass) (view f.new.pass) (view t.new.pass) c.args.log.now f.new.log
    t.new.log f.ensures.frees.0 k.result.time f.result t.result.freed t.result.held load
    f.ensures.frees.1 t.ensures.tidies (let is = c.live.ensures in let some = c.if-live-eq0.false in omega arith))

pub returns-clause-fresh : goal.returns-clause-fresh
returns-clause-fresh g c = left_fresh _ _ _ _ _ _ _ _ _ (all g c)

pub returns-clause-alone : goal.returns-clause-alone
returns-clause-alone g c one early =
    left_alone _ _ _ _ _ _ _ _ _ (all g c) c.requires.stands c.tidy_left-left.ensures.stands c.args.pass.now.known c.tidy_left-left.new.pass.known
    (subst (λ s. s < (config_of c.args.shared.now).seats) c.args.pass.now.numbered c.requires.of.1) one early

pub returns-then-live-eq0-clause-idle : goal.returns-then-live-eq0-clause-idle
returns-then-live-eq0-clause-idle g c none =
    let f = c.free_all-freed in
    let few = f.ensures.frees.1.few in
    let empty = ap length none in
    let load = c.known-mark.ensures.step in
    let frees = f.ensures.step in
    let again = c.known.ensures.step in
    omega arith

pub returns-clause-idle : goal.returns-clause-idle
returns-clause-idle g c none =
    let few = (frees_shrinks _ _ _ _ _ _ _ c.free_all-freed.ensures.frees.1).few in
    let empty = ap length none in
    let is = c.live.ensures in
    let some = c.if-live-eq0.false in
    absurd (omega arith)

pub free_all-freed-requires-clause-of : goal.free_all-freed-requires-clause-of
free_all-freed-requires-clause-of g c = of_still c.args.shared.now c.args.pass.now c.known-mark.new.pass c.known-mark.ensures.same c.requires.of

pub free_all-freed-requires-clause-may : goal.free_all-freed-requires-clause-may
free_all-freed-requires-clause-may g c =
    let k = c.known-mark in
    grace_may (config_of c.args.shared.now) (view c.args.pass.now) (view k.new.pass) k.result.time k.ensures.view c.requires.may

pub tidy_left-left-requires-clause-of : goal.tidy_left-left-requires-clause-of
tidy_left-left-requires-clause-of g c =
    of_still c.args.shared.now c.args.pass.now c.free_all-freed.new.pass
    (same_on c.args.pass.now c.known-mark.new.pass c.free_all-freed.new.pass c.known-mark.ensures.same c.free_all-freed.ensures.same) c.requires.of

pub tidy_left-left-requires-clause-may : goal.tidy_left-left-requires-clause-may
tidy_left-left-requires-clause-may g c =
    reclaims_may (view c.known-mark.new.pass) (view c.free_all-freed.new.pass) c.free_all-freed.ensures.frees.0
    c.free_all-freed.ensures.frees.1.makes.reclaims

pub returns-clause-same : goal.returns-clause-same
returns-clause-same g c =
    same_on c.args.pass.now c.free_all-freed.new.pass c.tidy_left-left.new.pass
    (same_on c.args.pass.now c.known-mark.new.pass c.free_all-freed.new.pass c.known-mark.ensures.same c.free_all-freed.ensures.same)
    c.tidy_left-left.ensures.same

pub returns-clause-cost : goal.returns-clause-cost
returns-clause-cost g c =
    let f = c.free_all-freed in
    whole_bound _ c.known-mark.new.steps f.new.steps _ _ _ (length f.new.log.live) _ f.result c.known-mark.ensures.step f.ensures.step
    c.tidy_left-left.ensures.cost (frees_shrinks _ _ _ _ _ _ _ f.ensures.frees.1).few
    (live_few (config_of c.args.shared.now) (view c.args.pass.now) c.args.log.now c.requires.stands)

pub returns-clause-trail : goal.returns-clause-trail
returns-clause-trail g c =
    let k = c.known-mark in
    let f = c.free_all-freed in
    whole_bound _ (length (view k.new.pass).trail) (length (view f.new.pass).trail) _ _ _ (length f.new.log.live) _ f.result
    (one_longer _ _ _ (ap (λ (u : Knowledge). u.trail) k.ensures.view))
    (freed_longer (view k.new.pass) (view f.new.pass) c.args.log.now f.new.log f.ensures.frees.0 _ f.result f.ensures.frees.1)
    c.tidy_left-left.ensures.trail (frees_shrinks _ _ _ _ _ _ _ f.ensures.frees.1).few
    (live_few (config_of c.args.shared.now) (view c.args.pass.now) c.args.log.now c.requires.stands)

pub returns-then-live-eq0-clause-shrinks : goal.returns-then-live-eq0-clause-shrinks
returns-then-live-eq0-clause-shrinks g c = frees_shrinks _ _ _ _ _ _ _ c.free_all-freed.ensures.frees.1

pub returns-then-live-eq0-clause-fresh : goal.returns-then-live-eq0-clause-fresh
returns-then-live-eq0-clause-fresh g c = λ time e. none_held _ e

pub returns-then-live-eq0-clause-alone : goal.returns-then-live-eq0-clause-alone
returns-then-live-eq0-clause-alone g c = λ one early. no_notes c.free_all-freed.new.log.live (sym c.live.ensures ∙ c.if-live-eq0.true)
