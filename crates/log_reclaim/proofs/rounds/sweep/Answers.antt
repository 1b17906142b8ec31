use Rattle.std.proofs.Common.{arith, [], ◌∷◌, ◌++◌, sym, ◌∙◌, ap, length}
use Rattle.seat_log.specs.mv_core.Passes.{view, config_of}
use Rattle.log_reclaim.proofs.Idle.{still_of}
use Rattle.log_reclaim.specs.Parts.{grace_load}
use Rattle.log_reclaim.proofs.ScanParts.{grace_makes, grace_stands, grace_may}
use Rattle.log_reclaim.proofs.FirstFrees.{frees_only, frees_then, grace_plain, sweeps_all, sweeps_then, frees_shrinks}
use Rattle.seat_log.specs.mv_core.declared.view.Knowledge.{Knowledge}
use Rattle.seat_log.proofs.OwnSlots.{same_on, of_still}
use Rattle.log_reclaim.proofs.Reclaiming.{reclaims_may}
use Rattle.log_reclaim.proofs.Lengths.{one_longer, freed_longer, emptied_bound, swept_bound}
use Rattle.log_reclaim.proofs.rounds.sweep.Goals as goal

pub free_all-first-requires-clause-stands : goal.free_all-first-requires-clause-stands
free_all-first-requires-clause-stands g c =
    let k = c.known-mark in
    grace_stands (config_of c.args.shared.now) (view c.args.pass.now) (view k.new.pass) k.result.time k.ensures.view c.args.log.now c.requires.stands

pub returns-then-live-eq0-clause-sweeps : goal.returns-then-live-eq0-clause-sweeps
returns-then-live-eq0-clause-sweeps g c =
    let k = c.known-mark in
    let f = c.free_all-first in
    let load = grace_makes (config_of c.args.shared.now) (view c.args.pass.now) (view k.new.pass) k.result.time k.ensures.view c.requires.may
    (still_of _ _ (view c.args.pass.now) c.args.pass.now.known c.requires.may.outside) in (
      (grace_load (config_of c.args.shared.now) k.result.time ∷ []) ++ f.ensures.frees.0,
      sweeps_all (config_of c.args.shared.now) (view c.args.pass.now) (view k.new.pass) (view f.new.pass) c.args.log.now f.new.log
          (grace_load (config_of c.args.shared.now) k.result.time ∷ []) f.ensures.frees.0 k.result.time f.result load
          (grace_plain (config_of c.args.shared.now) k.result.time) f.ensures.frees.1 (sym c.live.ensures ∙ c.if-live-eq0.true),
      frees_only (config_of c.args.shared.now) (view k.new.pass) (view f.new.pass) c.args.log.now f.new.log f.ensures.frees.0 k.result.time f.result
          f.ensures.frees.1,
    )

pub returns-clause-sweeps : goal.returns-clause-sweeps
returns-clause-sweeps g c =
    let k = c.known-mark in
    let f = c.free_all-first in
    let s = c.scan_and_free-second in
    let load = grace_makes (config_of c.args.shared.now) (view c.args.pass.now) (view k.new.pass) k.result.time k.ensures.view c.requires.may
    (still_of _ _ (view c.args.pass.now) c.args.pass.now.known c.requires.may.outside) in (
      (grace_load (config_of c.args.shared.now) k.result.time ∷ []) ++ f.ensures.frees.0 ++ s.ensures.sweeps.0,
      sweeps_then (config_of c.args.shared.now) (view c.args.pass.now) (view k.new.pass) (view f.new.pass) (view s.new.pass) c.args.log.now f.new.log
          s.new.log (grace_load (config_of c.args.shared.now) k.result.time ∷ []) f.ensures.frees.0 s.ensures.sweeps.0 k.result.time f.result c.args.back
          s.result.1 s.new.found s.result.0 load (grace_plain (config_of c.args.shared.now) k.result.time)
          f.ensures.frees.1 s.ensures.sweeps.1,
      frees_then (config_of c.args.shared.now) (view k.new.pass) (view f.new.pass) c.args.log.now f.new.log f.ensures.frees.0 k.result.time f.result
          f.ensures.frees.1 s.ensures.sweeps.0 s.result.1
          (let is = c.live.ensures in let some = c.if-live-eq0.false in omega arith),
    )

pub free_all-first-requires-clause-of : goal.free_all-first-requires-clause-of
free_all-first-requires-clause-of g c = of_still c.args.shared.now c.args.pass.now c.known-mark.new.pass c.known-mark.ensures.same c.requires.of

pub free_all-first-requires-clause-may : goal.free_all-first-requires-clause-may
free_all-first-requires-clause-may g c =
    let k = c.known-mark in
    grace_may (config_of c.args.shared.now) (view c.args.pass.now) (view k.new.pass) k.result.time k.ensures.view c.requires.may

pub returns-then-live-eq0-clause-same : goal.returns-then-live-eq0-clause-same
returns-then-live-eq0-clause-same g c =
    same_on c.args.pass.now c.known-mark.new.pass c.free_all-first.new.pass c.known-mark.ensures.same c.free_all-first.ensures.same

pub returns-then-live-eq0-clause-cost : goal.returns-then-live-eq0-clause-cost
returns-then-live-eq0-clause-cost g c =
    emptied_bound _ c.known-mark.new.steps _ _ _ c.free_all-first.result c.known-mark.ensures.step c.free_all-first.ensures.step
    c.free_all-first.ensures.frees.1.few

pub returns-then-live-eq0-clause-trail : goal.returns-then-live-eq0-clause-trail
returns-then-live-eq0-clause-trail g c =
    let k = c.known-mark in
    let f = c.free_all-first in
    emptied_bound _ (length (view k.new.pass).trail) _ _ _ f.result (one_longer _ _ _ (ap (λ (u : Knowledge). u.trail) k.ensures.view))
    (freed_longer (view k.new.pass) (view f.new.pass) c.args.log.now f.new.log f.ensures.frees.0 _ f.result f.ensures.frees.1)
    f.ensures.frees.1.few

pub scan_and_free-second-requires-clause-of : goal.scan_and_free-second-requires-clause-of
scan_and_free-second-requires-clause-of g c =
    of_still c.args.shared.now c.args.pass.now c.free_all-first.new.pass
    (same_on c.args.pass.now c.known-mark.new.pass c.free_all-first.new.pass c.known-mark.ensures.same c.free_all-first.ensures.same) c.requires.of

pub scan_and_free-second-requires-clause-may : goal.scan_and_free-second-requires-clause-may
scan_and_free-second-requires-clause-may g c =
    reclaims_may (view c.known-mark.new.pass) (view c.free_all-first.new.pass) c.free_all-first.ensures.frees.0
    c.free_all-first.ensures.frees.1.makes.reclaims

pub returns-clause-same : goal.returns-clause-same
returns-clause-same g c =
    same_on c.args.pass.now c.free_all-first.new.pass c.scan_and_free-second.new.pass
    (same_on c.args.pass.now c.known-mark.new.pass c.free_all-first.new.pass c.known-mark.ensures.same c.free_all-first.ensures.same)
    c.scan_and_free-second.ensures.same

pub returns-clause-cost : goal.returns-clause-cost
returns-clause-cost g c =
    let f = c.free_all-first in
    let s = c.scan_and_free-second in
    swept_bound _ c.known-mark.new.steps f.new.steps _ _ _ (length f.new.log.live) (length s.new.log.live) f.result s.result.0 c.known-mark.ensures.step
    f.ensures.step s.ensures.cost (frees_shrinks _ _ _ _ _ _ _ f.ensures.frees.1).few s.ensures.sweeps.1.shrinks.few

pub returns-clause-trail : goal.returns-clause-trail
returns-clause-trail g c =
    let k = c.known-mark in
    let f = c.free_all-first in
    let s = c.scan_and_free-second in
    swept_bound _ (length (view k.new.pass).trail) (length (view f.new.pass).trail) _ _ _ (length f.new.log.live) (length s.new.log.live) f.result s.result.0
    (one_longer _ _ _ (ap (λ (u : Knowledge). u.trail) k.ensures.view))
    (freed_longer (view k.new.pass) (view f.new.pass) c.args.log.now f.new.log f.ensures.frees.0 _ f.result f.ensures.frees.1)
    s.ensures.trail (frees_shrinks _ _ _ _ _ _ _ f.ensures.frees.1).few s.ensures.sweeps.1.shrinks.few
