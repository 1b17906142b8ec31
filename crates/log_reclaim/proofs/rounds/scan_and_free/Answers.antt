use Rattle.std.proofs.Common.{ℕ, ◌<◌, ◌++◌, subst, length}
use Rattle.seat_log.specs.mv_core.Passes.{view, config_of}
use Rattle.seat_log.proofs.commit_clock_lemmas.Hearing.{hears_on}
use Rattle.log_reclaim.proofs.rests.Heard.{heard_scan, heard_freed}
use Rattle.log_reclaim.proofs.ScanParts.{steps_of, scan_stands}
use Rattle.log_reclaim.proofs.Sweeping.{may_settle, sweeps}
use Rattle.seat_log.proofs.OwnSlots.{same_on, of_still}
use Rattle.log_reclaim.proofs.Reclaiming.{reclaims_may}
use Rattle.log_reclaim.proofs.Lengths.{scanned_longer, freed_longer, scanned_bound}
use Rattle.log_reclaim.proofs.rounds.scan_and_free.Goals as goal

pub settle_all-latest-requires-clause-may : goal.settle_all-latest-requires-clause-may
settle_all-latest-requires-clause-may g c =
    let s = c.scan_clock-clock in
    may_settle _ _ (config_of c.args.shared.now) (view c.args.pass.now) (view s.new.pass) c.args.log.now s.result.0 s.result.1 c.args.steps.now s.new.steps
    c.requires.of.2 c.requires.may c.requires.stands c.args.pass.now.known s.ensures.scans s.ensures.known

pub settle_all-latest-requires-clause-stands : goal.settle_all-latest-requires-clause-stands
settle_all-latest-requires-clause-stands g c =
    let s = c.scan_clock-clock in
    scan_stands (config_of c.args.shared.now) (view c.args.pass.now) (view s.new.pass) s.result.0 s.result.1 c.args.steps.now s.new.steps s.ensures.scans
    c.args.log.now c.requires.stands

pub returns-clause-sweeps : goal.returns-clause-sweeps
returns-clause-sweeps g c =
    let s = c.scan_clock-clock in
    let t = c.settle_all-latest in
    let f = c.free_all-freed in
    let own = subst (λ (n : ℕ). n < (config_of c.args.shared.now).seats) c.args.pass.now.numbered c.requires.of.1 in (
      steps_of (config_of c.args.shared.now) (view c.args.pass.now) (view s.new.pass) s.result.0 s.result.1 c.args.steps.now s.new.steps s.ensures.scans
          ++ (t.ensures.settles.0 ++ f.ensures.frees.0),
      sweeps _ _ (config_of c.args.shared.now) (view c.args.pass.now) (view s.new.pass) c.args.log.now s.result.0 s.result.1 c.args.steps.now s.new.steps
          c.requires.of.2 c.requires.may c.requires.stands c.args.pass.now.known s.ensures.scans (view t.new.pass) (view f.new.pass) t.new.log f.new.log
          t.ensures.settles.0 f.ensures.frees.0 c.args.back t.new.found t.result f.result s.ensures.known t.ensures.settles.1 f.ensures.frees.1
          s.new.pass.known own s.ensures.makers,
    )

pub returns-clause-hears : goal.returns-clause-hears
returns-clause-hears g c =
    let s = c.scan_clock-clock in
    let t = c.settle_all-latest in
    let f = c.free_all-freed in
    hears_on (view c.args.pass.now) (view s.new.pass) (view f.new.pass) t.result
    (heard_scan (config_of c.args.shared.now) (view c.args.pass.now) (view s.new.pass) s.result.0 s.result.1 c.args.steps.now s.new.steps t.result
    s.ensures.scans t.ensures.settles.1.from)
    (hears_on (view s.new.pass) (view t.new.pass) (view f.new.pass) t.result t.ensures.hears
    (heard_freed (view t.new.pass) (view f.new.pass) t.new.log f.new.log f.ensures.frees.0 s.result.0.time f.result t.result f.ensures.frees.1))

pub settle_all-latest-requires-clause-of : goal.settle_all-latest-requires-clause-of
settle_all-latest-requires-clause-of g c = of_still c.args.shared.now c.args.pass.now c.scan_clock-clock.new.pass c.scan_clock-clock.ensures.same c.requires.of

pub free_all-freed-requires-clause-of : goal.free_all-freed-requires-clause-of
free_all-freed-requires-clause-of g c =
    of_still c.args.shared.now c.args.pass.now c.settle_all-latest.new.pass
    (same_on c.args.pass.now c.scan_clock-clock.new.pass c.settle_all-latest.new.pass c.scan_clock-clock.ensures.same c.settle_all-latest.ensures.same)
    c.requires.of

pub free_all-freed-requires-clause-may : goal.free_all-freed-requires-clause-may
free_all-freed-requires-clause-may g c =
    reclaims_may (view c.scan_clock-clock.new.pass) (view c.settle_all-latest.new.pass) c.settle_all-latest.ensures.settles.0
    c.settle_all-latest.ensures.settles.1.reclaims

pub returns-clause-same : goal.returns-clause-same
returns-clause-same g c =
    same_on c.args.pass.now c.settle_all-latest.new.pass c.free_all-freed.new.pass
    (same_on c.args.pass.now c.scan_clock-clock.new.pass c.settle_all-latest.new.pass c.scan_clock-clock.ensures.same c.settle_all-latest.ensures.same)
    c.free_all-freed.ensures.same

pub returns-clause-cost : goal.returns-clause-cost
returns-clause-cost g c =
    scanned_bound _ c.scan_clock-clock.new.steps c.settle_all-latest.new.steps _ _ _ c.free_all-freed.result c.scan_clock-clock.ensures.cost
    c.settle_all-latest.ensures.cost c.free_all-freed.ensures.step

pub returns-clause-trail : goal.returns-clause-trail
returns-clause-trail g c =
    let s = c.scan_clock-clock in
    let t = c.settle_all-latest in
    let f = c.free_all-freed in
    scanned_bound _ (length (view s.new.pass).trail) (length (view t.new.pass).trail) _ _ _ f.result
    (scanned_longer (config_of c.args.shared.now) (view c.args.pass.now) (view s.new.pass) s.result.0 s.result.1 c.args.steps.now s.new.steps
    s.ensures.scans s.ensures.cost)
    t.ensures.trail (freed_longer (view t.new.pass) (view f.new.pass) t.new.log f.new.log f.ensures.frees.0 _ f.result f.ensures.frees.1)
