use Rattle.std.proofs.Common.{◌≡◌, ℕ, ◌<◌, length, sym, ◌∙◌, subst, arith}
use Rattle.mv_layout.specs.declared.Config.{Config}
use Rattle.object_lock.specs.mv_core.Passes.{config_of}
use Rattle.object_lock.specs.seat_log.Notes.{nothing_noted}
use Rattle.mvrlu.specs.declared.places.SeatState.{SeatState}
use Rattle.mvrlu.specs.Readiness.{IsNewPass, AreReady}
use Rattle.mvrlu.proofs.Started.{new_front, new_last, ready_next}
use Rattle.mvrlu.proofs.opening.with_logs.Goals as goal

pub new_log-requires-clause-range : goal.new_log-requires-clause-range
new_log-requires-clause-range g c =
    let s = c.args.shared.now in
    let p = c.in-Some.pass in
    let is = new_last s c.pop.new.self.items c.loop-pass.passes.items p c.in-Some.ensures.items c.loop-pass.invariant.new in
    subst (λ (d : Config). c.seat.result < d.seats) (sym c.config.ensures) (subst (λ (n : ℕ). n < (config_of s).seats) (p.numbered
    ∙ sym c.seat.ensures) is.0.1)

pub loop-pass-preserved : goal.loop-pass-preserved
loop-pass-preserved g c =
    let s = c.args.shared.now in
    let p = c.in-Some.pass in
    let left = c.pop.new.self.items in
    let is = new_last s left c.loop-pass.passes.items p c.in-Some.ensures.items c.loop-pass.invariant.new in
    let number : c.seat.result ≡ length left = c.seat.ensures ∙ sym p.numbered ∙ is.1 in
    let count = c.loop-pass.invariant.count in
    let popped = c.in-Some.ensures.cases in
    let pushed = c.in_ok-push.ensures.len in
    let one = c.loop-pass.ready.ok.0 in
    let two = c.pop.new.self.ok.0 in
    record {
      count = omega arith;
      new = new_front s left c.loop-pass.passes.items p c.in-Some.ensures.items c.loop-pass.invariant.new;
      ready = subst (AreReady s) (sym c.in_ok-push.ensures.items)
          (ready_next s c.loop-pass.ready.items (record { place = c.in_ok-place.place }) (length left) c.loop-pass.invariant.ready (omega arith)
          (subst (λ (v : SeatState g.row.P.Denot g.P.Protocol). IsNewPass s (length left) v.pass × (v.log ≡ nothing_noted (length left) (config_of s).slots))
          (sym c.in_ok-place.ensures.ok) (is, c.in_ok-log.ensures ∙ (λ i. nothing_noted (number i) (c.config.ensures i).slots))));
    }
