use Rattle.std.proofs.Common.{rules, sym, ap, ◌∙◌, subst, arith, ◌<◌, All}
use Rattle.std.proofs.lemmas.List.Elements.{All-cons}
use Rattle.mv_layout.specs.declared.Config.{Config}
use Rattle.mv_layout.specs.Limits.{Checked}
use Rattle.runtime_tests.specs.Clients.{IsNew, IsPlayable}
use Rattle.runtime_tests.proofs.Opened.{news, split_new, ready_new}
use Rattle.runtime_tests.proofs.opening.open.Goals as goal

pub loop-pass-init : goal.loop-pass-init
loop-pass-init c = record { new = news c.in_ok-shared.shared c.in_ok-shared.passes.items c.in_ok-shared.ensures.each; ready = search rules }

pub new_log-requires-clause-range : goal.new_log-requires-clause-range
new_log-requires-clause-range c =
    let s = c.in_ok-shared.shared in
    let r = split_new s c.pop.new.self.items c.in-Some.pass (subst (λ ps. All (IsNew s) ps) c.in-Some.ensures.items c.loop-pass.invariant.new) in
    let is = c.seat.ensures in
    let number = c.in-Some.pass.numbered in
    let lt = r.1.0.1 in
    subst (λ (d : Config). c.seat.result < d.seats) c.in_ok-shared.ensures.about.0 (omega arith)

pub loop-pass-preserved : goal.loop-pass-preserved
loop-pass-preserved c =
    let s = c.in_ok-shared.shared in
    let p = c.in-Some.pass in
    let r = split_new s c.pop.new.self.items p (subst (λ ps. All (IsNew s) ps) c.in-Some.ensures.items c.loop-pass.invariant.new) in
    let about = c.in_ok-shared.ensures.about.0 in
    let outside =
    ready_new s p c.in_ok-log.log c.seat.result c.args.config.now.slots (subst Checked (sym about) c.requires.checked) r.1
    (c.seat.ensures ∙ sym p.numbered) (ap (λ (d : Config). d.slots) (sym about)) c.in_ok-log.ensures in
    record {
      new = r.0;
      ready = subst (λ cs. All (IsPlayable s) cs) (sym c.in_ok-insert.ensures.items)
          (All-cons (IsPlayable s) _ c.loop-pass.clients.items ((r.1.0, outside), tt) c.loop-pass.invariant.ready);
    }
