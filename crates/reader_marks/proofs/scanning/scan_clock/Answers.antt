use Rattle.std.proofs.Common.{◌≡◌, ℕ, ◌+◌, ◌<◌, List, refl, sym, ap, ◌∙◌, subst, ⊎_elim, arith}
use Rattle.std.proofs.lemmas.Bool.{cases_eq}
use Rattle.std.specs.Prelude.{All}
use Rattle.mv_history.specs.declared.Entry.{Entry}
use Rattle.mv_history.specs.State.{maker_of}
use Rattle.mv_layout.specs.declared.Config.{Config}
use Rattle.commit_clock.specs.mv_core.declared.view.Knowledge.{Knowledge}
use Rattle.commit_clock.specs.mv_core.Passes.{view, config_of}
use Rattle.reader_marks.specs.declared.scanning.Lowest.{Lowest}
use Rattle.reader_marks.specs.Lowering.{Looks}
use Rattle.reader_marks.proofs.Looking.{looks_first, may_look, looks_own, looks_other, scans, scan_cost, scan_known}
use Rattle.reader_marks.proofs.scanning.scan_clock.Goals as goal

pub loop-seat-init : goal.loop-seat-init
loop-seat-init g c =
    let a = c.load_scan.ensures in (
      a.same,
      looks_first (config_of c.args.shared.now) (view c.args.pass.now) (view c.load_scan.new.pass) c.load_scan.result c.clock_time-clock.result
          c.args.steps.now c.load_scan.new.steps a.view.0 a.view.1 a.view.2 c.clock_time-clock.ensures a.step,
      subst (λ (h : List Entry). All (λ e. maker_of e < (config_of c.args.shared.now).seats) h) (sym (ap (λ (u : Knowledge). u.past.seen) a.view.2)) a.view.1.2,
    )

-- every entry that is seen is by a seat of the domain, also where the same is seen later
makers_on : (c : Config) (v w : Knowledge) → w.past.seen ≡ v.past.seen → All (λ e. maker_of e < c.seats) v.past.seen
    → All (λ e. maker_of e < c.seats) w.past.seen
makers_on c v w is = subst (λ (h : List Entry). All (λ e. maker_of e < c.seats) h) (sym is)

-- the number of a seat stays
number_is : (c : Config) (v w : Knowledge) (clock n : ℕ) (l : Lowest) (before after : ℕ) → Looks c v w clock n l before after → w.number ≡ v.number
number_is c v w clock n l before after k = ap (λ (u : Knowledge). u.number) k.view

pub look_at-lowest-requires-clause-may : goal.look_at-lowest-requires-clause-may
look_at-lowest-requires-clause-may g c =
    let k = c.loop-seat.invariant.1 in
    let at = number_is _ _ _ _ _ _ _ _ k in
    let n = c.config.ensures in λ ne. may_look _ _ _ _ _ _ _ _ k (subst (λ (b : Config). c.loop-seat.seat < b.seats) n c.loop-seat-test.true)
    (λ e. ne (e ∙ sym at))

pub loop-seat-preserved : goal.loop-seat-preserved
loop-seat-preserved g c =
    let s = c.loop-seat.invariant.0 in
    let k = c.loop-seat.invariant.1 in
    let t = c.look_at-lowest.ensures in
    let at = number_is _ _ _ _ _ _ _ _ k in
    let lt : c.loop-seat.seat < (config_of c.args.shared.now).seats =
    subst (λ (b : Config). c.loop-seat.seat < b.seats) c.config.ensures c.loop-seat-test.true in
    let same = t.same in (
      (same.0 ∙ s.0, same.1 ∙ s.1, same.2 ∙ s.2, same.3 ∙ s.3, same.4 ∙ s.4, same.5 ∙ s.5),
      ⊎_elim
          (λ e.
          let o = t.own e in
          let looks = looks_own _ _ _ _ _ _ _ _ k (e ∙ at) in
          subst (λ (x : Lowest). Looks (config_of c.args.shared.now) (view c.args.pass.now) (view c.look_at-lowest.new.pass) c.clock_time-clock.result
          (c.loop-seat.seat + 1) x c.args.steps.now c.look_at-lowest.new.steps) (sym o.0)
          (subst (λ (u : Knowledge). Looks (config_of c.args.shared.now) (view c.args.pass.now) u c.clock_time-clock.result (c.loop-seat.seat + 1)
          c.loop-seat.lowest c.args.steps.now c.look_at-lowest.new.steps) (sym o.1)
          (subst (Looks (config_of c.args.shared.now) (view c.args.pass.now) (view c.loop-seat.pass) c.clock_time-clock.result (c.loop-seat.seat + 1)
          c.loop-seat.lowest c.args.steps.now) (sym o.2) looks)))
          (λ ne.
          let o = t.other ne in
          subst (λ (x : Lowest). Looks (config_of c.args.shared.now) (view c.args.pass.now) (view c.look_at-lowest.new.pass) c.clock_time-clock.result
          (c.loop-seat.seat + 1) x c.args.steps.now c.look_at-lowest.new.steps) (sym o.3)
          (looks_other _ _ _ _ _ _ _ _ k (view c.look_at-lowest.new.pass) o.0 c.look_at-lowest.new.steps o.1 lt (λ e. ne (e ∙ sym at)) o.2 o.4 o.5))
          (cases_eq c.loop-seat.seat (view c.loop-seat.pass).number),
      makers_on (config_of c.args.shared.now) (view c.loop-seat.pass) (view c.look_at-lowest.new.pass)
          (⊎_elim (λ e. ap (λ (u : Knowledge). u.past.seen) (t.own e).1) (λ ne. ap (λ (u : Knowledge). u.past.seen) (t.other ne).4)
          (cases_eq c.loop-seat.seat (view c.loop-seat.pass).number))
          c.loop-seat.invariant.2,
    )

pub returns-clause-scans : goal.returns-clause-scans
returns-clause-scans g c =
    let k = c.loop-seat.invariant.1 in
    let done : c.loop-seat.seat ≡ (config_of c.args.shared.now).seats =
    (let a = c.loop-seat-test.false in let b = c.loop-seat.auto.seat-end in let e = ap (λ (x : Config). x.seats) c.config.ensures in omega arith) in
    scans (config_of c.args.shared.now) (view c.args.pass.now) (view c.loop-seat.pass) (view c.raise_grace-found.new.pass) c.clock_time-clock.result
    c.loop-seat.lowest c.args.steps.now c.loop-seat.steps c.raise_grace-found.new.steps
    (subst (λ (n : ℕ). Looks (config_of c.args.shared.now) (view c.args.pass.now) (view c.loop-seat.pass) c.clock_time-clock.result n c.loop-seat.lowest
    c.args.steps.now c.loop-seat.steps) done k)
    (subst (λ (n : ℕ). n < (config_of c.args.shared.now).seats) c.args.pass.now.numbered c.requires.of.1) c.requires.may.no_scan c.raise_grace-found.result _
    c.raise_grace-found.ensures.view c.raise_grace-found.ensures.step c.max.ensures refl c.is_some.ensures
    c.unwrap_or.ensures

pub returns-clause-makers : goal.returns-clause-makers
returns-clause-makers g c =
    makers_on (config_of c.args.shared.now) (view c.loop-seat.pass) (view c.raise_grace-found.new.pass)
    (ap (λ (u : Knowledge). u.past.seen) c.raise_grace-found.ensures.view) c.loop-seat.invariant.2

pub returns-clause-cost : goal.returns-clause-cost
returns-clause-cost g c = scan_cost _ _ _ _ _ _ _ (returns-clause-scans g c)

pub returns-clause-known : goal.returns-clause-known
returns-clause-known g c = scan_known _ _ _ _ _ _ _ (returns-clause-scans g c)

pub returns-clause-same : goal.returns-clause-same
returns-clause-same g c =
    let a = c.loop-seat.invariant.0 in
    let b = c.raise_grace-found.ensures.same in
    (b.0 ∙ a.0, b.1 ∙ a.1, b.2 ∙ a.2, b.3 ∙ a.3, b.4 ∙ a.4, b.5 ∙ a.5)
