use Rattle.std.proofs.Common.{rules, arith, ◌≡◌, ◌+◌, ℕ, suc, List, length, sym, ap, ◌∙◌, subst}
use Rattle.mv_core.proofs.Terms.{some, get_elem?, Config, Knowledge, new_view, view, IsOf, config_of, start_of}
use Rattle.mv_core.specs.Start.{maker_view, starting_view}
use Rattle.mv_core.specs.declared.shared.Pass.{Pass}
use Rattle.mv_core.proofs.kinds.opening.MakeSeat.{each_pushed, each_from_first}
use Rattle.mv_core.proofs.shared.Shared.make_all.Goals as goal

pub loop-number-preserved : goal.loop-number-preserved
loop-number-preserved g c =
    let others = c.loop-number.others in
    let i = c.loop-number.invariant in
    let made = c.make_seat.result in
    let count : c.loop-number.number ≡ length others.items + 1 = (let a = others.ok.0 in let b = i.count in omega arith) in
    let seen : view made ≡ new_view (config_of c.args.self.now) (start_of c.args.self.now) (length others.items + 1) 0 =
    c.make_seat.ensures.made ∙ ap (λ (n : ℕ). new_view (config_of c.args.self.now) (start_of c.args.self.now) n 0) count in
    let number : made.number ≡ length others.items + 1 = made.numbered ∙ ap (λ (v : Knowledge). v.number) seen in
    let Is : ℕ → Pass _ g.P.Protocol → Type 0 =
    λ k p. IsOf c.args.self.now p × (p.number ≡ k + 1) × (view p ≡ new_view (config_of c.args.self.now) (start_of c.args.self.now) (k + 1) 0) in
    record {
      first = search rules;
      made = search rules;
      some_made = omega arith;
      within = search rules;
      count = search rules;
      others = subst (λ (l : List (Pass _ g.P.Protocol)). (k : ℕ) (p : Pass _ g.P.Protocol) → get_elem? l k ≡ some p → Is k p)
          (sym c.in_ok-push.ensures.items) (each_pushed Is others.items made i.others (c.make_seat.ensures.of.1, number, seen));
    }

pub make_seat-requires : goal.make_seat-requires
make_seat-requires g c =
    let i = c.loop-number.invariant in
    let seats = ap (λ (d : Config). d.seats) c.args.self.now.about in
    record { of = i.first; maker = i.made; range = (i.some_made, omega (arith, c.loop-number-test.true, seats)) }

pub returns-clause-each : goal.returns-clause-each
returns-clause-each g c =
    let s = c.args.self.now in
    let i = c.loop-number.invariant in
    let first = c.loop-number.first in
    let all : c.loop-number.number ≡ (config_of s).seats =
    (let seats = ap (λ (d : Config). d.seats) s.about in let end = c.loop-number-test.false in let within = i.within in omega arith) in
    let Is : ℕ → Pass _ g.P.Protocol → Type 0 = λ k p. IsOf s p × (p.number ≡ k) × (view p ≡ starting_view (config_of s) (start_of s) k) in
    let begins : Is 0 first = (
      i.first,
      first.numbered ∙ ap (λ (v : Knowledge). v.number) i.made,
      i.made ∙ ap (λ (n : ℕ). maker_view (config_of s) (start_of s) n) all,
    ) in
    let goes_on : (k : ℕ) (p : Pass _ g.P.Protocol) → get_elem? c.loop-number.others.items k ≡ some p → Is (suc k) p =
    λ k p at.
    let o = i.others k p at in
    let next : k + 1 ≡ suc k = omega arith in
    (o.0, o.1 ∙ next, o.2 ∙ ap (λ (n : ℕ). new_view (config_of s) (start_of s) n 0) next) in
    λ k p at.
    each_from_first Is first c.loop-number.others.items begins goes_on k p
    (subst (λ (l : List (Pass _ g.P.Protocol)). get_elem? l k ≡ some p) c.in_ok-insert.ensures.items at)
