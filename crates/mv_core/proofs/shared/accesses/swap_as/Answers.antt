use Rattle.std.proofs.Common.{rules, sym, ◌∙◌, subst}
use Rattle.mv_core.proofs.Terms.{Config}
use Rattle.mv_core.specs.Known.{KnownInDomain, RunsOn}
use Rattle.mv_core.specs.Passes.{view}
use Rattle.mv_core.proofs.frames.Turning.{unspent_of, swap_allows}
use Rattle.mv_core.proofs.shared.accesses.swap_as.Goals as goal

pub compare_exchange-requires : goal.compare_exchange-requires
compare_exchange-requires g c =
    let o = c.requires.of in (
      search rules,
      search rules,
      swap_allows _ _ _ _ _ _ g.J.Transition.place _ c.requires.place.0 c.requires.place.1 (unspent_of _ _ _ c.args.pass.now.known)
          o.3 o.2 g.J.Transition.config c.requires.domain
          g.J.Transition.kind _ _ g.J.Transition.tells (λ n w. g.J.Transition.tells n w × RunsOn (view c.args.pass.now) w) (λ x w t. t.0)
          (search rules)
          c.requires.moves c.requires.rule,
    )

pub invariant_of-pass : goal.invariant_of-pass
invariant_of-pass g c =
    let t = c.compare_exchange.ensures.2 in
    let r = t.0.1 _ _ c.args.pass.now.timed c.args.pass.now.begun in
    let in_domain = subst (λ (d : Config). KnownInDomain d c.compare_exchange.new.seat.me.0) (c.requires.domain ∙ sym c.requires.of.4) t.2.1 in
    record {
      numbered = c.args.pass.now.numbered ∙ sym t.1.0;
      timed = r.0;
      begun = r.1;
      known = ∣ t.2.0 ∣₁;
      in_domain = in_domain;
      taken = t.3 ∙ c.args.pass.now.taken;
    }
