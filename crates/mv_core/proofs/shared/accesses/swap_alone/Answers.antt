use Rattle.std.proofs.Common.{rules}
use Rattle.mv_core.proofs.frames.Turning.{unspent_of, swap_allows}
use Rattle.mv_core.proofs.shared.accesses.swap_alone.Goals as goal

pub compare_exchange-requires : goal.compare_exchange-requires
compare_exchange-requires g c =
    let o = c.requires.of in (
      search rules,
      search rules,
      swap_allows _ _ _ _ _ _ g.J.Transition.place _ c.requires.place.0 c.requires.place.1 (unspent_of _ _ _ o.3) o.1 o.2
          g.J.Transition.config c.requires.domain g.J.Transition.kind _
          _ g.J.Transition.tells g.J.Transition.tells (λ x w t. t) (search rules) c.requires.moves c.requires.rule,
    )
