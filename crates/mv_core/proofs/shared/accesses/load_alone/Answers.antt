use Rattle.std.proofs.Common.{rules}
use Rattle.mv_core.proofs.frames.Turning.{unspent_of, load_allows}
use Rattle.mv_core.proofs.shared.accesses.load_alone.Goals as goal

pub load-requires : goal.load-requires
load-requires g c =
    let o = c.requires.of in (
      search rules,
      search rules,
      load_allows _ _ _ _ _ _ g.J.Transition.place _ c.requires.place.0 c.requires.place.1 (unspent_of _ _ _ o.3) o.1 o.2
          g.J.Transition.config c.requires.domain g.J.Transition.kind
          g.J.Transition.tells g.J.Transition.tells (λ x w t. t) c.requires.moves c.requires.rule,
    )
