use Rattle.mv_core.specs.Moves.{cut_head}
use Rattle.std.proofs.Common.{◌≢◌}
use Rattle.mv_core.proofs.Terms.{Head, link_of, view, config_of}
use Rattle.mv_core.specs.WalkSteps.{IsLinkOf}
use Rattle.mv_core.specs.ReclaimSteps.{CutTold, IsOfOther}
use Rattle.mv_core.specs.Tops.{NamesNewer}
use Rattle.mv_core.proofs.shared.Shared.cut_head.Given as goal

abbrev pub ghosts-swap_as : goal.ghosts-swap_as
ghosts-swap_as g a = record {
  config = config_of a.shared.now;
  place = Head a.about.now.0;
  tells = λ n w. CutTold (config_of a.shared.now) (view a.pass.now) a.about.now.0 a.about.now.1 g.back.0 g.back.1 n w
      × (n ≢ link_of (view a.pass.now).number a.about.now.1 → IsLinkOf (config_of a.shared.now) n)
      × (n ≢ link_of (view a.pass.now).number a.about.now.1 → IsOfOther (view a.pass.now) n)
      × (n ≢ link_of (view a.pass.now).number a.about.now.1 → NamesNewer (config_of a.shared.now) (view a.pass.now) a.about.now.0 n);
  kind = cut_head a.about.now.0 a.about.now.1 g.back.0 g.back.1;
}
