use Rattle.mv_core.specs.Moves.{load_head}
use Rattle.std.proofs.Common.{◌≡◌}
use Rattle.mv_core.proofs.Terms.{Head, view, config_of}
use Rattle.mv_core.specs.Tops.{IsNewer}
use Rattle.mv_core.specs.WalkSteps.{IsLinkOf, IsOwnTop, IsOwnLink, IsLastOwn, IsLastSeen, head_loaded}
use Rattle.mv_core.proofs.shared.Shared.load_head.Given as goal

abbrev pub ghosts-load_as : goal.ghosts-load_as
ghosts-load_as g a = record {
  config = config_of a.shared.now;
  place = Head a.about.now;
  tells = λ n w. (w ≡ head_loaded (config_of a.shared.now) (view a.pass.now) g.inside a.about.now n) × IsLinkOf (config_of a.shared.now) n
      × IsOwnTop (config_of a.shared.now) (view a.pass.now) a.about.now n × IsOwnLink (config_of a.shared.now) (view a.pass.now) n
      × IsLastOwn (config_of a.shared.now) (view a.pass.now) a.about.now n × IsLastSeen (config_of a.shared.now) (view a.pass.now) a.about.now n
      × IsNewer (config_of a.shared.now) (view a.pass.now) a.about.now n;
  kind = load_head a.about.now g.inside;
}
