use Rattle.mv_core.specs.Moves.{load_super}
use Rattle.std.proofs.Common.{◌≡◌, ◌≢◌}
use Rattle.mv_core.proofs.Terms.{Super, index_of, view, config_of}
use Rattle.mv_core.specs.ReclaimSteps.{super_loaded, SeesSuper, FoundEmpty}
use Rattle.mv_core.proofs.shared.Shared.load_super.Given as goal

abbrev pub ghosts-load_as : goal.ghosts-load_as
ghosts-load_as g a = record {
  config = config_of a.shared.now;
  place = Super (view a.pass.now).number (index_of (config_of a.shared.now) a.about.now);
  tells = λ n w. (w ≡ super_loaded (config_of a.shared.now) (view a.pass.now) a.about.now g.own.0 g.own.1 n w.past.seen)
      × SeesSuper (config_of a.shared.now) (view a.pass.now) g.own.0 g.own.1 n w.past.seen × (FoundEmpty (view a.pass.now) g.own.0.object g.own.1.time → n ≢ 0);
  kind = load_super a.about.now g.own.0 g.own.1;
}
