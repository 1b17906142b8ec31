use Rattle.mv_core.specs.Moves.{store_data}
use Rattle.std.proofs.Common.{◌≡◌}
use Rattle.mv_core.proofs.Terms.{Data, index_of, view, config_of}
use Rattle.mv_core.specs.LockSteps.{data_stored}
use Rattle.mv_core.proofs.shared.Shared.store_data.Given as goal

abbrev pub ghosts-store_as : goal.ghosts-store_as
ghosts-store_as g a = record {
  config = config_of a.shared.now;
  place = Data (view a.pass.now).number (index_of (config_of a.shared.now) a.about.now.0) a.about.now.1;
  tells = λ n w. w ≡ data_stored (config_of a.shared.now) (view a.pass.now) a.about.now.0 a.about.now.1 n g.version;
  kind = store_data a.about.now.0 a.about.now.1 a.new g.version;
}
