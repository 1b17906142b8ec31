-- What a tidy answers.
use Rattle.std.specs.Prelude.{◌≡◌, ◌≤◌, List, length}
use Rattle.mv_history.specs.declared.Step.{Step}
use Rattle.mv_history.specs.Trail.{clock_exchanges}
use Rattle.mv_layout.specs.declared.config.Config.{Config}
use Rattle.mv_core.specs.declared.view.Knowledge.{Knowledge}
use Rattle.seat_log.specs.Notes.{Noted}
use Rattle.seat_log.specs.Stands.{Stands}
use Rattle.log_reclaim.specs.Parts.{Reclaims, Shrinks}
use Rattle.log_reclaim.specs.Holders.{TidyHolds, HeldSo}
use Rattle.log_reclaim.specs.Tidies.{RestsOnce}
use Rattle.replay_rules.specs.declared.seats.Reclaimed.{Reclaimed}

-- A tidy leads from a view and the notes of its log to others. It answers how many of the oldest versions it freed, how many are live then, and who
-- holds the oldest write set, if one is left, with the cause in its own steps. It made at most one rest, and at most one exchange on CLOCK, won or lost.
pub record TidiesSo (c : Config) (v w : Knowledge) (answer : Reclaimed) : Type 0 where
  pub before : Noted
  pub after : Noted
  pub stood : Stands c v before
  pub stands : Stands c w after
  pub live : answer.live ≡ length after.live
  pub shrinks : Shrinks before after answer.freed
  pub rests : RestsOnce v w
  pub made : List Step
  pub reclaims : Reclaims v w made
  pub held : HeldSo (TidyHolds c w after made) after answer.held
  pub few : length (clock_exchanges made) ≤ 1
