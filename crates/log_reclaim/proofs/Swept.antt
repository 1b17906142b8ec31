-- What a round leaves of the log it leaves after other steps that were made before.
use Rattle.std.proofs.Common.{List, ◌++◌, Bool, inl, inr, ⊎_elim}
use Rattle.mv_history.specs.declared.Step.{Step}
use Rattle.mv_layout.specs.declared.Config.{Config}
use Rattle.seat_log.specs.mv_core.declared.view.Knowledge.{Knowledge}
use Rattle.seat_log.specs.Notes.{Noted}
use Rattle.log_reclaim.specs.Rounds.{SweptSo}
use Rattle.log_reclaim.proofs.MoreSteps.{scanned_then}
use Rattle.log_reclaim.proofs.Untimed.{untimed_then}

pub swept_then : (c : Config) (w : Knowledge) (l : Noted) (before made : List Step) (back : Bool) → SweptSo c w l made back
    → SweptSo c w l (before ++ made) back
swept_then c w l before made back swept =
    ⊎_elim inl
    (λ k.
    inr (record {
      mark = k.mark;
      clock = k.clock;
      scan = scanned_then before made c w.number k.mark k.clock k.scan;
      kept = k.kept;
      untimed = λ i n at none. let u = k.untimed i n at none in (u.0, untimed_then c w before made k.mark k.clock n back u.0 u.1);
    }))
    swept
