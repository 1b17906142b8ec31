use Rattle.std.proofs.Common.{sym, refl, ap, ◌∙◌, subst}
use Rattle.mv_core.proofs.Terms.{Mark, Scan}
use Rattle.mv_core.specs.Passes.{config_of}
use Rattle.mv_core.specs.ReclaimSteps.{MayLoadMark, mark_loaded}
use Rattle.mv_core.proofs.moves.Calls.{scan_or}
use Rattle.mv_core.specs.Passes.{view}
use Rattle.mv_core.proofs.kinds.reclaiming.Scans.{mark_loads}
use Rattle.mv_core.proofs.shared.Shared.load_mark.Goals as goal

pub load_as-requires-clause-rule : goal.load_as-requires-clause-rule
load_as-requires-clause-rule g c = λ m h seats k is own begins wide.
    let r = mark_loads _ _ _ _ (view c.args.pass.now) c.args.seat c.requires.may.0 c.requires.may.1 m h seats k is own begins wide in
    (r.0, r.1, (((c.requires.may.0, c.requires.may.1.running, r.2.0.0), r.2.0.1), r.2.1))

pub load_as-requires-clause-moves : goal.load_as-requires-clause-moves
load_as-requires-clause-moves g c = record {
  may = subst (MayLoadMark (config_of c.args.self.now) (view c.args.pass.now) c.args.seat) (ap scan_or (sym c.requires.may.1.running)) c.requires.may.1;
  place = refl;
  writes = λ x. refl;
  entry = λ x. refl;
  view = λ m h seats w k t. t.2 ∙ ap (λ (s : Scan). mark_loaded (config_of c.args.self.now) (view c.args.pass.now) c.args.seat s (m (Mark c.args.seat)))
      (ap scan_or (sym t.1));
}
