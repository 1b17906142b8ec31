use Rattle.std.proofs.Common.{◌∙◌, refl, subst}
use Rattle.mv_history.specs.Meaning.{Seat}
use Rattle.mv_history.specs.Calls.{Leaves}
use Rattle.mv_history.proofs.Steps.{Continues-Continues}
use Rattle.mv_client.proofs.beginning.read.Goals as goal

pub leave-requires : goal.leave-requires
leave-requires g c =
    let reads = c.requires.only_reads c.begin-section.result c.look-told.new.arg2 c.look-told.result
    (record { shown = _; shows = refl; left = _; met = c.look-told.ensures; leaves = refl }) in
    (g.met.S.Open.Section.others_stay _ _ reads).own ∙ c.begin-section.ensures.enters.own

pub returns-clause-read : goal.returns-clause-read
returns-clause-read g c =
    let reads = c.requires.only_reads c.begin-section.result c.look-told.new.arg2 c.look-told.result
    (record { shown = _; shows = refl; left = _; met = c.look-told.ensures; leaves = refl }) in
    record {
      entered = c.begin-section.result;
      enters = c.begin-section.ensures.enters;
      took_is = c.begin-section.ensures.took;
      left = c.look-told.new.arg2;
      gives_is = record { shown = _; shows = refl; left = _; met = c.look-told.ensures; leaves = refl };
      only_read = reads;
      leaves = subst (λ (s : Seat). Leaves (g.S.Open.Section.section c.look-told.new.arg2) s) (g.met.S.Store.same_seat _) c.leave.ensures.leaves;
    }

pub returns-clause-continues : goal.returns-clause-continues
returns-clause-continues g c =
    let reads = c.requires.only_reads c.begin-section.result c.look-told.new.arg2 c.look-told.result
    (record { shown = _; shows = refl; left = _; met = c.look-told.ensures; leaves = refl }) in
    let left = subst (λ (s : Seat). Leaves (g.S.Open.Section.section c.look-told.new.arg2) s) (g.met.S.Store.same_seat _) c.leave.ensures.leaves in
    Continues-Continues c.begin-section.ensures.enters.seat.continues
    (Continues-Continues (g.met.S.Open.Section.others_stay _ _ reads).seat.continues left.continues)
