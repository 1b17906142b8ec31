use Rattle.std.proofs.Common.{sym, subst}
use Rattle.mv_history.specs.Meaning.{Seat}
use Rattle.mv_history.specs.Calls.{Leaves}
use Rattle.mv_history.proofs.Steps.{Continues-Continues}
use Rattle.grow_hash.specs.Grown.{IsGrown}
use Rattle.grow_hash.proofs.attempts.Times.{grown_read}
use Rattle.grow_tests.proofs.steps.read_table.Goals as goal
use Rattle.grow_hash.specs.Tables.{grow_levels}

pub table_of-table-requires : goal.table_of-table-requires
table_of-table-requires g c = record {
  lawful = subst (IsGrown grow_levels) (sym (g.met.S.Open.Section.reads _))
      (grown_read grow_levels _ (g.met.S.Open.Section.lawful _) c.enter-section.ensures.enters.own);
}

pub returns : goal.returns
returns g c =
    let e = c.enter-section.ensures.enters in
    let goes = g.met.S.Open.Section.goes_on _ _ c.table_of-table.ensures.as_before in
    let left = subst (λ (s : Seat). Leaves (g.S.Open.Section.section c.table_of-table.new.view) s) (g.met.S.Store.same_seat _) c.leave.ensures.leaves in
    Continues-Continues e.seat.continues (Continues-Continues goes.continues left.continues)
