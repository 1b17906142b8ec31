use Rattle.std.proofs.Common.{refl, sym, subst, ◌∙◌}
use Rattle.mv_history.specs.Meaning.{Seat}
use Rattle.mv_history.specs.Calls.{Leaves}
use Rattle.mv_history.specs.CallLaws.{Continues-itself}
use Rattle.mv_history.proofs.Steps.{Continues-Continues, NamesNoCommit-NamesNoCommit}
use Rattle.section_work.proofs.Exchanges.{leave_none}
use Rattle.section_work.proofs.Outcomes.{read_at}
use Rattle.set_blocks.proofs.Deciding.{lawful_here}
use Rattle.set_catalog.specs.Shortages.{IsKnown}
use Rattle.set_catalog.specs.CommandLaws.{known_later}
use Rattle.set_seats.proofs.walk.walk_in.Goals as goal

pub fill-count-requires : goal.fill-count-requires
fill-count-requires g c =
    let e = c.enter-section.ensures.enters in
    record {
      lawful = lawful_here _ _ (g.S.Open.Section.section c.enter-section.result) (record {
        lawful = g.met.S.Open.Section.lawful c.enter-section.result;
        own = e.own;
        time_is = c.at-time.ensures;
        state_is = g.met.S.Open.Section.reads c.enter-section.result;
      });
    }

pub returns : goal.returns
returns g c =
    let e = c.enter-section.ensures.enters in
    let law = g.met.S.Open.Section.lawful c.enter-section.result in
    let here = g.met.S.Open.Section.reads c.enter-section.result in
    let same = g.met.S.Open.Section.others_stay _ _ c.fill-count.ensures.as_before in
    let goes = g.met.S.Open.Section.goes_on _ _ c.fill-count.ensures.as_before in
    let left = subst (λ (s : Seat). Leaves (g.S.Open.Section.section c.fill-count.new.view) s) (g.met.S.Store.same_seat _) c.leave.ensures.leaves in
    let after = Continues-Continues goes.continues left.continues in
    let on = Continues-Continues e.seat.continues after in
    record {
      walked = record {
        read = read_at _ _ _ _ _ _ _ _ _ _ _ (Continues-itself _) refl e c.enter-section.ensures.took law.at same left here c.at-time.ensures refl
            c.fill-count.ensures.written;
        rests = left.rests ∙ same.seat.rests ∙ e.seat.rests;
        none = leave_none _ _ _ (Continues-Continues e.seat.continues goes.continues)
            (NamesNoCommit-NamesNoCommit e.seat.continues goes.continues e.names_no_commit goes.names_no_commit) left;
      };
      continues = on;
      known = subst (λ k. IsKnown (g.S.Store.seat_of c.leave.result) k) (sym c.fill-count.ensures.known)
          (known_later c.args.memo.now.known on c.requires.known);
    }
