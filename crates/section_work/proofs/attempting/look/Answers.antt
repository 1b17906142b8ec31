use Rattle.section_work.proofs.Terms.{◌≡◌, ◌∙◌, sym, arith, snapshot_of, snapshot_of-goes_on}
use Rattle.section_work.proofs.Entering.{reads_snapshot}
use Rattle.section_work.proofs.attempting.look.Goals as goal

pub decide-section-requires : goal.decide-section-requires
decide-section-requires g c =
    let e = c.enter-section.ensures.enters in record {
      accepts = c.requires.accepts;
      here = (
        g.S.Open.Section.section c.enter-section.result,
        record {
          lawful = g.met.S.Open.Section.lawful c.enter-section.result;
          own = e.own;
          time_is = c.at-time.ensures;
          state_is = g.met.S.Open.Section.reads c.enter-section.result;
        },
        g.met.W.Work.knows_on _ _ _ e.seat.continues c.requires.knows,
      );
    }

pub returns : goal.returns
returns g c =
    let e = c.enter-section.ensures.enters in
    let law = g.met.S.Open.Section.lawful c.enter-section.result in
    let here = g.met.S.Open.Section.reads c.enter-section.result in
    let same = g.met.S.Open.Section.others_stay _ _ c.decide-section.ensures.as_before in
    let goes = g.met.S.Open.Section.goes_on _ _ c.decide-section.ensures.as_before in
    let seen : g.S.Open.View.state c.enter-section.result ≡ snapshot_of (g.S.Open.Section.section c.decide-section.result.0) =
    here ∙ reads_snapshot (g.S.Open.Section.section c.enter-section.result) e.own ∙ sym (snapshot_of-goes_on _ _ goes law.at) in
    let last : c.last-last.result ≡ (g.S.Open.Section.section c.decide-section.result.0).seat.last = c.last-last.ensures ∙ sym same.seat.continues.last in
    record {
      looks = record {
        entered = c.enter-section.result;
        into = record { enters = e; took = c.enter-section.ensures.took; only_read = c.decide-section.ensures.as_before };
        at = law.at;
        same = same;
        goes_on = goes;
        time_is = c.at-time.ensures;
      };
      settled = λ reply is. rw (← seen, ← last) (c.in_time-found.ensures.settled _ _ reply c.decide-section.ensures.found is);
      change = λ plan reply is.
          let f = c.in_time-found.ensures.change plan reply is in
          let h = rw f.1 at c.decide-section.ensures.found in
          record {
            early = omega (arith, f.0, c.at-time.ensures, last, law.at, law.seat.time, same.at, same.seat.continues.base, same.seat.continues.last);
            changing = rw (← seen) h.0;
            planned = rw (← seen) h.1;
          };
      knows = g.met.W.Work.knows_on _ _ _ goes.continues
          (c.decide-section.ensures.knows _ (record { lawful = law; own = e.own; time_is = c.at-time.ensures; state_is = here })
          (g.met.W.Work.knows_on _ _ _ e.seat.continues c.requires.knows));
      notes = rw (← seen) c.decide-section.ensures.notes;
    }
