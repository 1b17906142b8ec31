use Rattle.section_work.proofs.Terms.{◌-◌, ℕ, List, inl, inr, refl, sym, subst, ◌∙◌, Seat, Commits, Continues-Continues, GoesOn-GoesOn, TriesOne, AreWithin}
use Rattle.section_work.proofs.Terms.{length-written}
use Rattle.section_work.proofs.Exchanges.{leaves_none, leave_none, left_one, one_before, one_after, looks_in}
use Rattle.section_work.proofs.Entering.{worn_left}
use Rattle.section_work.proofs.Outcomes.{space_less, change_as, left_as, leaves_at, noted_in, read_in, worn_time, worn_settled, stopped_in, overtaken_in}
use Rattle.section_work.proofs.Outcomes.{done_in}
use Rattle.section_work.proofs.attempting.commit.Goals as goal

pub hold_planned-requires : goal.hold_planned-requires
hold_planned-requires g c = let p = (change_as c.writes.ensures c.requires.change).planned in record {
  space = space_less c.requires.space p.few;
  distinct = p.distinct;
  within = subst (λ (n : ℕ). AreWithin c.writes.result.now n) (sym (length-written _ (g.S.Open.Section.section c.args.section).own)) p.within;
}

pub try_commit-requires : goal.try_commit-requires
try_commit-requires g c =
    let locked = g.S.Open.Section.section c.hold_planned.new.section in
    let p = (change_as (c.in_default.ensures.own ∙ c.writes.ensures) c.requires.change).planned in
    record {
      some = p.some;
      fit = rw (c.tag.ensures, c.in_default.ensures.held.holds.snapshot) p.fit;
    }

pub returns-in-Err : goal.returns-in-Err
returns-in-Err g c =
    let change = change_as c.writes.ensures c.requires.change in
    let r = c.in-Err.ensures.refused in
    let left = left_as (g.met.S.Store.same_seat _) c.abort.ensures in
    let goes = GoesOn-GoesOn r.holds.goes_on r.refused.goes_on in
    let on = Continues-Continues goes.continues left.continues in
    record {
      attempted = λ old before time p l. stopped_in l p change r left;
      follows = record { writes = _; left = c.hold_planned.new.section; refuses = r; leaves = left };
      continues = on;
      at_most_one = left_one goes.continues goes.names_no_commit left;
      knows = g.met.W.Work.knows_on _ _ _ on c.requires.knows;
      noted = λ old came. inl refl;
    }

pub returns-in-Done : goal.returns-in-Done
returns-in-Done g c =
    let own = g.S.Open.Section.section c.hold_planned.new.section in
    let tagged = subst (λ (t : List ℕ). Commits own t (g.S.Open.Section.stands c.in-Done.store) c.in-Done.time) c.tag.ensures c.in-Done.ensures.done.0 in
    let made = subst (λ (s : Seat). Commits own (g.W.Work.tag_of c.args.work.now c.args.plan) s c.in-Done.time) (g.met.S.Store.same_seat _) tagged in
    let held = c.in_default.ensures.held in
    let goes = held.holds.goes_on in
    let on = Continues-Continues goes.continues made.continues in
    record {
      attempted = λ old before time p l. done_in l g.W.Rules.Protocol.start
          (λ s b t ws r p d a. g.met.W.Work.makes c.args.work.now s b t ws r c.requires.accepts p d a)
          (g.met.S.Open.Section.lawful c.hold_planned.new.section).at (g.met.S.Store.lawful c.in-Done.store) p
          (change_as (c.in_default.ensures.own ∙ c.writes.ensures) c.requires.change) goes made;
      follows = record {
        locked = c.hold_planned.new.section;
        holds = record { writes = _; rewritten = held };
        tag = _;
        commits = made;
        loaded = subst (λ (s : Seat). g.S.Open.Section.loaded own s (c.in-Done.time - 1)) (g.met.S.Store.same_seat _) c.in-Done.ensures.done.1;
      };
      continues = on;
      at_most_one = one_before goes.continues made.continues goes.names_no_commit
          (subst (λ (s : Seat). TriesOne own.seat s) (g.met.S.Store.same_seat _) c.in-Done.ensures.at_most_one);
      knows = g.met.W.Work.knows_on _ _ _ on c.requires.knows;
      noted = λ old came. inl refl;
    }

pub returns-in-Again : goal.returns-in-Again
returns-in-Again g c =
    let held = c.in_default.ensures.held in
    let goes = held.holds.goes_on in
    let again = c.in-Again.ensures.again in
    let same = again.1.seat.continues in
    let left = left_as (g.met.S.Store.same_seat _) c.abort-in-Again.ensures in
    let after = Continues-Continues same left.continues in
    let on = Continues-Continues goes.continues after in
    record {
      follows = record {
        locked = c.hold_planned.new.section;
        holds = record { writes = _; rewritten = held };
        left = c.in-Again.section;
        stays = again.1;
        overtakes = again.2;
        leaves = left;
      };
      attempted = λ old before time p l. overtaken_in l p c.requires.change (c.in_default.ensures.own ∙ c.writes.ensures) goes again.0 again.1 again.2
          c.in-Again.ensures.one_lost left;
      continues = on;
      at_most_one = one_before goes.continues after goes.names_no_commit
          (one_after same left.continues c.in-Again.ensures.at_most_one (leaves_none _ _ left));
      knows = g.met.W.Work.knows_on _ _ _ on c.requires.knows;
      noted = λ old came. inl refl;
    }

pub look-section-requires : goal.look-section-requires
look-section-requires g c =
    let left = left_as (g.met.S.Store.same_seat _) c.abort-in-End.ensures in
    record {
      accepts = c.requires.accepts;
      knows = g.met.W.Work.knows_on _ _ _
          (Continues-Continues c.in_default.ensures.held.holds.goes_on.continues (Continues-Continues c.in-End.ensures.end.0.seat.continues left.continues))
          c.requires.knows;
    }

pub unreachable-requires : goal.unreachable-requires
unreachable-requires g c =
    let l = c.look-section.ensures in
    let end = c.in-End.ensures.end in
    let left = left_as (g.met.S.Store.same_seat _) c.abort-in-End.ensures in
    worn_settled l.looks (worn_left _ _ _ end.0 end.1 left (g.met.S.Store.lawful c.abort-in-End.result).time) (l.change _ _ c.in_default-found.is).early

pub returns : goal.returns
returns g c =
    let held = c.in_default.ensures.held in
    let goes = held.holds.goes_on in
    let end = c.in-End.ensures.end in
    let left = left_as (g.met.S.Store.same_seat _) c.abort-in-End.ensures in
    let worn = worn_left _ _ _ end.0 end.1 left (g.met.S.Store.lawful c.abort-in-End.result).time in
    let l = c.look-section.ensures in
    let there = leaves_at l.looks (g.met.S.Store.same_seat _) c.leave-store.ensures.leaves c.leave-store.ensures.one_step in
    let again = looks_in (record { continues = left.continues; mine = left.mine; names_no_commit = leaves_none _ _ left }) l.looks.into.enters
    l.looks.goes_on in
    let same = end.0.seat.continues in
    let came = Continues-Continues goes.continues (Continues-Continues same left.continues) in
    let after = Continues-Continues again.continues there.leaves.continues in
    let whole = Continues-Continues same after in
    record {
      follows = inr (record {
        between = _;
        ends = record {
          locked = c.hold_planned.new.section;
          holds = record { writes = _; rewritten = held };
          left = c.in-End.section;
          stays = end.0;
          worn = end.1;
          loaded = end.2;
          leaves = left;
        };
        looks = record { entered = l.looks.entered; found = c.look-section.result.0; looks = l.looks.into; there = there };
        last = worn_time l.looks worn (g.met.S.Open.Section.lawful l.looks.entered).seat.time there.leaves.continues;
      });
      attempted = λ old before time p m.
          let first = looks_in p m.into.enters m.goes_on in
          read_in l.looks (Continues-Continues first.continues came) (left.mine ∙ end.0.seat.mine ∙ goes.mine ∙ first.mine)
          there.leaves.continues there.leaves.mine (l.settled _ c.in-Settled.is);
      continues = Continues-Continues goes.continues whole;
      at_most_one = one_before goes.continues whole goes.names_no_commit
          (one_after same after c.in-End.ensures.at_most_one (leave_none _ _ _ again.continues again.names_no_commit there.leaves));
      knows = g.met.W.Work.knows_on _ _ _ there.leaves.continues l.knows;
      noted = λ old on. inr (noted_in l.looks (Continues-Continues on came) there.leaves.continues l.notes);
    }
