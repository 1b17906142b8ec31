use Rattle.section_work.proofs.Terms.{inl, refl, arith, Continues-Continues}
use Rattle.section_work.proofs.Exchanges.{one_before, left_one, looks_in}
use Rattle.section_work.proofs.Outcomes.{left_as, space_found, noted_in, leaves_at, stepped_by, read_in, gives_up}
use Rattle.section_work.specs.declared.causes.Cause.TheVariants.{LogFull}
use Rattle.section_work.proofs.attempting.attempt_work.Goals as goal

pub look-section-requires : goal.look-section-requires
look-section-requires g c = record {
  accepts = c.requires.accepts;
  knows = g.met.W.Work.knows_on _ _ _ c.prepare-room.ensures.prepares.continues c.requires.knows;
}

pub returns-in-Settled : goal.returns-in-Settled
returns-in-Settled g c =
    let p = c.prepare-room.ensures.prepares in
    let l = c.look-section.ensures in
    let came = looks_in p l.looks.into.enters l.looks.goes_on in
    let there = leaves_at l.looks (g.met.S.Store.same_seat _) c.leave.ensures.leaves c.leave.ensures.one_step in
    let on = there.leaves.continues in
    record {
      attempted = read_in l.looks p.continues p.mine on there.leaves.mine (l.settled c.in-Settled.reply c.in-Settled.is);
      continues = Continues-Continues came.continues on;
      at_most_one = left_one came.continues came.names_no_commit there.leaves;
      knows = g.met.W.Work.knows_on _ _ _ on l.knows;
      steps = stepped_by l.looks p c.prepare-room.ensures.enough c.prepare-room.ensures.short (inl there);
      noted = (_, noted_in l.looks p.continues on l.notes, inl refl);
    }

pub commit-requires : goal.commit-requires
commit-requires g c =
    let l = c.look-section.ensures in record {
      accepts = c.requires.accepts;
      change = l.change _ _ c.in-Change.is;
      space = space_found l.looks _ (omega (arith, c.requires.most, c.prepare-room.ensures.prepares.continues.write_max))
          (c.prepare-room.ensures.enough c.in-Enough.is);
      knows = l.knows;
    }

pub returns-in-Enough : goal.returns-in-Enough
returns-in-Enough g c =
    let p = c.prepare-room.ensures.prepares in
    let l = c.look-section.ensures in
    let came = looks_in p l.looks.into.enters l.looks.goes_on in
    let made = c.commit.ensures in
    record {
      attempted = made.attempted _ _ _ p l.looks;
      continues = Continues-Continues came.continues made.continues;
      at_most_one = one_before came.continues made.continues came.names_no_commit made.at_most_one;
      knows = made.knows;
      steps = stepped_by l.looks p c.prepare-room.ensures.enough c.prepare-room.ensures.short made.follows;
      noted = (_, noted_in l.looks p.continues made.continues l.notes, made.noted _ came.continues);
    }

pub returns-in-Short : goal.returns-in-Short
returns-in-Short g c =
    let p = c.prepare-room.ensures.prepares in
    let l = c.look-section.ensures in
    let came = looks_in p l.looks.into.enters l.looks.goes_on in
    let left = left_as (g.met.S.Store.same_seat _) c.leave-in-Short.ensures.leaves in
    let short = c.prepare-room.ensures.short c.in-Short.holder c.in-Short.is in
    record {
      attempted = gives_up l.looks p (l.change _ _ c.in-Change.is) (LogFull c.in-Short.holder) left.continues left.mine (short.0, (short.1, short.2));
      continues = Continues-Continues came.continues left.continues;
      at_most_one = left_one came.continues came.names_no_commit left;
      knows = g.met.W.Work.knows_on _ _ _ left.continues l.knows;
      steps = stepped_by l.looks p c.prepare-room.ensures.enough c.prepare-room.ensures.short left;
      noted = (_, noted_in l.looks p.continues left.continues l.notes, inl refl);
    }
