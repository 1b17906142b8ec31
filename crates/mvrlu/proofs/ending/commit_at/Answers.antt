use Rattle.std.proofs.Common.{rules, ◌≡◌, ◌<◌, ◌≤◌, ◌+◌, ◌-◌, length, All, arith, sym, ap, ◌∙◌, subst, drop}
use Rattle.mv_history.specs.declared.answers.Rival.{Rival}
use Rattle.mv_history.specs.State.{maker_of}
use Rattle.mv_history.specs.Drift.{IsFit}
use Rattle.mv_history.specs.Meaning.{snapshot_of, IsWorn}
use Rattle.mv_history.specs.Calls.{Commits, IsAsBefore, Overtakes}
use Rattle.mv_layout.specs.declared.Config.{Config}
use Rattle.object_lock.specs.seat_log.Notes.{Noted}
use Rattle.object_lock.specs.seat_log.Stands.{Stands}
use Rattle.object_lock.specs.version_chain.Walks.{section_in}
use Rattle.object_lock.proofs.OwnNotes.{own_long}
use Rattle.commit_abort.specs.Commits as core
use Rattle.mvrlu.specs.Placed.{Placed, placed, seat_from, section_from}
use Rattle.mvrlu.specs.Causes.{Loaded}
use Rattle.mvrlu.specs.Bounds.{MakesAtMost}
use Rattle.mvrlu.proofs.Alone.{within_seats}
use Rattle.mvrlu.proofs.Trails.{few_made, few_more, one_at_most, none_at_most, one_won_of, one_lost_of}
use Rattle.mvrlu.proofs.Names.{fits_on}
use Rattle.mvrlu.proofs.Lawful.{seat_lawful, section_lawful}
use Rattle.mvrlu.proofs.Committed.{may_commit, commits, loads_before, done_idle, kept_as_before, kept_busy, overtakes, worn, loads_last}
use Rattle.mvrlu.proofs.Behind.{lend_busy}
use Rattle.mv_history.specs.Trail.{commit_exchanges, IsOneWon, IsOneLost}
use Rattle.mvrlu.proofs.ending.commit_at.Goals as goal

pub commit-requires : goal.commit-requires
commit-requires g c κs within =
    let i = c.deref_mut.result.now in
    let l = lend_busy c.args.shared.now c.deref_mut.ensures.value c.busy.view_is c.requires.fits c.busy.invariant in
    let p = placed i.pass i.log in
    let some = subst (λ (x : Placed). 0 < length (section_from x).own) (sym l.view_is) c.requires.some in
    let fit = subst (λ (x : Placed). IsFit g.P.Protocol.allowed (snapshot_of (section_from x)) c.args.tag (section_from x).own)
    (sym l.view_is) c.requires.fit in (
      search rules,
      (
        search rules,
        (
          l.of,
          (
            subst (λ (d : Config). core.MayCommit g.P.Protocol.allowed d p.view c.args.tag (section_in p.view)) (sym l.config)
                (may_commit g.P.Protocol.start g.P.Protocol.allowed p c.args.tag l.is some fit),
            (l.stands, l.is.placed.unbuilt),
          ),
        ),
      ),
    )

-- done
pub invariant_of-result : goal.invariant_of-result
invariant_of-result g c =
    let i = c.deref_mut.result.now in
    let l = lend_busy c.args.shared.now c.deref_mut.ensures.value c.busy.view_is c.requires.fits c.busy.invariant in
    let e = c.in-Done.ensures in
    let p = placed i.pass i.log in
    let q = placed c.commit.new.pass c.commit.new.log in
    let ends = subst (λ (d : Config). core.Commits d p.view q.view (section_in p.view) c.args.tag c.in-Done.time) l.config e.ends in
    done_idle p q e.same.2 e.same.0 l.is.placed.base c.args.tag c.in-Done.time ends g.P.Protocol.start g.P.Protocol.allowed l.is c.commit.new.pass.known
    (subst (λ (d : Config). Stands d q.view q.log) (l.config ∙ sym e.same.2) e.stands) (ap (λ (n : Noted). n.built) e.log ∙ l.is.placed.unbuilt)

pub returns-in-Done : goal.returns-in-Done
returns-in-Done g c =
    let i = c.deref_mut.result.now in
    let l = lend_busy c.args.shared.now c.deref_mut.ensures.value c.busy.view_is c.requires.fits c.busy.invariant in
    let e = c.in-Done.ensures in
    let p = placed i.pass i.log in
    let q = placed c.commit.new.pass c.commit.new.log in
    let ends = subst (λ (d : Config). core.Commits d p.view q.view (section_in p.view) c.args.tag c.in-Done.time) l.config e.ends in
    let stands = l.is.placed.stands in
    let long = own_long p.config p.view p.log stands in
    let held = stands.held in
    let few = e.ends.loads.few in
    let idle = done_idle p q e.same.2 e.same.0 l.is.placed.base c.args.tag c.in-Done.time ends g.P.Protocol.start g.P.Protocol.allowed l.is
    c.commit.new.pass.known
    (subst (λ (d : Config). Stands d q.view q.log) (l.config ∙ sym e.same.2) e.stands) (ap (λ (n : Noted). n.built) e.log ∙ l.is.placed.unbuilt) in
    record {
      fits_done = (
        fits_on c.args.shared.now i.pass c.commit.new.pass i.log c.commit.new.log e.same l.fits,
        seat_lawful g.P.Protocol.start g.P.Protocol.allowed g.P.Protocol.one_start g.P.Protocol.one_allowed q idle.placed,
      );
      fits_again = tt;
      fits_end = tt;
      done = subst (λ (x : Placed). Commits (section_from x) c.args.tag (seat_from q) c.in-Done.time
          × Loaded (section_from x) (seat_from q) (c.in-Done.time - 1)) l.view_is (
            commits p q e.same.2 e.same.0 l.is.placed.base c.args.tag c.in-Done.time ends,
            loads_before p q e.same.2 e.same.0 l.is.placed.base c.args.tag c.in-Done.time ends,
          );
      again = tt;
      end = tt;
      alone = tt;
      at_most_one = subst (λ (x : Placed). length (commit_exchanges (drop (length x.view.trail) q.view.trail)) ≤ 1) l.view_is
          (one_at_most p.view.trail q.view.trail e.ends.steps e.ends.one_won.step e.ends.loads.trail e.ends.one_won.one);
      one_won = subst (λ (x : Placed). IsOneWon (commit_exchanges (drop (length x.view.trail) q.view.trail))) l.view_is
          (one_won_of p.view.trail q.view.trail e.ends.steps e.ends.loads.trail e.ends.one_won);
      one_lost = tt;
      aborts = ap (λ (n : Noted). n.aborts) e.log ∙ ap (λ (x : Placed). x.log.aborts) l.view_is;
      bound = subst (λ (x : Placed). MakesAtMost (seat_from x) (seat_from q) (8 + length (section_from x).own)) l.view_is
          (few_made p.view.trail q.view.trail e.ends.steps _ e.ends.loads.trail (omega arith));
    }

-- overtaken
pub invariant_of-result-in-Again : goal.invariant_of-result-in-Again
invariant_of-result-in-Again g c =
    let i = c.deref_mut.result.now in
    let l = lend_busy c.args.shared.now c.deref_mut.ensures.value c.busy.view_is c.requires.fits c.busy.invariant in
    let e = c.in-Again.ensures in
    let p = placed i.pass i.log in
    let q = placed c.commit.new.pass c.commit.new.log in
    kept_busy p q e.same.2 e.same.0 l.is.placed.base e.ends.steps e.ends.loads.trail e.ends.kept g.P.Protocol.start g.P.Protocol.allowed l.is
    c.commit.new.pass.known (subst (λ (d : Config). Stands d q.view q.log) (l.config ∙ sym e.same.2) e.stands) e.log

pub returns-in-Again : goal.returns-in-Again
returns-in-Again g c =
    let i = c.deref_mut.result.now in
    let l = lend_busy c.args.shared.now c.deref_mut.ensures.value c.busy.view_is c.requires.fits c.busy.invariant in
    let e = c.in-Again.ensures in
    let p = placed i.pass i.log in
    let q = placed c.commit.new.pass c.commit.new.log in
    let rival : Rival = c.in-Again.rival in
    let ends = subst (λ (d : Config). core.IsOvertakenBy d p.view q.view (section_in p.view) rival) l.config e.ends in
    let busy = kept_busy p q e.same.2 e.same.0 l.is.placed.base e.ends.steps e.ends.loads.trail e.ends.kept g.P.Protocol.start g.P.Protocol.allowed l.is
    c.commit.new.pass.known (subst (λ (d : Config). Stands d q.view q.log) (l.config ∙ sym e.same.2) e.stands) e.log in
    record {
      fits_done = tt;
      fits_again = (
        fits_on c.args.shared.now i.pass c.commit.new.pass i.log c.commit.new.log e.same l.fits,
        section_lawful g.P.Protocol.start g.P.Protocol.allowed g.P.Protocol.one_start g.P.Protocol.one_allowed q busy,
      );
      fits_end = tt;
      done = tt;
      again = subst (λ (x : Placed). IsAsBefore (section_from x) (section_from q)
          × Overtakes (section_from x) (section_from q) rival.seat rival.time (Loaded (section_from x) (seat_from q))) l.view_is (
            kept_as_before p q e.same.2 e.same.0 l.is.placed.base ends.steps ends.loads.trail ends.kept,
            overtakes p q e.same.2 e.same.0 l.is.placed.base rival ends,
          );
      end = tt;
      alone = λ one.
          let alone : p.config.seats ≡ 1 = ap (λ (x : Placed). x.config.seats) l.view_is ∙ one in
          let makers = subst (λ (d : Config). All (λ x. maker_of x < d.seats) q.view.past.seen) e.same.2 c.commit.new.pass.in_domain.2 in
          let own = l.is.placed.range in
          let made = e.ends.entry in
          let by : maker_of made.0 ≡ rival.seat = made.2 in
          let maker = within_seats _ q.view.past.seen p.config.seats rival.time made.0 makers made.1 in
          e.ends.other (omega arith);
      at_most_one = subst (λ (x : Placed). length (commit_exchanges (drop (length x.view.trail) q.view.trail)) ≤ 1) l.view_is
          (one_at_most p.view.trail q.view.trail e.ends.steps _ e.ends.loads.trail e.ends.one_lost);
      one_won = tt;
      one_lost = subst (λ (x : Placed). IsOneLost (commit_exchanges (drop (length x.view.trail) q.view.trail))) l.view_is
          (one_lost_of p.view.trail q.view.trail e.ends.steps e.ends.found e.ends.loads.trail e.ends.one_lost);
      aborts = ap (λ (n : Noted). n.aborts) e.log ∙ ap (λ (x : Placed). x.log.aborts) l.view_is;
      bound = subst (λ (x : Placed). MakesAtMost (seat_from x) (seat_from q) (8 + length (section_from x).own)) l.view_is
          (few_made p.view.trail q.view.trail e.ends.steps _ e.ends.loads.trail (few_more _ 5 3 (length (section_from p).own) e.ends.loads.few));
    }

-- at the end
pub invariant_of-result-in-End : goal.invariant_of-result-in-End
invariant_of-result-in-End g c =
    let i = c.deref_mut.result.now in
    let l = lend_busy c.args.shared.now c.deref_mut.ensures.value c.busy.view_is c.requires.fits c.busy.invariant in
    let e = c.in-End.ensures in
    let p = placed i.pass i.log in
    let q = placed c.commit.new.pass c.commit.new.log in
    kept_busy p q e.same.2 e.same.0 l.is.placed.base e.ends.steps e.ends.loads.trail e.ends.kept g.P.Protocol.start g.P.Protocol.allowed l.is
    c.commit.new.pass.known (subst (λ (d : Config). Stands d q.view q.log) (l.config ∙ sym e.same.2) e.stands) e.log

pub returns : goal.returns
returns g c =
    let i = c.deref_mut.result.now in
    let l = lend_busy c.args.shared.now c.deref_mut.ensures.value c.busy.view_is c.requires.fits c.busy.invariant in
    let e = c.in-End.ensures in
    let p = placed i.pass i.log in
    let q = placed c.commit.new.pass c.commit.new.log in
    let ends = subst (λ (d : Config). core.IsAtEnd d p.view q.view (section_in p.view)) l.config e.ends in
    let busy = kept_busy p q e.same.2 e.same.0 l.is.placed.base e.ends.steps e.ends.loads.trail e.ends.kept g.P.Protocol.start g.P.Protocol.allowed l.is
    c.commit.new.pass.known (subst (λ (d : Config). Stands d q.view q.log) (l.config ∙ sym e.same.2) e.stands) e.log in
    record {
      fits_done = tt;
      fits_again = tt;
      fits_end = (
        fits_on c.args.shared.now i.pass c.commit.new.pass i.log c.commit.new.log e.same l.fits,
        section_lawful g.P.Protocol.start g.P.Protocol.allowed g.P.Protocol.one_start g.P.Protocol.one_allowed q busy,
      );
      done = tt;
      again = tt;
      end = subst (λ (x : Placed). IsAsBefore (section_from x) (section_from q) × IsWorn (seat_from q)
          × Loaded (section_from x) (seat_from q) 35184372088831) l.view_is (
            kept_as_before p q e.same.2 e.same.0 l.is.placed.base ends.steps ends.loads.trail ends.kept,
            worn p q e.same.2 e.same.0 l.is.placed.base ends,
            loads_last p q e.same.2 e.same.0 l.is.placed.base ends,
          );
      alone = tt;
      at_most_one = subst (λ (x : Placed). length (commit_exchanges (drop (length x.view.trail) q.view.trail)) ≤ 1) l.view_is
          (none_at_most p.view.trail q.view.trail e.ends.steps e.ends.loads.trail e.ends.none);
      one_won = tt;
      one_lost = tt;
      aborts = ap (λ (n : Noted). n.aborts) e.log ∙ ap (λ (x : Placed). x.log.aborts) l.view_is;
      bound = subst (λ (x : Placed). MakesAtMost (seat_from x) (seat_from q) (8 + length (section_from x).own)) l.view_is
          (few_made p.view.trail q.view.trail e.ends.steps _ e.ends.loads.trail (few_more _ 1 7 (length (section_from p).own) e.ends.loads.few));
    }
