use Rattle.std.proofs.Common.{◌≡◌, ◌+◌, ◌∙◌, sym, subst, arith}
use Rattle.mv_client.proofs.LinkedWalks.{Walked, walked_none, walked_next, found, absent}
use Rattle.directory.proofs.Seeing.{readable, link_read}
use Rattle.directory.specs.declared.rules.TheConstants.{OBJECTS, SHELVES}
use Rattle.directory.specs.Ring.{next_of, IsUser, IsBefore}
use Rattle.directory.proofs.searching.find_before.Goals as goal

pub loop-nth-init : goal.loop-nth-init
loop-nth-init g c = record {
  as_before = g.met.V.View.as_itself _;
  other = λ e. omega (arith, e, c.requires.shelf, c.requires.user);
  walked = λ place r. walked_none r c.requires.shelf c.requires.user;
}

pub read_record-node-requires : goal.read_record-node-requires
read_record-node-requires g c =
    let i = c.loop-nth.invariant in
    let d = c.requires.directory in
    let r = readable d (g.met.V.View.same_state _ _ i.as_before) (i.walked d.1 d.2).below in record { in_range = r.0; words = r.1 }

pub returns-then-next-user-clause-found : goal.returns-then-next-user-clause-found
returns-then-next-user-clause-found g c before e =
    let i = c.loop-nth.invariant in
    let d = c.requires.directory in
    let is = link_read _ c.read_record-node.ensures.record (g.met.V.View.same_state _ _ i.as_before) in
    let same : c.loop-nth.at ≡ before = cc in
    subst (λ o. IsBefore (g.V.View.state c.args.view.now) c.args.shelf o c.args.user) same
    (found d.2 c.requires.shelf c.requires.user (i.walked d.1 d.2) i.other (sym is ∙ c.if-next-user.true))

pub returns-then-next-lt-SHELVES-clause-absent : goal.returns-then-next-lt-SHELVES-clause-absent
returns-then-next-lt-SHELVES-clause-absent g c e on =
    let i = c.loop-nth.invariant in
    let d = c.requires.directory in
    let is = link_read _ c.read_record-node.ensures.record (g.met.V.View.same_state _ _ i.as_before) in
    absent d.2 c.requires.shelf c.requires.user (i.walked d.1 d.2) (omega (arith, is, c.if-next-lt-SHELVES.true)) on

pub loop-nth-preserved : goal.loop-nth-preserved
loop-nth-preserved g c =
    let i = c.loop-nth.invariant in
    let is = link_read _ c.read_record-node.ensures.record (g.met.V.View.same_state _ _ i.as_before) in
    record {
      as_before = g.met.V.View.as_long_before _ _ _ i.as_before c.read_record-node.ensures.as_before;
      other = c.if-next-user.false;
      walked = λ place r. subst (λ n.
          Walked SHELVES OBJECTS (next_of (g.V.View.state c.args.view.now)) place c.args.shelf n c.args.user (c.loop-nth._nth + 1)) (sym is)
          (walked_next r c.requires.shelf c.requires.user (i.walked place r) (subst IsUser is c.if-next-lt-SHELVES.false)
          (λ next. c.if-next-user.false (is ∙ next)));
    }

pub unreachable-requires : goal.unreachable-requires
unreachable-requires g c =
    let d = c.requires.directory in
    let w = c.loop-nth.invariant.walked d.1 d.2 in absurd (let b = d.2.below _ w.below in omega (arith, b, w.count))
