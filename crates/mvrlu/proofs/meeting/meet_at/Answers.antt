use Rattle.std.proofs.Common.{ℕ, ◌<◌, sym, ◌∙◌, subst, arith}
use Rattle.object_lock.specs.mv_core.Passes.{view, config_of}
use Rattle.mvrlu.proofs.whole.Loads.{HasRead, has_read}
use Rattle.mvrlu.proofs.whole.Met.{has_met}
use Rattle.mvrlu.proofs.meeting.meet_at.Goals as goal

-- the last pass reads what it has seen, whatever was joined
pub invariant_of-result : goal.invariant_of-result
invariant_of-result g c =
    let d = config_of c.args.domain.shared in
    let p = c.join_all-pass.result in
    let of = c.join_all-pass.ensures.of in
    let q = c.load_joined-2.new.pass in
    let one = c.load_joined.ensures.same in
    let two = c.enter.ensures.same in
    let three = c.load_joined-2.ensures.same in
    let reads : HasRead d c.take_tables-tables.result.items (view q) =
    has_read g.P.Protocol.start g.P.Protocol.allowed g.P.Protocol.one_start g.P.Protocol.one_allowed d c.take_tables-tables.result.items (view p)
    (view c.load_joined.new.pass) (view c.enter.new.pass) (view q) c.load_joined.result c.load_joined-2.result c.enter.result of.2
    c.load_joined.ensures.view c.enter.ensures.begins c.load_joined-2.ensures.view q.known in
    record {
      of = (
        three.0 ∙ two.0 ∙ one.0 ∙ of.0,
        subst (λ (n : ℕ). n < d.seats) (sym (three.1 ∙ two.1 ∙ one.1)) of.1,
        three.3 ∙ two.3 ∙ one.3 ∙ of.2,
        three.4 ∙ two.4 ∙ one.4 ∙ of.3,
        three.2 ∙ two.2 ∙ one.2 ∙ of.4,
      );
      may = reads.may;
      after = reads.after;
      seen = reads.seen;
    }

pub returns-clause-sound : goal.returns-clause-sound
returns-clause-sound g c =
    let d = config_of c.args.domain.shared in
    let p = c.join_all-pass.result in
    let of = c.join_all-pass.ensures.of in
    let q = c.load_joined-2.new.pass in
    (has_read g.P.Protocol.start g.P.Protocol.allowed g.P.Protocol.one_start g.P.Protocol.one_allowed d c.take_tables-tables.result.items (view p)
    (view c.load_joined.new.pass) (view c.enter.new.pass) (view q) c.load_joined.result c.load_joined-2.result c.enter.result of.2
    c.load_joined.ensures.view c.enter.ensures.begins c.load_joined-2.ensures.view q.known).sound

pub returns-clause-numbered : goal.returns-clause-numbered
returns-clause-numbered g c =
    let d = config_of c.args.domain.shared in
    let p = c.join_all-pass.result in
    let of = c.join_all-pass.ensures.of in
    let q = c.load_joined-2.new.pass in
    (has_read g.P.Protocol.start g.P.Protocol.allowed g.P.Protocol.one_start g.P.Protocol.one_allowed d c.take_tables-tables.result.items (view p)
    (view c.load_joined.new.pass) (view c.enter.new.pass) (view q) c.load_joined.result c.load_joined-2.result c.enter.result of.2
    c.load_joined.ensures.view c.enter.ensures.begins c.load_joined-2.ensures.view q.known).numbered

-- and all there is, since all were joined
pub returns-clause-law : goal.returns-clause-law
returns-clause-law g c =
    let d = config_of c.args.domain.shared in
    let p = c.join_all-pass.result in
    let of = c.join_all-pass.ensures.of in
    let q = c.load_joined-2.new.pass in
    (has_met g.P.Protocol.start g.P.Protocol.allowed g.P.Protocol.one_start g.P.Protocol.one_allowed d c.take_tables-tables.result.items
    c.args.seats.items (view p)
    (view c.load_joined.new.pass) (view c.enter.new.pass) (view q)
    c.load_joined.result c.load_joined-2.result c.enter.result c.requires.all.many c.requires.all.apart (subst (λ (n : ℕ). n < d.seats) p.numbered of.1) of.2
    c.join_all-pass.ensures.joined c.load_joined.ensures.view c.enter.ensures.begins c.load_joined-2.ensures.view q.known).law

pub returns-clause-short : goal.returns-clause-short
returns-clause-short g c =
    let d = config_of c.args.domain.shared in
    let p = c.join_all-pass.result in
    let of = c.join_all-pass.ensures.of in
    let q = c.load_joined-2.new.pass in
    (has_met g.P.Protocol.start g.P.Protocol.allowed g.P.Protocol.one_start g.P.Protocol.one_allowed d c.take_tables-tables.result.items
    c.args.seats.items (view p)
    (view c.load_joined.new.pass) (view c.enter.new.pass) (view q)
    c.load_joined.result c.load_joined-2.result c.enter.result c.requires.all.many c.requires.all.apart (subst (λ (n : ℕ). n < d.seats) p.numbered of.1) of.2
    c.join_all-pass.ensures.joined c.load_joined.ensures.view c.enter.ensures.begins c.load_joined-2.ensures.view q.known).short

pub returns-clause-opening : goal.returns-clause-opening
returns-clause-opening g c =
    let of = c.join_all-pass.ensures.of in
    let one = c.load_joined.ensures.same in
    let two = c.enter.ensures.same in
    let three = c.load_joined-2.ensures.same in
    (three.4 ∙ two.4 ∙ one.4 ∙ of.3, three.3 ∙ two.3 ∙ one.3 ∙ of.2)

-- each join and each load is one step, and an entering six at most
pub returns-clause-cost : goal.returns-clause-cost
returns-clause-cost g c =
    let many = c.requires.all.many in
    let one = c.join_all-pass.ensures.cost in
    let two = c.load_joined.ensures.step in
    let three = c.enter.ensures.cost in
    let four = c.load_joined-2.ensures.step in
    omega arith
