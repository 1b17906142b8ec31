use Rattle.std.proofs.Common.{length, refl, sym, ap, ◌∙◌, subst}
use Rattle.mv_history.specs.Meaning.{IsSeat}
use Rattle.mvrlu.specs.Placed.{Placed, placed, seat_from, IsPlaced}
use Rattle.mvrlu.proofs.Behind.{lent_view}
use Rattle.mvrlu.proofs.Lawful.{seat_lawful}
use Rattle.mvrlu.proofs.rooms.Made.{room_left, made_nothing, room_after_round, made_round, made_tidy, room_for, room_of_empty, short_by, not_alone, same_holder}
use Rattle.mvrlu.proofs.rooms.Made.{live_within, none_named, still_prepared}
use Rattle.mvrlu.proofs.reclaiming.make_room.Goals as goal

pub returns-then-used-config-clause-lawful : goal.returns-then-used-config-clause-lawful
returns-then-used-config-clause-lawful g c =
    let i = c.idle.inside.place.value in
    let p = placed i.pass i.log in
    subst (λ (x : Placed). IsSeat g.P.Protocol.start g.P.Protocol.allowed (seat_from x)) c.idle.view_is
    (seat_lawful g.P.Protocol.start g.P.Protocol.allowed g.P.Protocol.one_start g.P.Protocol.one_allowed p c.idle.invariant.placed)

-- below `low`
pub returns-then-used-config-clause-room : goal.returns-then-used-config-clause-room
returns-then-used-config-clause-room g c =
    let is = subst (λ (x : Placed). IsPlaced g.P.Protocol.start g.P.Protocol.allowed x) c.idle.view_is c.idle.invariant.placed in
    let view_is = lent_view c.deref.result.now c.idle.inside.place.value c.deref.ensures _ c.idle.view_is in
    let live = c.live-used.ensures ∙ ap (λ (x : Placed). length x.log.live) view_is in
    made_nothing c.args.shared.now c.args.idle.now _ _ is.stands c.requires.fits c.config-config.ensures live
    c.if-used-config.true

pub returns-then-used-config-clause-enough : goal.returns-then-used-config-clause-enough
returns-then-used-config-clause-enough g c _ =
    let is = subst (λ (x : Placed). IsPlaced g.P.Protocol.start g.P.Protocol.allowed x) c.idle.view_is c.idle.invariant.placed in
    let view_is = lent_view c.deref.result.now c.idle.inside.place.value c.deref.ensures _ c.idle.view_is in
    let live = c.live-used.ensures ∙ ap (λ (x : Placed). length x.log.live) view_is in
    room_left c.args.shared.now c.args.idle.now _ _ is.stands c.requires.fits c.config-config.ensures live
    c.if-used-config.true

pub returns-then-used-config-clause-prepares : goal.returns-then-used-config-clause-prepares
returns-then-used-config-clause-prepares g c = still_prepared (seat_from c.args.idle.now)

pub returns-then-used-config-clause-short : goal.returns-then-used-config-clause-short
returns-then-used-config-clause-short g c holder e = absurd (none_named holder e)

pub returns-then-used-config-clause-ends : goal.returns-then-used-config-clause-ends
returns-then-used-config-clause-ends g c holder one e = absurd (none_named holder e)

pub returns-then-used-config-clause-alone : goal.returns-then-used-config-clause-alone
returns-then-used-config-clause-alone g c one early = refl

-- below `high`
pub returns-then-used-config-2-clause-room : goal.returns-then-used-config-2-clause-room
returns-then-used-config-2-clause-room g c =
    let is = subst (λ (x : Placed). IsPlaced g.P.Protocol.start g.P.Protocol.allowed x) c.idle.view_is c.idle.invariant.placed in
    let view_is = lent_view c.deref.result.now c.idle.inside.place.value c.deref.ensures _ c.idle.view_is in
    let live = c.live-used.ensures ∙ ap (λ (x : Placed). length x.log.live) view_is in
    made_round c.args.shared.now c.args.idle.now _ _ is.stands c.requires.fits c.config-config.ensures live
    c.round_at.new.idle c.round_at.result c.round_at.ensures.rounds c.if-used-config.false c.if-used-config-2.true

pub returns-then-used-config-2-clause-enough : goal.returns-then-used-config-2-clause-enough
returns-then-used-config-2-clause-enough g c _ =
    let is = subst (λ (x : Placed). IsPlaced g.P.Protocol.start g.P.Protocol.allowed x) c.idle.view_is c.idle.invariant.placed in
    let view_is = lent_view c.deref.result.now c.idle.inside.place.value c.deref.ensures _ c.idle.view_is in
    let live = c.live-used.ensures ∙ ap (λ (x : Placed). length x.log.live) view_is in
    room_after_round c.args.shared.now c.args.idle.now _ _ is.stands c.requires.fits c.config-config.ensures live
    c.round_at.new.idle c.round_at.result c.round_at.ensures.rounds c.if-used-config-2.true

pub returns-then-used-config-2-clause-short : goal.returns-then-used-config-2-clause-short
returns-then-used-config-2-clause-short g c holder e = absurd (none_named holder e)

pub returns-then-used-config-2-clause-ends : goal.returns-then-used-config-2-clause-ends
returns-then-used-config-2-clause-ends g c holder one e = absurd (none_named holder e)

pub returns-then-used-config-2-clause-alone : goal.returns-then-used-config-2-clause-alone
returns-then-used-config-2-clause-alone g c one early = refl

-- from `high` on, where one holds the log
pub returns-in-Some-clause-room : goal.returns-in-Some-clause-room
returns-in-Some-clause-room g c =
    let is = subst (λ (x : Placed). IsPlaced g.P.Protocol.start g.P.Protocol.allowed x) c.idle.view_is c.idle.invariant.placed in
    let view_is = lent_view c.deref.result.now c.idle.inside.place.value c.deref.ensures _ c.idle.view_is in
    let live = c.live-used.ensures ∙ ap (λ (x : Placed). length x.log.live) view_is in
    made_tidy c.args.shared.now c.args.idle.now _ _ is.stands c.requires.fits c.config-config.ensures live
    c.tidy_at-left.new.idle c.tidy_at-left.result c.tidy_at-left.ensures.tidies c.if-used-config.false c.if-used-config-2.false

pub returns-in-Some-clause-short : goal.returns-in-Some-clause-short
returns-in-Some-clause-short g c other e =
    let is = subst (λ (x : Placed). IsPlaced g.P.Protocol.start g.P.Protocol.allowed x) c.idle.view_is c.idle.invariant.placed in
    let view_is = lent_view c.deref.result.now c.idle.inside.place.value c.deref.ensures _ c.idle.view_is in
    let live = c.live-used.ensures ∙ ap (λ (x : Placed). length x.log.live) view_is in
    short_by c.args.shared.now c.args.idle.now _ _ is.stands c.requires.fits c.config-config.ensures live
    c.tidy_at-left.new.idle c.tidy_at-left.result c.tidy_at-left.ensures.tidies
    g.P.Protocol.start g.P.Protocol.allowed c.tidy_at-left.ensures.places c.in-Some.holder other c.in-Some.is c.if-config-left.true e

pub returns-in-Some-clause-alone : goal.returns-in-Some-clause-alone
returns-in-Some-clause-alone g c one early =
    let is = subst (λ (x : Placed). IsPlaced g.P.Protocol.start g.P.Protocol.allowed x) c.idle.view_is c.idle.invariant.placed in
    let view_is = lent_view c.deref.result.now c.idle.inside.place.value c.deref.ensures _ c.idle.view_is in
    let live = c.live-used.ensures ∙ ap (λ (x : Placed). length x.log.live) view_is in
    not_alone c.args.shared.now c.args.idle.now _ _ is.stands c.requires.fits c.config-config.ensures live
    c.tidy_at-left.new.idle c.tidy_at-left.result c.tidy_at-left.ensures.tidies
    c.if-config-left.true (c.tidy_at-left.ensures.alone one) early c.in-Some.holder

pub returns-in-Some-clause-ends : goal.returns-in-Some-clause-ends
returns-in-Some-clause-ends g c other one e =
    sym (same_holder c.in-Some.holder other e) ∙ (c.tidy_at-left.ensures.alone one).ends c.in-Some.holder c.in-Some.is

pub overflow_sub-config : goal.overflow_sub-config
overflow_sub-config g c =
    let is = subst (λ (x : Placed). IsPlaced g.P.Protocol.start g.P.Protocol.allowed x) c.idle.view_is c.idle.invariant.placed in
    let view_is = lent_view c.deref.result.now c.idle.inside.place.value c.deref.ensures _ c.idle.view_is in
    let live = c.live-used.ensures ∙ ap (λ (x : Placed). length x.log.live) view_is in
    live_within c.args.shared.now c.args.idle.now _ _ is.stands c.requires.fits c.config-config.ensures live
    c.tidy_at-left.new.idle c.tidy_at-left.result c.tidy_at-left.ensures.tidies

pub returns-in-Some-clause-enough : goal.returns-in-Some-clause-enough
returns-in-Some-clause-enough g c e = absurd (none_named c.in-Some.holder (sym e))

-- where it leaves room
pub returns-in_default-clause-room : goal.returns-in_default-clause-room
returns-in_default-clause-room g c =
    let is = subst (λ (x : Placed). IsPlaced g.P.Protocol.start g.P.Protocol.allowed x) c.idle.view_is c.idle.invariant.placed in
    let view_is = lent_view c.deref.result.now c.idle.inside.place.value c.deref.ensures _ c.idle.view_is in
    let live = c.live-used.ensures ∙ ap (λ (x : Placed). length x.log.live) view_is in
    made_tidy c.args.shared.now c.args.idle.now _ _ is.stands c.requires.fits c.config-config.ensures live
    c.tidy_at-left.new.idle c.tidy_at-left.result c.tidy_at-left.ensures.tidies c.if-used-config.false c.if-used-config-2.false

pub returns-in_default-clause-enough : goal.returns-in_default-clause-enough
returns-in_default-clause-enough g c _ =
    let is = subst (λ (x : Placed). IsPlaced g.P.Protocol.start g.P.Protocol.allowed x) c.idle.view_is c.idle.invariant.placed in
    let view_is = lent_view c.deref.result.now c.idle.inside.place.value c.deref.ensures _ c.idle.view_is in
    let live = c.live-used.ensures ∙ ap (λ (x : Placed). length x.log.live) view_is in
    room_for c.args.shared.now c.args.idle.now _ _ is.stands c.requires.fits c.config-config.ensures live
    c.tidy_at-left.new.idle c.tidy_at-left.result c.tidy_at-left.ensures.tidies c.if-config-left.false

pub returns-in_default-clause-short : goal.returns-in_default-clause-short
returns-in_default-clause-short g c holder e = absurd (none_named holder e)

pub returns-in_default-clause-ends : goal.returns-in_default-clause-ends
returns-in_default-clause-ends g c holder one e = absurd (none_named holder e)

pub returns-in_default-clause-alone : goal.returns-in_default-clause-alone
returns-in_default-clause-alone g c one early = refl

-- and where the log is empty
pub returns-in_default-2-clause-room : goal.returns-in_default-2-clause-room
returns-in_default-2-clause-room g c =
    let is = subst (λ (x : Placed). IsPlaced g.P.Protocol.start g.P.Protocol.allowed x) c.idle.view_is c.idle.invariant.placed in
    let view_is = lent_view c.deref.result.now c.idle.inside.place.value c.deref.ensures _ c.idle.view_is in
    let live = c.live-used.ensures ∙ ap (λ (x : Placed). length x.log.live) view_is in
    made_tidy c.args.shared.now c.args.idle.now _ _ is.stands c.requires.fits c.config-config.ensures live
    c.tidy_at-left.new.idle c.tidy_at-left.result c.tidy_at-left.ensures.tidies c.if-used-config.false c.if-used-config-2.false

pub returns-in_default-2-clause-enough : goal.returns-in_default-2-clause-enough
returns-in_default-2-clause-enough g c _ =
    let is = subst (λ (x : Placed). IsPlaced g.P.Protocol.start g.P.Protocol.allowed x) c.idle.view_is c.idle.invariant.placed in
    let view_is = lent_view c.deref.result.now c.idle.inside.place.value c.deref.ensures _ c.idle.view_is in
    let live = c.live-used.ensures ∙ ap (λ (x : Placed). length x.log.live) view_is in
    room_of_empty c.args.shared.now c.args.idle.now _ _ is.stands c.requires.fits c.config-config.ensures live
    c.tidy_at-left.new.idle c.tidy_at-left.result c.tidy_at-left.ensures.tidies c.in_default.is

pub returns-in_default-2-clause-short : goal.returns-in_default-2-clause-short
returns-in_default-2-clause-short g c holder e = absurd (none_named holder e)

pub returns-in_default-2-clause-ends : goal.returns-in_default-2-clause-ends
returns-in_default-2-clause-ends g c holder one e = absurd (none_named holder e)

pub returns-in_default-2-clause-alone : goal.returns-in_default-2-clause-alone
returns-in_default-2-clause-alone g c one early = refl
