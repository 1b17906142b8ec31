use Rattle.set_blocks.proofs.Terms.{take, sym, subst, IsLawful}
use Rattle.set_blocks.proofs.Turning.{key_stays, pair_held, turn_kept}
use Rattle.set_blocks.proofs.turns.turn_pair.Goals as goal

pub hold_key-other-requires-clause-lawful : goal.hold_key-other-requires-clause-lawful
hold_key-other-requires-clause-lawful g c =
    let o = c.args.overlay.now in
    let mid = c.hold_key-one.new.overlay in
    subst IsLawful (sym (key_stays (g.V.View.state o.view) (g.V.View.state mid.view) (take o.count o.writes) (take mid.count mid.writes)
    c.args.first c.args.key c.hold_key-one.result o.distinct
    (g.met.V.View.same_state o.view mid.view c.hold_key-one.ensures.view) c.hold_key-one.ensures.told)) c.requires.lawful

pub returns-clause-turn : goal.returns-clause-turn
returns-clause-turn g c =
    let o = c.args.overlay.now in
    let mid = c.hold_key-one.new.overlay in
    turn_kept _ _ _ _ _ (pair_held (g.V.View.state o.view) (g.V.View.state mid.view) (take o.count o.writes) (take mid.count mid.writes) _
    c.args.first c.args.second c.args.key c.hold_key-one.result c.hold_key-other.result o.distinct
    (g.met.V.View.same_state o.view mid.view c.hold_key-one.ensures.view) c.hold_key-one.ensures.told c.hold_key-other.ensures.told)
