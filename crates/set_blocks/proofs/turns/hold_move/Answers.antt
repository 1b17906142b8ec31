use Rattle.set_blocks.proofs.Terms.{ℕ, take, arith, subst, sym, ◌∙◌, written, IsLawful, ◌<◌}
use Rattle.set_blocks.proofs.Turning.{moved_held, move_held, key_after, count_same, state_same}
use Rattle.set_blocks.proofs.turns.hold_move.Goals as goal

pub returns-then-has-clause-held : goal.returns-then-has-clause-held
returns-then-has-clause-held g c =
    let o = c.args.overlay.now in
    let mid = c.search-end.new.view in
    moved_held (written (g.V.View.state o.view) (take o.count o.writes)) c.requires.lawful c.args.target c.args.key
    (subst (λ (n : ℕ). n < 30) c.index.ensures.is c.index.ensures.few)
    (omega (arith, c.ranges.key.fits)) c.args.source _ (take o.count o.writes) _
    (key_after _ _ _ _ _ _ _ _ (state_same o mid c.search-end.ensures.as_before.1 g.V.View.state (g.met.V.View.same_state _ _ c.search-end.ensures.as_before.0))
    c.search-end.ensures.as_before.1 c.hold_key.ensures.told)
    (sym (c.has.ensures _ _ c.requires.lawful c.search-end.ensures.name_in (omega (arith, c.ranges.key.fits)) c.search-end.ensures.ends) ∙ c.if-has.true)
    c.requires.nothing

pub returns-else-has-clause-held : goal.returns-else-has-clause-held
returns-else-has-clause-held g c =
    let o = c.args.overlay.now in
    let mid = c.search-end.new.view in
    move_held (written (g.V.View.state o.view) (take o.count o.writes)) c.requires.lawful c.args.source c.args.key c.search-end.ensures.name_in
    (omega (arith, c.ranges.key.fits)) c.args.target _ (take o.count o.writes) _
    (key_after _ _ _ _ _ _ _ _ (state_same o mid c.search-end.ensures.as_before.1 g.V.View.state (g.met.V.View.same_state _ _ c.search-end.ensures.as_before.0))
    c.search-end.ensures.as_before.1 c.hold_key-else-has.ensures.told)
    (sym (c.has.ensures _ _ c.requires.lawful c.search-end.ensures.name_in (omega (arith, c.ranges.key.fits)) c.search-end.ensures.ends) ∙ c.if-has.false)

pub hold_key-requires : goal.hold_key-requires
hold_key-requires g c =
    let o = c.args.overlay.now in
    let mid = c.search-end.new.view in
    let same = count_same o mid c.search-end.ensures.as_before.1 in
    let here = state_same o mid c.search-end.ensures.as_before.1 g.V.View.state (g.met.V.View.same_state _ _ c.search-end.ensures.as_before.0) in
    record { lawful = subst IsLawful (sym here) c.requires.lawful; room = omega (arith, same, c.requires.room) }

pub hold_key-requires-else-has : goal.hold_key-requires-else-has
hold_key-requires-else-has g c =
    let o = c.args.overlay.now in
    let mid = c.search-end.new.view in
    let same = count_same o mid c.search-end.ensures.as_before.1 in
    let here = state_same o mid c.search-end.ensures.as_before.1 g.V.View.state (g.met.V.View.same_state _ _ c.search-end.ensures.as_before.0) in
    record { lawful = subst IsLawful (sym here) c.requires.lawful; room = omega (arith, same, c.requires.room) }

pub returns-then-has-clause-view : goal.returns-then-has-clause-view
returns-then-has-clause-view g c = g.met.V.View.as_long_before _ _ _ c.search-end.ensures.as_before.0 c.hold_key.ensures.view

pub returns-then-has-clause-count : goal.returns-then-has-clause-count
returns-then-has-clause-count g c =
    let same = count_same c.args.overlay.now c.search-end.new.view c.search-end.ensures.as_before.1 in
    omega (arith, same, c.hold_key.ensures.count)

pub returns-else-has-clause-view : goal.returns-else-has-clause-view
returns-else-has-clause-view g c = g.met.V.View.as_long_before _ _ _ c.search-end.ensures.as_before.0 c.hold_key-else-has.ensures.view

pub returns-else-has-clause-count : goal.returns-else-has-clause-count
returns-else-has-clause-count g c =
    let same = count_same c.args.overlay.now c.search-end.new.view c.search-end.ensures.as_before.1 in
    omega (arith, same, c.hold_key-else-has.ensures.count)
