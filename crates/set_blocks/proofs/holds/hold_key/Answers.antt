use Rattle.set_blocks.proofs.Terms.{State, words_at, ap, sym, ◌∙◌, subst, arith}
use Rattle.set_blocks.proofs.Telling.{list_held, root_held, leaf_held}
use Rattle.set_blocks.proofs.Turning.{state_same, room_after, more_after}
use Rattle.set_blocks.proofs.holds.hold_key.Goals as goal

pub returns-then-head-lt-FIRST_ROOT-clause-told : goal.returns-then-head-lt-FIRST_ROOT-clause-told
returns-then-head-lt-FIRST_ROOT-clause-told g c =
    list_held _ _ _ _ c.args.name c.args.key _ c.head_of-head.ensures.head c.find-window.ensures.as_before.1 c.if-head-lt-FIRST_ROOT.true _ _ _ _
    c.find-window.ensures.window _ c.has.ensures c.write.ensures.writes

pub returns-in-None-clause-told : goal.returns-in-None-clause-told
returns-in-None-clause-told g c =
    let same = state_same c.args.overlay.now c.find.new.view c.find.ensures.as_before.1 g.V.View.state
    (g.met.V.View.same_state _ _ c.find.ensures.as_before.0) in
    root_held _ _ _ _ c.args.name c.args.key _ c.head_of-head.ensures.head (c.read-words.ensures.as_before.1 ∙ c.find.ensures.as_before.1)
    c.if-head-lt-FIRST_ROOT.false _ c.in-None.ensures.empty (c.read-words.ensures.words ∙ ap (λ (s : State). words_at s c.head_of-head.result) same)
    c.write-in-None.ensures.writes

pub returns-in-Some-clause-told : goal.returns-in-Some-clause-told
returns-in-Some-clause-told g c =
    leaf_held _ _ _ _ c.args.name c.args.key _ c.head_of-head.ensures.head c.find.ensures.as_before.1 c.if-head-lt-FIRST_ROOT.false _ _ _ _ _
    c.in-Some.ensures.descent _ c.has-in-Some.ensures c.write-in-Some.ensures.writes

pub write-requires : goal.write-requires
write-requires g c =
    record { room = room_after c.args.overlay.now c.find-window.new.view c.find-window.ensures.as_before.1 1 1 c.requires.room (omega arith) }

pub returns-then-head-lt-FIRST_ROOT-clause-view : goal.returns-then-head-lt-FIRST_ROOT-clause-view
returns-then-head-lt-FIRST_ROOT-clause-view g c =
    subst (λ v. g.V.View.as_before c.args.overlay.now.view v) (sym c.write.ensures.view)
    c.find-window.ensures.as_before.0

pub returns-then-head-lt-FIRST_ROOT-clause-count : goal.returns-then-head-lt-FIRST_ROOT-clause-count
returns-then-head-lt-FIRST_ROOT-clause-count g c =
    more_after c.args.overlay.now c.find-window.new.view c.find-window.ensures.as_before.1 1 1 _ c.write.ensures.count (omega arith)

pub write-requires-in-None : goal.write-requires-in-None
write-requires-in-None g c =
    let as_before = c.read-words.ensures.as_before.1 ∙ c.find.ensures.as_before.1 in
    record { room = room_after c.args.overlay.now c.read-words.new.self as_before 1 1 c.requires.room (omega arith) }

pub returns-in-None-clause-view : goal.returns-in-None-clause-view
returns-in-None-clause-view g c =
    subst (λ v. g.V.View.as_before c.args.overlay.now.view v) (sym c.write-in-None.ensures.view)
    (g.met.V.View.as_long_before _ _ _ c.find.ensures.as_before.0 c.read-words.ensures.as_before.0)

pub returns-in-None-clause-count : goal.returns-in-None-clause-count
returns-in-None-clause-count g c =
    let as_before = c.read-words.ensures.as_before.1 ∙ c.find.ensures.as_before.1 in
    more_after c.args.overlay.now c.read-words.new.self as_before 1 1 _ c.write-in-None.ensures.count (omega arith)

pub write-requires-in-Some : goal.write-requires-in-Some
write-requires-in-Some g c =
    record { room = room_after c.args.overlay.now c.find.new.view c.find.ensures.as_before.1 1 1 c.requires.room (omega arith) }

pub returns-in-Some-clause-view : goal.returns-in-Some-clause-view
returns-in-Some-clause-view g c =
    subst (λ v. g.V.View.as_before c.args.overlay.now.view v) (sym c.write-in-Some.ensures.view)
    c.find.ensures.as_before.0

pub returns-in-Some-clause-count : goal.returns-in-Some-clause-count
returns-in-Some-clause-count g c =
    more_after c.args.overlay.now c.find.new.view c.find.ensures.as_before.1 1 1 _ c.write-in-Some.ensures.count (omega arith)
