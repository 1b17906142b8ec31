use Rattle.set_blocks.proofs.Terms.{State, written, words_at, link, ◌≡◌, true, false, take, ap, sym, ◌∙◌, subst, rules, arith}
use Rattle.set_blocks.proofs.Telling.{list_held, node_held, root_held, leaf_held, entry_held}
use Rattle.set_blocks.proofs.Turning.{state_same, room_after, more_after}
use Rattle.set_blocks.proofs.holds.hold_value.Goals as goal

pub returns-then-not-has-clause-told : goal.returns-then-not-has-clause-told
returns-then-not-has-clause-told g c =
    let missed : c.has.result ≡ false = search (rules, c.if-not-has.true) in
    list_held _ _ _ _ c.args.name c.args.key _ c.head_of-head.ensures.head c.find-window.ensures.as_before.1 c.if-head-lt-FIRST_ROOT.true _ _ _ _
    c.find-window.ensures.window false (sym missed ∙ c.has.ensures) c.write.ensures.writes

pub returns-then-head-lt-FIRST_ROOT-clause-told : goal.returns-then-head-lt-FIRST_ROOT-clause-told
returns-then-head-lt-FIRST_ROOT-clause-told g c =
    let found : c.has.result ≡ true = search (rules, c.if-not-has.false) in
    node_held _ _ _ _ c.args.name c.args.key _ c.head_of-head.ensures.head c.find-window.ensures.as_before.1 c.if-head-lt-FIRST_ROOT.true _ _ _ _
    c.find-window.ensures.window (sym found ∙ c.has.ensures) c.write-then-head-lt-FIRST_ROOT.ensures.writes

pub returns-in_default-clause-told : goal.returns-in_default-clause-told
returns-in_default-clause-told g c =
    let o = c.args.overlay.now in
    let same = state_same o c.find.new.view c.find.ensures.as_before.1 g.V.View.state (g.met.V.View.same_state _ _ c.find.ensures.as_before.0) in
    let none : link (written (g.V.View.state o.view) (take o.count o.writes)) c.head_of-head.result ≡ 0 = search (rules, c.in_default.ensures.empty) in
    root_held _ _ _ _ c.args.name c.args.key _ c.head_of-head.ensures.head (c.read-words.ensures.as_before.1 ∙ c.find.ensures.as_before.1)
    c.if-head-lt-FIRST_ROOT.false _ none (c.read-words.ensures.words ∙ ap (λ (s : State). words_at s c.head_of-head.result) same)
    c.write-in_default.ensures.writes

pub returns-then-has-clause-told : goal.returns-then-has-clause-told
returns-then-has-clause-told g c =
    entry_held _ _ _ _ c.args.name c.args.key _ c.head_of-head.ensures.head c.find.ensures.as_before.1 c.if-head-lt-FIRST_ROOT.false _ _ _ _ _
    c.in-Some.ensures.descent (sym c.if-has.true ∙ c.has-2.ensures) c.write-2.ensures.writes

pub returns-clause-told : goal.returns-clause-told
returns-clause-told g c =
    leaf_held _ _ _ _ c.args.name c.args.key _ c.head_of-head.ensures.head c.find.ensures.as_before.1 c.if-head-lt-FIRST_ROOT.false _ _ _ _ _
    c.in-Some.ensures.descent false (sym c.if-has.false ∙ c.has-2.ensures) c.write-2.ensures.writes

pub write-requires : goal.write-requires
write-requires g c =
    record { room = room_after c.args.overlay.now c.find-window.new.view c.find-window.ensures.as_before.1 1 2 c.requires.room (omega arith) }

pub returns-then-not-has-clause-view : goal.returns-then-not-has-clause-view
returns-then-not-has-clause-view g c =
    subst (λ v. g.V.View.as_before c.args.overlay.now.view v) (sym c.write.ensures.view)
    c.find-window.ensures.as_before.0

pub returns-then-not-has-clause-count : goal.returns-then-not-has-clause-count
returns-then-not-has-clause-count g c =
    more_after c.args.overlay.now c.find-window.new.view c.find-window.ensures.as_before.1 1 2 _ c.write.ensures.count (omega arith)

pub write-requires-then-head-lt-FIRST_ROOT : goal.write-requires-then-head-lt-FIRST_ROOT
write-requires-then-head-lt-FIRST_ROOT g c =
    record { room = room_after c.args.overlay.now c.find-window.new.view c.find-window.ensures.as_before.1 2 2 c.requires.room (omega arith) }

pub returns-then-head-lt-FIRST_ROOT-clause-view : goal.returns-then-head-lt-FIRST_ROOT-clause-view
returns-then-head-lt-FIRST_ROOT-clause-view g c =
    subst (λ v. g.V.View.as_before c.args.overlay.now.view v) (sym c.write-then-head-lt-FIRST_ROOT.ensures.view)
    c.find-window.ensures.as_before.0

pub returns-then-head-lt-FIRST_ROOT-clause-count : goal.returns-then-head-lt-FIRST_ROOT-clause-count
returns-then-head-lt-FIRST_ROOT-clause-count g c =
    more_after c.args.overlay.now c.find-window.new.view c.find-window.ensures.as_before.1 2 2 _ c.write-then-head-lt-FIRST_ROOT.ensures.count (omega arith)

pub write-requires-in_default : goal.write-requires-in_default
write-requires-in_default g c =
    let as_before = c.read-words.ensures.as_before.1 ∙ c.find.ensures.as_before.1 in
    record { room = room_after c.args.overlay.now c.read-words.new.self as_before 1 2 c.requires.room (omega arith) }

pub returns-in_default-clause-view : goal.returns-in_default-clause-view
returns-in_default-clause-view g c =
    subst (λ v. g.V.View.as_before c.args.overlay.now.view v) (sym c.write-in_default.ensures.view)
    (g.met.V.View.as_long_before _ _ _ c.find.ensures.as_before.0 c.read-words.ensures.as_before.0)

pub returns-in_default-clause-count : goal.returns-in_default-clause-count
returns-in_default-clause-count g c =
    let as_before = c.read-words.ensures.as_before.1 ∙ c.find.ensures.as_before.1 in
    more_after c.args.overlay.now c.read-words.new.self as_before 1 2 _ c.write-in_default.ensures.count (omega arith)

pub write-requires-2 : goal.write-requires-2
write-requires-2 g c =
    record { room = room_after c.args.overlay.now c.find.new.view c.find.ensures.as_before.1 1 2 c.requires.room (omega arith) }

pub returns-then-has-clause-view : goal.returns-then-has-clause-view
returns-then-has-clause-view g c =
    subst (λ v. g.V.View.as_before c.args.overlay.now.view v) (sym c.write-2.ensures.view)
    c.find.ensures.as_before.0

pub returns-then-has-clause-count : goal.returns-then-has-clause-count
returns-then-has-clause-count g c =
    more_after c.args.overlay.now c.find.new.view c.find.ensures.as_before.1 1 2 _ c.write-2.ensures.count (omega arith)

pub returns-clause-view : goal.returns-clause-view
returns-clause-view g c =
    subst (λ v. g.V.View.as_before c.args.overlay.now.view v) (sym c.write-2.ensures.view)
    c.find.ensures.as_before.0

pub returns-clause-count : goal.returns-clause-count
returns-clause-count g c =
    more_after c.args.overlay.now c.find.new.view c.find.ensures.as_before.1 1 2 _ c.write-2.ensures.count (omega arith)
