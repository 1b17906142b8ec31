use Rattle.std.proofs.Common.{ℕ, ◌∙◌, List, length, drop, refl, sym, ap, subst, arith}
use Rattle.std.specs.Prelude.{slice_index_or}
use Rattle.std.proofs.lemmas.List.{append-nil, take-append-drop, take_all, length-take-le}
use Rattle.mv_history.specs.State.{State}
use Rattle.mv_history.specs.Meaning.{Holds, words_at}
use Rattle.mv_history.specs.CallLaws.{GoesOn-itself, IsAsBefore-itself}
use Rattle.mv_history.proofs.Steps.{GoesOn-GoesOn}
use Rattle.section_work.proofs.Holding.{IfErr-told}
use Rattle.mv_client.specs.Locks.{IsAmong, LocksOnly}
use Rattle.mv_client.proofs.Locks.{among_at, locks_none, locks_still, locks_then, locks_more, locks_step, refused_none, refused_of, room_for}
use Rattle.mv_client.proofs.holding.lock_all.Goals as goal

pub loop-object-init : goal.loop-object-init
loop-object-init g c = record { locks = locks_none (GoesOn-itself _) (IsAsBefore-itself _) refl; held = λ o i. absurd i }

pub read-words-requires : goal.read-words-requires
read-words-requires g c =
    omega (
      arith,
      c.requires.within _ (among_at _ _ 0 c.loop-object-test.true),
      ap length c.loop-object.invariant.locks.state,
      ap length (g.met.T.Section.reads c.loop-object.section),
    )

pub put-requires-clause-room : goal.put-requires-clause-room
put-requires-clause-room g c =
    let before = c.read-words.ensures.as_before in
    let state = sym (g.met.T.Section.reads _) ∙ g.met.T.View.same_state _ _ before ∙ g.met.T.Section.reads c.loop-object.section in
    let long = length-take-le c.loop-object.object-index c.args.objects.now c.loop-object.auto.object-index-end in
    room_for _ (locks_still c.loop-object.invariant.locks (g.met.T.Section.goes_on _ _ before) (g.met.T.Section.others_stay _ _ before) state)
    (omega (arith, long, c.requires.spare, c.loop-object-test.true)) (omega (arith, long, c.requires.held, c.loop-object-test.true))

pub returns-in_err-put-clause-locks : goal.returns-in_err-put-clause-locks
returns-in_err-put-clause-locks g c =
    let before = c.read-words.ensures.as_before in
    let state = sym (g.met.T.Section.reads _) ∙ g.met.T.View.same_state _ _ before ∙ g.met.T.Section.reads c.loop-object.section in
    let still = locks_still c.loop-object.invariant.locks (g.met.T.Section.goes_on _ _ before) (g.met.T.Section.others_stay _ _ before) state in
    let rest = drop c.loop-object.object-index c.args.objects.now in
    subst (LocksOnly _ _) (take-append-drop c.loop-object.object-index c.args.objects.now)
    (locks_more rest (subst (LocksOnly _ _) (append-nil _) (locks_then still (refused_none c.in_err-put.ensures.refused c.put.ensures.goes_on))))

pub returns-in_err-put-clause-refused : goal.returns-in_err-put-clause-refused
returns-in_err-put-clause-refused g c =
    let goes = GoesOn-GoesOn c.loop-object.invariant.locks.goes_on (g.met.T.Section.goes_on _ _ c.read-words.ensures.as_before) in
    IfErr-told _ _ _ c.from_residual.ensures.1 (refused_of c.in_err-put.ensures.refused goes (among_at _ _ 0 c.loop-object-test.true))

pub loop-object-preserved : goal.loop-object-preserved
loop-object-preserved g c =
    let before = c.read-words.ensures.as_before in
    let seen = g.met.T.View.same_state _ _ before in
    let state = sym (g.met.T.Section.reads _) ∙ seen ∙ g.met.T.Section.reads c.loop-object.section in
    let object : ℕ = slice_index_or c.args.objects.now c.loop-object.object-index 0 in
    let is = c.read-words.ensures.words ∙ ap (λ (u : State). words_at u object) (sym seen ∙ g.met.T.Section.reads c.read-words.new.self) in
    let i = c.loop-object.invariant in
    let step = locks_step _ _ c.loop-object-test.true i.locks i.held (g.met.T.Section.goes_on _ _ before) (g.met.T.Section.others_stay _ _ before) state is
    c.in_ok-put.ensures.written in record { locks = step.0; held = step.1 }

pub returns-clause-locks : goal.returns-clause-locks
returns-clause-locks g c = subst (LocksOnly _ _) (take_all _ _ c.loop-object-test.false) c.loop-object.invariant.locks

pub returns-clause-held : goal.returns-clause-held
returns-clause-held g c =
    subst (λ (xs : List ℕ). (o : ℕ) → IsAmong o xs → Holds (g.T.Section.section c.loop-object.section) o) (take_all _ _ c.loop-object-test.false)
    c.loop-object.invariant.held
