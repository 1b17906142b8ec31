use Rattle.std.proofs.Common.{arith, ap, inl, inr}
use Rattle.tree_set.specs.declared.leaves.Leaves.{Leaves}
use Rattle.tree_set.proofs.LeafWalks.{left_step, leaf_step, leaf_passes, walk_in_range}
use Rattle.tree_set.proofs.Walking.{read_at, in_state}
use Rattle.tree_set.proofs.leaves.Leaves.next.Goals as goal
use Rattle.tree_set.proofs.leaves.Leaves.next.Goals.{then-self-eq0-2, else-self-eq0-2}

pub bounds-pending-self : goal.bounds-pending-self
bounds-pending-self g c =
    let room = c.loop-words.invariant.there.1.room in let full = c.if-self-pending.false in omega arith

pub overflow_cast-self : goal.overflow_cast-self
overflow_cast-self g c =
    omega (
      arith,
      (left_step _ c.requires.lawful _ _ _ _ _ c.loop-words.invariant.some c.loop-words.invariant.words c.loop-words.invariant.there.1
          c.loop-words-test.true).left_fits,
    )

pub overflow_cast-pending : goal.overflow_cast-pending
overflow_cast-pending g c =
    omega (
      arith,
      (left_step _ c.requires.lawful _ _ _ _ _ c.loop-words.invariant.some c.loop-words.invariant.words c.loop-words.invariant.there.1
          c.loop-words-test.true).right_fits,
    )

pub read-words-requires-in-loop-words : goal.read-words-requires-in-loop-words
read-words-requires-in-loop-words g c =
    let step = left_step _ c.requires.lawful _ _ _ _ _ c.loop-words.invariant.some c.loop-words.invariant.words c.loop-words.invariant.there.1
    c.loop-words-test.true in
    let room = c.loop-words.invariant.there.1.room in let full = c.if-self-pending.false in
    in_state _ _ _ (walk_in_range _ c.requires.lawful _ _ _ _ (step.walk (omega arith)) step.left_some)
    (g.met.V.View.same_state _ _ c.loop-words.invariant.before)

pub loop-words-smaller : goal.loop-words-smaller
loop-words-smaller g c =
    (left_step _ c.requires.lawful _ _ _ _ _ c.loop-words.invariant.some c.loop-words.invariant.words c.loop-words.invariant.there.1
    c.loop-words-test.true).less

pub loop-words-preserved : goal.loop-words-preserved
loop-words-preserved g c =
    let step = left_step _ c.requires.lawful _ _ _ _ _ c.loop-words.invariant.some c.loop-words.invariant.words c.loop-words.invariant.there.1
    c.loop-words-test.true in
    let room = c.loop-words.invariant.there.1.room in let full = c.if-self-pending.false in
    record {
      before = g.met.V.View.as_long_before _ _ _ c.loop-words.invariant.before c.read-words-in-loop-words.ensures.as_before;
      some = step.left_some;
      words = read_at _ _ _ _ c.read-words-in-loop-words.ensures.words (g.met.V.View.same_state _ _ c.loop-words.invariant.before);
      there = (c.loop-words.invariant.there.0, step.walk (omega arith));
      walk = λ m w. (left_step _ c.requires.lawful _ _ _ _ _ c.loop-words.invariant.some c.loop-words.invariant.words (c.loop-words.invariant.walk m w)
          c.loop-words-test.true).walk (omega arith);
    }

pub bounds-pending-self-else-self-eq0-2 : goal.bounds-pending-self-else-self-eq0-2
bounds-pending-self-else-self-eq0-2 g c =
    let room = c.loop-words.invariant.there.1.room in let some = c.if-self-eq0-2.false in omega arith

pub returns-clause-next : goal.returns-clause-next
returns-clause-next g c m w =
    let step = leaf_step _ c.requires.lawful _ _ _ _ _ c.loop-words.invariant.some c.loop-words.invariant.words (c.loop-words.invariant.walk m w)
    c.loop-words-test.false in
    leaf_passes _ _ _ _ _ _ _ step (elim c.if-self-eq0-2.branch [
      | then-self-eq0-2 v ↦ inl (v.if-self-eq0-2.true, ap (λ (l : Leaves). l.node) v.self-is, ap (λ (l : Leaves). l.held) v.self-is)
      | else-self-eq0-2 v ↦ inr (v.if-self-eq0-2.false, ap (λ (l : Leaves). l.node) v.self-is, ap (λ (l : Leaves). l.held) v.self-is)
    ])

pub returns-then-self-eq0-clause-next : goal.returns-then-self-eq0-clause-next
returns-then-self-eq0-clause-next g c m w = record { walk = w; why = inl c.if-self-eq0.true }

pub returns-then-self-pending-clause-next : goal.returns-then-self-pending-clause-next
returns-then-self-pending-clause-next g c m w = record { walk = c.loop-words.invariant.walk m w; why = inr c.if-self-pending.true }

pub returns-then-self-pending-clause-as_before : goal.returns-then-self-pending-clause-as_before
returns-then-self-pending-clause-as_before g c = c.loop-words.invariant.before

pub returns-clause-as_before : goal.returns-clause-as_before
returns-clause-as_before g c = c.loop-words.invariant.before
