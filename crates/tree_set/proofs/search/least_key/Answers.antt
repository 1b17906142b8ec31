use Rattle.std.proofs.Common.{arith}
use Rattle.tree_set.proofs.Walking.{leftmost_start, leftmost_step, leftmost_in_range, leftmost_fits, leftmost_key, in_state, read_at}
use Rattle.tree_set.proofs.search.least_key.Goals as goal

pub loop-words-init : goal.loop-words-init
loop-words-init g c = record {
  before = c.read-words.ensures.as_before;
  words = c.read-words.ensures.words;
  leftmost = leftmost_start _ _ _ c.requires.subtree;
}

pub loop-words-smaller : goal.loop-words-smaller
loop-words-smaller g c =
    (leftmost_step _ _ _ _ _ c.loop-words.invariant.leftmost c.loop-words.invariant.words c.loop-words-test.true).1

pub loop-words-preserved : goal.loop-words-preserved
loop-words-preserved g c = record {
  before = g.met.V.View.as_long_before _ _ _ c.loop-words.invariant.before c.read-words-in-loop-words.ensures.as_before;
  words = read_at _ _ _ _ c.read-words-in-loop-words.ensures.words (g.met.V.View.same_state _ _ c.loop-words.invariant.before);
  leftmost = (leftmost_step _ _ _ _ _ c.loop-words.invariant.leftmost c.loop-words.invariant.words c.loop-words-test.true).0;
}

pub read-words-requires : goal.read-words-requires
read-words-requires g c = leftmost_in_range _ _ _ _ (leftmost_start _ _ _ c.requires.subtree)

pub overflow_cast-least : goal.overflow_cast-least
overflow_cast-least g c =
    let next = (leftmost_step _ _ _ _ _ c.loop-words.invariant.leftmost c.loop-words.invariant.words c.loop-words-test.true).0 in
    omega (arith, leftmost_in_range _ _ _ _ next, c.requires.lawful.few)

pub read-words-requires-in-loop-words : goal.read-words-requires-in-loop-words
read-words-requires-in-loop-words g c =
    let next = (leftmost_step _ _ _ _ _ c.loop-words.invariant.leftmost c.loop-words.invariant.words c.loop-words-test.true).0 in
    in_state _ _ _ (leftmost_in_range _ _ _ _ next) (g.met.V.View.same_state _ _ c.loop-words.invariant.before)

pub overflow_cast-result : goal.overflow_cast-result
overflow_cast-result g c =
    omega (arith, leftmost_fits _ _ _ _ _ c.loop-words.invariant.leftmost c.loop-words.invariant.words c.loop-words-test.false)

pub returns-clause-least : goal.returns-clause-least
returns-clause-least g c t stands is =
    leftmost_key _ _ _ _ _ c.loop-words.invariant.leftmost c.loop-words.invariant.words c.loop-words-test.false t stands is

pub returns-clause-as_before : goal.returns-clause-as_before
returns-clause-as_before g c = c.loop-words.invariant.before
