use Rattle.std.proofs.Common.{◌+◌, refl, length, take, slice_index_or, List, ℕ, sym, ap, ◌∙◌, subst, arith, length-set}
use Rattle.grow_hash.proofs.Terms.{State, Writes, words_at, count_first, count_in_range, count_falls, count_step, count_done, IsRead}
use Rattle.grow_hash.proofs.split.ReadBuckets.{read_first, read_next, count_small}
use Rattle.grow_hash.proofs.bucket.read_bucket.Goals.{then-keys-lt-MOST_SPLIT, else-keys-lt-MOST_SPLIT}
use Rattle.grow_hash.proofs.bucket.read_bucket.Goals as goal

-- the link among the words of an object
abbrev linked : List ℕ → ℕ
linked words = slice_index_or words 3 0

pub loop-node-init : goal.loop-node-init
loop-node-init g c = record {
  before = c.read.ensures.as_before;
  count = count_first _ _ c.requires.linked _ (ap linked c.read.ensures.words);
  whole = refl;
  read = λ _. read_first (g.V.View.state c.args.view.now) c.args.head c.read.result c.read.ensures.words;
}

pub read-words-requires : goal.read-words-requires
read-words-requires g c =
    count_in_range _ _ _ _ _ 0 c.requires.linked (g.met.V.View.same_state _ _ c.loop-node.invariant.before) c.loop-node.invariant.count c.loop-node-test.true

pub overflow_add-keys : goal.overflow_add-keys
overflow_add-keys g c =
    record { fits = (let r = count_small _ _ _ _ c.loop-node.invariant.count c.requires.few in omega arith) }

pub loop-node-smaller : goal.loop-node-smaller
loop-node-smaller g c =
    count_falls _ _ _ _ _ _ c.requires.linked (g.met.V.View.same_state _ _ c.loop-node.invariant.before) c.loop-node.invariant.count c.loop-node-test.true
    (ap linked c.read-words.ensures.words)

pub loop-node-preserved : goal.loop-node-preserved
loop-node-preserved g c = record {
  before = g.met.V.View.as_long_before _ _ _ c.loop-node.invariant.before c.read-words.ensures.as_before;
  count = count_step _ _ _ _ _ _ c.requires.linked (g.met.V.View.same_state _ _ c.loop-node.invariant.before) c.loop-node.invariant.count
      c.loop-node-test.true (ap linked c.read-words.ensures.words);
  whole = elim c.if-keys-lt-MOST_SPLIT.branch [
    | then-keys-lt-MOST_SPLIT w ↦ ap length w.nodes-is ∙ length-set c.loop-node.nodes _ _ ∙ c.loop-node.invariant.whole
    | else-keys-lt-MOST_SPLIT w ↦ ap length w.nodes-is ∙ c.loop-node.invariant.whole
  ];
  read = λ le. elim c.if-keys-lt-MOST_SPLIT.branch [
    | then-keys-lt-MOST_SPLIT w ↦
        subst (λ (ns : Writes). IsRead (g.V.View.state c.args.view.now) c.args.head (take (c.loop-node.keys + 1) ns)
        (slice_index_or c.read-words.result 3 0)) (sym w.nodes-is)
        (read_next (g.V.View.state c.args.view.now) c.args.head c.loop-node.nodes c.loop-node.keys c.loop-node.node c.read-words.result (omega
        (arith, c.loop-node.invariant.whole)) (c.loop-node.invariant.read (omega arith)) c.loop-node-test.true
        (c.read-words.ensures.words
        ∙ ap (λ (s : State). words_at s c.loop-node.node) (g.met.V.View.same_state _ _ c.loop-node.invariant.before)))
    | else-keys-lt-MOST_SPLIT w ↦ absurd (omega (arith, w.if-keys-lt-MOST_SPLIT.false, le))
  ];
}

pub returns-clause-keys : goal.returns-clause-keys
returns-clause-keys g c = count_done _ _ c.requires.linked _ _ c.loop-node.invariant.count c.loop-node-test.false
