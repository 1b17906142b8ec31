use Rattle.std.proofs.Common.{arith, inl, inr, refl, ◌∙◌}
use Rattle.tree_set.proofs.Walking.{descending_in_range, descending_fits, in_state}
use Rattle.tree_set.proofs.NodeWords.{root_words, first_descending, inner_words_here, links_fit, node_step, node_found, node_at}
use Rattle.tree_set.proofs.search.descend.Goals as goal
use Rattle.tree_set.proofs.search.descend.Goals.{then-key-node, else-key-node}

pub overflow_cast-leaf : goal.overflow_cast-leaf
overflow_cast-leaf g c =
    let lt = descending_fits _ _ c.args.key _ _ _ _ c.requires.lawful
    (first_descending _ _ _ _ c.requires.lawful c.requires.root_from c.requires.root_in c.requires.first c.requires.some) in
    omega arith

pub read_node-node-requires : goal.read_node-node-requires
read_node-node-requires g c =
    descending_in_range _ _ c.args.key _ _ _ _
    (first_descending _ _ _ _ c.requires.lawful c.requires.root_from c.requires.root_in c.requires.first c.requires.some)

pub loop-node-init : goal.loop-node-init
loop-node-init g c =
    let root = root_words _ _ _ c.requires.lawful c.requires.root_from c.requires.root_in c.requires.first c.requires.some
    (record { key = 0; left = c.args.first; right = 0; value = 0 }) refl in
    record {
      before = c.read_node-node.ensures.as_before;
      node = c.read_node-node.ensures.node;
      descending = first_descending _ _ _ _ c.requires.lawful c.requires.root_from c.requires.root_in c.requires.first c.requires.some;
      parent = root;
      grand = root;
    }

pub overflow_cast-right : goal.overflow_cast-right
overflow_cast-right g c =
    let fit = links_fit _ _ _ _ _ _ _ _ c.loop-node.invariant.descending c.loop-node.invariant.node c.requires.lawful c.loop-node-test.true in omega
    (arith, fit.1)

pub overflow_cast-leaf-then-key-node : goal.overflow_cast-leaf-then-key-node
overflow_cast-leaf-then-key-node g c =
    let fit = links_fit _ _ _ _ _ _ _ _ c.loop-node.invariant.descending c.loop-node.invariant.node c.requires.lawful c.loop-node-test.true in omega
    (arith, fit.0)

pub overflow_cast-leaf-else-key-node : goal.overflow_cast-leaf-else-key-node
overflow_cast-leaf-else-key-node g c =
    let fit = links_fit _ _ _ _ _ _ _ _ c.loop-node.invariant.descending c.loop-node.invariant.node c.requires.lawful c.loop-node-test.true in omega
    (arith, fit.1)

pub read_node-node-requires-in-loop-node : goal.read_node-node-requires-in-loop-node
read_node-node-requires-in-loop-node g c =
    let step = node_step _ _ _ _ _ _ _ _ c.loop-node.invariant.descending c.loop-node.invariant.node _ _ c.loop-node-test.true (elim c.if-key-node.branch [
      | then-key-node w ↦ inl (w.if-key-node.true, w.leaf-is, w.right-is)
      | else-key-node w ↦ inr (w.if-key-node.false, w.leaf-is, w.right-is)
    ]) in
    in_state _ _ _ (descending_in_range _ _ _ _ _ _ _ step.descending) (g.met.V.View.same_state _ _ c.loop-node.invariant.before)

pub loop-node-smaller : goal.loop-node-smaller
loop-node-smaller g c =
    (node_step _ _ _ _ _ _ _ _ c.loop-node.invariant.descending c.loop-node.invariant.node _ _ c.loop-node-test.true (elim c.if-key-node.branch [
      | then-key-node w ↦ inl (w.if-key-node.true, w.leaf-is, w.right-is)
      | else-key-node w ↦ inr (w.if-key-node.false, w.leaf-is, w.right-is)
    ])).less

pub loop-node-preserved : goal.loop-node-preserved
loop-node-preserved g c = record {
  before = g.met.V.View.as_long_before _ _ _ c.loop-node.invariant.before c.read_node-node-in-loop-node.ensures.as_before;
  node = node_at _ _ _ _ c.read_node-node-in-loop-node.ensures.node (g.met.V.View.same_state _ _ c.loop-node.invariant.before);
  descending = (node_step _ _ _ _ _ _ _ _ c.loop-node.invariant.descending c.loop-node.invariant.node _ _ c.loop-node-test.true (elim c.if-key-node.branch [
    | then-key-node w ↦ inl (w.if-key-node.true, w.leaf-is, w.right-is)
    | else-key-node w ↦ inr (w.if-key-node.false, w.leaf-is, w.right-is)
  ])).descending;
  parent = inner_words_here _ _ _ _ _ _ _ _ c.loop-node.invariant.descending c.loop-node.invariant.node c.requires.root_in c.loop-node-test.true;
  grand = c.loop-node.invariant.parent;
}

pub returns-clause-descent : goal.returns-clause-descent
returns-clause-descent g c =
    node_found _ _ _ _ _ _ _ _ c.loop-node.invariant.descending c.loop-node.invariant.node _ c.leaf_words.ensures c.loop-node-test.false

pub returns-clause-words : goal.returns-clause-words
returns-clause-words g c = record {
  parent = c.branch_words-2.ensures ∙ c.loop-node.invariant.parent;
  grand = c.branch_words.ensures ∙ c.loop-node.invariant.grand;
}
