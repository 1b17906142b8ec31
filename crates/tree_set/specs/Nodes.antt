-- What a search reads of a tree's objects: four of their words.
use Rattle.std.specs.Prelude.{ℕ, ◌≡◌, ◌==◌, if◌then◌else◌, List}
use Rattle.mv_history.specs.State.{State}
use Rattle.set_model.specs.Objects.{key, link, right_link, value, head_words, inner_words}
use Rattle.tree_set.specs.declared.nodes.Node.{Node}

-- these are the key, the two links and the value of the object, or its rank
pub record IsNodeAt (s : State) (object : ℕ) (node : Node) : Type 0 where
  pub key_is : node.key ≡ key s object
  pub left_is : node.left ≡ link s object
  pub right_is : node.right ≡ right_link s object
  pub value_is : node.value ≡ value s object

-- all words of a tree's root or of an inner node, which has this key, these links and this rank
abbrev pub branch_words : ℕ → ℕ → Node → List ℕ
branch_words root object node =
    if object == root then head_words node.left else inner_words root node.key node.left node.right node.value
