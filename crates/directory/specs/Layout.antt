-- What the words of an object say.
use Rattle.std.specs.Prelude.{ℕ, List, ◌∷◌, drop, slice_index}
use Rattle.directory.specs.declared.layout.DirectoryNode.{DirectoryNode}
use Rattle.directory.specs.declared.layout.TheConstants.{NEXT, ID, HASH, REST}

-- the words of a node
abbrev pub words_of : DirectoryNode → List ℕ
words_of node = node.next ∷ node.id ∷ node.hash ∷ node.rest

-- the node that words say
abbrev pub node_in : List ℕ → DirectoryNode
node_in words = record {
  next = slice_index words NEXT;
  id = slice_index words ID;
  hash = slice_index words HASH;
  rest = drop REST words;
}

-- the link that the words of an object have
abbrev pub link_of : List ℕ → ℕ
link_of words = (node_in words).next

-- this node, with another link
abbrev pub with_link : DirectoryNode → ℕ → DirectoryNode
with_link node next = record node { next = next }

-- these words, with another link
abbrev pub linked : List ℕ → ℕ → List ℕ
linked words next = words_of (with_link (node_in words) next)

-- what the words of an object say beside its link: the node, without one
abbrev pub details_of : List ℕ → DirectoryNode
details_of words = with_link (node_in words) 0
