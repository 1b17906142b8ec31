-- The words of the sets' objects. An object has six: its owner, kind, key, link, right link, and value or rank.
use Rattle.std.specs.Prelude.{ℕ, suc, List, [], ◌∷◌, set, slice_index_or}
use Rattle.mv_history.specs.State.{State}
use Rattle.mv_history.specs.Meaning.{words_at}
use Rattle.set_model.specs.declared.objects.TheConstants.{MOST_OBJECTS}

-- the first object that is a node; those below are heads
abbrev pub first_node : ℕ
first_node = 180

-- the heads below this one are those of lists and buckets, the others are roots of trees
abbrev pub first_root : ℕ
first_root = 170

-- how many objects the sets may have, as many as a domain
abbrev pub most_objects : ℕ
most_objects = MOST_OBJECTS

-- the number of the head in whose list the object is, and one; of a vacant object and of a head 0
abbrev pub owner : State → ℕ → ℕ
owner s o = slice_index_or (words_at s o) 0 0

-- 0 of a head or a list node, 1 of a leaf, 2 of an inner node
abbrev pub kind : State → ℕ → ℕ
kind s o = slice_index_or (words_at s o) 1 0

-- the key of a node
abbrev pub key : State → ℕ → ℕ
key s o = slice_index_or (words_at s o) 2 0

-- the first node of a head, the next node of a list node, the left child of an inner node; 0 is none
abbrev pub link : State → ℕ → ℕ
link s o = slice_index_or (words_at s o) 3 0

-- the right child of an inner node
abbrev pub right_link : State → ℕ → ℕ
right_link s o = slice_index_or (words_at s o) 4 0

-- the value of a node's key
abbrev pub value : State → ℕ → ℕ
value s o = slice_index_or (words_at s o) 5 0

-- the rank of an inner node, which a change of a tree may set as it likes
abbrev pub rank : State → ℕ → ℕ
rank s o = slice_index_or (words_at s o) 5 0

-- the words of a head that leads to this node
abbrev pub head_words : ℕ → List ℕ
head_words first = 0 ∷ 0 ∷ 0 ∷ first ∷ 0 ∷ 0 ∷ []

-- the words of a node in the list of this head, with this key and value, that leads to this node
abbrev pub list_words : ℕ → ℕ → ℕ → ℕ → List ℕ
list_words head key value next = suc head ∷ 0 ∷ key ∷ next ∷ 0 ∷ value ∷ []

-- the words of a leaf in the tree of this root, with this key and value
abbrev pub leaf_words : ℕ → ℕ → ℕ → List ℕ
leaf_words root key value = suc root ∷ 1 ∷ key ∷ 0 ∷ 0 ∷ value ∷ []

-- the words of an inner node in the tree of this root, that divides its children at this key and has this rank
abbrev pub inner_words : ℕ → ℕ → ℕ → ℕ → ℕ → List ℕ
inner_words root key left right rank = suc root ∷ 2 ∷ key ∷ left ∷ right ∷ rank ∷ []

-- the words of a vacant object
abbrev pub no_words : List ℕ
no_words = 0 ∷ 0 ∷ 0 ∷ 0 ∷ 0 ∷ 0 ∷ []

-- the words with the link to this node
abbrev pub relink : List ℕ → ℕ → List ℕ
relink words to = set words 3 to

-- the words with this value
abbrev pub revalue : List ℕ → ℕ → List ℕ
revalue words to = set words 5 to
