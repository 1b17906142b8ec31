-- The path from the root of a tree down to a part of it.
use Rattle.std.specs.Prelude.{ℕ, ◌<◌, ◌≤◌, ⊤, List, [], ◌∷◌, ◌++◌}
use Rattle.set_model.specs.Catalogue.{Map}
use Rattle.set_model.specs.Trees.{Tree, top, objects_in, entries_in}
use Rattle.set_model.specs.Trees.Tree.{inner}

-- one turn at an inner node, with its dividing key and the tree on the side that is not taken
pub data PathStep : Type 0 where
  left : ℕ → ℕ → Tree → PathStep
  right : ℕ → ℕ → Tree → PathStep

-- the turns from the root of a tree down to a part of it
abbrev pub Path : Type 0
Path = List PathStep

-- the tree with this part at the end of the path
abbrev pub plug : Path → Tree → Tree
plug [] u = u
plug (left n d b ∷ ps) u = inner n d (plug ps u) b
plug (right n d a ∷ ps) u = inner n d a (plug ps u)

-- the inner node of a turn
abbrev pub node_of : PathStep → ℕ
node_of (left n d b) = n
node_of (right n d a) = n

-- the last inner node of the path, or what leads to the path
abbrev pub parent_of : ℕ → Path → ℕ
parent_of parent [] = parent
parent_of parent (p ∷ ps) = parent_of (node_of p) ps

-- the one before that
abbrev pub grand_of : ℕ → ℕ → Path → ℕ
grand_of grand parent [] = grand
grand_of grand parent (p ∷ ps) = grand_of parent (node_of p) ps

-- the tree on the right side of the path's last turn to the left, or else this
abbrev pub right_of : ℕ → Path → ℕ
right_of other [] = other
right_of other (left n d b ∷ ps) = right_of (top b) ps
right_of other (right n d a ∷ ps) = right_of other ps

-- the search for the key takes each turn of the path
abbrev pub Follows : ℕ → Path → Type 0
Follows k [] = ⊤
Follows k (left n d b ∷ ps) = (k < d) × Follows k ps
Follows k (right n d a ∷ ps) = (d ≤ k) × Follows k ps

-- the objects of the tree that are not in its part
abbrev pub around : Path → List ℕ
around [] = []
around (left n d b ∷ ps) = n ∷ (around ps ++ objects_in b)
around (right n d a ∷ ps) = n ∷ (objects_in a ++ around ps)

-- the entries to the left of the path
abbrev pub before : Path → Map
before [] = []
before (left n d b ∷ ps) = before ps
before (right n d a ∷ ps) = entries_in a ++ before ps

-- the entries to the right of the path
abbrev pub after : Path → Map
after [] = []
after (left n d b ∷ ps) = after ps ++ entries_in b
after (right n d a ∷ ps) = after ps
