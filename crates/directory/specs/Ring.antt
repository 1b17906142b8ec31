-- What a directory is: its links form one ring.
use Rattle.std.specs.Prelude.{◌≡◌, ℕ, ◌≤◌, ◌⊎◌, length}
use Rattle.directory.specs.declared.rules.TheConstants.{OBJECTS, SHELVES}
use Rattle.directory.specs.declared.layout.DirectoryNode.{DirectoryNode}
use Rattle.directory.specs.Layout.{node_in}
use Rattle.mv_history.specs.State.{State}
use Rattle.mv_history.specs.Meaning.{words_at}
use Rattle.mv_client.specs.Linked as links
use Rattle.mv_client.specs.Linked.{IsRing}

-- what an object says in a state
abbrev pub node_at : State → ℕ → DirectoryNode
node_at s o = node_in (words_at s o)

-- the object to which an object's link leads
abbrev pub next_of : State → ℕ → ℕ
next_of s o = (node_at s o).next

-- the object is a user
abbrev pub IsUser : ℕ → Type 0
IsUser o = SHELVES ≤ o

-- The links form one ring through both shelves: each object has a place of its own in it, and leads to the next.
abbrev pub IsDirectory : State → Type 0
IsDirectory s = (length s ≡ OBJECTS) × (place : ℕ → ℕ) × IsRing SHELVES OBJECTS (next_of s) place

-- a user is on a shelf: links lead to it from there, along users alone
abbrev pub IsOn : State → ℕ → ℕ → Type 0
IsOn s shelf user = links.IsOn SHELVES (next_of s) shelf user

-- the user is on the shelf, behind this object: the shelf, or another user
abbrev pub IsBefore : State → ℕ → ℕ → ℕ → Type 0
IsBefore s shelf before user = links.IsBefore SHELVES OBJECTS (next_of s) shelf before user

-- the user is on one of the shelves, and not on both
pub record IsPlaced (s : State) (user : ℕ) : Type 0 where
  pub on : IsOn s 0 user ⊎ IsOn s 1 user
  pub one : IsOn s 0 user → IsOn s 1 user → ⊥
