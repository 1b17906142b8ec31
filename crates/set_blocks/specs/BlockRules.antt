-- Which commits of blocks are allowed.
use Rattle.set_model.specs.Lawful.{IsLawful}
use Rattle.std.specs.Prelude.{◌≡◌, ◌≢◌, ◌<◌, ◌≤◌, ◌⊎◌, ◌∷◌, ℕ, true, false, List, [], length}
use Rattle.set_blocks.specs.Terms.{State, Writes, written, touches, words_at, first_node, first_root, owner, kind, key, link, EndsAt, MOST_IN_BLOCK}

-- the tag of the commit of a block of so many commands
abbrev pub block_tag : ℕ → List ℕ
block_tag count = 5 ∷ count ∷ 0 ∷ 0 ∷ []

-- a tag is that of a block
abbrev pub IsBlockTag : List ℕ → Type 0
IsBlockTag (code ∷ count ∷ third ∷ fourth ∷ []) = (code ≡ 5) × (1 ≤ count) × (count ≤ MOST_IN_BLOCK) × (third ≡ 0) × (fourth ≡ 0)
IsBlockTag tag = ⊥

-- the object is the head of a list or a bucket, or a node of one
abbrev pub IsOfLists : State → ℕ → Type 0
IsOfLists s o = (o < first_root) ⊎ ((first_node ≤ o) × (owner s o ≢ 0) × (kind s o ≡ 0))

-- A commit of a block with this tag and these writes, on the state before it: both states are lawful; a node to which the head of a
-- list or a node of one leads that isn't written keeps its key; and a search in a tree that ends at a leaf which isn't
-- written ends there still.
pub record IsBlockCommit (tag : List ℕ) (before : State) (writes : Writes) : Type 0 where
  pub tagged : IsBlockTag tag
  pub lawful_before : IsLawful before
  pub lawful_after : IsLawful (written before writes)
  pub keys : (o : ℕ) → IsOfLists before o → touches writes o ≡ false → first_node ≤ link before o
      → key (written before writes) (link before o) ≡ key before (link before o)
  pub ends : (root k leaf : ℕ) → first_root ≤ root → root < first_node → EndsAt before root k leaf → touches writes leaf ≡ false
      → EndsAt (written before writes) root k leaf

-- What remains of what a section holds while others commit blocks that write nothing of it: the state is lawful, the objects have
-- their words, a node to which a held head or node of a list leads has its key, and a search in a tree that ended at a held leaf
-- ends there.
pub record Remains (held : Writes) (from s : State) : Type 0 where
  pub lawful : IsLawful s
  pub len : length s ≡ length from
  pub words : (o : ℕ) → touches held o ≡ true → words_at s o ≡ words_at from o
  pub keys : (o : ℕ) → touches held o ≡ true → IsOfLists from o → first_node ≤ link from o → key s (link from o) ≡ key from (link from o)
  pub ends : (root k leaf : ℕ) → first_root ≤ root → root < first_node → touches held leaf ≡ true → EndsAt from root k leaf
      → EndsAt s root k leaf
