-- The states that stand for a catalogue.
use Rattle.std.specs.Prelude.{ℕ, ◌≡◌, ◌<◌, ◌≤◌, length, Option}
use Rattle.mv_history.specs.State.{State}
use Rattle.mv_history.specs.Meaning.{words_at}
use Rattle.set_model.specs.Objects.{first_node, first_root, owner, no_words, most_objects}
use Rattle.set_model.specs.Lists.{Nodes, IsList}
use Rattle.set_model.specs.Trees.{Tree, IsTree}

-- Each head of a list or a bucket has its list, each root its tree, and each node is vacant or in that of the head that it names.
pub record IsLawful (s : State) : Type 0 where
  pub some : first_node < length s
  pub few : length s ≤ most_objects
  pub lists : (head : ℕ) → head < first_root → (ns : Nodes) × IsList s head ns
  pub trees : (root : ℕ) → first_root ≤ root → root < first_node → (t : Option Tree) × IsTree s root t
  pub owned : (o : ℕ) → first_node ≤ o → owner s o ≤ first_node

-- the states with which the sets begin: all words are 0
pub record IsOpening (s : State) : Type 0 where
  pub some : first_node < length s
  pub few : length s ≤ most_objects
  pub zeros : (o : ℕ) → o < length s → words_at s o ≡ no_words
