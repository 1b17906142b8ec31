-- A section of 200 objects in which tests fill the tree of one root, two nodes with each add.
use Rattle.std.specs.Prelude.{ℕ, ◌+◌, ◌*◌, ◌≡◌, ◌≢◌, ◌≤◌, true, length}
use Rattle.mv_history.specs.State.{touches}
use Rattle.mv_history.specs.Meaning.{InSection, state_of}
use Rattle.set_model.specs.Lawful.{IsLawful}
use Rattle.set_model.specs.Objects.{first_node, owner, link}

-- After n adds the first 2n nodes at most are not vacant. Those that are not are held, and so is the root unless its tree is
-- empty; two objects for each add at most are held.
pub record IsFilled (s : InSection) (root n : ℕ) : Type 0 where
  pub lawful : IsLawful (state_of s)
  pub objects : length (state_of s) ≡ 200
  pub vacant : (o : ℕ) → 180 + 2 * n ≤ o → owner (state_of s) o ≡ 0
  pub nodes_held : (o : ℕ) → first_node ≤ o → owner (state_of s) o ≢ 0 → touches s.own o ≡ true
  pub root_held : link (state_of s) root ≢ 0 → touches s.own root ≡ true
  pub held : length s.own ≤ 2 * n
  pub spare : 16 ≤ s.seat.spare + 2 * n
  pub most : 16 ≤ s.seat.write_max
