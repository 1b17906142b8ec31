-- The set of a name, as the crates of the sets number it.
use Rattle.std.specs.Prelude.{ℕ, ◌≡◌, ◌+◌, ◌<◌, ◌≤◌}
use Rattle.set_catalog.specs.declared.names.Set.{Set}
use Rattle.set_catalog.specs.declared.names.Set.TheVariants.{List, Table, Tree}

-- the set of a name: one of ten lists by its head, of ten tables by its number, or of ten trees by its root
abbrev pub IsSetOf : ℕ → Set → Type 0
IsSetOf name (List head) = (head ≡ name) × (name < 10)
IsSetOf name (Table set) = (name ≡ 10 + set) × (set < 10)
IsSetOf name (Tree root) = (root ≡ name + 150) × (20 ≤ name) × (name < 30)
