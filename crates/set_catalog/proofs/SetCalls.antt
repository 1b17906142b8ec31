-- What the maps of names say of the crates' sets.
use Rattle.std.proofs.Common.{
  ◌≡◌,
  ◌≢◌,
  ℕ,
  ◌+◌,
  ◌<◌,
  ◌≤◌,
  Bool,
  true,
  false,
  ◌||◌,
  ◌==◌,
  nat_lt,
  if◌then◌else◌,
  length,
  Option,
  Some,
  None,
  sym,
  ap,
  ◌∙◌,
  arith,
  length-append,
}
use Rattle.std.proofs.lemmas.Bool.Decides.{nat_tests}
use Rattle.mv_history.specs.State.{State}
use Rattle.set_model.specs.Catalogue.{Map, map_of}
use Rattle.set_model.specs.CatalogueOf.{name_of, map_at, catalogue_of}
use Rattle.set_model.specs.Lawful.{IsLawful}
use Rattle.set_model.specs.Objects.{link}
use Rattle.set_model.specs.Trees.{Tree, IsTree, entries_in}
use Rattle.set_model.specs.Trees.Tree.{leaf, inner}
use Rattle.set_model.proofs.ObjectWords.{word}
use Rattle.set_model.proofs.NameMaps.{map_of-list}
use Rattle.set_model.proofs.TreeMaps.{map_of-tree}
use Rattle.set_catalog.specs.Needs.{first_tree, taken}
use Rattle.set_catalog.specs.Plans.{head_of}
use Rattle.set_catalog.proofs.HeadNames.{head_named, head_root}

-- the map of a list's name
pub at_list : (s : State) (head name : ℕ) → head ≡ name → name < 10 → map_of name (catalogue_of s) ≡ map_at s head
at_list s head name e l = ap (λ (n : ℕ). map_of n (catalogue_of s)) (sym e) ∙ map_of-list s head (omega arith)

pub tree_root : (root name key : ℕ) → root ≡ name + 150 → 20 ≤ name → root ≡ head_of name key
tree_root root name key e l = e ∙ sym (head_root name key l)

-- a tree whose root leads somewhere takes two nodes for a new key
pub entries_some : (t : Tree) → 0 < length (entries_in t)
entries_some (leaf n k v) = omega arith
entries_some (inner n d a b) = let l = entries_some a in omega (arith, length-append (entries_in a) (entries_in b))

pub grown_taken : (s : State) (root name : ℕ) → IsLawful s → root ≡ name + 150 → first_tree ≤ name → name < 30 → link s root ≢ 0
    → taken name (map_of name (catalogue_of s)) ≡ 2
grown_taken s root name l e g lt n = go (l.trees root (omega arith) (omega arith)).0 (l.trees root (omega arith) (omega arith)).1
  where
    two : (m : Map) → 0 < length m → taken name m ≡ 2
    two m h = grind (arith, nat_tests)

    named : name_of root ≡ name
    named = ap name_of (tree_root root name 0 e g) ∙ head_named name 0 lt

    go : (t : Option Tree) → IsTree s root t → taken name (map_of name (catalogue_of s)) ≡ 2
    go None t = absurd (n (ap (word 3) t.0))
    go (Some t) grown =
        let m : map_of name (catalogue_of s) ≡ entries_in t = ap (λ (x : ℕ). map_of x (catalogue_of s)) (sym named)
        ∙ map_of-tree s root t (omega arith) (omega arith) grown in
        two (map_of name (catalogue_of s)) (omega (arith, ap length m, entries_some t))

-- a new key takes a node
pub taken_some : (name : ℕ) (m : Map) → 1 ≤ taken name m
taken_some name m = go (nat_lt name first_tree || (length m == 0))
  where
    go : (b : Bool) → 1 ≤ (if b then 1 else 2)
    go true = omega arith
    go false = omega arith
