-- That a state is lawful in one way at most: its words determine each list and each tree.
use Rattle.std.specs.Prelude.{◌≡◌, ℕ, suc, ◌<◌, ◌≤◌, true, [], ◌∷◌, length, slice_index_or, refl, Option}
use Rattle.std.proofs.Common.{sym, ap, ◌∙◌, arith}
use Rattle.std.proofs.Props.{props}
use mathlib.Core.HLevel.{Σ_prop_path}
use Rattle.mv_history.specs.State.{State}
use Rattle.mv_history.specs.Meaning.{words_at}
use Rattle.set_model.specs.Objects.{first_node, owner, head_words, list_words, most_objects}
use Rattle.set_model.specs.Lists.{Nodes, first_of, is_among, Links, IsAbove, IsRising, IsList}
use Rattle.set_model.specs.Trees.{Tree, IsTree}
use Rattle.set_model.specs.TreeLaws.{tree_once, IsTree-prop}
use Rattle.set_model.specs.Lawful.{IsLawful}

-- links that lead to the same first node lead through the same nodes
pub links_once : (s : State) (head : ℕ) (ns ms : Nodes) → Links s head ns → Links s head ms → first_of ns ≡ first_of ms → ns ≡ ms
links_once s head [] [] l m e = refl
links_once s head [] (n ∷ ms) l m e = let lo : 180 ≤ n.object = m.0 in absurd (omega arith)
links_once s head (n ∷ ns) [] l m e = let lo : 180 ≤ n.object = l.0 in absurd (omega arith)
links_once s head (n ∷ ns) (k ∷ ms) l m e =
    let w : list_words head n.key n.value (first_of ns) ≡ list_words head k.key k.value (first_of ms) =
    sym l.2 ∙ ap (words_at s) e ∙ m.2 in
    let a : n.key ≡ k.key = ap (λ v. slice_index_or v 2 0) w in
    let b : n.value ≡ k.value = ap (λ v. slice_index_or v 5 0) w in
    let c : first_of ns ≡ first_of ms = ap (λ v. slice_index_or v 3 0) w in
    let t : ns ≡ ms = links_once s head ns ms l.3 m.3 c in
    λ i. record { object = e i; key = a i; value = b i } ∷ t i

pub list_once : (s : State) (head : ℕ) (ns ms : Nodes) → IsList s head ns → IsList s head ms → ns ≡ ms
list_once s head ns ms l m = links_once s head ns ms l.links m.links (ap (λ v. slice_index_or v 3 0) (sym l.first ∙ m.first))

Links-prop : (s : State) (head : ℕ) (ns : Nodes) → IsProp (Links s head ns)
Links-prop s head [] = hlevel props
Links-prop s head (n ∷ ns) = hlevel (props, Links-prop s head ns)

IsAbove-prop : (key : ℕ) (ns : Nodes) → IsProp (IsAbove key ns)
IsAbove-prop key [] = hlevel props
IsAbove-prop key (n ∷ ns) = hlevel (props, IsAbove-prop key ns)

IsRising-prop : (ns : Nodes) → IsProp (IsRising ns)
IsRising-prop [] = hlevel props
IsRising-prop (n ∷ ns) = hlevel (props, IsRising-prop ns, IsAbove-prop n.key ns)

IsList-prop : (s : State) (head : ℕ) (ns : Nodes) → IsProp (IsList s head ns)
IsList-prop s head ns x y =
    let first_prop : IsProp (words_at s head ≡ head_words (first_of ns)) = hlevel props in
    let only_prop : IsProp ((o : ℕ) → first_node ≤ o → owner s o ≡ suc head → is_among o ns ≡ true) = hlevel props in
    λ i. record {
      first = first_prop x.first y.first i;
      links = Links-prop s head ns x.links y.links i;
      rising = IsRising-prop ns x.rising y.rising i;
      only = only_prop x.only y.only i;
    }

one_list : (s : State) (head : ℕ) → IsProp ((ns : Nodes) × IsList s head ns)
one_list s head x y = Σ_prop_path (λ ns. IsList-prop s head ns) (list_once s head x.0 y.0 x.1 y.1)

one_tree : (s : State) (root : ℕ) → IsProp ((t : Option Tree) × IsTree s root t)
one_tree s root x y = Σ_prop_path (λ t. IsTree-prop s root t) (tree_once s root x.0 y.0 x.1 y.1)

pub IsLawful-prop : (s : State) → IsProp (IsLawful s)
IsLawful-prop s x y =
    let some_prop : IsProp (first_node < length s) = hlevel props in
    let few_prop : IsProp (length s ≤ most_objects) = hlevel props in
    let owned_prop : IsProp ((o : ℕ) → first_node ≤ o → owner s o ≤ first_node) = hlevel props in
    λ i. record {
      some = some_prop x.some y.some i;
      few = few_prop x.few y.few i;
      lists = λ head lt. one_list s head (x.lists head lt) (y.lists head lt) i;
      trees = λ root lo lt. one_tree s root (x.trees root lo lt) (y.trees root lo lt) i;
      owned = owned_prop x.owned y.owned i;
    }
