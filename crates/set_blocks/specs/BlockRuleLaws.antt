-- That a commit of a block is allowed in one way at most.
use Rattle.std.proofs.Props.{props}
use Rattle.set_model.specs.TreeLaws.{EndsAt-prop}
use Rattle.set_model.specs.LawfulLaws.{IsLawful-prop}
use Rattle.std.specs.Prelude.{◌≡◌, ◌<◌, ◌≤◌, ◌∷◌}
use Rattle.set_blocks.specs.Terms.{ℕ, false, List, [], State, Writes, written, touches, first_node, first_root, key, link, EndsAt}
use Rattle.set_blocks.specs.BlockRules.{IsBlockTag, IsOfLists, IsBlockCommit}

IsBlockTag-prop : (tag : List ℕ) → IsProp (IsBlockTag tag)
IsBlockTag-prop (code ∷ count ∷ third ∷ fourth ∷ []) = hlevel props
IsBlockTag-prop [] = hlevel props
IsBlockTag-prop (a ∷ []) = hlevel props
IsBlockTag-prop (a ∷ b ∷ []) = hlevel props
IsBlockTag-prop (a ∷ b ∷ c ∷ []) = hlevel props
IsBlockTag-prop (a ∷ b ∷ c ∷ d ∷ e ∷ tag) = hlevel props

pub IsBlockCommit-prop : (tag : List ℕ) (before : State) (writes : Writes) → IsProp (IsBlockCommit tag before writes)
IsBlockCommit-prop tag before writes x y =
    let keys_prop : IsProp ((o : ℕ) → IsOfLists before o → touches writes o ≡ false → first_node ≤ link before o
    → key (written before writes) (link before o) ≡ key before (link before o)) = hlevel props in
    let ends_prop : IsProp ((root k leaf : ℕ) → first_root ≤ root → root < first_node → EndsAt before root k leaf → touches writes leaf ≡ false
    → EndsAt (written before writes) root k leaf) = hlevel (props, EndsAt-prop) in
    λ i. record {
      tagged = IsBlockTag-prop tag x.tagged y.tagged i;
      lawful_before = IsLawful-prop before x.lawful_before y.lawful_before i;
      lawful_after = IsLawful-prop (written before writes) x.lawful_after y.lawful_after i;
      keys = keys_prop x.keys y.keys i;
      ends = ends_prop x.ends y.ends i;
    }
