-- Another value for a key of a tree.
use Rattle.std.proofs.Common.{◌≡◌, ◌≢◌, ℕ, suc, ◌<◌, ◌≤◌, ◌⊎◌, inl, inr, true, false, List, [], ◌∷◌, ◌++◌, length, refl, sym, ap, ◌∙◌, arith, Some}
use Rattle.std.proofs.lemmas.Bool.{cases_eq}
use Rattle.std.proofs.lemmas.Bool.Decides.{nat_tests}
use Rattle.mv_history.specs.State.{State, written}
use Rattle.mv_history.specs.Meaning.{words_at}
use Rattle.mv_history.proofs.Writing.{words-written_other, words-written_same}
use Rattle.set_model.specs.Catalogue.{Map, has_key, has_entry, put}
use Rattle.set_model.specs.Objects.{owner, kind, key, link, value, leaf_words, revalue}
use Rattle.set_model.specs.Trees.{entries_in, Stands, HoldsTree, seek}
use Rattle.set_model.specs.Trees.Tree.{leaf}
use Rattle.set_model.specs.TreeLaws.{grown_once}
use Rattle.set_model.specs.Lawful.{IsLawful}
use Rattle.set_model.proofs.ObjectWords.{word, owned_in_range}
use Rattle.set_model.proofs.Frames.{IsOf, IsWithin}
use Rattle.set_model.proofs.MapParts.{IsUnderKey, put-behind, has_key-behind}
use Rattle.section_work.proofs.Objects.{IsIn, touches-out}
use Rattle.set_model.proofs.TreeShape.{only_in}
use Rattle.set_model.proofs.Halves.{Half}
use Rattle.set_model.proofs.Ways.{HasOther}
use Rattle.tree_set.specs.Paths.{Path, plug, parent_of, Follows, around, before, after}
use Rattle.tree_set.specs.Paths.PathStep.{left, right}
use Rattle.list_set.specs.Places.{put_writes}
use Rattle.tree_set.specs.Places.{IsLeaf, IsParent}
use Rattle.tree_set.proofs.Plugging.{plug_in, plug_apart, stands_part, IsWithin as IsBeside, ordered_within, entries_plug, before_under, seek_plug, seek_beside}
use Rattle.tree_set.proofs.Around.{part_not_parent}
use Rattle.tree_set.proofs.Replacing.{Replaced, replaced, parent_leads, redirect_same}
use Rattle.tree_set.proofs.Halving.{tree_half}
use Rattle.tree_set.proofs.CutFit.{tree_with, path_to_leaf}

-- the value of one entry in a map
has_entry-behind : (k v : ℕ) (m n : Map) → IsUnderKey k m → has_entry k v (m ++ n) ≡ has_entry k v n
has_entry-behind k v [] n u = refl
has_entry-behind k v (e ∷ m) n u =
    let lt : e.0 < k = u.0 in let r = has_entry-behind k v m n u.1 in grind (arith, nat_tests)

put-first : (k v x : ℕ) (a : Map) → put k v ((k, x) ∷ a) ≡ (k, v) ∷ a
put-first k v x a = grind (arith, nat_tests)

beside_same : (ps : Path) (l k x v : ℕ) → IsBeside ps (leaf l k x) → IsBeside ps (leaf l k v)
beside_same [] l k x v w = tt
beside_same (left n d b ∷ ps) l k x v w = (w.0, beside_same ps l k x v w.1)
beside_same (right n d a ∷ ps) l k x v w = (w.0, beside_same ps l k x v w.1)

parent_words : (s : State) (root p l : ℕ) → IsParent s root p l → (word 3 (words_at s p) ≡ l) ⊎ (word 4 (words_at s p) ≡ l)
parent_words s root p l (inl (e, c)) = inl (ap (link s) e ∙ c)
parent_words s root p l (inr (i, c)) = c

module _ (s : State) (root k v l x : ℕ) (ps : Path) (lt : root < 180) (grown : HoldsTree s root (plug ps (leaf l k x))) (f : Follows k ps) where
  stood : Stands s root (leaf l k x)
  stood = stands_part s root ps (leaf l k x) grown.stands

  in_state : l < length s
  in_state = owned_in_range s l root (ap (word 0) stood.2)

  now : words_at (written s (put_writes s l v)) l ≡ leaf_words root k v
  now =
      words-written_same s (put_writes s l v) 0 l (0, []) refl (omega arith) refl in_state ∙ ap (λ (w : List ℕ). revalue w v) stood.2

  stays : (o : ℕ) → o ≢ l → words_at (written s (put_writes s l v)) o ≡ words_at s o
  stays o n = words-written_other s (put_writes s l v) o (touches-out (put_writes s l v) o (λ i. elim i [ inl e ↦ n e | inr e ↦ e ]))

  put_as : Replaced s (written s (put_writes s l v)) root ps (leaf l k x) (leaf l k v)
  put_as = record {
    leads = stays (parent_of root ps) (λ e. part_not_parent s root ps (leaf l k x) lt grown (parent_of root ps) refl l (inl refl) (sym e))
        ∙ sym (redirect_same (words_at s (parent_of root ps)) l (parent_words s root (parent_of root ps) l (parent_leads s root ps (leaf l k x) grown)));
    others = λ o i n. stays o (λ e. not_leaf o e i);
    stands = (stood.0, stood.1, now);
    ordered = tt;
    within = beside_same ps l k x v (ordered_within ps (leaf l k x) grown.ordered);
    distinct = (refl, tt);
    apart = λ o i j. plug_apart ps (leaf l k x) grown.distinct o i j;
    only = λ o lo e. plug_in ps (leaf l k x) o (only_in s root (plug ps (leaf l k x)) grown o lo (owned o e (cases_eq o l)));
  }
    where
      not_leaf : (o : ℕ) → o ≡ l → (o ≡ root) ⊎ IsIn o (around ps) → ⊥
      not_leaf o e (inl z) = let lo : 180 ≤ l = stood.0 in omega arith
      not_leaf o e (inr i) = plug_apart ps (leaf l k x) grown.distinct o i (inl e)

      owned : (o : ℕ) → owner (written s (put_writes s l v)) o ≡ suc root → (o ≡ l) ⊎ (o ≢ l) → owner s o ≡ suc root
      owned o e (inl z) = ap (owner s) z ∙ ap (word 0) stood.2
      owned o e (inr n) = sym (ap (word 0) (stays o n)) ∙ e

  -- the tree with the value
  pub put_grown : HoldsTree (written s (put_writes s l v)) root (plug ps (leaf l k v))
  put_grown = replaced s (written s (put_writes s l v)) root ps (leaf l k x) (leaf l k v) lt grown put_as

  put_within : IsWithin s (written s (put_writes s l v)) root
  put_within o = go (cases_eq o l)
    where
      go : (o ≡ l) ⊎ (o ≢ l) → (words_at (written s (put_writes s l v)) o ≡ words_at s o)
          ⊎ ((o ≡ root) ⊎ ((180 ≤ o) × IsOf s root o × IsOf (written s (put_writes s l v)) root o))
      go (inr n) = inl (stays o n)
      go (inl e) =
          let lo : 180 ≤ l = stood.0 in
          inr (inr (omega arith, inr (ap (owner s) e ∙ ap (word 0) stood.2), inr (ap (owner (written s (put_writes s l v))) e ∙ ap (word 0) now)))

  put_keys : (o : ℕ) → (kind (written s (put_writes s l v)) o ≡ kind s o) × (key (written s (put_writes s l v)) o ≡ key s o)
  put_keys o = go (cases_eq o l)
    where
      go : (o ≡ l) ⊎ (o ≢ l) → (kind (written s (put_writes s l v)) o ≡ kind s o) × (key (written s (put_writes s l v)) o ≡ key s o)
      go (inr n) = (ap (word 1) (stays o n), ap (word 2) (stays o n))
      go (inl e) = (
        ap (kind (written s (put_writes s l v))) e ∙ ap (word 1) now ∙ sym (ap (word 1) stood.2) ∙ ap (kind s) (sym e),
        ap (key (written s (put_writes s l v))) e ∙ ap (word 2) now ∙ sym (ap (word 2) stood.2) ∙ ap (key s) (sym e),
      )

  -- every search ends where it did
  pub put_ends : (i : ℕ) → seek i (plug ps (leaf l k x)) ≡ seek i (plug ps (leaf l k v))
  put_ends i = elim (seek_beside i ps (leaf l k x) (leaf l k v)) [
    | inr e ↦ e
    | inl g ↦ seek_plug i ps (leaf l k x) g ∙ sym (seek_plug i ps (leaf l k v) g)
  ]

  under : IsUnderKey k (before ps)
  under = before_under k ps (leaf l k x) grown.ordered f

  entries_put : entries_in (plug ps (leaf l k v)) ≡ put k v (entries_in (plug ps (leaf l k x)))
  entries_put =
      entries_plug ps (leaf l k v) ∙ ap (λ (m : Map). before ps ++ m) (sym (put-first k v x (after ps)))
      ∙ sym (put-behind k v (before ps) ((k, x) ∷ after ps) under) ∙ ap (put k v) (sym (entries_plug ps (leaf l k x)))

  has_other : value s l ≢ v → HasOther k v (entries_in (plug ps (leaf l k x)))
  has_other n =
      let xv : value s l ≡ x = ap (word 5) stood.2 in
      let there : has_key k ((k, x) ∷ after ps) ≡ true = grind (arith, nat_tests) in
      let other : has_entry k v ((k, x) ∷ after ps) ≡ false = grind (arith, nat_tests) in (
        ap (has_key k) (entries_plug ps (leaf l k x)) ∙ has_key-behind k (before ps) ((k, x) ∷ after ps) under ∙ there,
        ap (has_entry k v) (entries_plug ps (leaf l k x)) ∙ has_entry-behind k v (before ps) ((k, x) ∷ after ps) under ∙ other,
      )

  put_found : IsLawful s → 170 ≤ root → value s l ≢ v → Half s (written s (put_writes s l v)) (put_writes s l v) root (HasOther k v) (put k v)
  put_found law lo n =
      tree_half s (put_writes s l v) root (HasOther k v) (put k v) (Some (plug ps (leaf l k x))) (Some (plug ps (leaf l k v))) law lo lt grown put_grown
      (record {
        within = put_within;
        keys = λ o some same. put_keys o;
        ends = λ i m e out. (plug ps (leaf l k v), put_grown, sym (put_ends i) ∙ ap (seek i) (grown_once s root (plug ps (leaf l k x)) e.0 grown e.1) ∙ e.2);
      })
      (has_other n) entries_put

-- A put to a key that is there with another value keeps what it must, and gives the key that value in the catalogue.
pub put_half : (s : State) (root k v l : ℕ) → IsLawful s → 170 ≤ root → root < 180 → IsLeaf s root k l → value s l ≢ v
    → Half s (written s (put_writes s l v)) (put_writes s l v) root (HasOther k v) (put k v)
put_half s root k v l law lo lt is n =
    let t = tree_with s root l law lo lt is.0 is.1 in
    let r = path_to_leaf s root k l t.0 t.1 is in put_found s root k v l r.0 r.1 lt r.2 r.3 law lo n
