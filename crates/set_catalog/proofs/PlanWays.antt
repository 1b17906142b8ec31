-- What a plan writes is fit for its command.
use Rattle.std.proofs.Common.{◌≡◌, ◌≢◌, ℕ, ◌^◌, ◌<◌, inl, inr, true, false, List, [], ◌∷◌, ◌++◌, length, Some, refl, sym, ap, ◌∙◌, subst, true≢false}
use Rattle.mv_history.specs.State.{State, Writes, touches}
use Rattle.mv_history.specs.Drift.{IsFit}
use Rattle.mv_history.specs.Legal.{are_distinct, AreWithin}
use Rattle.set_model.specs.Catalogue.{Map, map_of, has_entry, value_of, put, take_out}
use Rattle.set_model.specs.CatalogueOf.{name_of, catalogue_of}
use Rattle.set_model.specs.Objects.{value}
use Rattle.set_model.specs.Lawful.{IsLawful}
use Rattle.set_model.specs.Rules.{IsSetCommit}
use Rattle.set_model.specs.Tags.{tag_of}
use Rattle.set_model.specs.declared.commands.Command.{Command}
use Rattle.set_model.specs.declared.commands.Command.TheVariants.{Add, Put, Del}
use Rattle.set_model.proofs.Ways.{AreVacant, Way, Lacks, Has, HasOther}
use Rattle.set_model.proofs.Entries.{has_entry-there}
use Rattle.set_model.proofs.Fits.{add_fit, put_new_fit, put_fit, del_fit}
use Rattle.section_work.proofs.Objects.{IsIn, in_either, in-touches}
use Rattle.set_model.proofs.Ways as ways
use Rattle.hash_set.proofs.list_set_lemmas.ListHalves.{node_has}
use Rattle.hash_set.proofs.list_set_lemmas.ListWays.{list_add_way, list_del_way, list_put_way}
use Rattle.tree_balance.proofs.tree_set_lemmas.Around.{at_in_range}
use Rattle.tree_balance.proofs.tree_set_lemmas.TreeWays.{grow_way, tree_add_way, cut_way, bare_way, put_way, leaf_has}
use Rattle.set_catalog.specs.Picks.{IsVacant}
use Rattle.set_catalog.specs.Plans.{head_of, DelPlan, AddPlan, PutPlan}
use Rattle.set_catalog.specs.Plans.DelPlan.{unlinks, bares, cuts}
use Rattle.set_catalog.specs.Plans.AddPlan.{links, tree_adds, grows}
use Rattle.set_catalog.specs.Plans.PutPlan.{in_list, in_tree}
use Rattle.set_catalog.proofs.HeadNames.{low_head, low_fits, root_from, root_below, head_below, head_named}

-- a key that lacks an entry has another value
pub other_than : (k u v : ℕ) (m : Map) → value_of k m ≡ Some u → has_entry k v m ≡ false → u ≢ v
other_than k u v m e n q = true≢false (sym (has_entry-there k v m (e ∙ ap (λ (x : ℕ). Some x) q)) ∙ n)

-- One of the ways of changing the map of a name has its place in the state, and writes exactly this there.
pub record ByWay (s : State) (head : ℕ) (Fits : Map → Type 0) (change : Map → Map) (ws : Writes) : Type 1 where
  pub way : Way head Fits change
  pub place : way.Place s
  pub vacant : AreVacant s way.fresh
  pub same : way.writes s ≡ ws

-- an add, a del and a put
abbrev pub AddedBy : State → ℕ → ℕ → ℕ → Writes → Type 1
AddedBy s name k v ws = ByWay s (head_of name k) (Lacks k) (put k v) ws

abbrev pub RemovedBy : State → ℕ → ℕ → ℕ → Writes → Type 1
RemovedBy s name k v ws = ByWay s (head_of name k) (Has k v) (take_out k) ws

abbrev pub UpdatedBy : State → ℕ → ℕ → ℕ → Writes → Type 1
UpdatedBy s name k v ws = ByWay s (head_of name k) (HasOther k v) (put k v) ws

pub vacant_one : (s : State) (o : ℕ) → IsVacant s o → AreVacant s (o ∷ [])
vacant_one s o v p (inl e) = subst (λ u. ways.IsVacant s u) (sym e) (v.node, v.in_range, v.free)
vacant_one s o v p (inr i) = absurd i

pub vacant_two : (s : State) (o p : ℕ) → IsVacant s o → IsVacant s p → AreVacant s (o ∷ p ∷ [])
vacant_two s o p v w q (inl e) = subst (λ u. ways.IsVacant s u) (sym e) (v.node, v.in_range, v.free)
vacant_two s o p v w q (inr i) = vacant_one s p w q i

module _ (s : State) (name k : ℕ) (lt : name < 30) (fits : k < 2 ^ 32) where
  pub added_by : (v first second : ℕ) (ws : Writes) → AddPlan s name k v first second ws → AddedBy s name k v ws
  unfolding list_add_way tree_add_way grow_way
  added_by v first second ws (links previous low place vac) = record {
    way = list_add_way (head_of name k) k v previous first (low_head name k low) (low_fits name k low fits);
    place = place;
    vacant = vacant_one s first vac;
    same = refl;
  }
  added_by v first second ws (tree_adds high place vac) = record {
    way = tree_add_way (head_of name k) k v first (root_from name k high) (root_below name k high lt) fits;
    place = place;
    vacant = vacant_one s first vac;
    same = refl;
  }
  added_by v first second ws (grows parent leaf high place vac vac2 ne) = record {
    way = grow_way (head_of name k) k v parent leaf first second (root_from name k high) (root_below name k high lt) fits (λ e. ne (sym e));
    place = place;
    vacant = vacant_two s first second vac vac2;
    same = refl;
  }

  pub removed_by : (node inner : ℕ) (ws : Writes) → DelPlan s name k node inner ws → RemovedBy s name k (value s node) ws
  unfolding list_del_way bare_way cut_way
  removed_by node inner ws (unlinks previous low place) = record {
    way = list_del_way (head_of name k) k (value s node) previous node (low_head name k low);
    place = (place, refl);
    vacant = λ o i. absurd i;
    same = refl;
  }
  removed_by node inner ws (bares high place) = record {
    way = bare_way (head_of name k) k (value s node) node (root_from name k high) (root_below name k high lt);
    place = (place, refl);
    vacant = λ o i. absurd i;
    same = refl;
  }
  removed_by node inner ws (cuts grand parent high place) = record {
    way = cut_way (head_of name k) k (value s node) grand parent node (root_from name k high) (root_below name k high lt);
    place = (place, refl);
    vacant = λ o i. absurd i;
    same = refl;
  }

  pub updated_by : (v : ℕ) (ws : Writes) → IsLawful s → has_entry k v (map_of name (catalogue_of s)) ≡ false → PutPlan s name k v ws → UpdatedBy s name k v ws
  unfolding list_put_way put_way
  updated_by v ws l lacks (in_list node low place) =
      let named : name_of (head_of name k) ≡ name = head_named name k lt in
      let there : value_of k (map_of (name_of (head_of name k)) (catalogue_of s)) ≡ Some (value s node) =
      node_has s (head_of name k) k node l (low_head name k low) place.is_node place.own place.has in
      record {
        way = list_put_way (head_of name k) k v node (low_head name k low);
        place = (
          place,
          other_than k (value s node) v (map_of name (catalogue_of s))
              (subst (λ (n : ℕ). value_of k (map_of n (catalogue_of s)) ≡ Some (value s node)) named there) lacks,
        );
        vacant = λ o i. absurd i;
        same = refl;
      }
  updated_by v ws l lacks (in_tree leaf high is) =
      let named : name_of (head_of name k) ≡ name = head_named name k lt in
      let there : value_of k (map_of (name_of (head_of name k)) (catalogue_of s)) ≡ Some (value s leaf) =
      leaf_has s (head_of name k) k leaf l (root_from name k high) (root_below name k high lt) is in
      record {
        way = put_way (head_of name k) k v leaf (root_from name k high) (root_below name k high lt);
        place = (
          is,
          other_than k (value s leaf) v (map_of name (catalogue_of s))
              (subst (λ (n : ℕ). value_of k (map_of n (catalogue_of s)) ≡ Some (value s leaf)) named there) lacks,
        );
        vacant = λ o i. absurd i;
        same = refl;
      }

-- The writes of a way are of different objects in range.
module _ {Fits : Map → Type 0} {change : Map → Map} (s : State) (head : ℕ) (lh : head < 180) (l : IsLawful s) (ws : Writes)
    (d : ByWay s head Fits change ws) where
  pub by_distinct : are_distinct ws ≡ true
  by_distinct = ap are_distinct (sym d.same) ∙ d.way.distinct s l d.place d.vacant

  pub by_within : AreWithin ws (length s)
  by_within o t =
      let i : IsIn o (d.way.objects ++ d.way.fresh) =
      subst (λ u. IsIn o u) (d.way.names s) (in-touches (d.way.writes s) o (ap (λ (w : Writes). touches w o) d.same ∙ t)) in
      elim (in_either d.way.objects d.way.fresh o i) [
        | inl j ↦ at_in_range s head o l lh (d.way.owned s l d.place o j)
        | inr j ↦ (d.vacant o j).1
      ]

-- a commit fit for the name of a head is fit for the name itself
pub renamed : (s : State) (ws : Writes) (name k : ℕ) (command : ℕ → Command) → name < 30
    → IsFit IsSetCommit s (tag_of (command (name_of (head_of name k)))) ws → IsFit IsSetCommit s (tag_of (command name)) ws
renamed s ws name k command lt f = subst (λ (n : ℕ). IsFit IsSetCommit s (tag_of (command n)) ws) (head_named name k lt) f

-- They are fit for the command.
module _ (s : State) (name k : ℕ) (ws : Writes) (lt : name < 30) (fits : k < 2 ^ 32) (l : IsLawful s) where
  as_written : (tag : List ℕ) (made : Writes) → made ≡ ws → IsFit IsSetCommit s tag made → IsFit IsSetCommit s tag ws
  as_written tag made e f = subst (λ (w : Writes). IsFit IsSetCommit s tag w) e f

  pub fit_add : AddedBy s name k 0 ws → IsFit IsSetCommit s (tag_of (Add name k)) ws
  fit_add d =
      renamed s ws name k (λ n. Add n k) lt
      (as_written (tag_of (Add (name_of (head_of name k)) k)) (d.way.writes s) d.same
      (add_fit (head_of name k) k d.way s (head_below name k lt) fits l d.place d.vacant))

  pub fit_put_new : (v : ℕ) → v < 2 ^ 64 → AddedBy s name k v ws → IsFit IsSetCommit s (tag_of (Put name k v)) ws
  fit_put_new v lv d =
      renamed s ws name k (λ n. Put n k v) lt
      (as_written (tag_of (Put (name_of (head_of name k)) k v)) (d.way.writes s) d.same
      (put_new_fit (head_of name k) k v d.way s (head_below name k lt) fits lv l d.place d.vacant))

  pub fit_put : (v : ℕ) → v < 2 ^ 64 → UpdatedBy s name k v ws → IsFit IsSetCommit s (tag_of (Put name k v)) ws
  fit_put v lv d =
      renamed s ws name k (λ n. Put n k v) lt
      (as_written (tag_of (Put (name_of (head_of name k)) k v)) (d.way.writes s) d.same
      (put_fit (head_of name k) k v d.way s (head_below name k lt) fits lv l d.place d.vacant))

  pub fit_del : (v : ℕ) → RemovedBy s name k v ws → IsFit IsSetCommit s (tag_of (Del name k)) ws
  fit_del v d =
      renamed s ws name k (λ n. Del n k) lt
      (as_written (tag_of (Del (name_of (head_of name k)) k)) (d.way.writes s) d.same
      (del_fit (head_of name k) k v d.way s (head_below name k lt) fits l d.place d.vacant))
