-- What is planned for a change is written by a way that others don't disturb.
use Rattle.set_model.proofs.Ways.{Has}
use Rattle.list_set.proofs.ListWays.{list_add_way, list_del_way, list_put_way}
use Rattle.tree_set.proofs.TreeWays.{grow_way, tree_add_way, cut_way, bare_way, put_way}
use Rattle.std.proofs.Common.{◌≡◌, ◌≢◌, ◌^◌, ◌<◌, ◌++◌}
use Rattle.set_blocks.proofs.Terms.{ℕ, true, false, Some, refl, sym, ap, ◌∙◌, subst, State, Writes, written, touches, Map, map_of, has_entry, value_of, put}
use Rattle.set_blocks.proofs.Terms.{take_out, name_of, catalogue_of, value, IsLawful, Keeps, IsIn, in_left, in_right, touches-in, AreVacant, Way, Lacks}
use Rattle.set_blocks.proofs.Terms.{HasOther, node_has, leaf_has, head_of, DelPlan, AddPlan, PutPlan, unlinks, bares, cuts, links, tree_adds, grows, in_list}
use Rattle.set_blocks.proofs.Terms.{in_tree, low_head, low_fits, root_from, root_below, head_named, ByWay, vacant_one, vacant_two, other_than, Remains}
use Rattle.set_blocks.proofs.Stepping.{Covers, Spares, spares_keeps}
use Rattle.set_blocks.proofs.Tracking.{Both, Tracks, tracked_place, tracked_vacant, tracked_writes, tracked_half, remains_after}
use Rattle.set_blocks.proofs.ListTracks.{list_add_tracks, list_del_tracks, list_put_tracks}
use Rattle.set_blocks.proofs.TreeTracks.{grow_tracks}
use Rattle.set_blocks.proofs.RootTracks.{tree_add_tracks, bare_tracks, put_tracks}
use Rattle.set_blocks.proofs.CutTracks.{cut_tracks}

-- A way that others don't disturb has its place in the state, and writes exactly this there.
pub record ByTracked (s : State) (head : ℕ) (Fits : Map → Type 0) (change : Map → Map) (ws : Writes) : Type 1 where
  pub way : Way head Fits change
  pub tracks : Tracks head way
  pub place : way.Place s
  pub vacant : AreVacant s way.fresh
  pub same : way.writes s ≡ ws

module _ {Fits : Map → Type 0} {change : Map → Map} (z u : State) (head : ℕ) (lh : head < 180) (ws : Writes) (t : ByTracked z head Fits change ws)
    (held : Writes) (lz : IsLawful z) (r : Remains held z u) (cover : Covers held ws) where
  written_held : (o : ℕ) → IsIn o (t.way.objects ++ t.way.fresh) → touches held o ≡ true
  written_held o i =
      cover o (ap (λ (w : Writes). touches w o) (sym t.same) ∙ touches-in (t.way.writes z) o (subst (λ os. IsIn o os) (sym (t.way.names z)) i))

  here : Both head t.way held z u
  here = record {
    lawful = lz;
    remains = r;
    objects = λ o i. written_held o (in_left t.way.objects t.way.fresh o i);
    fresh = λ o i. written_held o (in_right t.way.objects t.way.fresh o i);
    place = t.place;
    vacant = t.vacant;
  }

  same_there : t.way.writes u ≡ ws
  same_there = tracked_writes head t.way t.tracks lh held z u here ∙ t.same

  -- The way has its place in the other state, and writes the same there.
  pub by_way_there : ByWay u head Fits change ws
  by_way_there = record {
    way = t.way;
    place = tracked_place head t.way t.tracks lh held z u here;
    vacant = tracked_vacant head t.way t.tracks lh held z u here;
    same = same_there;
  }

  pub tracked_remains : Remains held (written z ws) (written u ws)
  tracked_remains =
      subst (λ (w : Writes). Remains held (written z w) (written u ws)) t.same
      (subst (λ (w : Writes). Remains held (written z (t.way.writes z)) (written u w)) same_there (remains_after head t.way t.tracks lh held z u here))

  pub tracked_keeps : Keeps u (written u ws) ws
  tracked_keeps = subst (λ (w : Writes). Keeps u (written u w) w) same_there (tracked_half head t.way t.tracks lh held z u here).keeps

  pub tracked_spares : Spares u ws
  tracked_spares = spares_keeps u ws tracked_keeps

-- a way of which that is known, with its place
tracked : {Fits : Map → Type 0} {change : Map → Map} {head : ℕ} {w : Way head Fits change} (s : State) → Tracks head w → w.Place s → AreVacant s w.fresh
    → ByTracked s head Fits change (w.writes s)
tracked {Fits} {change} {head} {w} s tracks place vacant = record { way = w; tracks = tracks; place = place; vacant = vacant; same = refl }

module _ (s : State) (name k : ℕ) (lt : name < 30) (fits : k < 2 ^ 32) where
  pub added_tracked : (v first second : ℕ) (ws : Writes) → AddPlan s name k v first second ws → ByTracked s (head_of name k) (Lacks k) (put k v) ws
  unfolding list_add_way tree_add_way grow_way
  added_tracked v first second ws (links previous low place vac) =
      tracked s (list_add_tracks (head_of name k) k v previous first (low_head name k low) (low_fits name k low fits)) place (vacant_one s first vac)
  added_tracked v first second ws (tree_adds high place vac) =
      tracked s (tree_add_tracks (head_of name k) k v first (root_from name k high) (root_below name k high lt) fits) place (vacant_one s first vac)
  added_tracked v first second ws (grows parent leaf high place vac vac2 ne) =
      tracked s (grow_tracks (head_of name k) k v parent leaf first second (root_from name k high) (root_below name k high lt) fits (λ e. ne (sym e)))
      place (vacant_two s first second vac vac2)

  pub removed_tracked : (node inner : ℕ) (ws : Writes) → DelPlan s name k node inner ws
      → ByTracked s (head_of name k) (Has k (value s node)) (take_out k) ws
  unfolding list_del_way bare_way cut_way
  removed_tracked node inner ws (unlinks previous low place) =
      tracked s (list_del_tracks (head_of name k) k (value s node) previous node (low_head name k low)) (place, refl) (λ o i. absurd i)
  removed_tracked node inner ws (bares high place) =
      tracked s (bare_tracks (head_of name k) k (value s node) node (root_from name k high) (root_below name k high lt)) (place, refl) (λ o i. absurd i)
  removed_tracked node inner ws (cuts grand parent high place) =
      tracked s (cut_tracks (head_of name k) k (value s node) grand parent node (root_from name k high) (root_below name k high lt)) (place, refl)
      (λ o i. absurd i)

  -- the entry that a node of the key has is another one
  other : (node v : ℕ) → value_of k (map_of (name_of (head_of name k)) (catalogue_of s)) ≡ Some (value s node)
      → has_entry k v (map_of name (catalogue_of s)) ≡ false → value s node ≢ v
  other node v there lacks =
      other_than k (value s node) v (map_of name (catalogue_of s))
      (subst (λ (n : ℕ). value_of k (map_of n (catalogue_of s)) ≡ Some (value s node)) (head_named name k lt) there) lacks

  pub updated_tracked : (v : ℕ) (ws : Writes) → IsLawful s → has_entry k v (map_of name (catalogue_of s)) ≡ false → PutPlan s name k v ws
      → ByTracked s (head_of name k) (HasOther k v) (put k v) ws
  unfolding list_put_way put_way
  updated_tracked v ws l lacks (in_list node low place) =
      tracked s (list_put_tracks (head_of name k) k v node (low_head name k low))
      (place, other node v (node_has s (head_of name k) k node l (low_head name k low) place.is_node place.own place.has) lacks) (λ o i. absurd i)
  updated_tracked v ws l lacks (in_tree leaf high is) =
      tracked s (put_tracks (head_of name k) k v leaf (root_from name k high) (root_below name k high lt))
      (is, other leaf v (leaf_has s (head_of name k) k leaf l (root_from name k high) (root_below name k high lt) is) lacks) (λ o i. absurd i)
