-- The keys of a bucket and those of the set.
use Rattle.set_model.proofs.Heads.{is_key_at-from}
use Rattle.set_model.proofs.ListMaps.{holds-map_at, map_at-holds}
use Rattle.list_set.proofs.Walking.{node_picked}
use Rattle.std.proofs.Common.{◌≡◌, ℕ, Bool, true, false, refl, sym, ap, ◌∙◌}
use Rattle.grow_hash.proofs.Terms.{State, words_at, has_key, map_at, IsNodeOf, bucket, IsGrown, head_at, grown_map, head_of}
use Rattle.grow_hash.proofs.GrownMaps.{grown_map-keeps, keeps-grown_map}
use Rattle.grow_hash.proofs.GrownStates.{bucket_low, node_bucket, keeps_node, node_keeps}

-- a key of a bucket is one of the set, and the bucket is its own
pub bucket_has : (levels : ℕ) (s : State) (b k : ℕ) → IsGrown levels s → has_key k (map_at s (head_at b)) ≡ true
    → (has_key k (grown_map levels s) ≡ true) × (bucket levels s k ≡ b)
bucket_has levels s b k l h =
    let u = map_at-holds s (head_at b) k h in
    let i : IsNodeOf s (head_at b) u.0 = (u.1, (is_key_at-from (head_at b) (words_at s u.0) u.2).0) in
    (keeps-grown_map levels s k u.0 (node_keeps levels s b k u.0 l i u.3), ap (bucket levels s) (sym u.3) ∙ node_bucket levels s b l u.0 i)

-- a key of the set is one of its bucket
pub has_bucket : (levels : ℕ) (s : State) (k : ℕ) → IsGrown levels s → has_key k (grown_map levels s) ≡ true → has_key k (map_at s (head_of levels s k)) ≡ true
has_bucket levels s k l h =
    let u = grown_map-keeps levels s k h in
    let i : IsNodeOf s (head_of levels s k) u.0 = keeps_node levels s k u.0 l u.1 in
    holds-map_at s (head_of levels s k) k (
      u.0,
      i.0,
      node_picked s (head_of levels s k) u.0 (l.lists (bucket levels s k) (bucket_low levels s l k)) i,
      u.1.key_is,
    )

-- So a key is in the set where it is in its bucket.
pub same_has : (levels : ℕ) (s : State) (k : ℕ) → IsGrown levels s → has_key k (map_at s (head_of levels s k)) ≡ has_key k (grown_map levels s)
same_has levels s k l = go (has_key k (map_at s (head_of levels s k))) refl (has_key k (grown_map levels s)) refl
  where
    go : (a : Bool) → has_key k (map_at s (head_of levels s k)) ≡ a → (b : Bool) → has_key k (grown_map levels s) ≡ b → a ≡ b
    go true e true f = refl
    go false e false f = refl
    go true e false f = sym (bucket_has levels s (bucket levels s k) k l e).0 ∙ f
    go false e true f = sym e ∙ has_bucket levels s k l f
