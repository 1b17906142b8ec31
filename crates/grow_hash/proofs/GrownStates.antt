-- What is known of a grown lawful state.
use Rattle.set_model.specs.Catalogue.{cost}
use Rattle.grow_hash.proofs.Terms.{cases_lt, State, words_at, owner, key, head_words, list_words, word, IsNodeOf, level, split_place, bucket_of, bucket, hash}
use Rattle.grow_hash.proofs.Terms.{most_buckets, first_grown, table_words, IsTable, IsGrown, head_at, grown_catalogue, grown_capacity, ◌≡◌, ◌≢◌, ◌*◌, ◌^◌, ◌<◌}
use Rattle.grow_hash.proofs.Terms.{◌≤◌, ℕ, zero, suc, inl, inr, List, sym, ap, ◌∙◌, subst, arith}
use Rattle.grow_hash.proofs.Buckets.{bucket_in, many_heads}
use Rattle.grow_hash.proofs.GrownMaps.{Keeps, grown_fits}

-- objects below the nodes are the table and heads, and have no owner
pub low_unowned : (levels : ℕ) (s : State) → IsGrown levels s → (o : ℕ) → o < first_grown levels → owner s o ≡ 0
low_unowned levels s l zero lt = ap (word 0) l.table.words
low_unowned levels s l (suc b) lt = (l.lists b (omega arith)).unowned

-- so a node of a list is a node
pub node_high : (levels : ℕ) (s : State) (head : ℕ) → IsGrown levels s → (o : ℕ) → IsNodeOf s head o → first_grown levels ≤ o
node_high levels s head l o i = elim (cases_lt o (first_grown levels)) [
  | inl lt ↦ (let x = low_unowned levels s l o lt in let y : owner s o ≡ suc head = i.1 in absurd (omega arith))
  | inr ge ↦ ge
]

-- the bucket of each key has a head
pub bucket_low : (levels : ℕ) (s : State) → IsGrown levels s → (k : ℕ) → bucket levels s k < most_buckets levels
bucket_low levels s l k = bucket_in levels (level s) (split_place s) (hash levels k) l.least l.table.level_in l.table.whole

-- a node that is not vacant is in the list of its key's bucket
pub node_of_bucket : (levels : ℕ) (s : State) → IsGrown levels s → (o : ℕ) → first_grown levels ≤ o → owner s o ≢ 0
    → IsNodeOf s (head_at (bucket levels s (key s o))) o
node_of_bucket levels s l o lo some = let many : 1024 ≤ most_buckets levels = many_heads levels l.least in (omega arith, ap (word 0) (l.nodes o lo some))

-- and so the bucket of its key is that of its list
pub node_bucket : (levels : ℕ) (s : State) (b : ℕ) → IsGrown levels s → (o : ℕ) → IsNodeOf s (head_at b) o → bucket levels s (key s o) ≡ b
node_bucket levels s b l o i =
    let own : owner s o ≡ suc (head_at b) = i.1 in
    let q : owner s o ≡ suc (head_at (bucket levels s (key s o))) = (node_of_bucket levels s l o (node_high levels s (head_at b) l o i) (omega arith)).1 in
    omega arith

pub keeps_node : (levels : ℕ) (s : State) (k o : ℕ) → IsGrown levels s → Keeps levels s k o → IsNodeOf s (head_at (bucket levels s k)) o
keeps_node levels s k o l h =
    subst (λ j. IsNodeOf s (head_at (bucket levels s j)) o) h.key_is (node_of_bucket levels s l o h.node h.owned)

pub node_keeps : (levels : ℕ) (s : State) (b k o : ℕ) → IsGrown levels s → IsNodeOf s (head_at b) o → key s o ≡ k → Keeps levels s k o
node_keeps levels s b k o l i e = record {
  node = node_high levels s (head_at b) l o i;
  owned = (let own : owner s o ≡ suc (head_at b) = i.1 in omega arith);
  key_is = e;
}

-- each key is that of one node
pub key_once : (levels : ℕ) (s : State) → IsGrown levels s → (o u k : ℕ) → Keeps levels s k o → Keeps levels s k u → o ≡ u
key_once levels s l o u k h g =
    (l.lists (bucket levels s k) (bucket_low levels s l k)).once o u (keeps_node levels s k o l h) (keeps_node levels s k u l g) (h.key_is ∙ sym g.key_is)

-- and the set fits the nodes
pub lawful_fits : (levels : ℕ) (s : State) → IsGrown levels s → cost (grown_catalogue levels s) ≤ grown_capacity levels s
lawful_fits levels s l = grown_fits levels s (key_once levels s l)

-- the words of a table, a head and a node by what is read in them
pub table_kept : (levels : ℕ) (s s' : State) → words_at s' 0 ≡ words_at s 0 → IsTable levels s → IsTable levels s'
table_kept levels s s' e t = record {
  words = e ∙ t.words ∙ sym (ap (λ w. table_words (word 2 w) (word 3 w)) e);
  level_in = (let q : level s' ≡ level s = ap (word 2) e in let x = t.level_in in omega arith);
  place_in = subst (λ w. word 3 w < 16 * 2 ^ word 2 w) (sym e) t.place_in;
  whole = λ z. ap (word 3) e ∙ t.whole (sym (ap (word 2) e) ∙ z);
}

pub bucket_kept : (levels : ℕ) (s s' : State) (k : ℕ) → words_at s' 0 ≡ words_at s 0 → bucket levels s' k ≡ bucket levels s k
bucket_kept levels s s' k e = ap (λ w. bucket_of (word 2 w) (word 3 w) (hash levels k)) e

pub head_is : (w : List ℕ) (to : ℕ) → w ≡ head_words to → w ≡ head_words (word 3 w)
head_is w to e = e ∙ sym (ap (λ u. head_words (word 3 u)) e)

pub node_is : (levels : ℕ) (s : State) (w : List ℕ) (b k v to : ℕ) → w ≡ list_words (head_at b) k v to → bucket levels s k ≡ b
    → w ≡ list_words (head_at (bucket levels s (word 2 w))) (word 2 w) (word 5 w) (word 3 w)
node_is levels s w b k v to e q =
    e ∙ sym (ap (λ u. list_words (head_at (bucket levels s (word 2 u))) (word 2 u) (word 5 u) (word 3 u)) e ∙ ap (λ c. list_words (head_at c) k v to) q)
