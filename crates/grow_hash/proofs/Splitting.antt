-- What a split does to the table, and what holds after an allowed history.
use Rattle.mv_history.specs.declared.history.Entry.{Entry}
use Rattle.std.proofs.Common.{◌≡◌, ◌≢◌, ◌+◌, ◌%◌, ◌<◌, ◌≤◌, ◌∷◌, ◌++◌, ℕ, suc, inl, inr, cond, Bool, eq-eqb, ne_eqb, List, [], refl, sym, ap, ◌∙◌, subst, arith}
use Rattle.grow_hash.proofs.Terms.{Option, Some, None, cases_eq, State, Writes, written, state_after, Rest, Change, IsAllowed}
use Rattle.grow_hash.proofs.Terms.{words_at, word, level, split_place, buckets_at, bucket_of, bucket, buckets, table_words, next_table}
use Rattle.grow_hash.proofs.Terms.{IsTable, IsGrown, IsGrownOpening, Growing, makes, splits, growing_of, Grows, IsGrowCommit, is_splitting, count_splits}
use Rattle.grow_hash.proofs.Buckets.{some_buckets, twice_buckets, bucket_split, bucket_whole, bucket_next, bucket_level}
use Rattle.grow_hash.proofs.GrownOpenings.{grown_opening}
use Rattle.mv_history.proofs.Kept.{keeps_after, keeps_along}
use Rattle.grow_hash.proofs.Terms.{hash, most_level}

-- the next table is that of the next level, or of the next place
pub next_level : (level place : ℕ) → suc place ≡ buckets_at level → next_table level place ≡ table_words (suc level) 0
next_level level place e = ap (λ (b : Bool). cond b (table_words (suc level) 0) (table_words level (suc place))) (eq-eqb (suc place) (buckets_at level) e)

pub next_place : (level place : ℕ) → suc place ≢ buckets_at level → next_table level place ≡ table_words level (suc place)
next_place level place n = ap (λ (b : Bool). cond b (table_words (suc level) 0) (table_words level (suc place))) (ne_eqb (suc place) (buckets_at level) n)

-- A split leaves the keys of other buckets where they are.
pub bucket_apart : (levels : ℕ) (s s' : State) (k : ℕ) → words_at s' 0 ≡ next_table (level s) (split_place s) → bucket levels s k ≢ split_place s
    → bucket levels s' k ≡ bucket levels s k
bucket_apart levels s s' k e n = elim (cases_eq (suc (split_place s)) (buckets_at (level s))) [
  | inl q ↦ ap (λ w. bucket_of (word 2 w) (word 3 w) (hash levels k)) (e ∙ next_level (level s) (split_place s) q)
      ∙ bucket_level (level s) (hash levels k) ∙ ap (λ p. bucket_of (level s) p (hash levels k)) (sym q)
      ∙ bucket_next (level s) (split_place s) (hash levels k) n
  | inr q ↦ ap (λ w. bucket_of (word 2 w) (word 3 w) (hash levels k)) (e ∙ next_place (level s) (split_place s) q)
      ∙ bucket_next (level s) (split_place s) (hash levels k) n
]

-- It parts the keys of its own by twice as many buckets.
pub bucket_parted : (levels : ℕ) (s s' : State) (k : ℕ) → words_at s' 0 ≡ next_table (level s) (split_place s)
    → hash levels k % buckets_at (level s) ≡ split_place s
    → bucket levels s' k ≡ hash levels k % buckets_at (suc (level s))
bucket_parted levels s s' k e home = elim (cases_eq (suc (split_place s)) (buckets_at (level s))) [
  | inl q ↦ ap (λ w. bucket_of (word 2 w) (word 3 w) (hash levels k)) (e ∙ next_level (level s) (split_place s) q)
      ∙ bucket_whole (suc (level s)) 0 (hash levels k) (omega arith)
  | inr q ↦ ap (λ w. bucket_of (word 2 w) (word 3 w) (hash levels k)) (e ∙ next_place (level s) (split_place s) q)
      ∙ bucket_split (level s) (suc (split_place s)) (hash levels k) (omega arith)
]

-- The table stays in range.
pub table_splits : (levels : ℕ) (s s' : State) → words_at s' 0 ≡ next_table (level s) (split_place s) → level s < most_level levels → IsTable levels s
    → IsTable levels s'
table_splits levels s s' e below t = elim (cases_eq (suc (split_place s)) (buckets_at (level s))) [
  | inl q ↦ by_words (suc (level s)) 0 (e ∙ next_level (level s) (split_place s) q) (omega arith)
      (let some = some_buckets (suc (level s)) in omega arith) (λ _. refl)
  | inr q ↦ by_words (level s) (suc (split_place s)) (e ∙ next_place (level s) (split_place s) q) (omega arith)
      (let x = t.place_in in omega arith) (λ z. absurd (omega arith))
]
  where
    by_words : (level place : ℕ) → words_at s' 0 ≡ table_words level place → level ≤ most_level levels → place < buckets_at level → (level ≡ most_level levels
        → place ≡ 0) → IsTable levels s'
    by_words level place w a b c = record {
      words = w ∙ sym (ap (λ u. table_words (word 2 u) (word 3 u)) w);
      level_in = subst (λ u. word 2 u ≤ most_level levels) (sym w) a;
      place_in = subst (λ u. word 3 u < buckets_at (word 2 u)) (sym w) b;
      whole = subst (λ u. word 2 u ≡ most_level levels → word 3 u ≡ 0) (sym w) c;
    }

-- and has no owner
pub table_owner : (level place : ℕ) → word 0 (next_table level place) ≡ 0
table_owner level place = elim (cases_eq (suc place) (buckets_at level)) [
  | inl q ↦ ap (word 0) (next_level level place q)
  | inr q ↦ ap (word 0) (next_place level place q)
]

-- It makes one bucket more.
pub bucket_more : (s s' : State) → words_at s' 0 ≡ next_table (level s) (split_place s) → buckets s' ≡ suc (buckets s)
bucket_more s s' e = elim (cases_eq (suc (split_place s)) (buckets_at (level s))) [
  | inl q ↦ ap (λ w. buckets_at (word 2 w) + word 3 w) (e ∙ next_level (level s) (split_place s) q)
      ∙ (let t : buckets_at (suc (level s)) ≡ buckets_at (level s) + buckets_at (level s) = twice_buckets (level s) in omega arith)
  | inr q ↦ ap (λ w. buckets_at (word 2 w) + word 3 w) (e ∙ next_place (level s) (split_place s) q) ∙ omega arith
]

commit_buckets : (levels : ℕ) (g : Option Growing) (s s' : State) (ws : Writes) → Grows levels g s s' ws → buckets s' ≡ cond (is_splitting g) 1 0 + buckets s
commit_buckets levels None s s' ws w = absurd w
commit_buckets levels (Some (makes command)) s s' ws w = ap (λ u. buckets_at (word 2 u) + word 3 u) w.table ∙ omega arith
commit_buckets levels (Some (splits place)) s s' ws w = bucket_more s s' w.table ∙ omega arith

-- After an allowed history a state is lawful.
pub grown_after : (levels : ℕ) (start : State) (history : List Entry) → IsGrownOpening levels start → IsAllowed (IsGrowCommit levels) start history
    → IsGrown levels (state_after start history)
grown_after levels start history o h =
    keeps_after (IsGrowCommit levels) (IsGrown levels) (λ tag s ws makes l. makes.keeps.lawful_after) start history h (grown_opening levels start o)

count_splits-append : (xs ys : List Entry) → count_splits (xs ++ ys) ≡ count_splits xs + count_splits ys
count_splits-append [] ys = omega arith
count_splits-append (Rest by ∷ xs) ys = count_splits-append xs ys
count_splits-append (Change c ∷ xs) ys = omega (arith, count_splits-append xs ys)

-- There are 16 buckets, and one more for each split.
pub buckets_after : (levels : ℕ) (start : State) (history : List Entry) → IsGrownOpening levels start → IsAllowed (IsGrowCommit levels) start history
    → buckets (state_after start history) ≡ 16 + count_splits history
buckets_after levels start history o h =
    let some = o.some in
    keeps_along (IsGrowCommit levels) (λ front s. buckets s ≡ 16 + count_splits front)
    (λ front by s q. omega (arith, q, count_splits-append front (Rest by ∷ [])))
    (λ front c s makes q. (let one = commit_buckets levels (growing_of c.tag) s (written s c.writes) c.writes makes.grows in
    omega (arith, q, one, count_splits-append front (Change c ∷ []))))
    start history h (ap (λ w. buckets_at (word 2 w) + word 3 w) (o.zeros 0 (omega arith)))
