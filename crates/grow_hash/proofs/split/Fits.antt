-- A split stays allowed whatever others commit meanwhile that writes nothing of it.
use Rattle.std.proofs.Common.{◌≡◌, ◌+◌, ◌%◌, ◌<◌, ◌==◌, ◌∷◌, ℕ, suc, inl, inr, cond, true, List, [], refl, sym, ap, ◌∙◌, subst}
use Rattle.grow_hash.proofs.Terms.{State, Writes, written, touches, IsFit, words_at, drift_keeps_apart, words-drifts, allowed_at_once, key, value, head_words}
use Rattle.grow_hash.proofs.Terms.{list_words, word, IsIn, touches-in, level, split_place, buckets_at, next_table, IsGrown, head_at, grown_catalogue, split_tag}
use Rattle.grow_hash.proofs.Terms.{IsGrowCommit, SplitPlan, IsPath, new_bucket, split_bucket, first_to, parted_nodes, split_writes, hash, most_level}
use Rattle.grow_hash.proofs.split.Paths.{path_kept}
use Rattle.grow_hash.proofs.split.PartedStates.{parted_objects}
use Rattle.grow_hash.proofs.split.States.{split_allowed}

-- Two states with the same table, and the same words of these nodes.
module _ (levels : ℕ) (s t : State) (table : words_at t 0 ≡ words_at s 0) where
  same_bucket : (n : ℕ) → words_at t n ≡ words_at s n → split_bucket levels t n ≡ split_bucket levels s n
  same_bucket n e =
      ap (λ w. hash levels (word 2 (words_at t n)) % buckets_at (suc (word 2 w))) table
      ∙ ap (λ w. hash levels (word 2 w) % buckets_at (suc (level s))) e

  same_first : (b : ℕ) (ns : List ℕ) → ((n : ℕ) → IsIn n ns → words_at t n ≡ words_at s n) → first_to levels t b ns ≡ first_to levels s b ns
  same_first b [] f = refl
  same_first b (n ∷ ns) f =
      ap (λ c. cond (c == b) n (first_to levels t b ns)) (same_bucket n (f n (inl refl)))
      ∙ ap (λ u. cond (split_bucket levels s n == b) n u) (same_first b ns (λ m i. f m (inr i)))

  same_parted : (ns : List ℕ) → ((n : ℕ) → IsIn n ns → words_at t n ≡ words_at s n) → parted_nodes levels t ns ≡ parted_nodes levels s ns
  same_parted [] f = refl
  same_parted (n ∷ ns) f =
      let here = f n (inl refl) in
      let rest : (m : ℕ) → IsIn m ns → words_at t m ≡ words_at s m = λ m i. f m (inr i) in
      ap (λ c. (n, list_words (head_at c) (key t n) (value t n) (first_to levels t c ns)) ∷ parted_nodes levels t ns) (same_bucket n here)
      ∙ ap (λ w. (n, list_words (head_at (split_bucket levels s n)) (word 2 w) (word 5 w) (first_to levels t (split_bucket levels s n) ns))
      ∷ parted_nodes levels t ns) here
      ∙ ap (λ u. (n, list_words (head_at (split_bucket levels s n)) (key s n) (value s n) u) ∷ parted_nodes levels t ns)
      (same_first (split_bucket levels s n) ns rest)
      ∙ ap (λ (ws : Writes). (n, list_words (head_at (split_bucket levels s n)) (key s n) (value s n) (first_to levels s (split_bucket levels s n) ns))
      ∷ ws) (same_parted ns rest)

  -- A split writes the same in both.
  pub same_split : (ns : List ℕ) → ((n : ℕ) → IsIn n ns → words_at t n ≡ words_at s n) → split_writes levels t ns ≡ split_writes levels s ns
  same_split ns f =
      ap (λ w.
      (0, next_table (word 2 w) (word 3 w))
      ∷ (head_at (word 3 w), head_words (first_to levels t (word 3 w) ns))
      ∷ (head_at (word 3 w + buckets_at (word 2 w)), head_words (first_to levels t (word 3 w + buckets_at (word 2 w)) ns))
      ∷ parted_nodes levels t ns) table
      ∙ ap (λ u. (0, next_table (level s) (split_place s)) ∷ (head_at (split_place s), head_words u)
      ∷ (head_at (new_bucket s), head_words (first_to levels t (new_bucket s) ns)) ∷ parted_nodes levels t ns) (same_first (split_place s) ns f)
      ∙ ap (λ u. (0, next_table (level s) (split_place s)) ∷ (head_at (split_place s), head_words (first_to levels s (split_place s) ns))
      ∷ (head_at (new_bucket s), head_words u) ∷ parted_nodes levels t ns) (same_first (new_bucket s) ns f)
      ∙ ap (λ (ws : Writes). (0, next_table (level s) (split_place s)) ∷ (head_at (split_place s), head_words (first_to levels s (split_place s) ns))
      ∷ (head_at (new_bucket s), head_words (first_to levels s (new_bucket s) ns)) ∷ ws) (same_parted ns f)

-- What a split locks and writes is a fit commit.
pub split_fit : (levels : ℕ) (from : State) (ws : Writes) → SplitPlan levels from ws → IsGrown levels from
    → IsFit (IsGrowCommit levels) from (split_tag (split_place from)) ws
split_fit levels from ws p l =
    subst (λ u. IsFit (IsGrowCommit levels) from (split_tag (split_place from)) u) (sym p.writes_are) fit
  where
    held : Writes
    held = split_writes levels from p.nodes

    in_nodes : (n : ℕ) → IsIn n p.nodes → touches (split_writes levels from p.nodes) n ≡ true
    in_nodes n i = touches-in (split_writes levels from p.nodes) n (inr (inr (inr (subst (IsIn n) (sym (parted_objects levels from p.nodes)) i))))

    fit : IsFit (IsGrowCommit levels) from (split_tag (split_place from)) (split_writes levels from p.nodes)
    fit s drift =
        let lawful : IsGrown levels s = drift_keeps_apart (IsGrowCommit levels) held from (IsGrown levels)
        (λ u tag vs m _ al apart kept. al.keeps.lawful_after) l s drift in
        let same : (o : ℕ) → touches (split_writes levels from p.nodes) o ≡ true → words_at s o ≡ words_at from o =
        λ o t. words-drifts (IsGrowCommit levels) held from s o drift t in
        let table : words_at s 0 ≡ words_at from 0 = same 0 (touches-in (split_writes levels from p.nodes) 0 (inl refl)) in
        let place : split_place s ≡ split_place from = ap (word 3) table in
        let head : words_at s (head_at (split_place from)) ≡ words_at from (head_at (split_place from)) =
        same (head_at (split_place from)) (touches-in (split_writes levels from p.nodes) (head_at (split_place from)) (inr (inl refl))) in
        let path : IsPath s (head_at (split_place from)) p.nodes =
        path_kept from s (head_at (split_place from)) p.nodes (ap (word 3) head) (λ n i. ap (word 3) (same n (in_nodes n i))) p.path in
        let allowed : IsGrowCommit levels (split_tag (split_place s)) s (split_writes levels s p.nodes) =
        split_allowed levels s p.nodes lawful (subst (λ w. word 2 w < most_level levels) (sym table) p.below)
        (subst (λ c. IsPath s (head_at c) p.nodes) (sym place) path) in
        subst (λ u. IsGrowCommit levels (split_tag (split_place from)) s u) (same_split levels from s table p.nodes (λ n i. same n (in_nodes n i)))
        (subst (λ c. IsGrowCommit levels (split_tag c) s (split_writes levels s p.nodes)) place allowed)

-- It leaves a lawful state,
pub plan_grown : (levels : ℕ) (from : State) (ws : Writes) → SplitPlan levels from ws → IsGrown levels from → IsGrown levels (written from ws)
plan_grown levels from ws p l =
    (allowed_at_once (IsGrowCommit levels) from (split_tag (split_place from)) ws (split_fit levels from ws p l)).keeps.lawful_after

-- and the same catalogue.
pub plan_leaves : (levels : ℕ) (from : State) (ws : Writes) → SplitPlan levels from ws → IsGrown levels from
    → grown_catalogue levels (written from ws) ≡ grown_catalogue levels from
plan_leaves levels from ws p l = (allowed_at_once (IsGrowCommit levels) from (split_tag (split_place from)) ws (split_fit levels from ws p l)).grows.leaves
