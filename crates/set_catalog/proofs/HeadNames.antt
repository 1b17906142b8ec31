-- The head under which a key of a name stands.
use Rattle.std.proofs.Common.{◌≡◌, ℕ, ◌+◌, ◌-◌, ◌*◌, ◌/◌, ◌%◌, ◌^◌, ◌<◌, ◌≤◌, ◌⊎◌, inl, inr, sym, ap, ◌∙◌, arith}
use Rattle.std.proofs.lemmas.Bool.{cases_lt}
use Rattle.std.proofs.lemmas.Bool.Decides.{nat_tests}
use Rattle.set_model.specs.CatalogueOf.{name_of}
use Rattle.set_model.specs.Lists.{FitsHead}
use Rattle.set_model.proofs.Heads.{name_of-list, name_of-bucket}
use Rattle.set_catalog.specs.Needs.{first_tree}
use Rattle.set_catalog.specs.Plans.{head_of}

rest_below : (k : ℕ) → k % 16 < 16
rest_below k = omega arith

bucket_name : (i r : ℕ) → r < 16 → (16 * i + r) / 16 ≡ i
bucket_name i r l = omega arith

bucket_rest : (i r : ℕ) → r < 16 → (16 * i + r) % 16 ≡ r
bucket_rest i r l = omega arith

pub head_list : (name k : ℕ) → name < 10 → head_of name k ≡ name
head_list name k l = grind (arith, nat_tests)

pub head_bucket : (name k : ℕ) → 10 ≤ name → name < first_tree → head_of name k ≡ 10 + 16 * (name - 10) + k % 16
head_bucket name k g l = grind (arith, nat_tests)

pub head_root : (name k : ℕ) → first_tree ≤ name → head_of name k ≡ name + 150
head_root name k g = grind (arith, nat_tests)

-- the head of a list or a bucket
pub low_head : (name k : ℕ) → name < first_tree → head_of name k < 170
low_head name k l = go (cases_lt name 10)
  where
    go : (name < 10) ⊎ (10 ≤ name) → head_of name k < 170
    go (inl a) = omega (arith, head_list name k a)
    go (inr b) = omega (arith, head_bucket name k b l, rest_below k)

pub low_fits : (name k : ℕ) → name < first_tree → k < 2 ^ 32 → FitsHead (head_of name k) k
low_fits name k l fit = (fit, λ g. go g (cases_lt name 10))
  where
    go : 10 ≤ head_of name k → (name < 10) ⊎ (10 ≤ name) → k % 16 ≡ (head_of name k - 10) % 16
    go g (inl a) = absurd (omega (arith, head_list name k a))
    go g (inr b) =
        let e : head_of name k - 10 ≡ 16 * (name - 10) + k % 16 = omega (arith, head_bucket name k b l) in
        sym (ap (λ (n : ℕ). n % 16) e ∙ bucket_rest (name - 10) (k % 16) (rest_below k))

-- the root of a tree
pub root_from : (name k : ℕ) → first_tree ≤ name → 170 ≤ head_of name k
root_from name k g = omega (arith, head_root name k g)

pub root_below : (name k : ℕ) → first_tree ≤ name → name < 30 → head_of name k < 180
root_below name k g l = omega (arith, head_root name k g)

pub head_below : (name k : ℕ) → name < 30 → head_of name k < 180
head_below name k l = go (cases_lt name first_tree)
  where
    go : (name < first_tree) ⊎ (first_tree ≤ name) → head_of name k < 180
    go (inl a) = omega (arith, low_head name k a)
    go (inr b) = root_below name k b l

-- it is a head of that name
pub head_named : (name k : ℕ) → name < 30 → name_of (head_of name k) ≡ name
head_named name k l = go (cases_lt name 10) (cases_lt name first_tree)
  where
    go : (name < 10) ⊎ (10 ≤ name) → (name < first_tree) ⊎ (first_tree ≤ name) → name_of (head_of name k) ≡ name
    go (inl a) _ = ap name_of (head_list name k a) ∙ name_of-list name a
    go (inr b) (inl c) =
        let h = head_bucket name k b c in
        let e : head_of name k - 10 ≡ 16 * (name - 10) + k % 16 = omega arith in
        let q : (head_of name k - 10) / 16 ≡ name - 10 = ap (λ (n : ℕ). n / 16) e ∙ bucket_name (name - 10) (k % 16) (rest_below k) in
        name_of-bucket (head_of name k) (omega arith) (low_head name k c) ∙ omega arith
    go (inr b) (inr d) = let h : head_of name k ≡ name + 150 = head_root name k d in ap name_of h ∙ grind (arith, nat_tests)
