-- Heads and the names to which they belong.
use Rattle.std.proofs.Common.{◌≡◌, ◌≢◌, ℕ, suc, ◌+◌, ◌-◌, ◌/◌, ◌%◌, ◌<◌, ◌≤◌, ◌⊎◌, inl, inr, true, List, ap, ◌∙◌, arith, eqb-true, eq-eqb}
use Rattle.std.proofs.lemmas.Bool.{cases_lt}
use Rattle.std.proofs.lemmas.Bool.Decides.{nat_tests}
use Rattle.mv_history.specs.State.{State}
use Rattle.mv_history.specs.Meaning.{words_at}
use Rattle.set_model.specs.CatalogueOf.{name_of, is_key_of, is_key_at}
use Rattle.set_model.specs.Objects.{owner, kind, key}
use Rattle.set_model.specs.Lists.{FitsHead}
use Rattle.set_model.specs.Lawful.{IsLawful}
use Rattle.set_model.proofs.ObjectWords.{word}
use Rattle.set_model.proofs.Chains.{only_among, Links-kind, Links-fits}
use Rattle.set_model.proofs.Mapped.{is_key-from, is_key-to}

-- the name of a list's head has its number
pub name_of-list : (head : ℕ) → head < 10 → name_of head ≡ head
name_of-list head lt = grind (arith, nat_tests)

-- and sixteen buckets in a row have one name
pub name_of-bucket : (head : ℕ) → 10 ≤ head → head < 170 → name_of head ≡ 10 + (head - 10) / 16
name_of-bucket head ge lt = grind (arith, nat_tests)

-- the names of lists and buckets are those below 20
pub name_low : (head : ℕ) → head < 170 → name_of head < 20
name_low head lt = grind (arith, nat_tests)

pub head_low : (head : ℕ) → name_of head < 20 → head < 170
head_low head lt = grind (arith, cases_lt)

pub name_bound : (head : ℕ) → head < 180 → name_of head < 30
name_bound head lt = grind (arith, nat_tests)

pub is_key_at-from : (head : ℕ) (w : List ℕ) → is_key_at head w ≡ true → (word 0 w ≡ suc head) × (word 1 w ≢ 2)
is_key_at-from head w e = grind (arith, eqb-true)

pub is_key_at-to : (head : ℕ) (w : List ℕ) → word 0 w ≡ suc head → word 1 w ≢ 2 → is_key_at head w ≡ true
is_key_at-to head w a b = grind (arith, eq-eqb)

-- a key of a head is one of its name
pub at_named : (head : ℕ) (w : List ℕ) → is_key_at head w ≡ true → is_key_of (name_of head) w ≡ true
at_named head w e =
    let f = is_key_at-from head w e in
    let q : word 0 w - 1 ≡ head = omega arith in
    is_key-to (name_of head) w (omega arith) f.1 (ap name_of q)

-- the head in whose list or tree a key of a name stands
pub record IsHomed (s : State) (name o head : ℕ) : Type 0 where
  pub in_heads : head < 180
  pub own : owner s o ≡ suc head
  pub named : name_of head ≡ name

pub home : (s : State) (name o : ℕ) → IsLawful s → 180 ≤ o → is_key_of name (words_at s o) ≡ true → (head : ℕ) × IsHomed s name o head
home s name o l lo e =
    let b : owner s o ≤ 180 = l.owned o lo in
    let f = is_key-from name (words_at s o) e in
    let some : 0 < owner s o = f.0 in
    (owner s o - 1, record { in_heads = omega arith; own = omega arith; named = f.2 })

-- the words of a list node whose head owns it
pub owned_kind : (s : State) (head o : ℕ) → IsLawful s → head < 170 → 180 ≤ o → owner s o ≡ suc head → kind s o ≡ 0
owned_kind s head o l lh lo e =
    let m = l.lists head lh in Links-kind s head m.0 m.1.links o (only_among s head m.0 m.1 o lo e)

pub owned_fits : (s : State) (head o : ℕ) → IsLawful s → head < 170 → 180 ≤ o → owner s o ≡ suc head → FitsHead head (key s o)
owned_fits s head o l lh lo e =
    let m = l.lists head lh in Links-fits s head m.0 m.1.links o (only_among s head m.0 m.1 o lo e)

-- so it holds a key of the head
pub owned_key_at : (s : State) (head o : ℕ) → IsLawful s → head < 170 → 180 ≤ o → owner s o ≡ suc head → is_key_at head (words_at s o) ≡ true
owned_key_at s head o l lh lo e =
    let z : kind s o ≡ 0 = owned_kind s head o l lh lo e in is_key_at-to head (words_at s o) e (omega arith)

-- The head in which a key stands follows from the name and the key.
pub one_head : (g head k : ℕ) → head < 170 → FitsHead head k → (g < 170 → FitsHead g k) → name_of g ≡ name_of head → g ≡ head
one_head g head k lh fit f e = go (cases_lt head 10)
  where
    low : g < 170
    low = head_low g (let b = name_low head lh in omega arith)

    go : (head < 10) ⊎ (10 ≤ head) → g ≡ head
    go (inl lt) =
        let a : name_of head ≡ head = name_of-list head lt in elim (cases_lt g 10) [
          | inl h ↦ (let b : name_of g ≡ g = name_of-list g h in omega arith)
          | inr h ↦ (let b : name_of g ≡ 10 + (g - 10) / 16 = name_of-bucket g h low in omega arith)
        ]
    go (inr ge) =
        let a : name_of head ≡ 10 + (head - 10) / 16 = name_of-bucket head ge lh in elim (cases_lt g 10) [
          | inl h ↦ (let b : name_of g ≡ g = name_of-list g h in omega arith)
          | inr h ↦ (let b : name_of g ≡ 10 + (g - 10) / 16 = name_of-bucket g h low in
              let c : k % 16 ≡ (g - 10) % 16 = (f low).1 h in
              let d : k % 16 ≡ (head - 10) % 16 = fit.1 ge in omega arith)
        ]

pub home_is : (s : State) (head o : ℕ) → IsLawful s → head < 170 → FitsHead head (key s o) → 180 ≤ o → is_key_of (name_of head) (words_at s o) ≡ true
    → owner s o ≡ suc head
home_is s head o l lh fit lo e =
    let u = home s (name_of head) o l lo e in
    let same : u.0 ≡ head = one_head u.0 head (key s o) lh fit (λ lt. owned_fits s u.0 o l lt lo u.1.own) u.1.named in u.1.own ∙ ap suc same
