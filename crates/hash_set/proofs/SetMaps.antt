-- The map of a set's name, and the bucket of a key.
use Rattle.std.proofs.Common.{◌≡◌, ℕ, ◌+◌, ◌-◌, ◌*◌, ◌/◌, ◌%◌, ◌^◌, ◌<◌, ◌≤◌, inl, inr, sym, ap, ◌∙◌, subst, arith}
use Rattle.std.proofs.lemmas.Bool.{cases_lt}
use Rattle.mv_history.specs.State.{State}
use Rattle.mv_history.specs.Meaning.{InSection, state_of}
use Rattle.set_model.specs.Catalogue.{map_of, has_key, value_of, with_key, without_key}
use Rattle.set_model.specs.CatalogueOf.{name_of, map_at, catalogue_of}
use Rattle.set_model.specs.Lists.{FitsHead}
use Rattle.set_model.specs.Lawful.{IsLawful}
use Rattle.set_model.proofs.Heads.{name_of-list, name_of-bucket}
use Rattle.set_model.proofs.Heads.{head_low as name_low}
use Rattle.set_model.proofs.NameMaps.{map_of-has, map_of-value}
use Rattle.list_set.specs.Calls.{Adds, Takes, Puts}
use Rattle.hash_set.specs.Buckets.{bucket_at, head_of}

pub bucket_low : (set n : ℕ) → set < 10 → n < 16 → bucket_at set n < 170
bucket_low set n ls ln = omega arith

pub bucket_name : (set n : ℕ) → set < 10 → n < 16 → name_of (bucket_at set n) ≡ 10 + set
bucket_name set n ls ln =
    let e : name_of (bucket_at set n) ≡ 10 + (bucket_at set n - 10) / 16 = name_of-bucket (bucket_at set n) (omega arith) (omega arith) in omega arith

-- a head of the set's name is that of one of its buckets
pub bucket_is : (set head : ℕ) → set < 10 → name_of head ≡ 10 + set → (n : ℕ) × (n < 16) × (bucket_at set n ≡ head)
bucket_is set head ls e =
    let low : head < 170 = name_low head (omega arith) in
    let from : 10 ≤ head = elim (cases_lt head 10) [ inl lt ↦ (let q : name_of head ≡ head = name_of-list head lt in absurd (omega arith)) | inr ge ↦ ge ] in
    let q : name_of head ≡ 10 + (head - 10) / 16 = name_of-bucket head from low in
    (head - (10 + 16 * set), omega arith, omega arith)

pub head_low : (set key : ℕ) → set < 10 → head_of set key < 170
head_low set key ls = bucket_low set (key % 16) ls (omega arith)

pub head_name : (set key : ℕ) → set < 10 → name_of (head_of set key) ≡ 10 + set
head_name set key ls = bucket_name set (key % 16) ls (omega arith)

-- a key may stand in its bucket
pub head_fits : (set key : ℕ) → set < 10 → key < 2 ^ 32 → FitsHead (head_of set key) key
head_fits set key ls fit = (fit, λ ge. omega arith)

-- What the map of the name has at a key is what the map of its bucket has.
module _ (s : State) (set key : ℕ) (l : IsLawful s) (ls : set < 10) (fit : key < 2 ^ 32) where
  pub set_has : has_key key (map_of (10 + set) (catalogue_of s)) ≡ has_key key (map_at s (head_of set key))
  set_has =
      ap (λ (n : ℕ). has_key key (map_of n (catalogue_of s))) (sym (head_name set key ls))
      ∙ map_of-has s (head_of set key) key l (head_low set key ls) (head_fits set key ls fit)

  pub set_value : value_of key (map_of (10 + set) (catalogue_of s)) ≡ value_of key (map_at s (head_of set key))
  set_value =
      ap (λ (n : ℕ). value_of key (map_of n (catalogue_of s))) (sym (head_name set key ls))
      ∙ map_of-value s (head_of set key) key l (head_low set key ls) (head_fits set key ls fit)

-- From what the bucket answers, whose head the code computes.
module _ (s : State) (set key head : ℕ) (l : IsLawful s) (ls : set < 10) (fit : key < 2 ^ 32) (e : head ≡ head_of set key) where
  pub at_has : has_key key (map_at s head) ≡ has_key key (map_of (10 + set) (catalogue_of s))
  at_has = ap (λ (h : ℕ). has_key key (map_at s h)) e ∙ sym (set_has s set key l ls fit)

  pub at_value : value_of key (map_at s head) ≡ value_of key (map_of (10 + set) (catalogue_of s))
  at_value = ap (λ (h : ℕ). value_of key (map_at s h)) e ∙ sym (set_value s set key l ls fit)

  pub at_key_fits : FitsHead head key
  at_key_fits = subst (λ (h : ℕ). FitsHead h key) (sym e) (head_fits set key ls fit)

-- what a del of the bucket leaves
pub takes_at : (a c : InSection) (set key head node : ℕ) → head ≡ head_of set key → Takes a c head key node → Takes a c (head_of set key) key node
takes_at a c set key head node e t = subst (λ (h : ℕ). Takes a c h key node) e t

pub takes_catalogue : (a c : InSection) (set key head node : ℕ) → set < 10 → head ≡ head_of set key → Takes a c head key node
    → catalogue_of (state_of c) ≡ without_key (10 + set) key (catalogue_of (state_of a))
takes_catalogue a c set key head node ls e t =
    let there : Takes a c (head_of set key) key node = takes_at a c set key head node e t in
    there.catalogue ∙ ap (λ (n : ℕ). without_key n key (catalogue_of (state_of a))) (head_name set key ls)

-- what an add to the bucket leaves
pub adds_catalogue : (a c : InSection) (set key head value node : ℕ) → set < 10 → head ≡ head_of set key → Adds a c head key value node
    → catalogue_of (state_of c) ≡ with_key (10 + set) key value (catalogue_of (state_of a))
adds_catalogue a c set key head value node ls e t =
    t.catalogue ∙ ap (λ (n : ℕ). with_key n key value (catalogue_of (state_of a))) (ap name_of e ∙ head_name set key ls)

-- what a put in the bucket leaves
pub puts_catalogue : (a c : InSection) (set key head value : ℕ) → set < 10 → head ≡ head_of set key → Puts a c head key value
    → catalogue_of (state_of c) ≡ with_key (10 + set) key value (catalogue_of (state_of a))
puts_catalogue a c set key head value ls e t =
    t.catalogue ∙ ap (λ (n : ℕ). with_key n key value (catalogue_of (state_of a))) (ap name_of e ∙ head_name set key ls)
