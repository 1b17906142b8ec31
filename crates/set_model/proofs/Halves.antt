-- What the change of one head's structure does, and two such changes one after the other.
use Rattle.std.proofs.Common.{◌≡◌, ◌≢◌, ℕ, suc, ◌<◌, ◌≤◌, ◌⊎◌, inl, inr, false, set, sym, ap, ◌∙◌, arith, Option, Some, None}
use Rattle.std.proofs.lemmas.Bool.{cases_lt}
use Rattle.mv_history.specs.State.{State, Writes, touches}
use Rattle.mv_history.specs.Meaning.{words_at}
use Rattle.set_model.specs.Catalogue.{Map, map_of}
use Rattle.set_model.specs.CatalogueOf.{name_of, catalogue_of}
use Rattle.set_model.specs.Objects.{owner, kind, key}
use Rattle.set_model.specs.Trees.{Tree, IsTree, EndsAt}
use Rattle.set_model.specs.Lawful.{IsLawful}
use Rattle.set_model.specs.Rules.{Keeps}
use Rattle.set_model.proofs.ObjectWords.{word}
use Rattle.set_model.proofs.Frames.{IsOf, IsWithin, same_owned, ends_stay}

-- what others keep of the structure of one head
pub record KeepsOf (head : ℕ) (s s' : State) (ws : Writes) : Type 0 where
  pub before : IsLawful s
  pub after : IsLawful s'
  pub keys : (o : ℕ) → 180 ≤ o → owner s o ≡ suc head → owner s' o ≡ suc head → (kind s' o ≡ kind s o) × (key s' o ≡ key s o)
  pub ends : (k l : ℕ) → 170 ≤ head → EndsAt s head k l → touches ws l ≡ false → EndsAt s' head k l

-- a commit keeps that of each head
pub keeps_of : (head : ℕ) (s s' : State) (ws : Writes) → head < 180 → Keeps s s' ws → KeepsOf head s s' ws
keeps_of head s s' ws lh k = record {
  before = k.lawful_before;
  after = k.lawful_after;
  keys = λ o lo a b. k.keys o (λ z. (let q : suc head ≡ 0 = sym a ∙ z in omega arith)) (b ∙ sym a);
  ends = λ j l ge e out. k.ends head j l ge lh e out;
}

-- and a change of another head's structure does, forwards and backwards
pub keeps_other : (g head : ℕ) (s s' : State) (ws : Writes) → head < 180 → g < 180 → g ≢ head → IsLawful s → IsLawful s' → IsWithin s s' head
    → KeepsOf g s s' ws
keeps_other g head s s' ws lh lg ne l l' w = record {
  before = l;
  after = l';
  keys = λ o lo a b. (let e : words_at s' o ≡ words_at s o = same_owned s s' head g lh w ne o lo a in (ap (word 1) e, ap (word 2) e));
  ends = λ k j ge e out. ends_stay s s' head g k j lh w ne lg e;
}

pub within_back : (s s' : State) (head : ℕ) → IsWithin s s' head → IsWithin s' s head
within_back s s' head w o = go (w o)
  where
    go : (words_at s' o ≡ words_at s o) ⊎ ((o ≡ head) ⊎ ((180 ≤ o) × IsOf s head o × IsOf s' head o))
        → (words_at s o ≡ words_at s' o) ⊎ ((o ≡ head) ⊎ ((180 ≤ o) × IsOf s' head o × IsOf s head o))
    go (inl e) = inl (sym e)
    go (inr (inl e)) = inr (inl e)
    go (inr (inr m)) = inr (inr (m.0, m.2, m.1))

-- The change of one head's structure, from one state to another, by these writes: what the map of its name fits, and what becomes of it.
pub record Half (s s' : State) (ws : Writes) (head : ℕ) (Fits : Map → Type 0) (change : Map → Map) : Type 0 where
  pub within : IsWithin s s' head
  pub keeps : Keeps s s' ws
  pub fits : Fits (map_of (name_of head) (catalogue_of s))
  pub leaves : catalogue_of s' ≡ set (catalogue_of s) (name_of head) (change (map_of (name_of head) (catalogue_of s)))

-- a head has no owner
pub head_free : (s : State) (head : ℕ) → IsLawful s → head < 180 → owner s head ≡ 0
head_free s head l lh = elim (cases_lt head 170) [
  | inl lt ↦ ap (word 0) (l.lists head lt).1.first
  | inr ge ↦ tree (l.trees head ge lh).0 (l.trees head ge lh).1
]
  where
    tree : (t : Option Tree) → IsTree s head t → owner s head ≡ 0
    tree None q = ap (word 0) q.0
    tree (Some t) q = ap (word 0) q.first

-- Two changes, of the structures of two heads, keep what each keeps.
pub keeps_join : (s s1 s2 : State) (h g : ℕ) (ds es ws : Writes) → h < 180 → g < 180 → g ≢ h → IsWithin s s1 h → IsWithin s1 s2 g → Keeps s s1 ds
    → Keeps s1 s2 es → ((o : ℕ) → touches ws o ≡ false → touches ds o ≡ false) → ((o : ℕ) → touches ws o ≡ false → touches es o ≡ false) → Keeps s s2 ws
keeps_join s s1 s2 h g ds es ws lh lg ne w1 w2 k1 k2 i1 i2 = record {
  lawful_before = k1.lawful_before;
  lawful_after = k2.lawful_after;
  keys = λ o some same. keys o some same (w1 o);
  ends = λ r k l r0 r1 e out. k2.ends r k l r0 r1 (k1.ends r k l r0 r1 e (i1 l out)) (i2 l out);
}
  where
    join : (o : ℕ) → owner s o ≢ 0 → owner s2 o ≡ owner s o → owner s1 o ≡ owner s o → (kind s2 o ≡ kind s o) × (key s2 o ≡ key s o)
    join o some same e =
        let a = k1.keys o some e in
        let b = k2.keys o (λ z. some (sym e ∙ z)) (same ∙ sym e) in
        (b.0 ∙ a.0, b.1 ∙ a.1)

    gone : (o : ℕ) → owner s1 o ≡ 0 → owner s2 o ≡ suc h → (words_at s2 o ≡ words_at s1 o) ⊎ ((o ≡ g) ⊎ ((180 ≤ o) × IsOf s1 g o × IsOf s2 g o)) → ⊥
    gone o z e (inl q) = let y : owner s2 o ≡ owner s1 o = ap (word 0) q in omega arith
    gone o z e (inr (inl q)) = let y : owner s2 o ≡ 0 = ap (owner s2) q ∙ head_free s2 g k2.lawful_after lg in omega arith
    gone o z e (inr (inr (_, _, inl y))) = omega arith
    gone o z e (inr (inr (_, _, inr y))) = ne (let f : suc g ≡ suc h = sym y ∙ e in omega arith)

    keys : (o : ℕ) → owner s o ≢ 0 → owner s2 o ≡ owner s o → (words_at s1 o ≡ words_at s o) ⊎ ((o ≡ h) ⊎ ((180 ≤ o) × IsOf s h o × IsOf s1 h o))
        → (kind s2 o ≡ kind s o) × (key s2 o ≡ key s o)
    keys o some same (inl q) = join o some same (ap (word 0) q)
    keys o some same (inr (inl q)) = absurd (some (ap (owner s) q ∙ head_free s h k1.lawful_before lh))
    keys o some same (inr (inr (_, inl y, _))) = absurd (some y)
    keys o some same (inr (inr (_, inr y, inr z))) = join o some same (z ∙ sym y)
    keys o some same (inr (inr (_, inr y, inl z))) = absurd (gone o z (same ∙ y) (w2 o))
