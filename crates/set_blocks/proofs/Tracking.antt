-- What remains of a state while others commit still remains once the same change is made in both states.
use Rattle.set_model.proofs.Frames.{ends_stay}
use Rattle.set_model.proofs.Halves.{Half, within_back}
use Rattle.std.proofs.Common.{◌≡◌, ◌≢◌, ◌<◌, ◌≤◌, ◌⊎◌, ℕ, inl, inr, Bool, true, false, List, refl, sym, ap, ◌∙◌, subst, arith}
use Rattle.set_blocks.proofs.Terms.{cases_eq, State, Writes, written, touches, words_at, length-written, words-written_other, Map, key, link, EndsAt, IsLawful}
use Rattle.set_blocks.proofs.Terms.{word, IsIn, in_either, in-touches, words-written_as, AreVacant, Way, vacant_same, IsOfLists, Remains}
use Rattle.set_blocks.proofs.Remaining.{of_lists-same}

-- all of these objects are held
abbrev pub AreHeld : Writes → List ℕ → Type 0
AreHeld held os = (o : ℕ) → IsIn o os → touches held o ≡ true

-- the object is written, or one of these heads and nodes of lists leads to it
abbrev pub IsReached : List ℕ → State → Writes → ℕ → Type 0
IsReached os s ws m = (touches ws m ≡ true) ⊎ ((q : ℕ) × IsIn q os × IsOfLists s q × (link s q ≡ m))

-- Two states of which the second is what the first became while others committed, and what a way holds of them.
pub record Both {Fits : Map → Type 0} {change : Map → Map} (head : ℕ) (w : Way head Fits change) (held : Writes) (z u : State) : Type 0 where
  pub lawful : IsLawful z
  pub remains : Remains held z u
  pub objects : AreHeld held w.objects
  pub fresh : AreHeld held w.fresh
  pub place : w.Place z
  pub vacant : AreVacant z w.fresh

-- A way that others don't disturb: its place is one in what its state became; the nodes to which it leads lists are
-- written, or lists that it locks led there; and a search in its tree that ends at a held leaf after it does so in both.
pub record Tracks {Fits : Map → Type 0} {change : Map → Map} (head : ℕ) (w : Way head Fits change) : Type 0 where
  pub place : (held : Writes) (z u : State) → Both head w held z u → w.Place u
  pub links : (s : State) → IsLawful s → w.Place s → AreVacant s w.fresh → (o : ℕ) → touches (w.writes s) o ≡ true → IsOfLists (written s (w.writes s)) o
      → 180 ≤ link (written s (w.writes s)) o → IsReached w.objects s (w.writes s) (link (written s (w.writes s)) o)
  pub ends : (held : Writes) (z u : State) → Both head w held z u → w.Place u → AreVacant u w.fresh → 170 ≤ head → (k leaf : ℕ) → touches held leaf ≡ true
      → EndsAt (written z (w.writes z)) head k leaf → EndsAt (written u (w.writes u)) head k leaf

module _ {Fits : Map → Type 0} {change : Map → Map} (head : ℕ) (w : Way head Fits change) (t : Tracks head w) (lh : head < 180) (held : Writes) (z u : State)
    (b : Both head w held z u) where
  -- the way has its place in both states, with the same writes
  pub tracked_place : w.Place u
  tracked_place = t.place held z u b

  pub tracked_vacant : AreVacant u w.fresh
  tracked_vacant = vacant_same z u w.fresh b.remains.len (λ o i. b.remains.words o (b.fresh o i)) b.vacant

  pub tracked_writes : w.writes u ≡ w.writes z
  tracked_writes = w.same z u (λ o i. b.remains.words o (b.objects o i))

  half_before : Half z (written z (w.writes z)) (w.writes z) head Fits change
  half_before = w.half z b.lawful b.place b.vacant

  pub tracked_half : Half u (written u (w.writes u)) (w.writes u) head Fits change
  tracked_half = w.half u b.remains.lawful tracked_place tracked_vacant

  -- what it writes is held
  written_held : (o : ℕ) → touches (w.writes z) o ≡ true → touches held o ≡ true
  written_held o e = elim (in_either w.objects w.fresh o (subst (λ os. IsIn o os) (w.names z) (in-touches (w.writes z) o e))) [
    | inl i ↦ b.objects o i
    | inr i ↦ b.fresh o i
  ]

  words_after : (o : ℕ) → touches held o ≡ true → words_at (written u (w.writes u)) o ≡ words_at (written z (w.writes z)) o
  words_after o h =
      ap (λ ws. words_at (written u ws) o) tracked_writes ∙ words-written_as u z (w.writes z) o b.remains.len (b.remains.words o h)

  -- the key of a node that isn't written
  key_after : (m : ℕ) → touches (w.writes z) m ≡ false → key u m ≡ key z m → key (written u (w.writes u)) m ≡ key (written z (w.writes z)) m
  key_after m out e =
      ap (λ ws. key (written u ws) m) tracked_writes ∙ ap (word 2) (words-written_other u (w.writes z) m out) ∙ e
      ∙ sym (ap (word 2) (words-written_other z (w.writes z) m out))

  keys_after : (o : ℕ) → touches held o ≡ true → IsOfLists (written z (w.writes z)) o → 180 ≤ link (written z (w.writes z)) o
      → key (written u (w.writes u)) (link (written z (w.writes z)) o) ≡ key (written z (w.writes z)) (link (written z (w.writes z)) o)
  keys_after o h list lo =
      go (touches (w.writes z) (link (written z (w.writes z)) o)) refl (touches (w.writes z) o) refl
    where
      m : ℕ
      m = link (written z (w.writes z)) o

      from_reached : IsReached w.objects z (w.writes z) (link (written z (w.writes z)) o) → touches (w.writes z) (link (written z (w.writes z)) o) ≡ false
          → key u (link (written z (w.writes z)) o) ≡ key z (link (written z (w.writes z)) o)
      from_reached (inl e) out = absurd (cc)
      from_reached (inr (q, i, of, e)) out =
          let there : 180 ≤ link z q = omega (arith, e, lo) in
          ap (key u) (sym e) ∙ b.remains.keys q (b.objects q i) of there ∙ ap (key z) e

      go : (x : Bool) → touches (w.writes z) (link (written z (w.writes z)) o) ≡ x → (y : Bool) → touches (w.writes z) o ≡ y
          → key (written u (w.writes u)) (link (written z (w.writes z)) o) ≡ key (written z (w.writes z)) (link (written z (w.writes z)) o)
      go true e y f = ap (word 2) (words_after (link (written z (w.writes z)) o) (written_held (link (written z (w.writes z)) o) e))
      go false e true f =
          key_after (link (written z (w.writes z)) o) e (from_reached (t.links z b.lawful b.place b.vacant o f list lo) e)
      go false e false f =
          let kept : words_at (written z (w.writes z)) o ≡ words_at z o = words-written_other z (w.writes z) o f in
          let same : link (written z (w.writes z)) o ≡ link z o = ap (word 3) kept in
          let there : 180 ≤ link z o = omega (arith, lo) in
          let old : key u (link z o) ≡ key z (link z o) = b.remains.keys o h (of_lists-same (written z (w.writes z)) z o (sym kept) list) there in
          key_after (link (written z (w.writes z)) o) e (ap (key u) same ∙ old ∙ ap (key z) (sym same))

  ends_after : (root k leaf : ℕ) → 170 ≤ root → root < 180 → touches held leaf ≡ true → EndsAt (written z (w.writes z)) root k leaf
      → EndsAt (written u (w.writes u)) root k leaf
  ends_after root k leaf r0 r1 h e = go (cases_eq root head)
    where
      go : (root ≡ head) ⊎ (root ≢ head) → EndsAt (written u (w.writes u)) root k leaf
      go (inl same) =
          let lo : 170 ≤ head = omega arith in
          subst (λ r. EndsAt (written u (w.writes u)) r k leaf) (sym same)
          (t.ends held z u b tracked_place tracked_vacant lo k leaf h (subst (λ r. EndsAt (written z (w.writes z)) r k leaf) same e))
      go (inr ne) =
          ends_stay u (written u (w.writes u)) head root k leaf lh tracked_half.within ne r1
          (b.remains.ends root k leaf r0 r1 h
          (ends_stay (written z (w.writes z)) z head root k leaf lh (within_back z (written z (w.writes z)) head half_before.within) ne r1 e))

  -- What remained before the change remains after it.
  pub remains_after : Remains held (written z (w.writes z)) (written u (w.writes u))
  remains_after = record {
    lawful = tracked_half.keeps.lawful_after;
    len = length-written u (w.writes u) ∙ b.remains.len ∙ sym (length-written z (w.writes z));
    words = words_after;
    keys = keys_after;
    ends = ends_after;
  }
