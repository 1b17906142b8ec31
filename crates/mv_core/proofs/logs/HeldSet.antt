-- The versions that an open section holds: those of the last positions, from the first one of its write set on. So their number
-- is known, and which writes they are.
use Rattle.std.proofs.Common.{◌≡◌, ◌≢◌, ℕ, zero, suc, ◌+◌, ◌-◌, ◌*◌, ◌/◌, ◌%◌, ◌<◌, ◌≤◌, Bool, true, cond, count_by, List, [], ◌∷◌, length, refl, sym, ap, ◌∙◌}
use Rattle.std.proofs.Common.{subst, arith, mul-le-mul, mod-lt, set, Option, Some}
use Rattle.std.specs.Prelude.{slice_get, slice_index_or}
use Rattle.std.proofs.Math.Nat.{div-add-mod}
use Rattle.std.proofs.lemmas.List.{get_or-set_other, get_or-set_same, length-set}
use Rattle.std.proofs.lemmas.List.Sums.{sum_by-set}
use Rattle.mv_core.proofs.Terms.{dite, dec_le, Entry, Writes, touches, Config, Checked, Ring, Slot, Free, Built, Live, Freeing, Version, Held, Aborted}
use Rattle.mv_core.proofs.Terms.{Committed, OwnSection, Open, slot_at, index_of, is_held, held_count, set_first, write_of, writes_from, own_of, Lives}
use Rattle.mv_core.proofs.FactTerms.{WriteSets, Positions, OpenSection}
use Rattle.mv_core.proofs.kinds.entering.LoadTime.{holds_none}
use Rattle.mv_core.proofs.logs.Written.{write_there, write_touches}

-- positions of less than one round are in different slots
pub slots_apart : (n p q : ℕ) → p < q → q < p + n → p % n ≢ q % n
slots_apart n p q lt near e =
    let a = div-add-mod p n in
    let b = div-add-mod q n in
    dite (dec_le (q / n) (p / n))
    (λ le. let m : n * (q / n) ≤ n * (p / n) = mul-le-mul (let r : n ≤ n = omega arith in r) le in omega arith)
    (λ gt. let m : n * (p / n + 1) ≤ n * (q / n) = mul-le-mul (let r : n ≤ n = omega arith in r) (let le : p / n + 1 ≤ q / n = omega arith in le) in
    omega arith)

-- a slot that counts as held is held
held_slot : (slot : Slot) → is_held slot ≡ true → (x : Version) × (slot ≡ Live x Held)
held_slot Free e = absurd cc
held_slot (Built b) e = absurd cc
held_slot (Freeing p f) e = absurd cc
held_slot (Live x Held) e = (x, refl)
held_slot (Live x (Aborted d)) e = absurd cc
held_slot (Live x (Committed n)) e = absurd cc

-- where some are held there is one
some_held : (slots : List Slot) → 0 < count_by is_held slots → (k : ℕ) × (x : Version) × (slice_index_or slots k Free ≡ Live x Held)
some_held [] lt = absurd (omega arith)
some_held (Free ∷ xs) lt = let r = some_held xs lt in (suc r.0, r.1, r.2)
some_held (Built b ∷ xs) lt = let r = some_held xs lt in (suc r.0, r.1, r.2)
some_held (Freeing p f ∷ xs) lt = let r = some_held xs lt in (suc r.0, r.1, r.2)
some_held (Live x Held ∷ xs) lt = (0, x, refl)
some_held (Live x (Aborted d) ∷ xs) lt = let r = some_held xs lt in (suc r.0, r.1, r.2)
some_held (Live x (Committed n) ∷ xs) lt = let r = some_held xs lt in (suc r.0, r.1, r.2)

-- where the slots of d positions in a row are held, and no others, d are counted
pub count_held : (n d first : ℕ) (slots : List Slot) → length slots ≡ n → 0 < n → d ≤ n
    → ((p : ℕ) → first ≤ p → p < first + d → is_held (slice_index_or slots (p % n) Free) ≡ true)
    → ((k : ℕ) → is_held (slice_index_or slots k Free) ≡ true → (p : ℕ) × (first ≤ p) × (p < first + d) × (p % n ≡ k))
    → count_by is_held slots ≡ d
count_held n zero first slots wide some le all only =
    holds_none (record { slots = slots; next = 0 }) (λ k x e. let r = only k (ap is_held e) in let lo = r.1 in let hi = r.2 in omega arith)
count_held n (suc d) first slots wide some le all only =
    let k : ℕ = first % n in
    let within : k < length slots = subst (λ (m : ℕ). k < m) (sym wide) (mod-lt first some) in
    let fewer : List Slot = set slots k Free in
    let rest : count_by is_held fewer ≡ d =
    count_held n d (suc first) fewer (length-set slots k Free ∙ wide) some (omega arith)
    (λ p lo hi.
    let apart = slots_apart n first p lo (omega arith) in
    ap is_held (get_or-set_other slots k (p % n) Free Free (λ e. apart (sym e))) ∙ all p (omega arith) (omega arith))
    (λ j held.
    let ne : j ≢ k =
    λ e. let none : is_held Free ≡ true =
    sym (ap is_held (ap (λ i. slice_index_or fewer i Free) e ∙ get_or-set_same slots k Free Free within)) ∙ held in cc in
    let r = only j (sym (ap is_held (get_or-set_other slots k j Free Free ne)) ∙ held) in
    let other : r.0 ≢ first = λ e. ne (sym r.3 ∙ ap (λ p. p % n) e) in
    let lo = r.1 in
    let hi = r.2 in
    (r.0, omega arith, omega arith, r.3)) in
    let one : is_held (slice_index_or slots k Free) ≡ true = all first (omega arith) (omega arith) in
    let counted = sum_by-set (λ (s : Slot). cond (is_held s) 1 0) slots k Free Free within in
    let here : ◌≡◌ {A = ℕ} (cond (is_held (slice_index_or slots k Free)) 1 0) 1 = ap (λ (b : Bool). cond b 1 0) one in
    omega arith

-- the held versions of a seat are those of the positions from the first one on
pub record HeldSet (c : Config) (rings : ℕ → Ring) (s : ℕ) : Type 0 where
  pub first : ℕ
  pub some : first < (rings s).next
  pub first_is : set_first (rings s) ≡ first
  pub count_is : held_count (rings s) ≡ (rings s).next - first
  pub at : (p : ℕ) → first ≤ p → p < (rings s).next → (x : Version) × Lives rings s (index_of c p) x Held × (x.position ≡ p) × (x.first ≡ first)
  pub all : (k : ℕ) (x : Version) → Lives rings s k x Held → (x.first ≡ first) × (first ≤ x.position) × (x.position < (rings s).next)

pub held_set : (c : Config) (h : List Entry) (section : ℕ → Option OwnSection) (rings : ℕ → Ring) (s : ℕ) (inside : OwnSection) → Checked c
    → Positions c h rings
    → WriteSets c h rings → OpenSection c h section rings → section s ≡ Some inside → inside.mode ≡ Open → 0 < held_count (rings s) → HeldSet c rings s
held_set c h section rings s inside checked positions sets sections there opens some =
    let r : Ring = rings s in
    let one = some_held r.slots some in
    let x : Version = one.1 in
    let lives : Lives rings s one.0 x Held = one.2 in
    let first = sets.first s one.0 x Held lives in
    let place = positions.live s (index_of c x.first) first.version first.status first.lives in
    let mine = positions.live s one.0 x Held lives in
    let after = sets.after_first s one.0 x Held lives in
    let first_at = first.position_is in
    let top = place.2 in
    let low = mine.1 in
    let at : (p : ℕ) → x.first ≤ p → p < r.next → (y : Version) × Lives rings s (index_of c p) y Held × (y.position ≡ p) × (y.first ≡ x.first) =
    λ p lo hi.
    let w = sections.whole s one.0 x inside lives there opens p lo hi in
    (w.version, subst (λ st. Lives rings s (index_of c p) w.version st) w.known w.lives, w.position_is, w.first_is) in
    let all : (k : ℕ) (y : Version) → Lives rings s k y Held → (y.first ≡ x.first) × (x.first ≤ y.position) × (y.position < r.next) =
    λ k y l.
    let same = sections.one_set s k one.0 y x l lives in
    let late = sets.after_first s k y Held l in
    (same, omega arith, (positions.live s k y Held l).1) in
    let count : count_by is_held r.slots ≡ r.next - x.first =
    count_held c.slots (r.next - x.first) x.first r.slots (positions.wide s) (let n = checked.slots.0 in omega arith) (omega arith)
    (λ p lo hi. let a = at p lo (omega arith) in ap is_held a.1)
    (λ k held.
    let y = held_slot (slot_at r k) held in
    let a = all k y.0 y.1 in
    let hi = a.2 in
    (y.0.position, a.1, omega arith, (positions.live s k y.0 Held y.1).0)) in
    record { first = x.first; some = omega arith; first_is = omega arith; count_is = count; at = at; all = all }

-- the write at a place among those of the positions from one on
pub writes_at : (c : Config) (r : Ring) (p n i : ℕ) → i < n → slice_get (writes_from c r p n) i ≡ Some (write_of (slot_at r (index_of c (p + i))))
writes_at c r p zero i lt = absurd (omega arith)
writes_at c r p (suc n) zero lt = ap (λ q. Some (write_of (slot_at r (index_of c q)))) (let e : p ≡ p + 0 = omega arith in e)
writes_at c r p (suc n) (suc i) lt =
    writes_at c r (p + 1) n i (omega arith) ∙ ap (λ q. Some (write_of (slot_at r (index_of c q)))) (let e : p + 1 + i ≡ p + suc i = omega arith in e)

pub writes_length : (c : Config) (r : Ring) (p n : ℕ) → length (writes_from c r p n) ≡ n
writes_length c r p zero = refl
writes_length c r p (suc n) = ap suc (writes_length c r (p + 1) n)

module _ (c : Config) (rings : ℕ → Ring) (s : ℕ) (set_is : HeldSet c rings s) where
  abbrev pub own : Writes
  own = own_of c (rings s)

  pub own_length : length own ≡ (rings s).next - set_is.first
  own_length = writes_length c (rings s) (set_first (rings s)) (held_count (rings s)) ∙ set_is.count_is

  -- what is written at a place
  pub own_at : (i : ℕ) → i < (rings s).next - set_is.first → (x : Version) × Lives rings s (index_of c (set_is.first + i)) x Held
      × (x.position ≡ set_is.first + i) × (x.first ≡ set_is.first) × (slice_get own i ≡ Some (x.object, x.words))
  own_at i lt =
      let count = set_is.count_is in
      let a = set_is.at (set_is.first + i) (omega arith) (omega arith) in
      let w = writes_at c (rings s) (set_first (rings s)) (held_count (rings s)) i (omega arith) in
      (a.0, a.1, a.2, a.3, w ∙ ap (λ p. Some (write_of (slot_at (rings s) (index_of c (p + i))))) set_is.first_is ∙ ap (λ slot. Some (write_of slot)) a.1)

  -- the write of a held version
  pub own_write : (k : ℕ) (x : Version) → Lives rings s k x Held → (at : index_of c x.position ≡ k)
      → slice_get own (x.position - set_is.first) ≡ Some (x.object, x.words)
  own_write k x lives at =
      let a = set_is.all k x lives in
      let lo = a.1 in
      let hi = a.2 in
      let w = writes_at c (rings s) (set_first (rings s)) (held_count (rings s)) (x.position - set_is.first) (let count = set_is.count_is in omega arith) in
      let first_is = set_is.first_is in
      let place : set_first (rings s) + (x.position - set_is.first) ≡ x.position = omega arith in
      w ∙ ap (λ p. Some (write_of (slot_at (rings s) (index_of c p)))) place ∙ ap (λ j. Some (write_of (slot_at (rings s) j))) at
      ∙ ap (λ slot. Some (write_of slot)) lives

  -- an object is written where it is held
  pub own_touches : (k : ℕ) (x : Version) → Lives rings s k x Held → index_of c x.position ≡ k → touches own x.object ≡ true
  own_touches k x lives at = write_touches own (x.position - set_is.first) x.object x.words (own_write k x lives at)

  pub own_held : (o : ℕ) → touches own o ≡ true → (k : ℕ) × (x : Version) × Lives rings s k x Held × (x.object ≡ o)
  own_held o w =
      let there = write_there own o w in
      let a = own_at there.0 (let l = own_length in let lt = there.2 in omega arith) in
      let same : ◌≡◌ {A = Option (ℕ × List ℕ)} (Some (a.0.object, a.0.words)) (Some (o, there.1)) = sym a.4 ∙ there.3 in
      (index_of c (set_is.first + there.0), a.0, a.1, (let pair : ◌≡◌ {A = ℕ × List ℕ} (a.0.object, a.0.words) (o, there.1) = cc in ap (λ p. p.0) pair))
