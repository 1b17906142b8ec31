-- A link names one version at most, and the words of its slot are where the link says.
use Rattle.std.proofs.Common.{◌≡◌, ◌≢◌, ℕ, ◌+◌, ◌*◌, ◌^◌, ◌<◌, ◌≤◌, List, length, sym, ap, ◌∙◌, subst, arith, mul-le-mul, mod-lt}
use Rattle.mv_core.proofs.Terms.{Entry, Config, Checked, link_of, link_seat_of, link_position_of, IsLink, Ring, Slot, Live, Version, WriteSetStatus}
use Rattle.mv_core.proofs.Terms.{Committed, CommitNote, slot_at, index_of, Lives, Names, IsGone}
use Rattle.mv_layout.proofs.Unpacking.{link_seat_back, link_position_back}
use Rattle.mv_core.specs.SetFacts.{Positions}
use Rattle.mv_core.specs.WalkSteps.{slot_named}

-- two versions in one slot are one, with one status
pub live_once : (slot : Slot) (x y : Version) (st su : WriteSetStatus) → slot ≡ Live x st → slot ≡ Live y su → (x ≡ y) × (st ≡ su)
live_once slot x y st su a b = (cc, cc)

-- one status has one note
pub note_once : (m n : CommitNote) → ◌≡◌ {A = WriteSetStatus} (Committed m) (Committed n) → m ≡ n
note_once m n e = cc

-- a link isn't 0
pub link_some : (seat position : ℕ) → link_of seat position ≢ 0
link_some seat position e = omega arith

pub names_some : (rings : ℕ → Ring) (link : ℕ) (x : Version) (st : WriteSetStatus) → Names rings link x st → link ≢ 0
names_some rings link x st n e = link_some n.seat x.position (sym n.is ∙ e)

-- 0 names no version
pub none_names_zero : (rings : ℕ → Ring) (link : ℕ) → link ≡ 0 → (x : Version) (st : WriteSetStatus) → ¬ (Names rings link x st)
none_names_zero rings link e x st n = names_some rings link x st n e

module _ (c : Config) (h : List Entry) (rings : ℕ → Ring) (checked : Checked c) (in_time : c.base + length h ≤ 35184372088831)
    (positions : Positions c h rings) where
  -- positions fit a link
  pub next_small : (s : ℕ) → (rings s).next ≤ 2 ^ 57
  next_small s =
      let bound = positions.bound s in
      let slots = checked.slots.1 in
      let most : c.slots * (length h + 1) ≤ 4096 * 35184372088832 = mul-le-mul slots (let e : length h + 1 ≤ 35184372088832 = omega arith in e) in
      omega arith

  pub position_small : (s k : ℕ) (x : Version) (st : WriteSetStatus) → Lives rings s k x st → x.position < 2 ^ 57
  position_small s k x st lives = let p = (positions.live s k x st lives).1 in let n = next_small s in omega arith

  -- a link is of one seat and one position
  pub link_once : (s t p q : ℕ) → p < 2 ^ 57 → q < 2 ^ 57 → link_of s p ≡ link_of t q → (s ≡ t) × (p ≡ q)
  link_once s t p q a b e =
      (sym (link_seat_back s p a) ∙ ap link_seat_of e ∙ link_seat_back t q b, sym (link_position_back s p a) ∙ ap link_position_of e ∙ link_position_back t q b)

  -- two versions of one position of a seat are one
  pub position_once : (s k l : ℕ) (x y : Version) (st su : WriteSetStatus) → Lives rings s k x st → Lives rings s l y su → x.position ≡ y.position
      → (k ≡ l) × (x ≡ y) × (st ≡ su)
  position_once s k l x y st su a b e =
      let slot : k ≡ l = sym (positions.live s k x st a).0 ∙ ap (index_of c) e ∙ (positions.live s l y su b).0 in
      let one = live_once (slot_at (rings s) l) x y st su (subst (λ i. Lives rings s i x st) slot a) b in
      (slot, one.0, one.1)

  -- a link names one version at most
  pub names_once : (link : ℕ) (x y : Version) (st su : WriteSetStatus) → (a : Names rings link x st) → (b : Names rings link y su)
      → (a.seat ≡ b.seat) × (a.slot ≡ b.slot) × (x ≡ y) × (st ≡ su)
  names_once link x y st su a b =
      let one = link_once a.seat b.seat x.position y.position (position_small a.seat a.slot x st a.lives) (position_small b.seat b.slot y su b.lives)
      (sym a.is ∙ b.is) in
      let rest = position_once b.seat a.slot b.slot x y st su (subst (λ s. Lives rings s a.slot x st) one.0 a.lives) b.lives one.1 in
      (one.0, rest.0, rest.1, rest.2)

  -- the seat and the slot of a link that names a version are those of it
  pub names_place : (link : ℕ) (x : Version) (st : WriteSetStatus) → (n : Names rings link x st) → (link_seat_of link ≡ n.seat) × (slot_named c link ≡ n.slot)
  names_place link x st n =
      let small = position_small n.seat n.slot x st n.lives in (
        ap link_seat_of n.is ∙ link_seat_back n.seat x.position small,
        ap (λ l. index_of c (link_position_of l)) n.is
            ∙ ap (index_of c) (link_position_back n.seat x.position small) ∙ (positions.live n.seat n.slot x st n.lives).0,
      )

  -- it is a packed link to a seat of the domain
  pub names_link : (link : ℕ) (x : Version) (st : WriteSetStatus) → Names rings link x st → IsLink link × (link_seat_of link < c.seats)
  names_link link x st n =
      let small = position_small n.seat n.slot x st n.lives in
      let within = positions.within n.seat n.slot x st n.lives in
      let seats = checked.seats.1 in
      let is = n.is in
      ((omega arith, omega arith), subst (λ s. s < c.seats) (sym (names_place link x st n).0) within)

  -- a link to a position that isn't live any more names no version
  pub gone_names_none : (link : ℕ) → IsGone rings link → (x : Version) (st : WriteSetStatus) → ¬ (Names rings link x st)
  gone_names_none link g x st n =
      let used = g.used in
      let next = next_small g.seat in
      let one = link_once n.seat g.seat x.position g.position (position_small n.seat n.slot x st n.lives) (omega arith) (sym n.is ∙ g.is) in
      g.gone n.slot x st (subst (λ s. Lives rings s n.slot x st) one.0 n.lives) one.1

  -- a live version is of a seat and a slot of the domain
  pub lives_within : (s k : ℕ) (x : Version) (st : WriteSetStatus) → Lives rings s k x st → (s < c.seats) × (k < c.slots)
  lives_within s k x st lives =
      let slots = checked.slots.0 in
      (positions.within s k x st lives, subst (λ i. i < c.slots) (positions.live s k x st lives).0 (mod-lt x.position (omega arith)))
