-- What is in the slots of the own log while its oldest write set is freed, slot by slot.
use Rattle.std.proofs.Common.{◌≡◌, ◌≢◌, ◌⊎◌, ℕ, suc, ◌+◌, ◌<◌, ◌≤◌, ◌==◌, Bool, true, false, cond, count_by}
use Rattle.std.proofs.Common.{List, [], ◌∷◌, ◌++◌, length, map, refl, sym, ap, ◌∙◌, arith, eq-eqb, ne_eqb, slice_index_or}
use Rattle.std.proofs.lemmas.List.Sums.{sum_by-cons, sum_by-append}
use Rattle.mv_history.specs.declared.Step.{Step}
use Rattle.mv_layout.specs.declared.Config.{Config}
use Rattle.reader_marks.specs.mv_core.declared.ring.Ring.{Ring}
use Rattle.reader_marks.specs.mv_core.declared.ring.Slot.{Slot}
use Rattle.reader_marks.specs.mv_core.declared.ring.Slot.TheVariants.{Free, Built, Live, Freeing}
use Rattle.reader_marks.specs.mv_core.declared.ring.Version.{Version}
use Rattle.reader_marks.specs.mv_core.declared.ring.WriteSetStatus.{WriteSetStatus}
use Rattle.reader_marks.specs.mv_core.declared.ring.WriteSetStatus.TheVariants.{Held, Aborted, Committed}
use Rattle.reader_marks.specs.mv_core.declared.view.Knowledge.{Knowledge}
use Rattle.reader_marks.specs.mv_core.Rings.{slot_at, index_of, held_count, is_spare, spare_count}
use Rattle.reader_marks.specs.mv_core.ReclaimSteps.{freeing_slot}
use Rattle.reader_marks.proofs.mv_core_lemmas.logs.Counts.{one_if}
use Rattle.seat_log.specs.Stands.{is_cut, cut_count, is_free, is_won_cut}
use Rattle.seat_log.proofs.StepCounts.{KeepsLocks}

-- a step that passes a test
pub passed : (test : Step → Bool) (steps : List Step) (s : Step) → test s ≡ true → count_by test (steps ++ s ∷ []) ≡ count_by test steps + 1
passed test steps s e =
    let more = sum_by-append (λ t. cond (test t) 1 0) steps (s ∷ []) in
    let one : count_by test (s ∷ []) ≡ 1 = ap (λ b. 0 + cond b 1 0) e in
    omega arith

-- whether a slot is being freed
abbrev pub is_going : Slot → Bool
is_going (Freeing p f) = true
is_going _ = false

-- how many are
abbrev pub going_count : Ring → ℕ
going_count r = count_by is_going r.slots

-- none is, where no slot is being freed
pub none_going : (zs : List Slot) → ((t p f : ℕ) → slice_index_or zs t Free ≢ Freeing p f) → count_by is_going zs ≡ 0
none_going [] none = refl
none_going (Free ∷ zs) none = let more = sum_by-cons (λ y. one_if (is_going y)) Free zs in let rest = none_going zs (λ t. none (suc t)) in omega arith
none_going (Built b ∷ zs) none = let more = sum_by-cons (λ y. one_if (is_going y)) (Built b) zs in let rest = none_going zs (λ t. none (suc t)) in omega arith
none_going (Live x st ∷ zs) none =
    let more = sum_by-cons (λ y. one_if (is_going y)) (Live x st) zs in let rest = none_going zs (λ t. none (suc t)) in omega arith
none_going (Freeing p f ∷ zs) none = absurd (none 0 p f refl)

-- as many pass a test after a map that changes it of no slot that is there
pub count_at : (p : Slot → Bool) (g : Slot → Slot) (zs : List Slot) → ((t : ℕ) → p (g (slice_index_or zs t Free)) ≡ p (slice_index_or zs t Free))
    → count_by p (map g zs) ≡ count_by p zs
count_at p g [] same = refl
count_at p g (z ∷ zs) same =
    sum_by-cons (λ y. one_if (p y)) (g z) (map g zs) ∙ (λ i. one_if (same 0 i) + count_at p g zs (λ t. same (suc t)) i)
    ∙ sym (sum_by-cons (λ y. one_if (p y)) z zs)

-- a version of the set becomes one that is being freed
pub freeing_in : (f : ℕ) (x : Version) (st : WriteSetStatus) → x.first ≡ f → freeing_slot f (Live x st) ≡ Freeing x.position f
freeing_in f x st e = ap (λ (b : Bool). cond b (Freeing x.position x.first) (Live x st)) (eq-eqb x.first f e) ∙ ap (Freeing x.position) e

-- and another one stays
pub freeing_out : (f : ℕ) (x : Version) (st : WriteSetStatus) → x.first ≢ f → freeing_slot f (Live x st) ≡ Live x st
freeing_out f x st ne = ap (λ (b : Bool). cond b (Freeing x.position x.first) (Live x st)) (ne_eqb x.first f ne)

-- what the freeing of a set changes of a slot's counts
spare_if : (b : Bool) (p q : ℕ) (x : Version) (st : WriteSetStatus) → is_spare (cond b (Freeing p q) (Live x st)) ≡ false
spare_if true p q x st = refl
spare_if false p q x st = refl

pub spare_freeing : (f : ℕ) (z : Slot) → is_spare (freeing_slot f z) ≡ is_spare z
spare_freeing f Free = refl
spare_freeing f (Built b) = refl
spare_freeing f (Freeing p q) = refl
spare_freeing f (Live x st) = spare_if (x.first == f) x.position x.first x st

cut_if : (b : Bool) (p q : ℕ) (x : Version) (st : WriteSetStatus)
    → one_if (is_cut (Live x st)) ≤ one_if (is_cut (cond b (Freeing p q) (Live x st))) + one_if (is_going (cond b (Freeing p q) (Live x st)))
cut_if true p q x Held = omega arith
cut_if true p q x (Aborted d) = omega arith
cut_if true p q x (Committed note) = at_most note.cut
  where
    at_most : (b : Bool) → one_if b ≤ 0 + 1
    at_most true = omega arith
    at_most false = omega arith
cut_if false p q x st = omega arith

cut_freeing : (f : ℕ) (z : Slot) → one_if (is_cut z) ≤ one_if (is_cut (freeing_slot f z)) + one_if (is_going (freeing_slot f z))
cut_freeing f Free = omega arith
cut_freeing f (Built b) = omega arith
cut_freeing f (Freeing p q) = omega arith
cut_freeing f (Live x st) = cut_if (x.first == f) x.position x.first x st

pub cuts_freeing : (f : ℕ) (zs : List Slot) → count_by is_cut zs ≤ count_by is_cut (map (freeing_slot f) zs) + count_by is_going (map (freeing_slot f) zs)
cuts_freeing f [] = omega arith
cuts_freeing f (z ∷ zs) =
    let g : Slot → Slot = freeing_slot f in
    let a = sum_by-cons (λ y. one_if (is_cut y)) z zs in
    let b = sum_by-cons (λ y. one_if (is_cut y)) (g z) (map g zs) in
    let d = sum_by-cons (λ y. one_if (is_going y)) (g z) (map g zs) in
    let one = cut_freeing f z in
    let rest = cuts_freeing f zs in omega arith

-- The first j slots of the oldest write set of k versions from the position f on are free, and the others of the set are being freed; nothing else of
-- the log has changed.
pub record Freed (c : Config) (v w : Knowledge) (f k j : ℕ) : Type 0 where
  pub changes : w ≡ record v { ring = w.ring; trail = w.trail }
  pub next : w.ring.next ≡ v.ring.next
  pub wide : length w.ring.slots ≡ length v.ring.slots
  pub held : held_count w.ring ≡ held_count v.ring
  pub spare : spare_count w.ring ≡ spare_count v.ring + j
  pub cuts : cut_count v.ring ≤ cut_count w.ring + going_count w.ring + j
  pub frees : count_by is_free w.trail ≡ count_by is_free v.trail + j
  pub backs : count_by is_won_cut w.trail ≡ count_by is_won_cut v.trail
  pub keeps : KeepsLocks v.trail w.trail
  pub gone : (i : ℕ) → i < j → slot_at w.ring (index_of c (f + i)) ≡ Free
  pub going : (i : ℕ) → j ≤ i → i < k → slot_at w.ring (index_of c (f + i)) ≡ Freeing (f + i) f
  pub each : (t : ℕ)
      → ((i : ℕ) × (i < k) × (t ≡ index_of c (f + i)))
      ⊎ ((slot_at w.ring t ≡ slot_at v.ring t) × ((x : Version) (st : WriteSetStatus) → slot_at v.ring t ≡ Live x st → f + k ≤ x.position))
