-- How many slots of two logs pass a test that each slot of the one passes where that of the other does.
use Rattle.std.proofs.Common.{◌≡◌, ◌≢◌, ℕ, suc, ◌+◌, Bool, false, count_by, List, [], ◌∷◌, length, refl, sym, ◌∙◌, arith, slice_index_or}
use Rattle.std.proofs.lemmas.List.Sums.{sum_by-cons}
use Rattle.reader_marks.specs.mv_core.declared.ring.Slot.{Slot}
use Rattle.reader_marks.specs.mv_core.declared.ring.Slot.TheVariants.{Free, Built, Live, Freeing}
use Rattle.reader_marks.specs.mv_core.declared.ring.Version.{Version}
use Rattle.reader_marks.specs.mv_core.declared.ring.WriteSetStatus.{WriteSetStatus}
use Rattle.reader_marks.specs.mv_core.Rings.{is_held}
use Rattle.reader_marks.proofs.mv_core_lemmas.logs.Counts.{one_if}

-- as many pass it
pub count_alike : (p : Slot → Bool) (xs ys : List Slot) → length xs ≡ length ys
    → ((k : ℕ) → p (slice_index_or xs k Free) ≡ p (slice_index_or ys k Free)) → count_by p xs ≡ count_by p ys
count_alike p [] [] long same = refl
count_alike p (x ∷ xs) [] long same = absurd (omega arith)
count_alike p [] (y ∷ ys) long same = absurd (omega arith)
count_alike p (x ∷ xs) (y ∷ ys) long same =
    sum_by-cons (λ z. one_if (p z)) x xs
    ∙ (λ i. one_if (same 0 i) + count_alike p xs ys (omega arith) (λ k. same (suc k)) i)
    ∙ sym (sum_by-cons (λ z. one_if (p z)) y ys)

-- a slot without a version holds nothing
pub unlived : (z : Slot) → ((x : Version) (st : WriteSetStatus) → z ≢ Live x st) → is_held z ≡ false
unlived Free none = refl
unlived (Built b) none = refl
unlived (Freeing p q) none = refl
unlived (Live x st) none = absurd (none x st refl)
