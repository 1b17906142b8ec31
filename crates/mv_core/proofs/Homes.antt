-- The name of a domain tells its numbers and its table.
use Rattle.std.proofs.Common.{◌≡◌, ℕ, List, drop, ap}
use Rattle.std.specs.Prelude.{slice_index}
use Rattle.mv_core.specs.Passes.{home_of, HomesAreApart}

pub homes_apart : HomesAreApart
homes_apart c d t u e =
    let at : (k : ℕ) → slice_index (home_of c t) k ≡ slice_index (home_of d u) k = λ k. ap (λ l. slice_index l k) e in
    let seats : c.seats ≡ d.seats = at 0 in
    let objects : c.objects ≡ d.objects = at 1 in
    let slots : c.slots ≡ d.slots = at 2 in
    let write_max : c.write_max ≡ d.write_max = at 3 in
    let low : c.low ≡ d.low = at 4 in
    let high : c.high ≡ d.high = at 5 in
    let base : c.base ≡ d.base = at 6 in
    let words : t.words ≡ u.words = at 7 in
    let table_slots : t.slots ≡ u.slots = at 8 in
    let views_name : t.views_name ≡ u.views_name = at 9 in
    let atom : t.atom ≡ u.atom = at 10 in
    let block : t.block ≡ u.block = at 11 in
    let offset : t.offset ≡ u.offset = at 12 in
    let slot_names : t.slot_names ≡ u.slot_names = ap (λ (l : List ℕ). drop 13 l) e in (
      (λ i. record { seats = seats i; objects = objects i; slots = slots i; write_max = write_max i; low = low i; high = high i; base = base i }),
      (λ i. record {
        words = words i;
        slots = table_slots i;
        views_name = views_name i;
        atom = atom i;
        block = block i;
        offset = offset i;
        slot_names = slot_names i;
      }),
    )
