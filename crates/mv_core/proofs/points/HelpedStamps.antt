-- The law of helping.
use Rattle.std.proofs.Common.{ℕ, ◌∙◌, List}
use Rattle.mv_core.proofs.Terms.{State, Writes, Clock, Stamp, Committed, index_of, parts_of}
use Rattle.mv_core.specs.Laws.{HelpedAreStamped}
use Rattle.mv_core.proofs.frames.ClocksLoaded.{slot_in, clock_small, stamped_by_done}

pub helped_law : (starts : State → Type 0) (allows : List ℕ → State → Writes → Type 0) → HelpedAreStamped starts allows
helped_law starts allows key s r seat word helped t j x note lives le =
    let c = key.config in
    let f = parts_of r.seats in
    let k = r.facts in
    r.shows.each (Stamp t (index_of c x.first)) (k.positions.within t j x (Committed note) lives, slot_in c k.checked x.first)
    ∙ stamped_by_done c (r.memory Clock) (λ u i. r.memory (Stamp u i)) r.history f.ring k.checked (clock_small k) k.stamps k.positions word
    (k.loaded_words.helped seat word helped) (k.helped_words seat word helped) t j x note lives le
