-- The stores of a build change nothing of a view but its log and its trail.
use Rattle.std.proofs.Common.{ℕ, zero, suc, ◌+◌, List, refl, sym, ◌∙◌, subst}
use Rattle.std.specs.Prelude.{slice_index}
use mathlib.Core.Logic.{dite}
use native.Mathlib.Decide.{ℕ_discrete}
use Rattle.mv_layout.specs.declared.Config.{Config}
use Rattle.mv_layout.specs.Words.{unset_of}
use Rattle.reader_marks.specs.mv_core.declared.view.Knowledge.{Knowledge}
use Rattle.seat_log.specs.Builds.{IsOpen, stored_next, words_stored, begun, linked, slot_built, word_stored, words_put, ChangesLog}
use Rattle.seat_log.proofs.MayBuild.{begun_first, begun_later}

-- one after another
changes_on : (u v w : Knowledge) → ChangesLog u v → ChangesLog v w → ChangesLog u w
changes_on u v w a b = b ∙ (λ i. record (a i) { ring = w.ring; trail = w.trail })

-- an open section is open still
pub open_still : (v w : Knowledge) → ChangesLog v w → IsOpen v → IsOpen w
open_still v w same a = subst IsOpen (sym same) a

pub next_changes : (c : Config) (v : Knowledge) (position field x : ℕ) → ChangesLog v (stored_next c v position field x)
unfolding stored_next
next_changes c v position field x = refl

pub word_changes : (c : Config) (v : Knowledge) (position word value : ℕ) → ChangesLog v (word_stored c v position word value)
word_changes c v position word value = refl

pub puts_change : (c : Config) (v : Knowledge) (position : ℕ) (words : List ℕ) (i : ℕ) → ChangesLog v (words_put c v position words i)
unfolding words_put
puts_change c v position words zero = refl
puts_change c v position words (suc i) =
    let w : Knowledge = words_put c v position words i in
    changes_on v w (word_stored c w position i (slice_index words i)) (puts_change c v position words i)
    (word_changes c w position i (slice_index words i))

begun_changes : (c : Config) (v : Knowledge) (position first : ℕ) → ChangesLog v (begun c v position first)
begun_changes c v position first =
    let one : Knowledge = stored_next c v position 0 first in
    let a = next_changes c v position 0 first in
    dite (ℕ_discrete first position)
    (λ e. subst (ChangesLog v) (sym (begun_first c v position first e))
    (changes_on v one (stored_next c one position 1 (unset_of position)) a (next_changes c one position 1 (unset_of position))))
    (λ ne. subst (ChangesLog v) (sym (begun_later c v position first ne)) a)

linked_changes : (c : Config) (v : Knowledge) (position first previous : ℕ) → ChangesLog v (linked c v position first previous)
unfolding linked
linked_changes c v position first previous =
    let b : Knowledge = begun c v position first in
    let p : Knowledge = stored_next c b position 2 previous in
    changes_on v p (stored_next c p position 3 0) (changes_on v b p (begun_changes c v position first) (next_changes c b position 2 previous))
    (next_changes c p position 3 0)

words_change : (c : Config) (v : Knowledge) (position : ℕ) (words : List ℕ) (i : ℕ) → ChangesLog v (words_stored c v position words i)
unfolding words_stored
words_change c v position words zero = refl
words_change c v position words (suc i) =
    let w : Knowledge = words_stored c v position words i in
    changes_on v w (stored_next c w position (4 + i) (slice_index words i)) (words_change c v position words i)
    (next_changes c w position (4 + i) (slice_index words i))

pub slot_changes : (c : Config) (v : Knowledge) (position first previous : ℕ) (words : List ℕ) → ChangesLog v (slot_built c v position first previous words)
unfolding slot_built
slot_changes c v position first previous words =
    let l : Knowledge = linked c v position first previous in
    changes_on v l (words_stored c l position words 6) (linked_changes c v position first previous) (words_change c l position words 6)
