-- The data words of a held version are stored one after another, and noted at once.
use Rattle.std.proofs.Common.{◌≡◌, ℕ, zero, suc, ◌+◌, ◌-◌, List, [], ◌∷◌, length, refl, sym, ap, ◌∙◌, subst, arith, slice_index_or}
use Rattle.std.specs.Prelude.{slice_index, slice_set}
use Rattle.mv_layout.specs.declared.Config.{Config}
use Rattle.reader_marks.specs.mv_core.declared.view.Knowledge.{Knowledge}
use Rattle.seat_log.specs.declared.version.Note.{Note}
use Rattle.seat_log.specs.Notes.{Noted, IsHeld, at_place, with_word, with_words, some_words, some_noted, words_noted}
use Rattle.seat_log.specs.Stands.{Stands}
use Rattle.seat_log.specs.Builds.{IsOpen, word_stored, words_put}
use Rattle.seat_log.proofs.Places.{length-at_place}
use Rattle.seat_log.proofs.Changes.{open_still, puts_change}
use Rattle.seat_log.proofs.HeldWords.{stands_word}

at-at : (f g : Note → Note) (j : ℕ) (ns : List Note) → at_place g j (at_place f j ns) ≡ at_place (λ n. g (f n)) j ns
at-at f g j [] = refl
at-at f g zero (n ∷ ns) = refl
at-at f g (suc j) (n ∷ ns) = ap (λ l. n ∷ l) (at-at f g j ns)

at-same : (j : ℕ) (ns : List Note) → ns ≡ at_place (λ n. n) j ns
at-same j [] = refl
at-same zero (n ∷ ns) = refl
at-same (suc j) (n ∷ ns) = ap (λ l. n ∷ l) (at-same j ns)

-- changes that are one at the note that stands there are one
at-alike : (f g : Note → Note) (j : ℕ) (ns : List Note) (d : Note) → f (slice_index_or ns j d) ≡ g (slice_index_or ns j d)
    → at_place f j ns ≡ at_place g j ns
at-alike f g j [] d same = refl
at-alike f g zero (n ∷ ns) d same = ap (λ m. m ∷ ns) same
at-alike f g (suc j) (n ∷ ns) d same = ap (λ l. n ∷ l) (at-alike f g j ns d same)

-- six words in place of six
six_words : (xs ws : List ℕ) → length xs ≡ 6 → length ws ≡ 6
    → slice_set
    (slice_set (slice_set (slice_set (slice_set (slice_set xs 0 (slice_index ws 0)) 1 (slice_index ws 1)) 2 (slice_index ws 2)) 3 (slice_index ws 3)) 4
    (slice_index ws 4))
    5 (slice_index ws 5) ≡ ws
six_words (a ∷ b ∷ c ∷ d ∷ e ∷ f ∷ []) (g ∷ h ∷ i ∷ j ∷ k ∷ l ∷ []) p q = refl
six_words [] ws p q = absurd (omega arith)
six_words (a ∷ []) ws p q = absurd (omega arith)
six_words (a ∷ b ∷ []) ws p q = absurd (omega arith)
six_words (a ∷ b ∷ c ∷ []) ws p q = absurd (omega arith)
six_words (a ∷ b ∷ c ∷ d ∷ []) ws p q = absurd (omega arith)
six_words (a ∷ b ∷ c ∷ d ∷ e ∷ []) ws p q = absurd (omega arith)
six_words (a ∷ b ∷ c ∷ d ∷ e ∷ f ∷ x ∷ xs) ws p q = absurd (omega arith)
six_words (a ∷ b ∷ c ∷ d ∷ e ∷ f ∷ []) [] p q = absurd (omega arith)
six_words (a ∷ b ∷ c ∷ d ∷ e ∷ f ∷ []) (g ∷ []) p q = absurd (omega arith)
six_words (a ∷ b ∷ c ∷ d ∷ e ∷ f ∷ []) (g ∷ h ∷ []) p q = absurd (omega arith)
six_words (a ∷ b ∷ c ∷ d ∷ e ∷ f ∷ []) (g ∷ h ∷ i ∷ []) p q = absurd (omega arith)
six_words (a ∷ b ∷ c ∷ d ∷ e ∷ f ∷ []) (g ∷ h ∷ i ∷ j ∷ []) p q = absurd (omega arith)
six_words (a ∷ b ∷ c ∷ d ∷ e ∷ f ∷ []) (g ∷ h ∷ i ∷ j ∷ k ∷ []) p q = absurd (omega arith)
six_words (a ∷ b ∷ c ∷ d ∷ e ∷ f ∷ []) (g ∷ h ∷ i ∷ j ∷ k ∷ l ∷ x ∷ xs) p q = absurd (omega arith)

-- all six are noted
pub all_noted : (l : Noted) (position : ℕ) (words : List ℕ) (d : Note) → length words ≡ 6
    → length (slice_index_or l.live (position - l.freed) d).words ≡ 6 → some_noted l position words 6 ≡ words_noted l position words
all_noted l position words d six wide =
    let n : Note = slice_index_or l.live (position - l.freed) d in
    ap (λ ns. record l { live = ns })
    (at-alike (some_words words 6) (with_words words) (position - l.freed) l.live d
    (ap (λ ws. record n { words = ws }) (six_words n.words words wide six)))

-- none is noted
pub none_noted : (c : Config) (v : Knowledge) (l : Noted) (position : ℕ) (words : List ℕ) → Stands c v l → Stands c v (some_noted l position words 0)
none_noted c v l position words k =
    subst (λ ns. Stands c v (record l { live = ns })) (at-same (position - l.freed) l.live) k

-- no word was stored yet, and one more
pub none_put : (c : Config) (v : Knowledge) (position : ℕ) (words : List ℕ) → v ≡ words_put c v position words 0
unfolding words_put
none_put c v position words = refl

pub one_put : (c : Config) (v w u : Knowledge) (position i : ℕ) (words : List ℕ) → w ≡ words_put c v position words i
    → u ≡ word_stored c w position i (slice_index words i) → u ≡ words_put c v position words (i + 1)
unfolding words_put
one_put c v w u position i words e f =
    f ∙ ap (λ (z : Knowledge). word_stored c z position i (slice_index words i)) e
    ∙ ap (λ (n : ℕ). words_put c v position words n) (let g : suc i ≡ i + 1 = omega arith in g)

module _ (c : Config) (v w : Knowledge) (l : Noted) (position i : ℕ) (words : List ℕ) (held : IsHeld l position)
    (k : Stands c w (some_noted l position words i)) where
  -- the version is held still
  pub held_so : IsHeld (some_noted l position words i) position
  held_so =
      let low = held.0 in
      let high = held.1 in
      let long = length-at_place (some_words words i) (position - l.freed) l.live in
      (omega arith, omega arith)

  -- and the section open
  pub open_so : IsOpen v → w ≡ words_put c v position words i → IsOpen w
  open_so a e = subst IsOpen (sym e) (open_still v (words_put c v position words i) (puts_change c v position words i) a)

  -- one word more
  pub one_noted : (u : Knowledge) → u ≡ word_stored c w position i (slice_index words i) → Stands c u (some_noted l position words (i + 1))
  one_noted u e =
      let next : suc i ≡ i + 1 = omega arith in
      subst (λ (n : ℕ). Stands c u (some_noted l position words n)) next
      (subst (λ ns. Stands c u (record l { live = ns })) (at-at (some_words words i) (with_word i (slice_index words i)) (position - l.freed) l.live)
      (stands_word c w (some_noted l position words i) position i (slice_index words i) k held_so u e))
