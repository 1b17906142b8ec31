-- The words of a machine: as it is opened, and after a step.
use Rattle.std.proofs.Common.{◌≡◌, ℕ, zero, suc, ◌-◌, ◌<◌, List, [], ◌∷◌, length, get_or, arith, replicate, set, refl, sym, ap, ◌∙◌, subst, Option, Some, None}
use Rattle.std.proofs.lemmas.List.{get_or-replicate, length-replicate}
use Rattle.mv_layout.proofs.InCells.{in_cells, shows_put}
use Rattle.mv_core.proofs.Terms.{Config, Checked, SharedWord, Clock, Grace, Mark, Head, Master, First, Stamp, Prev, Super, Data, IsPlace, Memory, put, Shows}
use Rattle.mv_core.proofs.Terms.{cells}
use Rattle.mv_core.proofs.Terms.{cell_of, clock_of}
use Rattle.mv_core.specs.Start.{opening_memory}
use Rattle.mv_core.specs.Moves.{memory_after, opening_of, IsStorable}
use Rattle.replay_rules.specs.States.{zeros, opened, Made, may_in, place_in, writes_in, state_of, AreMade}
use Rattle.replay_rules.proofs.Replays.{memory_made, zero_words}

-- words that show a memory show each one that is equal to it
shows_same : (c : Config) (words : List ℕ) (m n : Memory) → ((p : SharedWord) → m p ≡ n p) → Shows c words m → Shows c words n
shows_same c words m n same s = record { wide = s.wide; each = λ p range. s.each p range ∙ same p }

-- the words after a write, if there is one
abbrev pub words_after : Config → List ℕ → SharedWord → Option ℕ → List ℕ
words_after c words place None = words
words_after c words place (Some new) = set words (cell_of c place) new

shows_after : (c : Config) (words : List ℕ) (m : Memory) (place : SharedWord) (o : Option ℕ) → Checked c → Shows c words m → IsPlace c place
    → Shows c (words_after c words place o) (memory_after m place o)
shows_after c words m place None k s range = s
shows_after c words m place (Some new) k s range = shows_put c words m place new k s range

module _ (c : Config) (k : Checked c) where
  -- no word is written
  blank : Shows c (replicate (cells c) 0) (λ p. 0)
  blank = record { wide = length-replicate (cells c) 0; each = λ p range. get_or-replicate (cells c) (cell_of c p) 0 0 (in_cells c p k range) }

  -- and then CLOCK and GRACE are
  abbrev laid : Memory
  laid = put (put (λ p. 0) Clock (clock_of c.base 0 8191)) Grace c.base

  laid_is : (p : SharedWord) → laid p ≡ opening_memory c (zeros c) p
  laid_is Clock = refl
  laid_is Grace = refl
  laid_is (Mark s) = refl
  laid_is (Head o) = refl
  laid_is (Master o w) = sym (zero_words c o w)
  laid_is (First s i) = refl
  laid_is (Stamp s i) = refl
  laid_is (Prev s i) = refl
  laid_is (Super s i) = refl
  laid_is (Data s i w) = refl

  pub shows_opened : (words : List ℕ) → words ≡ set (set (replicate (cells c) 0) 6 (clock_of c.base 0 8191)) 22 c.base → Shows c words (opened c).memory
  shows_opened words e =
      let clock = shows_put c (replicate (cells c) 0) (λ p. 0) Clock (clock_of c.base 0 8191) k blank tt in
      let both = shows_put c (set (replicate (cells c) 0) 6 (clock_of c.base 0 8191)) (put (λ p. 0) Clock (clock_of c.base 0 8191)) Grace c.base k clock tt in
      subst (λ ws. Shows c ws (opened c).memory) (sym e)
      (shows_same c _ laid (opened c).memory
      (λ p. laid_is p ∙ sym (ap (λ (m : Memory). m p) (memory_made c (c.seats - 1) (opening_of c (zeros c))))) both)

  module _ (words : List ℕ) (made : List Made) (step : Made) (place : SharedWord) (writes : ℕ → Option ℕ)
      (shows : Shows c words (state_of c made).memory)
      (place_is : place_in c (state_of c made) step ≡ place) (range : IsPlace c place)
      (writes_are : (found : ℕ) → writes_in c (state_of c made) step found ≡ writes found) where
    abbrev m : Memory
    m = (state_of c made).memory

    abbrev at : SharedWord
    at = place_in c (state_of c made) step

    -- what is written
    written : (o : Option ℕ) → writes (m place) ≡ o → writes_in c (state_of c made) step (m at) ≡ o
    written o is = writes_are (m at) ∙ ap (λ p. writes (m p)) place_is ∙ is

    pub shows_next : (o : Option ℕ) → writes (m place) ≡ o → Shows c (words_after c words place o) (state_of c (step ∷ made)).memory
    shows_next o is =
        subst (λ ws. Shows c ws (state_of c (step ∷ made)).memory)
        (ap (λ a. words_after c words at a) (written o is) ∙ ap (λ p. words_after c words p o) place_is)
        (shows_after c words m at (writes_in c (state_of c made) step (m at)) k shows (subst (IsPlace c) (sym place_is) range))

    pub made_next : (o : Option ℕ) → writes (m place) ≡ o → AreMade c made → step.seat < c.seats → may_in c (state_of c made) step → IsStorable o
        → AreMade c (step ∷ made)
    made_next o is before seat may fits = (record { seat = seat; may = may; fits = subst IsStorable (sym (written o is)) fits }, before)

-- any default gives the element
same_element : (words : List ℕ) (i d e : ℕ) → i < length words → get_or words i d ≡ get_or words i e
same_element [] i d e lt = absurd (omega (arith, lt))
same_element (w ∷ words) zero d e lt = refl
same_element (w ∷ words) (suc i) d e lt = same_element words i d e (omega (arith, lt))

-- what is found at a word's cell
pub found_is : (c : Config) (k : Checked c) (words : List ℕ) (m : Memory) (place : SharedWord) (index found : ℕ) → Shows c words m → IsPlace c place
    → index ≡ cell_of c place → found ≡ get_or words index found → found ≡ m place
found_is c k words m place index found s range is e =
    e ∙ same_element words index found 0 (let lt = in_cells c place k range in let wide = s.wide in omega (arith, is, lt, wide))
    ∙ ap (λ i. get_or words i 0) is ∙ s.each place range

-- what is found at a word's cell is the word there
pub word_is : (c : Config) (k : Checked c) (words : List ℕ) (place : SharedWord) (index found : ℕ) → length words ≡ cells c → IsPlace c place
    → index ≡ cell_of c place → found ≡ get_or words index found → found ≡ get_or words (cell_of c place) 0
word_is c k words place index found wide range is e =
    e ∙ same_element words index found 0 (let lt = in_cells c place k range in omega (arith, is, lt, wide)) ∙ ap (λ i. get_or words i 0) is
