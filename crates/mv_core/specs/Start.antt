-- What a new domain starts with.
use Rattle.std.specs.Prelude.{◌≡◌, ◌⊎◌, ℕ, zero, suc, ◌-◌, ◌<◌, List, [], ◌∷◌, length, replicate, slice_index, None}
use Rattle.mv_history.specs.State.{State}
use Rattle.mv_history.specs.Legal.{AreWords}
use Rattle.mv_history.specs.Meaning.{words_at}
use Rattle.mv_history.specs.declared.StepKind.TheVariants.{MakeSeat}
use Rattle.mv_layout.specs.declared.Config.{Config}
use Rattle.mv_layout.specs.declared.SharedWord.{SharedWord}
use Rattle.mv_layout.specs.declared.SharedWord.TheVariants.{Clock, Grace, Master}
use Rattle.mv_layout.specs.Words.{clock_of}
use Rattle.mv_layout.specs.Places.{Memory, IsPlace}
use Rattle.mv_layout.specs.Cells.{Shows, cells, cell_of}
use Rattle.mv_core.specs.declared.view.Knowledge.{Knowledge}
use Rattle.mv_core.specs.Views.{new_view}

-- six words of 0
abbrev pub no_words : List ℕ
no_words = 0 ∷ 0 ∷ 0 ∷ 0 ∷ 0 ∷ 0 ∷ []

-- the state of so many objects whose words are all 0
abbrev pub zero_state : ℕ → State
zero_state count = replicate count no_words

-- the words before any step: CLOCK names no entry, GRACE is the opening time, MASTER has the opening state, and all others are 0
abbrev pub opening_memory : Config → State → Memory
opening_memory c start Clock = clock_of c.base 0 8191
opening_memory c start Grace = c.base
opening_memory c start (Master o w) = slice_index (words_at start o) w
opening_memory c start _ = 0

-- words of a domain before any step, which show this opening state, in which each object has its words
abbrev pub ShowsOpening : Config → State → List ℕ → Type 0
ShowsOpening c start words = AreWords start × Shows c words (opening_memory c start)

-- the view of the first seat, once there are this many: the making of each other one is in its trail
abbrev pub maker_view : Config → State → ℕ → Knowledge
maker_view c start made = record (new_view c start 0 made) { trail = replicate (made - 1) (record { kind = MakeSeat; word = 0; found = None; stored = None }) }

-- the view with which a seat of a new domain begins
abbrev pub starting_view : Config → State → ℕ → Knowledge
starting_view c start zero = maker_view c start c.seats
starting_view c start (suc number) = new_view c start (suc number) 0

-- a word that is 0 at the opening
abbrev pub IsBlank : SharedWord → Type 0
IsBlank Clock = ⊥
IsBlank Grace = ⊥
IsBlank (Master o w) = ⊥
IsBlank _ = Unit {0}

-- the words while the opening state is laid: this many objects have theirs, and this many words of the next one
pub record Laid (c : Config) (start : State) (words : List ℕ) (objects laid : ℕ) : Type 0 where
  pub wide : length words ≡ cells c
  pub clock : slice_index words (cell_of c Clock) ≡ clock_of c.base 0 8191
  pub grace : slice_index words (cell_of c Grace) ≡ c.base
  pub master : (o w : ℕ) → o < c.objects → w < 6 → (o < objects) ⊎ ((o ≡ objects) × (w < laid))
      → slice_index words (cell_of c (Master o w)) ≡ slice_index (words_at start o) w
  pub blank : (p : SharedWord) → IsPlace c p → IsBlank p → slice_index words (cell_of c p) ≡ 0
