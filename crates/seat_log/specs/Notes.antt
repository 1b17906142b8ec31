-- What a log has noted, and what each note makes of it.
use Rattle.std.specs.Prelude.{◌≡◌, ℕ, zero, suc, ◌+◌, ◌-◌, ◌<◌, ◌≤◌, ◌==◌, ◌^◌, if◌then◌else◌, List, []}
use Rattle.std.specs.Prelude.{◌∷◌, ◌++◌, length, map, Option, Some, None, slice_get, slice_index, slice_set, IfSome}
use Rattle.seat_log.specs.declared.version.Note.{Note}

-- What a log has noted: the live versions, from the oldest on, of which so many last ones are held; the one that is being built;
-- how many versions were freed before the oldest; and the counts of write-backs, commits, aborts and rests.
pub record Noted : Type 0 where
  pub seat : ℕ
  pub slots : ℕ
  pub live : List Note
  pub built : Option Note
  pub held : ℕ
  pub freed : ℕ
  pub back : ℕ
  pub commits : ℕ
  pub aborts : ℕ
  pub rests : ℕ

-- the position that is used next: so many were used before
abbrev pub next_of : Noted → ℕ
next_of l = l.freed + length l.live

-- the place of the first held version among the live ones
abbrev pub held_from : Noted → ℕ
held_from l = length l.live - l.held

-- the first position of the write set that is held, or the next position where none is
abbrev pub first_of : Noted → ℕ
first_of l = next_of l - l.held

-- the version that is being built, if there is one
abbrev pub built_list : Option Note → List Note
built_list None = []
built_list (Some n) = n ∷ []

-- how many versions are being built: one at most
abbrev pub built_count : Option Note → ℕ
built_count None = 0
built_count (Some n) = 1

-- the note i of the live versions
abbrev pub IsNoteAt : Noted → ℕ → Note → Type 0
IsNoteAt l i n = slice_get l.live i ≡ Some n

-- The live versions stand at positions without a gap, and the versions of one write set are a run of them, which begins with its
-- first version; the last set is the one that is held.
pub record AreNoted (l : Noted) : Type 0 where
  pub position : (i : ℕ) (n : Note) → IsNoteAt l i n → n.position ≡ l.freed + i
  pub first : (i : ℕ) (n : Note) → IsNoteAt l i n → (l.freed ≤ n.first) × (n.first ≤ n.position)
  pub run : (i j : ℕ) (n other : Note) → IsNoteAt l i n → IsNoteAt l j other → n.first ≤ other.position → j ≤ i → other.first ≡ n.first
  pub held : (i : ℕ) (n : Note) → IsNoteAt l i n → (held_from l ≤ i → n.first ≡ first_of l) × (i < held_from l → n.first < first_of l)

-- a version that is being built is for the next position, in the write set that is held
abbrev pub IsNextOf : Noted → Note → Type 0
IsNextOf l n = (n.position ≡ next_of l) × (n.first ≡ first_of l) × (n.time ≡ 0) × (n.dead ≡ 0) × (n.position < 2 ^ 57)

-- what holds of every log
pub record IsLog (l : Noted) : Type 0 where
  pub seat : l.seat < 64
  pub slots : l.slots ≤ 4096
  pub room : length l.live + built_count l.built ≤ l.slots
  pub held : l.held ≤ length l.live
  pub notes : AreNoted l
  pub built : IfSome l.built (IsNextOf l)
  pub positions : next_of l ≤ 2 ^ 57
  pub sets : l.commits + l.aborts + l.held ≤ next_of l
  pub backs : l.back ≤ next_of l
  pub rests : l.rests < 2 ^ 63

-- a version was built for this position, and isn't held yet
abbrev pub IsBuilt : Noted → ℕ → Type 0
IsBuilt l position = (n : Note) × (l.built ≡ Some n) × (n.position ≡ position)

-- the version at this position is held
abbrev pub IsHeld : Noted → ℕ → Type 0
IsHeld l position = (first_of l ≤ position) × (position < next_of l)

-- the version at this position is live
abbrev pub IsLive : Noted → ℕ → Type 0
IsLive l position = (l.freed ≤ position) × (position < next_of l)

-- nothing is noted yet
abbrev pub nothing_noted : ℕ → ℕ → Noted
nothing_noted seat slots =
    record { seat = seat; slots = slots; live = []; built = None; held = 0; freed = 0; back = 0; commits = 0; aborts = 0; rests = 0 }

-- a version was built
abbrev pub built_noted : Noted → Note → Noted
built_noted l n = record l { built = Some n }

-- the version to be built: at the next position, in the write set that is held
abbrev pub next_note : Noted → ℕ → ℕ → List ℕ → Note
next_note l object previous words =
    record { position = next_of l; first = first_of l; object = object; previous = previous; words = words; time = 0; dead = 0 }

-- the built version was given up
abbrev pub dropped : Noted → Noted
dropped l = record l { built = None }

-- the built version is held now
abbrev pub held_noted : Noted → Noted
held_noted l = record l { live = l.live ++ built_list l.built; built = None; held = l.held + 1 }

-- the notes from the place k on, with f of each
abbrev pub from_place : (Note → Note) → ℕ → List Note → List Note
from_place f zero ns = map f ns
from_place f (suc k) [] = []
from_place f (suc k) (n ∷ ns) = n ∷ from_place f k ns

-- what was held is committed at this time
abbrev pub committed_noted : Noted → ℕ → Noted
committed_noted l time = record l { live = from_place (λ n. record n { time = time }) (held_from l) l.live; held = 0; commits = l.commits + 1 }

-- what was held is aborted, and dead from this time on
abbrev pub aborted_noted : Noted → ℕ → Noted
aborted_noted l dead = record l {
  live = from_place (λ n. record n { dead = dead }) (held_from l) l.live;
  held = 0;
  aborts = if l.held == 0 then l.aborts else l.aborts + 1;
}

-- the note at a place, with f of it
abbrev pub at_place : (Note → Note) → ℕ → List Note → List Note
at_place f i [] = []
at_place f zero (n ∷ ns) = f n ∷ ns
at_place f (suc i) (n ∷ ns) = n ∷ at_place f i ns

-- the version at a position is dead from this time on
abbrev pub retired : Noted → ℕ → ℕ → Noted
retired l position dead = record l { live = at_place (λ n. record n { dead = dead }) (position - l.freed) l.live }

-- the note with another data word
abbrev pub with_word : ℕ → ℕ → Note → Note
with_word word value n = record n { words = slice_set n.words word value }

-- a data word of the held version at a position is this
abbrev pub word_noted : Noted → ℕ → ℕ → ℕ → Noted
word_noted l position word value = record l { live = at_place (with_word word value) (position - l.freed) l.live }

-- the note with other data words
abbrev pub with_words : List ℕ → Note → Note
with_words words n = record n { words = words }

-- the note with so many of these words, in order
abbrev pub some_words : List ℕ → ℕ → Note → Note
some_words words zero n = n
some_words words (suc i) n = with_word i (slice_index words i) (some_words words i n)

-- so many data words of the held version at a position are these
abbrev pub some_noted : Noted → ℕ → List ℕ → ℕ → Noted
some_noted l position words i = record l { live = at_place (some_words words i) (position - l.freed) l.live }

-- and all of them
abbrev pub words_noted : Noted → ℕ → List ℕ → Noted
words_noted l position words = record l { live = at_place (with_words words) (position - l.freed) l.live }

-- the built version has PREV 0
abbrev pub without_previous : Option Note → Option Note
without_previous None = None
without_previous (Some n) = Some (record n { previous = 0 })

-- the same in the notes of a log
abbrev pub cleared : Noted → Noted
cleared l = record l { built = without_previous l.built }

-- a data word of the built version is this
abbrev pub built_word : ℕ → ℕ → Option Note → Option Note
built_word word value None = None
built_word word value (Some n) = Some (with_word word value n)

-- the same in the notes of a log
abbrev pub built_word_noted : Noted → ℕ → ℕ → Noted
built_word_noted l word value = record l { built = built_word word value l.built }

-- a write-back was finished
abbrev pub back_noted : Noted → Noted
back_noted l = record l { back = l.back + 1 }

-- a rest was made
abbrev pub rest_noted : Noted → Noted
rest_noted l = record l { rests = l.rests + 1 }
