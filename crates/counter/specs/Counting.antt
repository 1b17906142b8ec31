-- What a counter is, and which commits count.
use Rattle.std.specs.Prelude.{◌≡◌, ℕ, ◌+◌, ◌^◌, ◌<◌, List, [], ◌∷◌, length, slice_index}
use Rattle.mv_history.specs.State.{State, Writes}
use Rattle.mv_history.specs.Meaning.{words_at}
use Rattle.mv_client.specs.Rewriting.{Rewrites}
use Rattle.counter.specs.declared.Counter.{Counter}

-- the count that a state says
abbrev pub count : State → ℕ
count s = slice_index (words_at s 0) 0

-- the words of a counter that come next to these
abbrev pub counted : List ℕ → List ℕ
counted words = (slice_index words 0 + 1) ∷ 0 ∷ 0 ∷ 0 ∷ 0 ∷ 0 ∷ []

-- a store opens with one object, and a count of 32 bits
abbrev pub IsCounter : State → Type 0
IsCounter s = (length s ≡ 1) × (count s < 2 ^ 32)

-- a commit counts one more: it writes object 0 alone, with the words that come next
abbrev pub CountsOne : List ℕ → State → Writes → Type 0
CountsOne = Rewrites 0 counted

-- how often a thread was asked to count
abbrev pub asked_of : Counter → ℕ
asked_of counter = counter.asked

-- how often it is told that it did
abbrev pub done_of : Counter → ℕ
done_of counter = counter.done
