-- Which histories are legal, and which are allowed under a client's rules.
use Rattle.std.specs.Prelude.{◌≡◌, ◌≢◌, ℕ, ◌+◌, ◌<◌, ◌≤◌, true, false, Bool, not, ◌&&◌, List, [], ◌∷◌, ◌++◌}
use Rattle.std.specs.Prelude.{length, drop, All}
use Rattle.mv_history.specs.declared.history.TheConstants.{WORDS}
use Rattle.mv_history.specs.State.{State, Writes, Commit, Entry, Change, touches, maker_of, writes_of, state_after, commits_of}

-- these are the words of an object
abbrev pub IsWords : List ℕ → Type 0
IsWords words = length words ≡ WORDS

-- each object of the state has its words
abbrev pub AreWords : State → Type 0
AreWords s = All IsWords s

-- each object that is written gets its words
abbrev pub AreWrites : Writes → Type 0
AreWrites ws = All (λ w. IsWords w.1) ws

-- no object is written twice
abbrev pub are_distinct : Writes → Bool
are_distinct [] = true
are_distinct (w ∷ ws) = not (touches ws w.0) && are_distinct ws

-- every object that is written is one of these many
abbrev pub AreWithin : Writes → ℕ → Type 0
AreWithin ws objects = (o : ℕ) → touches ws o ≡ true → o < objects

-- no object is written by both
abbrev pub AreApart : Writes → Writes → Type 0
AreApart xs ys = (o : ℕ) → touches xs o ≡ true → touches ys o ≡ false

-- none of the entries writes an object of the writes
abbrev pub NoneWrites : Writes → List Entry → Type 0
NoneWrites ws entries = All (λ e. AreApart ws (writes_of e)) entries

-- none of the entries is by the seat
abbrev pub NoneBy : ℕ → List Entry → Type 0
NoneBy seat entries = All (λ e. maker_of e ≢ seat) entries

-- The commit may come next after these entries: it writes something, distinct objects, all in range;
-- its snapshot is a time before its own, and no entry in between writes what it writes
-- nor is by its seat; and its number is the next of its seat.
pub record IsNext (objects : ℕ) (before : List Entry) (c : Commit) : Type 0 where
  pub some : 0 < length c.writes
  pub distinct : are_distinct c.writes ≡ true
  pub within : AreWithin c.writes objects
  pub words : AreWrites c.writes
  pub past : c.snapshot ≤ length before
  pub unwritten : NoneWrites c.writes (drop c.snapshot before)
  pub in_order : NoneBy c.seat (drop c.snapshot before)
  pub number : c.number ≡ length (commits_of c.seat before) + 1

-- each commit of the history may come where it stands
abbrev pub IsLegal : ℕ → List Entry → Type 0
IsLegal objects history =
    (front back : List Entry) (c : Commit) → history ≡ front ++ Change c ∷ back → IsNext objects front c

-- the client's rules allow each commit of the history on the state just before it
abbrev pub IsAllowed : (List ℕ → State → Writes → Type 0) → State → List Entry → Type 0
IsAllowed allowed start history =
    (front back : List Entry) (c : Commit) → history ≡ front ++ Change c ∷ back → allowed c.tag (state_after start front) c.writes
