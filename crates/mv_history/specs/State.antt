-- The state of the objects, and the history that makes it.
use Rattle.std.specs.Prelude.{ℕ, Bool, false, ◌||◌, ◌+◌, eqb, List, [], ◌∷◌, set, take, refl, if◌then◌else◌}
use Rattle.std.specs.Coded.{Coded, code_by, coded×, coded_ℕ, coded_list}
pub use Rattle.mv_history.specs.declared.history.Commit.{Commit}
pub use Rattle.mv_history.specs.declared.history.Entry.{Entry}
pub use Rattle.mv_history.specs.declared.history.Entry.TheVariants.{Rest, Change}

-- one list of words per object
abbrev pub State : Type 0
State = List (List ℕ)

-- objects and their new words, in the order of locking
abbrev pub Writes : Type 0
Writes = List (ℕ × List ℕ)

-- the state with these objects written
abbrev pub written : State → Writes → State
written s [] = s
written s (w ∷ ws) = written (set s w.0 w.1) ws

-- whether the object is among those written
abbrev pub touches : Writes → ℕ → Bool
touches [] o = false
touches (w ∷ ws) o = eqb w.0 o || touches ws o

-- the seat that made an entry
abbrev pub maker_of : Entry → ℕ
maker_of (Rest seat) = seat
maker_of (Change c) = c.seat

-- what an entry writes: a rest writes nothing
abbrev pub writes_of : Entry → Writes
writes_of (Rest seat) = []
writes_of (Change c) = c.writes

-- the state after the entries
abbrev pub state_after : State → List Entry → State
state_after s [] = s
state_after s (e ∷ es) = state_after (written s (writes_of e)) es

-- the state of time t, which is after the first t entries
abbrev pub state_at : State → List Entry → ℕ → State
state_at start history t = state_after start (take t history)

-- the commits of one seat, in order
abbrev pub commits_of : ℕ → List Entry → List Commit
commits_of seat [] = []
commits_of seat (Rest by ∷ es) = commits_of seat es
commits_of seat (Change c ∷ es) = if eqb c.seat seat then c ∷ commits_of seat es else commits_of seat es

-- how many rests one seat made
abbrev pub rests_of : ℕ → List Entry → ℕ
rests_of seat [] = 0
rests_of seat (Rest by ∷ es) = (if eqb by seat then 1 else 0) + rests_of seat es
rests_of seat (Change c ∷ es) = rests_of seat es

-- the writes with these words for an object among them
abbrev pub rewritten : Writes → ℕ → List ℕ → Writes
rewritten [] o words = []
rewritten (w ∷ ws) o words = if eqb w.0 o then (o, words) ∷ ws else w ∷ rewritten ws o words

-- two commits with the same fields are equal in one way
abbrev pub commit_code : Coded Commit
commit_code =
    code_by (ℕ × (ℕ × (ℕ × (List ℕ × Writes))))
    (coded× coded_ℕ (coded× coded_ℕ (coded× coded_ℕ (coded× (coded_list coded_ℕ) (coded_list (coded× coded_ℕ (coded_list coded_ℕ)))))))
    (λ c. (c.seat, (c.number, (c.snapshot, (c.tag, c.writes)))))
    (λ p. record { seat = p.0; number = p.1.0; snapshot = p.1.1.0; tag = p.1.1.1.0; writes = p.1.1.1.1 })
    (λ _. refl)
