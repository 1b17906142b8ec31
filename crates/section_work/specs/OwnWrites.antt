-- What a section holds after locks and writes.
use Rattle.std.specs.Prelude.{if◌then◌else◌, ◌∷◌, ◌++◌}
use Rattle.section_work.specs.Terms.{ℕ, List, [], State, Writes, touches, rewritten, words_at}

-- the writes once the object is held too, with its words in this state
abbrev pub with_lock : State → Writes → ℕ → Writes
with_lock s own o = if touches own o then own else own ++ (o, words_at s o) ∷ []

-- the same for each of these objects
abbrev pub with_locks : State → Writes → List ℕ → Writes
with_locks s own [] = own
with_locks s own (o ∷ os) = with_locks s (with_lock s own o) os

-- the writes once each of these is written
abbrev pub with_writes : Writes → Writes → Writes
with_writes own [] = own
with_writes own (w ∷ ws) = with_writes (rewritten own w.0 w.1) ws

-- the objects that are written
abbrev pub objects_of : Writes → List ℕ
objects_of [] = []
objects_of (w ∷ ws) = w.0 ∷ objects_of ws
