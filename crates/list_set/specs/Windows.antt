-- What is written where a search ended.
use Rattle.std.specs.Prelude.{ℕ, ◌≡◌, ◌≢◌}
use Rattle.mv_history.specs.State.{State, Writes}
use Rattle.list_set.specs.Places.{add_writes, del_writes, put_writes}
use Rattle.list_set.specs.Walks.{IsWindow, IsKeyWindow}
use Rattle.list_set.specs.declared.search.Window.{Window}
use Rattle.list_set.specs.declared.key_window.KeyWindow.{KeyWindow}

-- the search for key k in this list, in this state, ended here
abbrev pub EndsHere : State → ℕ → ℕ → Window → Type 0
EndsHere s head k window = IsWindow s head k window.previous window.words window.node window.node_words

-- the walk for key k along this list, in this state, ended here
abbrev pub StopsHere : State → ℕ → ℕ → KeyWindow → Type 0
StopsHere s head k key_window = IsKeyWindow s head k key_window.previous key_window.node key_window.node_key

-- wherever the search ended here, these are the writes of an add of the key in a new node
abbrev pub AreAddWrites : ℕ → ℕ → ℕ → ℕ → Window → Writes → Type 0
AreAddWrites head k value node window writes =
    (s : State) → EndsHere s head k window → writes ≡ add_writes s head k value window.previous node

-- wherever a search ended here, at a node, these are the writes of a del of the node
abbrev pub AreDelWrites : Window → Writes → Type 0
AreDelWrites window writes =
    (s : State) (head k : ℕ) → EndsHere s head k window → window.node ≢ 0 → writes ≡ del_writes s window.previous window.node

-- wherever a search ended here, at a node, these are the writes of a put of another value there
abbrev pub ArePutWrites : ℕ → Window → Writes → Type 0
ArePutWrites value window writes =
    (s : State) (head k : ℕ) → EndsHere s head k window → window.node ≢ 0 → writes ≡ put_writes s window.node value
