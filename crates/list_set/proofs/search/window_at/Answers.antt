use Rattle.list_set.proofs.Walking.{key_window_previous, key_window_node, window_none, window_read}
use Rattle.list_set.proofs.search.window_at.Goals as goal

pub read-words-requires : goal.read-words-requires
read-words-requires g c = key_window_previous _ _ _ _ _ _ c.requires.linked c.requires.stops

pub read-node_words-requires : goal.read-node_words-requires
read-node_words-requires g c =
    rw (g.met.V.View.same_state _ _ c.read-words.ensures.as_before) (key_window_node _ _ _ _ _ _ c.requires.linked c.requires.stops c.if-node-eq0.false)

pub returns-then-node-eq0-clause-window : goal.returns-then-node-eq0-clause-window
returns-then-node-eq0-clause-window g c = window_none _ _ _ _ _ _ _ c.requires.stops c.if-node-eq0.true c.read-words.ensures.words

pub returns-else-node-eq0-clause-window : goal.returns-else-node-eq0-clause-window
returns-else-node-eq0-clause-window g c =
    window_read _ _ _ _ _ _ _ _ c.requires.stops c.if-node-eq0.false c.read-words.ensures.words
    (rw (g.met.V.View.same_state _ _ c.read-words.ensures.as_before) at c.read-node_words.ensures.words)

pub returns-else-node-eq0-clause-as_before : goal.returns-else-node-eq0-clause-as_before
returns-else-node-eq0-clause-as_before g c = g.met.V.View.as_long_before _ _ _ c.read-words.ensures.as_before c.read-node_words.ensures.as_before
