use Rattle.std.proofs.Common.{sym}
use Rattle.list_set.proofs.Walking.{behind_head}
use Rattle.list_set.proofs.search.find_linked.Goals as goal

pub read_pair-link-requires-clause-object : goal.read_pair-link-requires-clause-object
read_pair-link-requires-clause-object g c = c.requires.linked.here

pub walk_from-requires-clause-linked : goal.walk_from-requires-clause-linked
walk_from-requires-clause-linked g c = rw (g.met.V.View.same_state _ _ c.read_pair-link.ensures.as_before) c.requires.linked

pub walk_from-requires-clause-few : goal.walk_from-requires-clause-few
walk_from-requires-clause-few g c = rw (g.met.V.View.same_state _ _ c.read_pair-link.ensures.as_before) c.requires.few

pub walk_from-requires-clause-behind : goal.walk_from-requires-clause-behind
walk_from-requires-clause-behind g c =
    behind_head _ _ _ _ _ (sym (g.met.V.View.same_state _ _ c.read_pair-link.ensures.as_before)) c.read_pair-link.ensures.second

pub window_at-requires-clause-linked : goal.window_at-requires-clause-linked
window_at-requires-clause-linked g c =
    rw (g.met.V.View.same_state _ _ (g.met.V.View.as_long_before _ _ _ c.read_pair-link.ensures.as_before c.walk_from.ensures.as_before)) c.requires.linked

pub window_at-requires-clause-few : goal.window_at-requires-clause-few
window_at-requires-clause-few g c =
    rw (g.met.V.View.same_state _ _ (g.met.V.View.as_long_before _ _ _ c.read_pair-link.ensures.as_before c.walk_from.ensures.as_before)) c.requires.few

pub window_at-requires-clause-stops : goal.window_at-requires-clause-stops
window_at-requires-clause-stops g c = rw (g.met.V.View.same_state _ _ c.walk_from.ensures.as_before) c.walk_from.ensures.stops

pub returns-clause-window : goal.returns-clause-window
returns-clause-window g c =
    rw (g.met.V.View.same_state _ _ (g.met.V.View.as_long_before _ _ _ c.read_pair-link.ensures.as_before c.walk_from.ensures.as_before)) at
    c.window_at.ensures.window

pub returns-clause-as_before : goal.returns-clause-as_before
returns-clause-as_before g c =
    g.met.V.View.as_long_before _ _ _ (g.met.V.View.as_long_before _ _ _ c.read_pair-link.ensures.as_before c.walk_from.ensures.as_before)
    c.window_at.ensures.as_before
