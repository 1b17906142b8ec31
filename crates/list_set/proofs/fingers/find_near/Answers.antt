use Rattle.list_set.proofs.Linking.{lawful_linked}
use Rattle.list_set.proofs.fingers.find_near.Goals as goal

pub window_at-requires-clause-linked : goal.window_at-requires-clause-linked
window_at-requires-clause-linked g c =
    rw (g.met.V.View.same_state _ _ c.walk_near-key_window.ensures.as_before) (lawful_linked _ _ c.requires.lawful c.requires.head_in)

pub window_at-requires-clause-few : goal.window_at-requires-clause-few
window_at-requires-clause-few g c = rw (g.met.V.View.same_state _ _ c.walk_near-key_window.ensures.as_before) c.requires.lawful.few

pub window_at-requires-clause-stops : goal.window_at-requires-clause-stops
window_at-requires-clause-stops g c = rw (g.met.V.View.same_state _ _ c.walk_near-key_window.ensures.as_before) c.walk_near-key_window.ensures.stops

pub returns-clause-window : goal.returns-clause-window
returns-clause-window g c = rw (g.met.V.View.same_state _ _ c.walk_near-key_window.ensures.as_before) at c.window_at.ensures.window

pub returns-clause-as_before : goal.returns-clause-as_before
returns-clause-as_before g c = g.met.V.View.as_long_before _ _ _ c.walk_near-key_window.ensures.as_before c.window_at.ensures.as_before
