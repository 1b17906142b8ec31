use Rattle.list_set.proofs.Linking.{lawful_linked}
use Rattle.list_set.proofs.fingers.walk_near.Goals as goal

pub walk_from-passed-requires-clause-linked : goal.walk_from-passed-requires-clause-linked
walk_from-passed-requires-clause-linked g c =
    rw (g.met.V.View.same_state _ _ c.begin-from.ensures.as_before) (lawful_linked _ _ c.requires.lawful c.requires.head_in)

pub walk_from-passed-requires-clause-few : goal.walk_from-passed-requires-clause-few
walk_from-passed-requires-clause-few g c = rw (g.met.V.View.same_state _ _ c.begin-from.ensures.as_before) c.requires.lawful.few

pub walk_from-passed-requires-clause-behind : goal.walk_from-passed-requires-clause-behind
walk_from-passed-requires-clause-behind g c = rw (g.met.V.View.same_state _ _ c.begin-from.ensures.as_before) c.begin-from.ensures.behind

pub returns-then-from-head-clause-stops : goal.returns-then-from-head-clause-stops
returns-then-from-head-clause-stops g c = rw (g.met.V.View.same_state _ _ c.begin-from.ensures.as_before) at c.walk_from-passed.ensures.stops

pub returns-then-from-head-clause-as_before : goal.returns-then-from-head-clause-as_before
returns-then-from-head-clause-as_before g c =
    g.met.V.View.as_long_before _ _ _ c.begin-from.ensures.as_before c.walk_from-passed.ensures.as_before

pub returns-then-is_long-clause-stops : goal.returns-then-is_long-clause-stops
returns-then-is_long-clause-stops g c = rw (g.met.V.View.same_state _ _ c.begin-from.ensures.as_before) at c.walk_from-passed.ensures.stops

pub returns-then-is_long-clause-as_before : goal.returns-then-is_long-clause-as_before
returns-then-is_long-clause-as_before g c =
    g.met.V.View.as_long_before _ _ _ c.begin-from.ensures.as_before c.walk_from-passed.ensures.as_before

pub returns-else-is_long-clause-stops : goal.returns-else-is_long-clause-stops
returns-else-is_long-clause-stops g c = rw (g.met.V.View.same_state _ _ c.begin-from.ensures.as_before) at c.walk_from-passed.ensures.stops

pub returns-else-is_long-clause-as_before : goal.returns-else-is_long-clause-as_before
returns-else-is_long-clause-as_before g c =
    g.met.V.View.as_long_before _ _ _ c.begin-from.ensures.as_before c.walk_from-passed.ensures.as_before
