use Rattle.std.proofs.Common.{sym, ◌∙◌}
use Rattle.tree_set.proofs.Walking.{root_in_range}
use Rattle.tree_set.proofs.search.find_leaf.Goals as goal

pub read_pair-first-requires-clause-object : goal.read_pair-first-requires-clause-object
read_pair-first-requires-clause-object g c = root_in_range _ _ c.requires.lawful c.requires.root_in

pub descend-requires-clause-lawful : goal.descend-requires-clause-lawful
descend-requires-clause-lawful g c = rw (g.met.V.View.same_state _ _ c.read_pair-first.ensures.as_before) c.requires.lawful

pub descend-requires-clause-first : goal.descend-requires-clause-first
descend-requires-clause-first g c = rw (g.met.V.View.same_state _ _ c.read_pair-first.ensures.as_before) c.read_pair-first.ensures.second

pub descend-requires-clause-some : goal.descend-requires-clause-some
descend-requires-clause-some g c e = c.requires.some (sym c.read_pair-first.ensures.second ∙ e)

pub returns-clause-descent : goal.returns-clause-descent
returns-clause-descent g c = rw (g.met.V.View.same_state _ _ c.read_pair-first.ensures.as_before) at c.descend.ensures.descent

pub returns-clause-words : goal.returns-clause-words
returns-clause-words g c = rw (g.met.V.View.same_state _ _ c.read_pair-first.ensures.as_before) at c.descend.ensures.words

pub returns-clause-as_before : goal.returns-clause-as_before
returns-clause-as_before g c = g.met.V.View.as_long_before _ _ _ c.read_pair-first.ensures.as_before c.descend.ensures.as_before
