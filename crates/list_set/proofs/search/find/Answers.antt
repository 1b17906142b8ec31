use Rattle.list_set.proofs.Linking.{lawful_linked}
use Rattle.list_set.proofs.search.find.Goals as goal

pub find_linked-requires-clause-linked : goal.find_linked-requires-clause-linked
find_linked-requires-clause-linked g c = lawful_linked _ _ c.requires.lawful c.requires.head_in

pub find_linked-requires-clause-few : goal.find_linked-requires-clause-few
find_linked-requires-clause-few g c = c.requires.lawful.few
