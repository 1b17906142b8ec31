use Rattle.list_set.proofs.Linking.{lawful_linked}
use Rattle.list_set.proofs.lists.size_in.Goals as goal

pub size_linked-requires-clause-linked : goal.size_linked-requires-clause-linked
size_linked-requires-clause-linked g c = lawful_linked _ _ c.requires.lawful c.requires.head_in

pub size_linked-requires-clause-few : goal.size_linked-requires-clause-few
size_linked-requires-clause-few g c = c.requires.lawful.few
