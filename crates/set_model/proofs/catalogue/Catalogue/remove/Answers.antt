use Rattle.set_model.proofs.MapLaws.{removed_is_catalogue}
use Rattle.set_model.proofs.catalogue.Catalogue.remove.Goals as goal

pub invariant_of-self : goal.invariant_of-self
invariant_of-self c = rw c.remove.ensures.taken (removed_is_catalogue _ _ c.self.invariant c.requires _ c.index_mut.ensures.value _)
