use Rattle.std.proofs.Common.{◌∙◌, sym}
use Rattle.std.proofs.lemmas.Slice.Zip.{seconds-zip}
use Rattle.set_model.proofs.catalogue.KeyMap.values.Goals as goal

pub returns : goal.returns
returns c = rw (← c.self.view_is) (c.deref.ensures.value ∙ sym (seconds-zip _ _ c.self.invariant.0))
