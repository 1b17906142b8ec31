-- What the calls that lock leave, by their answers.
use Rattle.std.specs.Prelude.{ℕ, ◌≡◌, [], ◌∷◌}
use Rattle.mv_history.specs.Meaning.{InSection, state_of}
use Rattle.set_model.specs.Catalogue.{with_key, without_key}
use Rattle.set_model.specs.CatalogueOf.{name_of, catalogue_of}
use Rattle.set_model.specs.Lawful.{IsLawful}
use Rattle.list_set.specs.Places.{IsAddPlace, add_writes, IsDelPlace, del_writes, IsPutPlace, put_writes}
use Rattle.section_work.specs.Locking.{Rewritten}

-- What an add that answers `Yes` leaves: the key has this value, in this node behind its predecessor.
pub record Adds (old new : InSection) (head k value node : ℕ) : Type 0 where
  pub previous : ℕ
  pub place : IsAddPlace (state_of old) head k previous
  pub change : Rewritten old new (previous ∷ node ∷ []) (add_writes (state_of old) head k value previous node)
  pub lawful : IsLawful (state_of new)
  pub catalogue : catalogue_of (state_of new) ≡ with_key (name_of head) k value (catalogue_of (state_of old))

-- What a del that answers `Took` leaves: the key is gone, and its node is vacant.
pub record Takes (old new : InSection) (head k node : ℕ) : Type 0 where
  pub previous : ℕ
  pub place : IsDelPlace (state_of old) head k previous node
  pub change : Rewritten old new (previous ∷ node ∷ []) (del_writes (state_of old) previous node)
  pub lawful : IsLawful (state_of new)
  pub catalogue : catalogue_of (state_of new) ≡ without_key (name_of head) k (catalogue_of (state_of old))

-- What a put that answers `Yes` leaves: the key, which was there, has this value.
pub record Puts (old new : InSection) (head k value : ℕ) : Type 0 where
  pub node : ℕ
  pub place : IsPutPlace (state_of old) head k node
  pub change : Rewritten old new (node ∷ []) (put_writes (state_of old) node value)
  pub lawful : IsLawful (state_of new)
  pub catalogue : catalogue_of (state_of new) ≡ with_key (name_of head) k value (catalogue_of (state_of old))
