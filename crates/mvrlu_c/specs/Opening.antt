-- What opening leaves of the handles of C, of whatever kind.
use Rattle.std.specs.Prelude.{◌≡◌, Bool, true, false, List, map, All}
use Rattle.c_answers.specs.declared.status.Status.{Status}
use Rattle.c_answers.specs.declared.status.Status.TheVariants.{Done, InUse, BadNumber, NoMemory}

module _ {H S : Type 0} (opened : H → Bool) (seat_in : H → S) where
  -- the handle is closed
  abbrev pub IsClosed : H → Type 0
  IsClosed h = opened h ≡ false

  -- the handle is open
  abbrev pub IsOpen : H → Type 0
  IsOpen h = opened h ≡ true

  -- All of them are opened or none, and why none: their seats are those of a domain as it was asked for, or a number of it was bad, or all were
  -- fit and there was too little memory.
  abbrev pub OpensAll : (List S → Type 0) → Type 0 → Type 0 → List H → List H → Status → Type 0
  OpensAll Opened Bad Fit old new Done = All IsClosed old × All IsOpen new × Opened (map seat_in new)
  OpensAll Opened Bad Fit old new InUse = ¬ All IsClosed old × (new ≡ old)
  OpensAll Opened Bad Fit old new BadNumber = All IsClosed old × (new ≡ old) × Bad
  OpensAll Opened Bad Fit old new NoMemory = All IsClosed old × (new ≡ old) × Fit
  OpensAll Opened Bad Fit old new other = ⊥
