-- The cells at which slots begin.
use Rattle.std.specs.Prelude.{◌≡◌, ℕ}
use Rattle.mv_layout.specs.declared.Config.{Config}
use Rattle.mv_layout.specs.declared.SharedWord.TheVariants.{First}
use Rattle.mv_layout.specs.Cells.{cell_of}
use Rattle.mv_layout.specs.Words.{link_seat_of}
use Rattle.mv_core.specs.Rings.{index_of}
use Rattle.mv_core.specs.WalkSteps.{slot_named}

-- the slot of a position in the log that a link names begins at this cell
abbrev pub IsSlotIn : Config → ℕ → ℕ → ℕ → Type 0
IsSlotIn c link position slot = slot ≡ cell_of c (First (link_seat_of link) (index_of c position))

-- the slot that a link names begins at this cell
abbrev pub IsSlotLinked : Config → ℕ → ℕ → Type 0
IsSlotLinked c link slot = slot ≡ cell_of c (First (link_seat_of link) (slot_named c link))
