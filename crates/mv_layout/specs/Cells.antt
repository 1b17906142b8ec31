-- Where each word lies in the running table, by lines of eight words, and the view of a table's words by name.
use Rattle.std.specs.Prelude.{◌≡◌, ℕ, ◌+◌, ◌*◌, List, length, slice_index}
use Rattle.mv_layout.specs.declared.config.Config.{Config}
use Rattle.mv_layout.specs.declared.places.SharedWord.{SharedWord}
use Rattle.mv_layout.specs.declared.places.SharedWord.TheVariants.{Clock, Grace, Mark, Head, Master, First, Stamp, Prev, Super, Data}
use Rattle.mv_layout.specs.declared.cells.TheConstants.{STAMP_OFFSET, PREV_OFFSET, SUPER_OFFSET, DATA_OFFSET}
use Rattle.mv_layout.specs.Places.{IsPlace, Memory}

-- where the objects begin: CLOCK, GRACE and the marks before them are two lines apart
abbrev pub objects_cell : Config → ℕ
objects_cell c = 38 + 16 * c.seats

-- where a slot of a seat begins: an object has one line, and a slot two
abbrev pub slot_cell_of : Config → ℕ → ℕ → ℕ
slot_cell_of c s k = objects_cell c + 8 * c.objects + 16 * (s * c.slots + k)

-- how many words the running table has
abbrev pub cells : Config → ℕ
cells c = objects_cell c + 8 * c.objects + 16 * (c.seats * c.slots)

-- where a word lies
abbrev pub cell_of : Config → SharedWord → ℕ
cell_of c Clock = 6
cell_of c Grace = 22
cell_of c (Mark s) = 38 + 16 * s
cell_of c (Head o) = objects_cell c + 8 * o
cell_of c (Master o w) = objects_cell c + 8 * o + 1 + w
cell_of c (First s k) = slot_cell_of c s k
cell_of c (Stamp s k) = slot_cell_of c s k + STAMP_OFFSET
cell_of c (Prev s k) = slot_cell_of c s k + PREV_OFFSET
cell_of c (Super s k) = slot_cell_of c s k + SUPER_OFFSET
cell_of c (Data s k w) = slot_cell_of c s k + DATA_OFFSET + w

-- the words of the table are this memory
pub record Shows (c : Config) (words : List ℕ) (m : Memory) : Type 0 where
  pub wide : length words ≡ cells c
  pub each : (p : SharedWord) → IsPlace c p → slice_index words (cell_of c p) ≡ m p
