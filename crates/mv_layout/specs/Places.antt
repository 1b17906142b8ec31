-- The words by name, the number of each, and a memory of words by name.
use Rattle.std.specs.Prelude.{ℕ, ◌+◌, ◌*◌, ◌<◌, ◌==◌, ◌&&◌, Bool, true, false, cond}
use Rattle.mv_layout.specs.declared.config.Config.{Config}
use Rattle.mv_layout.specs.declared.places.SharedWord.{SharedWord}
use Rattle.mv_layout.specs.declared.places.SharedWord.TheVariants.{Clock, Grace, Mark, Head, Master, First, Stamp, Prev, Super, Data}

-- the number of the first slot's first word
abbrev pub row_of : Config → ℕ
row_of c = 2 + c.seats + 7 * c.objects

-- the number of the first word of a slot of a seat
abbrev pub slot_of : Config → ℕ → ℕ → ℕ
slot_of c s k = row_of c + 10 * (s * c.slots + k)

-- how many words there are
abbrev pub total : Config → ℕ
total c = row_of c + 10 * (c.seats * c.slots)

-- the number of a word, by which trails and texts speak of it
abbrev pub place_of : Config → SharedWord → ℕ
place_of c Clock = 0
place_of c Grace = 1
place_of c (Mark s) = 2 + s
place_of c (Head o) = 2 + c.seats + 7 * o
place_of c (Master o w) = 2 + c.seats + 7 * o + 1 + w
place_of c (First s k) = slot_of c s k
place_of c (Stamp s k) = slot_of c s k + 1
place_of c (Prev s k) = slot_of c s k + 2
place_of c (Super s k) = slot_of c s k + 3
place_of c (Data s k w) = slot_of c s k + 4 + w

-- the numbers of a word are in range
abbrev pub IsPlace : Config → SharedWord → Type 0
IsPlace c Clock = Unit {0}
IsPlace c Grace = Unit {0}
IsPlace c (Mark s) = s < c.seats
IsPlace c (Head o) = o < c.objects
IsPlace c (Master o w) = (o < c.objects) × (w < 6)
IsPlace c (First s k) = (s < c.seats) × (k < c.slots)
IsPlace c (Stamp s k) = (s < c.seats) × (k < c.slots)
IsPlace c (Prev s k) = (s < c.seats) × (k < c.slots)
IsPlace c (Super s k) = (s < c.seats) × (k < c.slots)
IsPlace c (Data s k w) = (s < c.seats) × (k < c.slots) × (w < 6)

-- whether two names are of one word
abbrev pub same : SharedWord → SharedWord → Bool
same Clock Clock = true
same Grace Grace = true
same (Mark s) (Mark t) = s == t
same (Head o) (Head p) = o == p
same (Master o w) (Master p x) = (o == p) && (w == x)
same (First s k) (First t l) = (s == t) && (k == l)
same (Stamp s k) (Stamp t l) = (s == t) && (k == l)
same (Prev s k) (Prev t l) = (s == t) && (k == l)
same (Super s k) (Super t l) = (s == t) && (k == l)
same (Data s k w) (Data t l x) = (s == t) && ((k == l) && (w == x))
same _ _ = false

-- what each word is
abbrev pub Memory : Type 0
Memory = SharedWord → ℕ

-- the memory after a write of n into p
abbrev pub put : Memory → SharedWord → ℕ → Memory
put m p n q = cond (same p q) n (m q)
