-- What hints are seen as.
use Rattle.std.specs.Prelude.{
  ℕ,
  ◌≡◌,
  ◌<◌,
  ◌≤◌,
  ◌^◌,
  nat_lt,
  ◌==◌,
  if◌then◌else◌,
  List,
  [],
  ◌∷◌,
  ◌++◌,
  length,
  drop,
  Option,
  Some,
  None,
  Vec,
  vec_len,
  vec_capacity,
}
use Rattle.std.specs.declared.alloc.Global.{Global}

-- at most `room` object numbers, in the order in which they were noted
pub record Hinted : Type 0 where
  pub room : ℕ
  pub objects : List ℕ

-- the hints once this object is noted too: it comes last, and where there is no room for it the first goes
abbrev pub noted : Hinted → ℕ → Hinted
noted h o = record {
  room = h.room;
  objects = if nat_lt (length h.objects) h.room then h.objects ++ o ∷ [] else drop 1 (h.objects ++ o ∷ []);
}

-- the hints once those of two objects are noted that are not 0
abbrev pub gone_noted : Hinted → ℕ → ℕ → Hinted
gone_noted h node inner =
    let one = if node == 0 then h else noted h node in
    if inner == 0 then one else noted one inner

-- the object numbers in a list that may be missing
abbrev pub objects_of : Option (Vec ℕ Global) → List ℕ
objects_of None = []
objects_of (Some objects) = objects.items

-- there is room for so many, and no more are there
abbrev pub HasRoom : Option (Vec ℕ Global) → ℕ → Type 0
HasRoom None room = room ≡ 0
HasRoom (Some objects) room = (vec_len objects ≤ room) × (room ≤ vec_capacity objects) × (room < 2 ^ 32)

-- hints were taken from the end, and none was added
pub record TakesHints (old new : Hinted) : Type 0 where
  pub room : new.room ≡ old.room
  pub gone : List ℕ
  pub parts : old.objects ≡ new.objects ++ gone
