-- The writes of one object in a history, by printed times: the entry t, counted from 1, has the time base + t.
use Rattle.std.specs.Prelude.{◌≡◌, ℕ, zero, suc, ◌+◌, ◌-◌, ◌<◌, ◌≤◌, ◌==◌, Bool, true, false, List, [], ◌∷◌}
use Rattle.std.specs.Prelude.{length, take, Option, Some, None, slice_get, slice_index}
use Rattle.mv_history.specs.declared.Entry.{Entry}
use Rattle.mv_history.specs.State.{State, maker_of, writes_of, touches, state_at}
use Rattle.mv_history.specs.Meaning.{words_at}
use Rattle.mv_layout.specs.declared.Config.{Config}

-- whether an entry writes the object
abbrev pub writes_to : ℕ → Entry → Bool
writes_to object e = touches (writes_of e) object

-- whether an entry is by the seat
abbrev pub is_by : ℕ → Entry → Bool
is_by seat e = maker_of e == seat

-- one more entry before: the last of those that pass, or the new one
abbrev pub one_more : Bool → ℕ → ℕ
one_more b (suc n) = suc (suc n)
one_more true zero = 1
one_more false zero = 0

-- the last of the entries that pass the test, counted from 1, or 0
abbrev pub last_that : (Entry → Bool) → List Entry → ℕ
last_that test [] = 0
last_that test (e ∷ es) = one_more (test e) (last_that test es)

-- the time of the last write of the object, or base
abbrev pub latest : ℕ → List Entry → ℕ → ℕ
latest base h object = base + last_that (writes_to object) h

-- the time of its last write up to a time
abbrev pub latest_at : ℕ → List Entry → ℕ → ℕ → ℕ
latest_at base h object time = latest base (take (time - base) h) object

-- the time of the seat's last entry, or base
abbrev pub last_own : ℕ → List Entry → ℕ → ℕ
last_own base h seat = base + last_that (is_by seat) h

-- the history has this entry at this time
abbrev pub IsEntry : ℕ → List Entry → ℕ → Entry → Type 0
IsEntry base h time e = (base < time) × (slice_get h (time - (base + 1)) ≡ Some e)

-- the next write of the object after a time is at this time
pub record IsNextWrite (base : ℕ) (h : List Entry) (object time next : ℕ) : Type 0 where
  pub later : time < next
  pub entry : Entry
  pub there : IsEntry base h next entry
  pub writes : writes_to object entry ≡ true
  pub none_between : latest_at base h object (next - 1) ≤ time

-- the next write of the object after a time that the history has is at this time
pub record IsNextIn (base : ℕ) (h : List Entry) (object time next : ℕ) : Type 0 where
  pub later : time < next
  pub within : next ≤ base + length h
  pub written : latest_at base h object next ≡ next
  pub none_between : latest_at base h object (next - 1) ≤ time

-- the words of the object at a time
abbrev pub words_of : Config → State → List Entry → ℕ → ℕ → List ℕ
words_of c start h time object = words_at (state_at start h (time - c.base)) object

-- these six words are those
abbrev pub AreThe : (ℕ → ℕ) → List ℕ → Type 0
AreThe words these = (i : ℕ) → i < 6 → words i ≡ slice_index these i

-- t is not above the time of the section, if there is one
abbrev pub NotAbove : ℕ → Option ℕ → Type 0
NotAbove t None = Unit {0}
NotAbove t (Some u) = t ≤ u

-- the same of every section, by the number of its seat
abbrev pub NotAboveAny : ℕ → (ℕ → Option ℕ) → Type 0
NotAboveAny t times = (s : ℕ) → NotAbove t (times s)
