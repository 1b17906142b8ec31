-- What files and sinks are to the program.
use Rattle.std.specs.Prelude.{◌≡◌, ◌≤◌, ◌<◌, ◌+◌, ◌-◌, ◌^◌, ℕ, min, List, [], ◌∷◌, ◌++◌, length, take, ⊤, Option, None, Some, Result}
use Rattle.std.specs.Prelude.{Ok, Err, OnErr, IsSome}
use Rattle.std.specs.Io.KnownBytes.{Appends}

-- one more, or the counter's end once it is there
abbrev pub next_count : ℕ → ℕ
next_count n = min (n + 1) (2 ^ 64 - 1)

-- a count of faults stands higher than it did, or at the counter's end
abbrev pub Rose : ℕ → ℕ → Type 0
Rose before now = min (before + 1) (2 ^ 64 - 1) ≤ now

-- the count of faults never falls, and the call fails only where it rose
pub record HasCause {T E : Type 0} (before now : ℕ) (result : Result T E) : Type 0 where
  pub later : before ≤ now
  pub failed : OnErr result (Rose before now)

-- how often a call of files failed, and the names of the texts of which one did, in the order of the calls
pub record Faults : Type 0 where
  pub count : ℕ
  pub names : List (List ℕ)

-- the names of the texts of which a call failed, after one more call on the text of this name
abbrev pub names_with : {T E : Type 0} → List (List ℕ) → List ℕ → Result T E → List (List ℕ)
names_with before name (Ok t) = before
names_with before name (Err e) = before ++ name ∷ []

-- a call on the text of this name fails only where the count of faults rose, and exactly where the name is told
pub record IsTold {T E : Type 0} (before now : Faults) (name : List ℕ) (result : Result T E) : Type 0 where
  pub cause : HasCause before.count now.count result
  pub names : now.names ≡ names_with before.names name result

-- texts by name
abbrev pub Texts : Type 0
Texts = List ℕ → Option (List ℕ)

-- the texts are told, and one has this name
abbrev pub HasText : Option Texts → List ℕ → Type 0
HasText None name = ⊥
HasText (Some texts) name = IsSome (texts name)

-- where the texts are told, one has this name, and all of it is left
abbrev pub Starts : Option Texts → List ℕ → Option (List ℕ) → Type 0
Starts None name left = ⊤
Starts (Some texts) name None = ⊥
Starts (Some texts) name (Some left) = texts name ≡ Some left

-- a write took at least one byte of the piece, or none and failed
abbrev pub Takes : {E : Type 0} → Option (List ℕ) → Option (List ℕ) → Result ℕ E → List ℕ → Type 0
Takes old new (Ok n) piece = Appends old new (take n piece) × (0 < n) × (n ≤ length piece)
Takes old new (Err e) piece = new ≡ old
