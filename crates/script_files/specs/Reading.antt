-- What was read of a text.
use Rattle.std.specs.Prelude.{◌≡◌, ◌≤◌, ℕ, List, [], ◌∷◌, length, slice_get, Option, None, Some, Vec, ⊤}
use Rattle.std.specs.declared.alloc.Global.{Global}
use Rattle.host_io.specs.Outside.{Texts}
use Rattle.script_files.specs.declared.stop.TheConstants.{MOST_BYTES}

-- the texts are told
abbrev pub AreTold : Option Texts → Type 0
AreTold None = ⊥
AreTold (Some texts) = ⊤

-- where the texts are told, the one of this name is there and is so
abbrev pub Says : Option Texts → List ℕ → (List ℕ → Type 0) → Type 0
Says None name P = ⊤
Says (Some texts) name P = (text : List ℕ) × (texts name ≡ Some text) × P text

-- the bytes of a text in memory
abbrev pub text_of : Vec ℕ Global → List ℕ
text_of v = v.items

-- the commands of a script in memory, or its blocks
abbrev pub list_of : {A : Type 0} → Vec A Global → List A
list_of v = v.items

-- these bytes are within their limit, and, where the texts are told, the text of this name
pub record IsTextOf (texts : Option Texts) (name bytes : List ℕ) : Type 0 where
  pub short : length bytes ≤ MOST_BYTES
  pub says : Says texts name (λ text. text ≡ bytes)

-- and so of the file of this place among these names
abbrev pub IsTextAt : Option Texts → List (List ℕ) → ℕ → List ℕ → Type 0
IsTextAt texts names place bytes = (name : List ℕ) × (slice_get names place ≡ Some name) × IsTextOf texts name bytes

-- the first of these names have these texts
abbrev pub AreFirstTexts : Option Texts → List (List ℕ) → List (List ℕ) → Type 0
AreFirstTexts texts names [] = ⊤
AreFirstTexts texts [] (bytes ∷ more) = ⊥
AreFirstTexts texts (name ∷ names) (bytes ∷ more) = IsTextOf texts name bytes × AreFirstTexts texts names more
