-- What is told of the calls of files.
use Rattle.std.specs.Prelude.{ℕ, List, [], ◌∷◌, ◌++◌}
use Rattle.host_io.specs.declared.told.Letters as letters
use Rattle.host_io.specs.declared.told.Failures as failures
use Rattle.host_io.specs.declared.told.CallRecord.{CallRecord}

-- the bytes of a name
abbrev pub letters_of : letters.Letters → List ℕ
letters_of letters.None = []
letters_of (letters.Then' _ before letter) = letters_of before ++ letter ∷ []

-- the names of the texts of which a call failed, in the order of the calls
abbrev pub failures_of : failures.Failures → List (List ℕ)
failures_of failures.None = []
failures_of (failures.Then' _ before name) = failures_of before ++ letters_of name.value.value ∷ []

-- the name by which a text was opened last
abbrev pub name_in : CallRecord → List ℕ
name_in t = letters_of t.name.value

-- the names of the texts of which a call failed, in the order of the calls, by what is told
abbrev pub failures_in : CallRecord → List (List ℕ)
failures_in t = failures_of t.failures.value
