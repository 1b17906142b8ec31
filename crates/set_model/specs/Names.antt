-- The names of the sets as text.
use Rattle.std.specs.Prelude.{ℕ, ◌%◌, nat_lt, List, ◌++◌, codes, decimal, if◌then◌else◌}

-- the letter and the digit of a name
abbrev pub name_text : ℕ → List ℕ
name_text name = (if nat_lt name 10 then codes "l" else (if nat_lt name 20 then codes "h" else codes "t")) ++ decimal (name % 10)
