-- The summary of a run: counts of its lines, and the size of each set that isn't empty.
use Rattle.std.specs.Prelude.{ℕ, suc, Bool, true, false, List, [], ◌∷◌, ◌++◌, codes, decimal, length, count_by}
use Rattle.set_model.specs.Catalogue.{Map, Maps}
use Rattle.set_model.specs.Names.{name_text}
use Rattle.set_model.specs.declared.commands.Reply.{Reply}
use Rattle.set_model.specs.declared.commands.Reply.TheVariants.{Yes, No, Worn}
use Rattle.run_report.specs.declared.line.Line.{Line}
use Rattle.run_report.specs.Legal.{is_commit}

-- whether a reply is yes
abbrev pub says_yes : Reply → Bool
says_yes Yes = true
says_yes reply = false

-- whether it is no
abbrev pub says_no : Reply → Bool
says_no No = true
says_no reply = false

-- whether it is worn
abbrev pub says_worn : Reply → Bool
says_worn Worn = true
says_worn reply = false

-- whether a line's reply is yes
abbrev pub is_yes : Line → Bool
is_yes line = says_yes line.reply

-- whether a line's reply is no
abbrev pub is_no : Line → Bool
is_no line = says_no line.reply

-- whether a line's reply is worn
abbrev pub is_worn : Line → Bool
is_worn line = says_worn line.reply

-- whether a line is a commit
abbrev pub is_made : Line → Bool
is_made line = is_commit line.place

-- a line of a word and a number
abbrev pub text_of_count : List ℕ → ℕ → List ℕ
text_of_count word count = word ++ codes " " ++ decimal count ++ codes "\n"

-- a set: its name and how many keys it has, and nothing where it is empty
abbrev pub text_of_size : ℕ → Map → List ℕ
text_of_size name [] = []
text_of_size name (e ∷ m) = text_of_count (name_text name) (length (e ∷ m))

-- the sizes of the sets, the first of which has this name
abbrev pub text_of_sizes : ℕ → Maps → List ℕ
text_of_sizes name [] = []
text_of_sizes name (m ∷ maps) = text_of_size name m ++ text_of_sizes (suc name) maps

-- The summary of a run of the scripts of a number: how many lines reply yes, no and worn, how many are commits, and the sizes of the sets.
unfoldable pub summary : ℕ → List Line → Maps → List ℕ
summary number lines end =
    text_of_count (codes "work") number ++ text_of_count (codes "yes") (count_by is_yes lines) ++ text_of_count (codes "no") (count_by is_no lines)
    ++ text_of_count (codes "worn") (count_by is_worn lines) ++ text_of_count (codes "commits") (count_by is_made lines) ++ text_of_sizes 0 end
