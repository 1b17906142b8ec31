-- Scripts replayed one after another: what their commands reply, and what they leave.
use Rattle.std.specs.Prelude.{◌≡◌, ◌≢◌, ℕ, ◌+◌, Bool, false, All, count_by, List, [], ◌∷◌, ◌++◌, codes, if◌then◌else◌}
use Rattle.set_model.specs.Catalogue.{Maps, empty}
use Rattle.set_model.specs.Replies.{reply, changes, next}
use Rattle.set_model.specs.declared.commands.Command.{Command}
use Rattle.set_model.specs.declared.commands.Reply.TheVariants.{Worn}
use Rattle.run_report.specs.declared.line.Line.{Line}
use Rattle.run_report.specs.Summary.{says_yes, says_no, is_yes, is_no, is_made, text_of_count, text_of_sizes}
use Rattle.script_gen.specs.Script.{IsGenerated, script}

-- What is counted while commands are replayed: the maps so far, how many commands replied yes and how many no, and how many
-- changed a map.
pub record Tally : Type 0 where
  pub maps : Maps
  pub yes : ℕ
  pub no : ℕ
  pub commits : ℕ

-- 1 where it is so, and 0 where it isn't
abbrev pub one_if : Bool → ℕ
one_if b = if b then 1 else 0

-- one command more, at a place before the last time
abbrev pub counted : ℕ → Command → Tally → Tally
counted capacity command t = record {
  maps = next command t.maps capacity false;
  yes = t.yes + one_if (says_yes (reply command t.maps capacity false));
  no = t.no + one_if (says_no (reply command t.maps capacity false));
  commits = t.commits + one_if (changes command t.maps capacity false);
}

-- the commands of a script more, in order
abbrev pub replayed : ℕ → List Command → Tally → Tally
replayed capacity [] t = t
replayed capacity (command ∷ commands) t = replayed capacity commands (counted capacity command t)

-- the scripts more, one after another
abbrev pub all_replayed : ℕ → List (List Command) → Tally → Tally
all_replayed capacity [] t = t
all_replayed capacity (script ∷ scripts) t = all_replayed capacity scripts (replayed capacity script t)

-- nothing is counted, and each map is empty
abbrev pub nothing : Tally
nothing = record { maps = empty; yes = 0; no = 0; commits = 0 }

-- The scripts replayed one after another, from empty maps, with room for this many nodes.
abbrev pub one_after_another : ℕ → List (List Command) → Tally
one_after_another capacity scripts = all_replayed capacity scripts nothing

-- The lines count as the tally does, and leave its maps.
pub record IsTallyOf (lines : List Line) (end : Maps) (t : Tally) : Type 0 where
  pub maps : end ≡ t.maps
  pub yes : count_by is_yes lines ≡ t.yes
  pub no : count_by is_no lines ≡ t.no
  pub commits : count_by is_made lines ≡ t.commits

-- no line replies that its command was worn
abbrev pub NoneIsWorn : List Line → Type 0
NoneIsWorn lines = All (λ line. line.reply ≢ Worn) lines

-- The summary of a tally: no command was refused as worn.
abbrev pub text_of_tally : ℕ → Tally → List ℕ
text_of_tally number t =
    text_of_count (codes "work") number ++ text_of_count (codes "yes") t.yes ++ text_of_count (codes "no") t.no ++ text_of_count (codes "worn") 0
    ++ text_of_count (codes "commits") t.commits ++ text_of_sizes 0 t.maps

-- the four generated scripts of a number
abbrev pub scripts_of : ℕ → List (List Command)
scripts_of number = script number 0 ∷ script number 1 ∷ script number 2 ∷ script number 3 ∷ []

-- four scripts, each of commands that are generated for its seat
abbrev pub AreGenerated : List (List Command) → Type 0
AreGenerated (a ∷ b ∷ c ∷ d ∷ []) = All (IsGenerated 0) a × All (IsGenerated 1) b × All (IsGenerated 2) c × All (IsGenerated 3) d
AreGenerated scripts = ⊥
