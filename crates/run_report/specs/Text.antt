-- The text of a run: a line for each command, then the sets that aren't empty, then the table of each seat's log.
use Rattle.std.specs.Prelude.{ℕ, suc, ◌==◌, Bool, List, [], ◌∷◌, ◌++◌, codes, decimal, if◌then◌else◌}
use Rattle.std.specs.List.{flat_map}
use Rattle.mv_history.specs.declared.answers.LogTable.{LogTable}
use Rattle.set_model.specs.Catalogue.{Map, Maps}
use Rattle.set_model.specs.Names.{name_text}
use Rattle.section_work.specs.declared.place.Place.{Place}
use Rattle.section_work.specs.declared.place.Place.TheVariants.{Commit, Read}
use Rattle.set_model.specs.declared.commands.Reply.{Reply}
use Rattle.set_model.specs.declared.commands.Reply.TheVariants.{Yes, No, Full, Worn, Both, Count, Key, NoKey, Value}
use Rattle.run_report.specs.declared.line.Line.{Line}

-- a place, with its printed time
abbrev pub text_of_place : Place → List ℕ
text_of_place (Commit time) = codes "c" ++ decimal time
text_of_place (Read time) = codes "r" ++ decimal time

-- whether a set has a key
abbrev pub text_of_answer : Bool → List ℕ
text_of_answer has = if has then codes "yes" else codes "no"

-- a reply
abbrev pub text_of_reply : Reply → List ℕ
text_of_reply Yes = codes "yes"
text_of_reply No = codes "no"
text_of_reply Full = codes "full"
text_of_reply Worn = codes "worn"
text_of_reply (Both first second) = text_of_answer first ++ codes " " ++ text_of_answer second
text_of_reply (Count count) = decimal count
text_of_reply (Key key) = decimal key
text_of_reply NoKey = codes "none"
text_of_reply (Value value) = decimal value

-- a line: the seat, the number, the place and the reply
abbrev pub text_of_line : Line → List ℕ
text_of_line line =
    decimal line.seat ++ codes "." ++ decimal line.number ++ codes " " ++ text_of_place line.place ++ codes " " ++ text_of_reply line.reply ++ codes "\n"

-- a key, with its value where that isn't 0
abbrev pub text_of_key : ℕ × ℕ → List ℕ
text_of_key e = codes " " ++ decimal e.0 ++ (if e.1 == 0 then [] else codes "=" ++ decimal e.1)

-- a set: its name and its keys, and nothing where it is empty
abbrev pub text_of_set : ℕ → Map → List ℕ
text_of_set name [] = []
text_of_set name (e ∷ m) = name_text name ++ flat_map text_of_key (e ∷ m) ++ codes "\n"

-- the sets, the first of which has this name
abbrev pub text_of_sets : ℕ → Maps → List ℕ
text_of_sets name [] = []
text_of_sets name (m ∷ maps) = text_of_set name m ++ text_of_sets (suc name) maps

-- the table of a seat's log
abbrev pub text_of_table : ℕ → LogTable → List ℕ
text_of_table seat table =
    codes "log " ++ decimal seat ++ codes " live " ++ decimal table.live ++ codes " freed " ++ decimal table.freed ++ codes " back " ++ decimal table.back
    ++ codes " commits " ++ decimal table.commits ++ codes " aborts " ++ decimal table.aborts ++ codes " rests " ++ decimal table.rests ++ codes "\n"

-- the tables, the first of which is that of this seat
abbrev pub text_of_tables : ℕ → List LogTable → List ℕ
text_of_tables seat [] = []
text_of_tables seat (table ∷ tables) = text_of_table seat table ++ text_of_tables (suc seat) tables

-- The text of a run.
unfoldable pub text_of_run : List Line → Maps → List LogTable → List ℕ
text_of_run lines end tables = flat_map text_of_line lines ++ text_of_sets 0 end ++ text_of_tables 0 tables
