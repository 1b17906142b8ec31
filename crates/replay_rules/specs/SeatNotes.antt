-- What is read of the notes of a seat's log, and what a step changes in them.
use Rattle.std.specs.Prelude.{ℕ, zero, suc, ◌+◌, ◌-◌, ◌==◌, ◌&&◌, ◌||◌, ltb, leb, List, [], ◌∷◌, ◌++◌, length}
use Rattle.std.specs.Prelude.{replicate, slice_index_or, slice_set, None, Bool, not, if◌then◌else◌}
use Rattle.replay_rules.specs.declared.seats.NotedVersion.{NotedVersion}
use Rattle.replay_rules.specs.declared.seats.State.{State}
use Rattle.replay_rules.specs.declared.seats.Edit.{Edit}
use Rattle.replay_rules.specs.declared.seats.Edit.TheVariants.{Kept, Pushed, WordPut, CommittedFrom, AbortedFrom, Retired, AboveNoted}
use Rattle.replay_rules.specs.declared.seats.Test.{Test}
use Rattle.replay_rules.specs.declared.seats.Test.TheVariants.{IsOf, IsUntimed, IsLinked, IsDeadAbove, EndsSet}

-- a version is what is looked for
abbrev pub passes : Test → NotedVersion → Bool
passes (IsOf object) v = v.object == object
passes IsUntimed v = v.dead == 0
passes IsLinked v = not (v.previous == 0)
passes (IsDeadAbove time) v = ltb time v.dead
passes (EndsSet first time) v = not (v.first == first) || (v.dead == 0 || ltb time v.dead)

-- how many versions stand before the first that is what is looked for
abbrev pub before_first : List NotedVersion → Test → ℕ
before_first [] test = 0
before_first (v ∷ log) test = if passes test v then 0 else suc (before_first log test)

-- the position of the first such version from one on, or the next position where none is
abbrev pub first_from : List NotedVersion → ℕ → Test → ℕ
first_from log zero test = before_first log test
first_from [] (suc from) test = 0
first_from (v ∷ log) (suc from) test = suc (first_from log from test)

-- and behind a position
abbrev pub first_behind : List NotedVersion → ℕ → Test → ℕ
first_behind log at test = first_from log (at + 1) test

-- a version that isn't there
abbrev pub no_version : NotedVersion
no_version = record { first = 0; object = 0; previous = 0; words = replicate 6 0; time = 0; dead = 0; above = None }

-- the version at a position
abbrev pub version_at : List NotedVersion → ℕ → NotedVersion
version_at log at = slice_index_or log at no_version

-- how many versions the section holds
abbrev pub held : List NotedVersion → State → ℕ
held log s = length log - s.from

-- the position of the section's version of an object, or the next position where it doesn't hold the object
abbrev pub place_held : List NotedVersion → State → ℕ → ℕ
place_held log s object = first_from log s.from (IsOf object)

-- the section holds the object
abbrev pub holds : List NotedVersion → State → ℕ → Bool
holds log s object = ltb (place_held log s object) (length log)

-- how many versions are live
abbrev pub live : List NotedVersion → State → ℕ
live log s = length log - s.freed

-- how many versions the oldest write set has, where all of them are dead at this time, and else 0
abbrev pub dead_count : List NotedVersion → State → ℕ → ℕ
dead_count log s time =
    let end = first_from log s.freed (EndsSet s.freed time) in
    if ltb end (length log) && ((version_at log end).first == s.freed) then 0 else end - s.freed

-- the version with what a step changes in it, at this position
abbrev pub edited : Edit → ℕ → NotedVersion → NotedVersion
edited Kept place v = v
edited (Pushed version) place v = v
edited (WordPut at word value) place v = if at == place then record v { words = slice_set v.words word value } else v
edited (CommittedFrom from time) place v = if leb from place then record v { time = time } else v
edited (AbortedFrom from dead) place v = if leb from place then record v { dead = dead } else v
edited (Retired at dead) place v = if at == place then record v { dead = dead } else v
edited (AboveNoted at seat) place v = if at == place then record v { above = seat } else v

-- each version from a position on with what a step changes in it
abbrev pub edited_from : Edit → ℕ → List NotedVersion → List NotedVersion
edited_from edit place [] = []
edited_from edit place (v ∷ log) = edited edit place v ∷ edited_from edit (suc place) log

-- the notes behind a step
abbrev pub applied : Edit → List NotedVersion → List NotedVersion
applied Kept log = log
applied (Pushed version) log = log ++ version ∷ []
applied (WordPut at word value) log = edited_from (WordPut at word value) 0 log
applied (CommittedFrom from time) log = edited_from (CommittedFrom from time) 0 log
applied (AbortedFrom from dead) log = edited_from (AbortedFrom from dead) 0 log
applied (Retired at dead) log = edited_from (Retired at dead) 0 log
applied (AboveNoted at seat) log = edited_from (AboveNoted at seat) 0 log
