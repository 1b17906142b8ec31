-- The steps of a section that reads an object in its master.
use Rattle.std.specs.Prelude.{◌≡◌, ℕ, ◌+◌, List, length}
use Rattle.mv_history.specs.declared.Step.{Step}
use Rattle.mv_core.specs.declared.view.Knowledge.{Knowledge}
use Rattle.reader_marks.specs.Sections.{EntersBy}

-- nothing changes in a section but what was seen, where the walk stands, which HEADs were found empty, and the trail
abbrev pub Keeps : Knowledge → Knowledge → Type 0
Keeps v w = w ≡ record v { past = w.past; walk = w.walk; empty = w.empty; trail = w.trail }

-- the trail has this many steps more
abbrev pub Makes : List Step → List Step → ℕ → Type 0
Makes before after count = length after ≡ length before + count

-- a master is found by one step, and its words are read by six
pub record ReadsMaster (before after : List Step) : Type 0 where
  pub found : List Step
  pub finds : Makes before found 1
  pub reads : Makes found after 6

-- A section that reads a master, by its trail: it enters by three steps where CLOCK names no commit, and by at most six in any
-- case; then it finds the master, reads it, and leaves by one step.
pub record IsFirstRead (before after : List Step) : Type 0 where
  pub entered : List Step
  pub word : ℕ
  pub enters : EntersBy before entered word
  pub read : List Step
  pub reads : ReadsMaster entered read
  pub leaves : Makes read after 1
