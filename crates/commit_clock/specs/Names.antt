-- What naming an entry of the history leaves.
use Rattle.std.specs.Prelude.{◌≡◌, ℕ, ◌+◌, List}
use Rattle.mv_history.specs.declared.Entry.{Entry}
use Rattle.mv_history.specs.declared.answers.Rival.{Rival}
use Rattle.mv_layout.specs.declared.Config.{Config}
use Rattle.mv_layout.specs.Words.{clock_time_of, clock_seat_of}
use Rattle.mv_core.specs.declared.swap.Swap.{Swap}
use Rattle.mv_core.specs.declared.swap.Swap.TheVariants.{Won, Found}
use Rattle.mv_core.specs.declared.view.Knowledge.{Knowledge}
use Rattle.mv_core.specs.declared.view.OwnSection.{OwnSection}
use Rattle.mv_core.specs.SectionFacts.{IsWord}
use Rattle.mv_core.specs.EnterSteps.{IsWhole}
use Rattle.mv_core.specs.NameSteps.{LogTold, commit_named, commit_lost, rest_named, rest_lost, IsOvertaken}
use Rattle.commit_clock.specs.declared.naming.Named.{Named}
use Rattle.commit_clock.specs.declared.naming.Named.TheVariants.{Done, Lost}

-- CLOCK had the word of a later entry, of this rival, and the whole history h is seen
pub record IsLost (c : Config) (v : Knowledge) (word found : ℕ) (rival : Rival) (h : List Entry) : Type 0 where
  pub is_word : IsWord c found
  pub rival_is : rival ≡ record { seat = clock_seat_of found; time = clock_time_of found }
  pub whole : IsWhole c v found h
  pub overtaken : IsOvertaken c word found h

-- What an exchange of CLOCK from a word leaves that is to name an entry, and what it answers. Won, the entry has the next time after the word's, over
-- the whole history that was there; lost, CLOCK had a later word. The views are those of that history, and of that word.
abbrev pub Names : Config → Knowledge → ℕ → (List Entry → Knowledge) → (ℕ → List Entry → Knowledge) → Named → Knowledge → Type 0
Names c v word won lost (Done time) w = (time ≡ clock_time_of word + 1) × ((h : List Entry) × IsWhole c v word h × (w ≡ won h))
Names c v word won lost (Lost rival) w = (found : ℕ) × (h : List Entry) × IsLost c v word found rival h × (w ≡ lost found h)

-- the entry is the commit of what the section holds
abbrev pub NamesCommit : Config → Knowledge → OwnSection → List ℕ → ℕ → Named → Knowledge → Type 0
NamesCommit c v inside tag word = Names c v word (commit_named c v inside tag word) (commit_lost c v)

-- what a commit that was named tells of the own log before
abbrev pub LogNamed : Config → Knowledge → ℕ → Named → Type 0
LogNamed c v word (Done time) = LogTold c v word
LogNamed c v word (Lost rival) = Unit {0}

-- it is a rest of the seat
abbrev pub NamesRest : Config → Knowledge → ℕ → Named → Knowledge → Type 0
NamesRest c v word = Names c v word (rest_named c v word) (rest_lost c v)

-- what an exchange answers of the entry that it was to name, by what it told
abbrev pub named_by : ℕ → Swap → Named
named_by word Won = Done (clock_time_of word + 1)
named_by word (Found found) = Lost (record { seat = clock_seat_of found; time = clock_time_of found })
