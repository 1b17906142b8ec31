-- What is remembered from one section to the next.
use Rattle.std.specs.Prelude.{◌≡◌, ◌<◌, ⊤}
use Rattle.mv_history.specs.State.{State}
use Rattle.section_work.specs.declared.place.Place.{Place}
use Rattle.section_work.specs.declared.place.Place.TheVariants.{Commit as AtCommit, Read}
use Rattle.set_model.specs.CatalogueOf.{catalogue_of}
use Rattle.set_model.specs.declared.commands.Command.{Command}
use Rattle.set_catalog.specs.Hinted.{Hinted, TakesHints, gone_noted}
use Rattle.set_catalog.specs.Needs.{wanted}
use Rattle.set_catalog.specs.Shortages.{followed}
use Rattle.set_catalog.specs.declared.plan.Vacated.{Vacated}
use Rattle.set_catalog.specs.declared.shortage.Shortage.{Shortage}

-- what a look into a state does to the hints: some were taken, and none where no vacant node is wanted
pub record TakesFor (command : Command) (before after : Hinted) (s : State) : Type 0 where
  pub takes : TakesHints before after
  pub untouched : wanted command (catalogue_of s) ≡ 0 → after ≡ before

-- where it is a commit, its time is not the first
abbrev pub IsAfterTheFirst : Place → Type 0
IsAfterTheFirst (AtCommit time) = 0 < time
IsAfterTheFirst (Read time) = ⊤

-- the hints after a command took place here, whose commit left these objects vacant
abbrev pub hints_at : Place → Hinted → Vacated → Hinted
hints_at (AtCommit time) hints gone = gone_noted hints gone.node gone.inner
hints_at (Read time) hints gone = hints

-- what is known of vacant nodes after a command took place here
abbrev pub known_at : Place → Shortage → Command → Shortage
known_at (AtCommit time) known command = followed known command time
known_at (Read time) known command = known
