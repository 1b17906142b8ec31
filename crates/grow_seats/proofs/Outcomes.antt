-- What an attempt of a command leaves, as its reply.
use Rattle.mv_history.specs.Meaning.{Seat}
use Rattle.section_work.specs.declared.place.Place.TheVariants.{Commit as AtCommit, Read}
use Rattle.grow_hash.specs.declared.attempt.GrowStep.{GrowStep}
use Rattle.grow_hash.specs.declared.attempt.GrowStep.TheVariants.{Done, Again}
use Rattle.grow_seats.specs.Calls.{Attempted, Replied}
use Rattle.grow_seats.specs.declared.command.GrowCommand.{GrowCommand}

-- the reply of an attempt is the catalogue's
pub replied : (old new : Seat) (command : GrowCommand) (step : GrowStep) → Attempted old new command step → Replied new command step
replied old new command (Done answer (AtCommit time)) h = h.done.makes
replied old new command (Done answer (Read time)) h = h.settles
replied old new command (Again cause) h = tt
