use Rattle.grow_seats.specs.declared.command.GrowCommand.TheVariants as command
use Rattle.mvrlu_c.proofs.TableTelling.{told_back}
use Rattle.mvrlu_c.proofs.table_calls.mvrlu_raw_table_size.Goals as goal

pub returns : goal.returns
returns c = record { tells = told_back command.Size _ _ _ _ _ c.attempt.ensures.tells }
