use Rattle.mvrlu_c.proofs.TableTelling.{split_back}
use Rattle.mvrlu_c.proofs.table_calls.mvrlu_raw_table_split.Goals as goal

pub returns : goal.returns
returns c = record { tells = split_back _ _ _ _ _ c.split.ensures.tells }
