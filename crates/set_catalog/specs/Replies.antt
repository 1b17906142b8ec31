-- Replies in a state.
use Rattle.std.specs.Prelude.{Bool}
use Rattle.mv_history.specs.State.{State}
use Rattle.set_model.specs.CatalogueOf.{catalogue_of}
use Rattle.set_model.specs.Replies.{reply, changes}
use Rattle.set_model.specs.Rules.{capacity}
use Rattle.set_model.specs.declared.commands.Command.{Command}
use Rattle.set_model.specs.declared.commands.Reply.{Reply}

-- the command's reply in a state, at the last time or not
abbrev pub reply_in : Command → State → Bool → Reply
reply_in command s last = reply command (catalogue_of s) (capacity s) last

-- whether it changes something there
abbrev pub changes_in : Command → State → Bool → Bool
changes_in command s last = changes command (catalogue_of s) (capacity s) last
