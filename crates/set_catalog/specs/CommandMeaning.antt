-- What a command of the sets means, as a work.
use Rattle.std.specs.Prelude.{ℕ, ◌≡◌, ◌≤◌, true, false, Bool, List, length}
use Rattle.mv_history.specs.Drift.{IsFit}
use Rattle.mv_history.specs.State.{State, Writes}
use Rattle.set_model.specs.Rules.{IsSetCommit}
use Rattle.set_model.specs.Tags.{tag_of}
use Rattle.set_model.specs.declared.commands.Command.{Command}
use Rattle.set_model.specs.declared.commands.Reply.TheVariants.{Yes}
use Rattle.section_work.specs.Works.{Meaning}
use Rattle.set_catalog.specs.Plans.{PlanWithin, GoneBy}
use Rattle.set_catalog.specs.Replies.{reply_in, changes_in}
use Rattle.set_catalog.specs.Steps.{most_locks_of}
use Rattle.set_catalog.specs.declared.command_work.CommandAnswer.{CommandAnswer}

-- What is planned for it, where an add to a tree may lock so many objects beside its own four: the change that the command makes, with its
-- tag, fit to be committed, and yes once it is made; a del leaves these objects vacant.
pub record PlansCommand (most : ℕ) (command : Command) (s : State) (tag : List ℕ) (ws : Writes) (answer : CommandAnswer) : Type 0 where
  pub tagged : tag ≡ tag_of command
  pub plan : PlanWithin most command s ws
  pub few : length ws ≤ most_locks_of most command
  pub fit : IsFit IsSetCommit s tag ws
  pub goes : GoneBy command s ws answer.gone.node answer.gone.inner
  pub said : answer.reply ≡ Yes

-- the reply is that of the state, where the command changes nothing
pub record SettlesCommand (command : Command) (s : State) (last : Bool) (answer : CommandAnswer) : Type 0 where
  pub answers : answer.reply ≡ reply_in command s last
  pub unchanging : changes_in command s last ≡ false

-- What a command means, where an add to a tree may lock so many objects beside its own four.
abbrev pub command_meaning : ℕ → Command → Meaning CommandAnswer
command_meaning most command = record {
  most = most_locks_of most command;
  changes = λ s. changes_in command s false ≡ true;
  plans = PlansCommand most command;
  settles = SettlesCommand command;
  makes = λ before after answer. answer.reply ≡ reply_in command before false;
}
