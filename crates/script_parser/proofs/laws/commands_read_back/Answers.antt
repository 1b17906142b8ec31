use Rattle.script_parser.proofs.Texts.{commands_back, headed_commands_back}
use Rattle.script_parser.proofs.laws.commands_read_back.Goals as goal

pub returns : goal.returns
returns c = record { plain = commands_back; headed = headed_commands_back }
