use Rattle.block_parser.proofs.PlainScripts.{plain_script}
use Rattle.block_parser.proofs.laws.plain_scripts_are_blocks_of_one.Goals as goal

pub returns : goal.returns
returns c = plain_script
