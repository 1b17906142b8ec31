use Rattle.script_files.proofs.FewBlocks.{few_parsed}
use Rattle.script_files.proofs.block_scripts.parse.Goals as goal

pub returns-clause-few : goal.returns-clause-few
returns-clause-few c = few_parsed c.args.bytes.now c.parse_blocks.result c.parse_blocks.ensures
