use Rattle.std.proofs.Common.{length, map}
use Rattle.block_domain.specs.Whole.{BlocksRunOf}
use Rattle.block_domain.proofs.OneRun.{run_permuted}
use Rattle.script_workers.specs.Workers.{blocks_of}
use Rattle.run_kinds.specs.Kinds.{config_of, usual_options}
use Rattle.run_kinds.proofs.InOrder.{text_in_order}
use Rattle.script_files.specs.set_blocks.BlockRules.{IsBlockCommit}
use Rattle.block_run.specs.BlockRuns.{block_chain_of}
use Rattle.block_run.proofs.blocking.make_blocks.Goals as goal

pub returns-clause-made : goal.returns-clause-made
returns-clause-made g c =
    let scripts = map blocks_of c.in_ok-scripts.scripts.items in
    let told = c.in_ok-told.told in
    let left = rw c.deref.ensures.value at c.in_ok-told.ensures in
    record {
      read = scripts;
      files = c.in_ok-scripts.ensures.stop;
      printed = rw c.in_ok-tell.ensures.left (text_in_order IsBlockCommit (block_chain_of scripts) (config_of usual_options 64 (length scripts))
          (λ past. BlocksRunOf past scripts) (λ past. run_permuted past scripts) told.closing told.lines.items told.end _ left c.in_ok-tell.ensures.text);
    }
