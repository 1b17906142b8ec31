use Rattle.std.proofs.Common.{string_bytes, map, subst, ◌∙◌}
use Rattle.script_parser.specs.Grammar.{parsed}
use Rattle.pool_domain.specs.Whole.{PoolOf}
use Rattle.pool_domain.proofs.OnePool.{pool_permuted}
use Rattle.run_kinds.specs.Kinds.{config_of, usual_options}
use Rattle.run_kinds.proofs.InOrder.{text_in_order}
use Rattle.script_files.specs.Scripts.{AllScripts}
use Rattle.script_files.proofs.Many.{only_one}
use Rattle.script_workers.specs.Workers.{items_of}
use Rattle.set_model.specs.Rules.{IsSetCommit}
use Rattle.pool_run.specs.PoolRuns.{pool_chain_of}
use Rattle.pool_run.proofs.pooling.make_pool.Goals as goal

pub returns-clause-made : goal.returns-clause-made
returns-clause-made g c =
    let script = c.index.result.now in
    let only = only_one items_of c.in_ok-scripts.scripts.items script (c.in_ok-scripts.ensures.len ∙ c.requires.one) c.index.ensures in
    let told = c.in_ok-told.told in
    let left = rw c.deref.ensures.value at c.in_ok-told.ensures in
    record {
      read = script.items;
      files = subst (λ ss. AllScripts parsed (g.F.Files.texts c.args.files.now) (map string_bytes c.args.names.now) ss) only c.in_ok-scripts.ensures.stop;
      printed = rw c.in_ok-tell.ensures.left (text_in_order IsSetCommit (pool_chain_of script.items) (config_of usual_options 16 c.args.seats)
          (λ past. PoolOf past c.args.seats script.items) (λ past. pool_permuted past c.args.seats script.items) told.closing told.lines.items told.end _
          left c.in_ok-tell.ensures.text);
    }
