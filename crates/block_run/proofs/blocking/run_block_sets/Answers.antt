use Rattle.std.proofs.Common.{ap, length, map, sym}
use Rattle.std.proofs.lemmas.List.{length-map}
use Rattle.std.proofs.lemmas.List.Sorted.{IsPermutation-refl}
use Rattle.block_domain.specs.Whole.{BlocksRunOf}
use Rattle.script_workers.specs.Workers.{blocks_of}
use Rattle.run_kinds.specs.Kinds.{config_of}
use Rattle.run_kinds.proofs.Along.{left_along}
use Rattle.run_kinds.proofs.Opened.{back_meets}
use Rattle.run_kinds.proofs.domain_loan_lemmas.Opened.{opened_new}
use Rattle.script_files.proofs.set_blocks_lemmas.Remaining.{lawful_after}
use Rattle.script_files.specs.set_blocks.BlockRules.{IsBlockCommit}
use Rattle.block_run.specs.BlockRuns.{block_chain_of}
use Rattle.block_run.proofs.blocking.run_block_sets.Goals as goal

pub run_block_domain-requires-clause-new : goal.run_block_domain-requires-clause-new
run_block_domain-requires-clause-new g c κs within = opened_new c.in_ok-domain.domain _ _ c.in_ok-domain.seats.items c.in_ok-domain.ensures

pub ran_or_met-requires : goal.ran_or_met-requires
ran_or_met-requires g c = record {
  all = back_meets c.in_ok-domain.domain c.in_ok-domain.seats.items _ _ c.in_ok-domain.ensures c.run_block_domain.result (λ e. e.0) (λ e. e.1.items)
      c.run_block_domain.ensures.err;
}

pub read_all-requires : goal.read_all-requires
read_all-requires g c =
    let run = rw c.in_ok-closing.ensures at c.run_block_domain.ensures.ran in
    record { lawful = lawful_after c.in_ok-closing.closing.last.start c.in_ok-closing.closing.last.history run.opening run.allowed }

pub returns : goal.returns
returns g c =
    let run = rw c.in_ok-closing.ensures at c.run_block_domain.ensures.ran in
    let linked = rw c.in_ok-closing.ensures at c.run_block_domain.ensures.linked in
    let many = sym (length-map c.args.scripts.now blocks_of) in
    let scripts = map blocks_of c.args.scripts.now in
    let lines = c.in_ok-closing.lines.items in
    left_along c.in_ok-domain.domain c.in_ok-domain.seats.items _ (config_of c.args.options 64 (length scripts)) c.in_ok-domain.ensures
    (ap (config_of c.args.options 64) many) IsBlockCommit (block_chain_of scripts) (λ past. BlocksRunOf past scripts) lines lines c.in_ok-end.end
    c.in_ok-closing.closing.last c.read_all.new.view (IsPermutation-refl lines) c.read_all.ensures.as_before linked
    (rw c.in_ok-end.ensures.catalogue run)
