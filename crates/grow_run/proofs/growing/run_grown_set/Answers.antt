use Rattle.std.proofs.Common.{◌≡◌, ◌∙◌, ap, length, map, subst, sym, arith}
use Rattle.std.proofs.lemmas.List.{length-map}
use Rattle.grow_hash.specs.Grown.{IsGrown, grown_catalogue}
use Rattle.script_workers.specs.Workers.{items_of}
use Rattle.run_kinds.specs.mvrlu.Whole.{last_state}
use Rattle.grow_run.proofs.GrownBuckets.{few_splits}
use Rattle.run_kinds.specs.mvrlu.WholeLaws.{still_long, still_state}
use Rattle.grow_hash.specs.GrowRules.{IsGrowCommit}
use Rattle.grow_hash.specs.Splits.{count_splits}
use Rattle.grow_report.specs.Whole.{GrowRunOf}
use Rattle.run_kinds.specs.Kinds.{config_of}
use Rattle.grow_run.specs.GrowRuns.{grow_chain_of}
use Rattle.grow_run.specs.declared.growing.GrownEnd.{GrownEnd}
use Rattle.run_kinds.proofs.Along.{left_along}
use Rattle.run_kinds.proofs.domain_loan_lemmas.Opened.{opened_new}
use Rattle.run_kinds.proofs.Opened.{back_meets}
use Rattle.grow_run.proofs.growing.run_grown_set.Goals as goal
use Rattle.grow_hash.specs.Tables.{grow_levels}

pub run_grow_domain-requires-clause-new : goal.run_grow_domain-requires-clause-new
run_grow_domain-requires-clause-new g c κs within = opened_new c.in_ok-domain.domain _ _ c.in_ok-domain.seats.items c.in_ok-domain.ensures

pub ran_or_met-requires : goal.ran_or_met-requires
ran_or_met-requires g c = record {
  all = back_meets c.in_ok-domain.domain c.in_ok-domain.seats.items _ _ c.in_ok-domain.ensures c.run_grow_domain.result (λ e. e.0) (λ e. e.1.items)
      c.run_grow_domain.ensures.err;
}

pub count_splits-splits-requires : goal.count_splits-splits-requires
count_splits-splits-requires g c = let run = rw c.in_ok-closing.ensures at c.run_grow_domain.ensures.ran in record { lawful = run.lawful }

pub read_grown-requires : goal.read_grown-requires
read_grown-requires g c =
    let run = rw c.in_ok-closing.ensures at c.run_grow_domain.ensures.ran in
    record {
      lawful = subst (IsGrown grow_levels) (sym (still_state c.in_ok-closing.closing.last c.count_splits-splits.new.view.last
          c.count_splits-splits.ensures.as_before))
          run.lawful;
    }

pub returns-clause-few : goal.returns-clause-few
returns-clause-few g c =
    let run = rw c.in_ok-closing.ensures at c.run_grow_domain.ensures.ran in
    few_splits (last_state c.in_ok-closing.closing.last) c.count_splits-splits.result run.lawful.table c.count_splits-splits.ensures.splits

pub returns-clause-ran : goal.returns-clause-ran
returns-clause-ran g c =
    let run = rw c.in_ok-closing.ensures at c.run_grow_domain.ensures.ran in
    let linked = rw c.in_ok-closing.ensures at c.run_grow_domain.ensures.linked in
    let counted = c.count_splits-splits.ensures in
    let v = c.in_ok-closing.closing.last in
    let still = still_long v c.count_splits-splits.new.view.last c.read_grown.new.view.last counted.as_before c.read_grown.ensures.as_before in
    let set = c.in_ok-set.ensures.catalogue ∙ ap (grown_catalogue grow_levels) (still_state v c.count_splits-splits.new.view.last counted.as_before) in
    let splits = c.count_splits-splits.result in
    let same : splits ≡ count_splits v.history = omega (arith, counted.splits, run.buckets_are) in
    let many = sym (length-map c.args.scripts.now items_of) in
    let scripts = map items_of c.args.scripts.now in
    let lines = c.order_grown.new.lines.items in
    let ordered = c.order_grown.ensures.whole _ _ _ _ _ run in
    left_along {End = GrownEnd} c.in_ok-domain.domain c.in_ok-domain.seats.items _ (config_of c.args.options 64 (length scripts))
    c.in_ok-domain.ensures (ap (config_of c.args.options 64) many) (IsGrowCommit grow_levels) (grow_chain_of scripts)
    (λ past lines end. GrowRunOf past scripts lines end.set end.splits) c.in_ok-closing.lines.items lines
    (record { set = c.in_ok-set.set; splits = splits }) v c.read_grown.new.view c.order_grown.ensures.permutation still linked
    (rw (set, same) ordered)
