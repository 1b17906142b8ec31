use Rattle.std.proofs.Common.{arith}
use Rattle.generated_runs.specs.OneAfterAnother.{scripts_of}
use Rattle.generated_runs.proofs.told.Roomy.{none_full}
use Rattle.generated_runs.proofs.told.Whole.{counts_as, summary_as, scripts_generated}
use Rattle.generated_runs.proofs.laws.a_run_counts_as_one_after_another.Goals as goal

pub returns : goal.returns
returns c = record {
  counts = counts_as;
  text = summary_as;
  full = none_full;
  generated = scripts_generated;
  work = λ number lines base end legal none.
      summary_as (scripts_of number) lines base 16204 end (scripts_generated number) (omega arith) legal none number;
}
