use Rattle.std.proofs.Common.{◌∙◌, ◌-◌, length, take, drop, map, string_bytes, refl}
use Rattle.run_words.proofs.Asked.{by_first, of_no_verb, says}
use Rattle.run_words.proofs.reading.read_words.Goals as goal

pub returns-in-run-clause-asked : goal.returns-in-run-clause-asked
returns-in-run-clause-asked c =
    let first = by_first c.args.words.now c.first-item.result _ _ c.in-len1-up.len_at_least c.first-item.is c.as_str.ensures.value c.in-run.is in
    says c.read_run.result _ _ first c.read_run.ensures.asked

pub returns-in-gen-clause-asked : goal.returns-in-gen-clause-asked
returns-in-gen-clause-asked c =
    let first = by_first c.args.words.now c.first-item.result _ _ c.in-len1-up.len_at_least c.first-item.is c.as_str.ensures.value c.in-gen.is in
    says c.read_gen.result _ _ first c.read_gen.ensures.asked

pub returns-in-work-clause-asked : goal.returns-in-work-clause-asked
returns-in-work-clause-asked c =
    let first = by_first c.args.words.now c.first-item.result _ _ c.in-len1-up.len_at_least c.first-item.is c.as_str.ensures.value c.in-work.is in
    says c.read_work.result _ _ first c.read_work.ensures.asked

pub returns-in-block-clause-asked : goal.returns-in-block-clause-asked
returns-in-block-clause-asked c =
    let first = by_first c.args.words.now c.first-item.result _ _ c.in-len1-up.len_at_least c.first-item.is c.as_str.ensures.value c.in-block.is in
    says c.read_block.result _ _ first c.read_block.ensures.asked

pub returns-in-pool-clause-asked : goal.returns-in-pool-clause-asked
returns-in-pool-clause-asked c =
    let first = by_first c.args.words.now c.first-item.result _ _ c.in-len1-up.len_at_least c.first-item.is c.as_str.ensures.value c.in-pool.is in
    says c.read_pool.result _ _ first c.read_pool.ensures.asked

pub returns-in-grow-clause-asked : goal.returns-in-grow-clause-asked
returns-in-grow-clause-asked c =
    let first = by_first c.args.words.now c.first-item.result _ _ c.in-len1-up.len_at_least c.first-item.is c.as_str.ensures.value c.in-grow.is in
    says c.read_grow.result _ _ first c.read_grow.ensures.asked

pub returns-in-replay-clause-asked : goal.returns-in-replay-clause-asked
returns-in-replay-clause-asked c =
    let first = by_first c.args.words.now c.first-item.result _ _ c.in-len1-up.len_at_least c.first-item.is c.as_str.ensures.value c.in-replay.is in
    says c.read_replay.result _ _ first c.read_replay.ensures.asked

pub returns-in_default-as_str-clause-asked : goal.returns-in_default-as_str-clause-asked
returns-in_default-as_str-clause-asked c =
    let other = c.in_default-as_str in
    let words = c.args.words.now in
    let rest = map string_bytes (take (length words - 1) (drop 1 words)) in
    by_first words c.first-item.result _ _ c.in-len1-up.len_at_least c.first-item.is c.as_str.ensures.value refl
    ∙ of_no_verb c.as_str.result.now rest other.not-run other.not-gen other.not-work other.not-block other.not-pool other.not-grow other.not-replay
