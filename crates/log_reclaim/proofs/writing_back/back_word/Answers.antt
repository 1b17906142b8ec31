use Rattle.std.proofs.Common.{rules, refl}
use Rattle.seat_log.specs.mv_core.Passes.{view, config_of}
use Rattle.log_reclaim.proofs.looks.WritingWords.{may_store, stores_word, writing_on}
use Rattle.log_reclaim.proofs.writing_back.back_word.Goals as goal

pub returns-clause-writing : goal.returns-clause-writing
returns-clause-writing g c =
    writing_on (config_of c.args.shared.now) (view c.args.pass.now) c.args.back.now c.requires.writing (view c.store_master.new.pass) _ _ refl c.requires.left
    c.store_master.ensures.view refl

pub store_master-requires : goal.store_master-requires
store_master-requires g c κs within = (
  search rules,
  (
    search rules,
    (
      search rules,
      (
        c.requires.writing.in_range,
        may_store (config_of c.args.shared.now) (view c.args.pass.now) c.args.back.now c.requires.writing _ refl
            c.requires.left,
      ),
    ),
  ),
)

pub returns-clause-stores : goal.returns-clause-stores
returns-clause-stores g c =
    stores_word (config_of c.args.shared.now) (view c.args.pass.now) c.args.back.now c.requires.writing (view c.store_master.new.pass) _ _ refl
    c.requires.left c.store_master.ensures.view refl

pub returns-clause-same : goal.returns-clause-same
returns-clause-same g c = c.store_master.ensures.same

pub returns-clause-step : goal.returns-clause-step
returns-clause-step g c = c.store_master.ensures.step
