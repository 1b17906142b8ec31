use Rattle.std.proofs.Common.{refl, ◌∙◌, arith}
use Rattle.reader_marks.specs.mv_core.Passes.{view, config_of}
use Rattle.seat_log.proofs.MayBuild.{no_words, is_more}
use Rattle.seat_log.proofs.OwnSlots.{own_still}
use Rattle.seat_log.proofs.building.store_words.Goals as goal

pub loop-word-init : goal.loop-word-init
loop-word-init g c = ((refl, refl, refl, refl, refl, refl), no_words _ _ _ _, c.requires.may, c.requires.slot, omega arith)

pub loop-word-preserved : goal.loop-word-preserved
loop-word-preserved g c =
    let a = c.loop-word.invariant.0 in
    let b = c.store_next.ensures.same in
    let was = c.loop-word.invariant.4 in
    let step = c.store_next.ensures.step in (
      (b.0 ∙ a.0, b.1 ∙ a.1, b.2 ∙ a.2, b.3 ∙ a.3, b.4 ∙ a.4, b.5 ∙ a.5),
      is_more (config_of c.args.shared.now) (view c.args.pass.now) (view c.loop-word.pass) (view c.store_next.new.pass) c.args.position c.loop-word.word
          c.args.words.now c.loop-word.invariant.1 c.store_next.ensures.view,
      c.store_next.ensures.may,
      own_still (config_of c.args.shared.now) c.args.position c.args.slot c.loop-word.pass c.store_next.new.pass b c.loop-word.invariant.3,
      omega arith,
    )
