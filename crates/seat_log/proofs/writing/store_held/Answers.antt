use Rattle.std.proofs.Common.{◌≡◌, ℕ, refl, ◌∙◌, subst, arith}
use Rattle.reader_marks.specs.mv_core.Passes.{view, config_of}
use Rattle.seat_log.specs.Stands.{Stands}
use Rattle.seat_log.specs.Notes.{some_noted}
use Rattle.seat_log.proofs.AllWords.{none_noted, none_put, one_put, held_so, open_so, one_noted}
use Rattle.seat_log.proofs.HeldWords.{may_word}
use Rattle.seat_log.proofs.OwnSlots.{own_still, of_still}
use Rattle.seat_log.proofs.writing.store_held.Goals as goal

pub loop-word-init : goal.loop-word-init
loop-word-init g c = (
  (refl, refl, refl, refl, refl, refl),
  none_put _ _ _ _,
  none_noted _ _ _ c.args.position c.args.words.now c.requires.stands,
  c.own_slot-slot.ensures,
  omega arith,
)

pub store_data-requires : goal.store_data-requires
store_data-requires g c =
    let config = config_of c.args.shared.now in
    let v = view c.args.pass.now in
    let w = view c.loop-word.pass in
    let i = c.loop-word.invariant in
    λ lives in_lives. (
      in_lives.0,
      (
        in_lives.1,
        (
          of_still c.args.shared.now c.args.pass.now c.loop-word.pass i.0 c.requires.of,
          (
            i.3,
            may_word config w (some_noted c.args.log.now c.args.position c.args.words.now c.loop-word.word) c.args.position c.loop-word.word 0 i.2
                (held_so config v w c.args.log.now c.args.position c.loop-word.word c.args.words.now c.requires.held i.2)
                (open_so config v w c.args.log.now c.args.position c.loop-word.word c.args.words.now c.requires.held i.2 c.requires.open i.1)
                (omega arith),
          ),
        ),
      ),
    )

pub loop-word-preserved : goal.loop-word-preserved
loop-word-preserved g c =
    let config = config_of c.args.shared.now in
    let v = view c.args.pass.now in
    let w = view c.loop-word.pass in
    let i = c.loop-word.invariant in
    let a = i.0 in
    let b = c.store_data.ensures.same in
    let was = i.4 in
    let step = c.store_data.ensures.step in (
      (b.0 ∙ a.0, b.1 ∙ a.1, b.2 ∙ a.2, b.3 ∙ a.3, b.4 ∙ a.4, b.5 ∙ a.5),
      one_put config v w (view c.store_data.new.pass) c.args.position c.loop-word.word c.args.words.now i.1 c.store_data.ensures.view,
      one_noted config v w c.args.log.now c.args.position c.loop-word.word c.args.words.now c.requires.held i.2 (view c.store_data.new.pass)
          c.store_data.ensures.view,
      own_still config c.args.position c.own_slot-slot.result c.loop-word.pass c.store_data.new.pass b i.3,
      omega arith,
    )

pub returns-clause-stands : goal.returns-clause-stands
returns-clause-stands g c =
    let le = c.loop-word.auto.word-end in
    let ge = c.loop-word-test.false in
    let end : c.loop-word.word ≡ 6 = omega arith in
    subst (λ (n : ℕ). Stands (config_of c.args.shared.now) (view c.loop-word.pass) (some_noted c.args.log.now c.args.position c.args.words.now n)) end
    c.loop-word.invariant.2
