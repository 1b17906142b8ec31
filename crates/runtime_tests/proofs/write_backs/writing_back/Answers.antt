use Rattle.std.proofs.Common.{◌+◌, sym, ap, ◌∙◌, subst}
use Rattle.mv_core.specs.Passes.{view, config_of}
use Rattle.seat_log.proofs.OwnSlots.{of_still}
use Rattle.log_reclaim.specs.declared.writing_back.StartedWriteBack.{StartedWriteBack}
use Rattle.runtime_tests.specs.Clients.{IsUnderWay}
use Rattle.runtime_tests.proofs.Reclaimed.{back_stored}
use Rattle.runtime_tests.proofs.Stages.{at_writing_back, still_writing_back}
use Rattle.runtime_tests.proofs.write_backs.writing_back.Goals as goal

pub returns-in-BackWord : goal.returns-in-BackWord
returns-in-BackWord g c =
    let v = view c.args.client.now.pass in
    let u = subst (IsUnderWay (config_of c.args.shared.now) v) (sym c.replace-under_way.ensures.value ∙ c.in-WriteBack.is) c.requires.ready.1 in
    let k = at_writing_back c.args.shared.now c.args.client.now c.requires.ready.0 c.in-WritingBack.is in
    let e = c.back_word.ensures in
    let is = e.stores.back in
    record {
      ready = (
        (
          of_still c.args.shared.now c.args.client.now.pass c.back_word.new.pass e.same c.requires.ready.0.0,
          still_writing_back _ _ _ _ c.in-WritingBack.is (back_stored _ _ _ _ _ _ k e.writing e.stores),
        ),
        (e.writing, ap (λ (b : StartedWriteBack). b.stored) is ∙ ap (λ n. n + 1) u.1),
      );
    }
