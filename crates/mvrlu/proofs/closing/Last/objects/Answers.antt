use Rattle.std.proofs.Common.{[], length, sym, ap, ◌∙◌}
use Rattle.mv_history.proofs.Writing.{length-state_after}
use Rattle.mv_layout.specs.declared.Config.{Config}
use Rattle.mvrlu.specs.Whole.{Whole, last_state, whole_from}
use Rattle.object_lock.specs.mv_core.Passes.{view, config_of}
use Rattle.mvrlu.proofs.closing.Last.objects.Goals as goal

pub returns : goal.returns
returns g c =
    let s = c.self.inside.shared in
    let v = view c.self.inside.pass in
    ap (λ (d : Config). d.objects) (c.config.ensures ∙ s.about) ∙ sym s.opening ∙ ap length (sym c.self.invariant.of.3)
    ∙ sym (length-state_after v.start (whole_from (config_of s) [] v).history) ∙ ap (λ (x : Whole). length (last_state x)) c.self.view_is
