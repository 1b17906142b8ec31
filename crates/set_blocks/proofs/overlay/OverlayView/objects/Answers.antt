use Rattle.set_blocks.proofs.Terms.{take, sym, ◌∙◌, length-written}
use Rattle.set_blocks.proofs.overlay.OverlayView.objects.Goals as goal

pub returns : goal.returns
returns g c = let o = c.args.self.now in c.objects.ensures ∙ sym (length-written (g.V.View.state o.view) (take o.count o.writes))
