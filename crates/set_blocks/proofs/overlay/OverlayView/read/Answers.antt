use Rattle.set_blocks.proofs.Terms.{[], take, arith, sym, ◌∙◌, length-take, refl, get_or-take, words-written_same, words-written_other, length-written}
use Rattle.set_blocks.proofs.overlay.OverlayView.read.Goals as goal

pub returns-in-Some-clause-words : goal.returns-in-Some-clause-words
returns-in-Some-clause-words g c =
    let o = c.args.self.now in
    let found = c.in-Some.ensures.found in
    let there = words-written_same (g.V.View.state o.view) (take o.count o.writes) c.in-Some.i c.args.object (0, []) o.distinct found.0 found.1
    (omega (arith, c.requires, length-written (g.V.View.state o.view) (take o.count o.writes))) in
    sym (there ∙ rw (get_or-take o.count o.writes c.in-Some.i (0, []) (omega (arith, found.0, length-take o.count o.writes))) refl)

pub read-requires : goal.read-requires
read-requires g c =
    let o = c.args.self.now in omega (arith, c.requires, length-written (g.V.View.state o.view) (take o.count o.writes))

pub returns-in-None : goal.returns-in-None
returns-in-None g c =
    let o = c.args.self.now in
    record {
      words = c.read.ensures.words ∙ sym (words-written_other (g.V.View.state o.view) (take o.count o.writes) c.args.object c.in-None.ensures.none);
      as_before = (c.read.ensures.as_before, refl);
    }
