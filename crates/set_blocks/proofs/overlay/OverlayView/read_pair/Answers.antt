use Rattle.std.proofs.Common.{◌+◌, ℕ, List, [], take, arith, get_or, refl, sym, ap, ◌∙◌, length-take, get_or-take}
use Rattle.set_blocks.proofs.Terms.{words-written_same, words-written_other, length-written}
use Rattle.set_blocks.proofs.overlay.OverlayView.read_pair.Goals as goal

pub returns-in-Some-clause-first : goal.returns-in-Some-clause-first
returns-in-Some-clause-first g c =
    let o = c.args.self.now in
    let found = c.in-Some.ensures.found in
    let there = words-written_same (g.V.View.state o.view) (take o.count o.writes) c.in-Some.i c.args.object (0, []) o.distinct found.0 found.1
    (omega (arith, c.requires.object, length-written (g.V.View.state o.view) (take o.count o.writes))) in
    ap (λ (ws : List ℕ). get_or ws c.args.place 0)
    (sym (there ∙ rw (get_or-take o.count o.writes c.in-Some.i (0, []) (omega (arith, found.0, length-take o.count o.writes))) refl))

pub returns-in-Some-clause-second : goal.returns-in-Some-clause-second
returns-in-Some-clause-second g c =
    let o = c.args.self.now in
    let found = c.in-Some.ensures.found in
    let there = words-written_same (g.V.View.state o.view) (take o.count o.writes) c.in-Some.i c.args.object (0, []) o.distinct found.0 found.1
    (omega (arith, c.requires.object, length-written (g.V.View.state o.view) (take o.count o.writes))) in
    ap (λ (ws : List ℕ). get_or ws (c.args.place + 1) 0)
    (sym (there ∙ rw (get_or-take o.count o.writes c.in-Some.i (0, []) (omega (arith, found.0, length-take o.count o.writes))) refl))

pub read_pair-requires-clause-object : goal.read_pair-requires-clause-object
read_pair-requires-clause-object g c =
    let o = c.args.self.now in omega (arith, c.requires.object, length-written (g.V.View.state o.view) (take o.count o.writes))

pub returns-in-None : goal.returns-in-None
returns-in-None g c =
    let o = c.args.self.now in
    let there = words-written_other (g.V.View.state o.view) (take o.count o.writes) c.args.object c.in-None.ensures.none in
    record {
      first = c.read_pair.ensures.first ∙ ap (λ (ws : List ℕ). get_or ws c.args.place 0) (sym there);
      second = c.read_pair.ensures.second ∙ ap (λ (ws : List ℕ). get_or ws (c.args.place + 1) 0) (sym there);
      as_before = (c.read_pair.ensures.as_before, refl);
    }
