use Rattle.set_blocks.proofs.Terms.{take, arith, sym, ap, ◌∙◌, subst, Writes, AreWrites, are_distinct, written_there, written_last}
use Rattle.set_blocks.proofs.Overlaying.{distinct-merged_one, words-merged_one}
use Rattle.set_blocks.proofs.overlay.Overlay.write_one.Goals as goal

pub returns-in-Some-clause-writes : goal.returns-in-Some-clause-writes
returns-in-Some-clause-writes g c =
    let o = c.args.self.now in
    let found = c.in-Some.ensures.found in
    (written_there o.writes o.count c.in-Some.place c.args.object c.args.words (omega arith) found.0 found.1 found.2).0

pub invariant_of-self-clause-distinct : goal.invariant_of-self-clause-distinct
invariant_of-self-clause-distinct g c =
    let o = c.args.self.now in
    let found = c.in-Some.ensures.found in
    let w = written_there o.writes o.count c.in-Some.place c.args.object c.args.words (omega arith) found.0 found.1 found.2 in
    ap are_distinct w.0 ∙ distinct-merged_one (take o.count o.writes) c.args.object c.args.words o.distinct

pub invariant_of-self-clause-words : goal.invariant_of-self-clause-words
invariant_of-self-clause-words g c =
    let o = c.args.self.now in
    let found = c.in-Some.ensures.found in
    let w = written_there o.writes o.count c.in-Some.place c.args.object c.args.words (omega arith) found.0 found.1 found.2 in
    subst (λ (ws : Writes). AreWrites ws) (sym w.0) (words-merged_one (take o.count o.writes) c.args.object c.args.words o.words c.has_width.ensures)

pub invariant_of-self-in-None-clause-distinct : goal.invariant_of-self-in-None-clause-distinct
invariant_of-self-in-None-clause-distinct g c =
    let o = c.args.self.now in
    let w = written_last o.writes o.count c.args.object c.args.words (omega arith) c.in-None.ensures.none in
    ap are_distinct w ∙ distinct-merged_one (take o.count o.writes) c.args.object c.args.words o.distinct

pub invariant_of-self-in-None-clause-words : goal.invariant_of-self-in-None-clause-words
invariant_of-self-in-None-clause-words g c =
    let o = c.args.self.now in
    let w = written_last o.writes o.count c.args.object c.args.words (omega arith) c.in-None.ensures.none in
    subst (λ (ws : Writes). AreWrites ws) (sym w) (words-merged_one (take o.count o.writes) c.args.object c.args.words o.words c.has_width.ensures)

pub returns-in-None-clause-writes : goal.returns-in-None-clause-writes
returns-in-None-clause-writes g c =
    let o = c.args.self.now in written_last o.writes o.count c.args.object c.args.words (omega arith) c.in-None.ensures.none
