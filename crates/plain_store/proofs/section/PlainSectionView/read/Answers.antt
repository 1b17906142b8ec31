use Rattle.std.proofs.Common.{◌<◌, [], length, take, arith, sym, ◌∙◌, length-take, refl}
use Rattle.std.proofs.lemmas.List.{get_or-take, get_or_read}
use Rattle.mv_history.proofs.Writing.{words-written_same, words-written_other, length-written}
use Rattle.plain_store.proofs.section.PlainSectionView.read.Goals as goal

pub returns-in-Some-clause-words : goal.returns-in-Some-clause-words
returns-in-Some-clause-words g c =
    let s = c.args.self.now in
    let found = c.in-Some.ensures.found in
    let there = words-written_same s.store.words.items (take s.held s.own) c.in-Some.i c.args.object (0, []) s.lawful.distinct found.0 found.1
    (omega (arith, c.requires, length-written s.store.words.items (take s.held s.own))) in
    sym (there ∙ rw (get_or-take s.held s.own c.in-Some.i (0, []) (omega (arith, found.0, length-take s.held s.own))) refl)

pub returns-in-None-clause-words : goal.returns-in-None-clause-words
returns-in-None-clause-words g c =
    let s = c.args.self.now in
    let there : c.args.object < length s.store.words.items = omega (arith, c.requires, length-written s.store.words.items (take s.held s.own)) in
    get_or_read s.store.words.items c.args.object c.index.result.now there c.index.ensures []
    ∙ sym (words-written_other s.store.words.items (take s.held s.own) c.args.object c.in-None.ensures.none)
