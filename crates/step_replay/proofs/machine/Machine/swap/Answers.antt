use Rattle.std.proofs.Common.{◌≡◌, ◌∷◌, Some, None, set, sym, ap, ◌∙◌, subst, eq-eqb, ne_eqb, if◌then◌else◌, arith}
use Rattle.mv_layout.proofs.InCells.{in_cells}
use Rattle.mv_layout.specs.Cells.{Shows}
use Rattle.mv_core.specs.EnterSteps.{stored_if}
use Rattle.replay_text.specs.replay_rules.States.{state_of}
use Rattle.replay_text.specs.replay_rules.Words.{words_with}
use Rattle.replay_text.proofs.replay_rules_lemmas.Machines.{shows_next, made_next, found_is, word_is}
use Rattle.step_replay.proofs.machine.Machine.swap.Goals as goal

pub index-found-requires : goal.index-found-requires
index-found-requires c =
    let here = c.args.self.now in
    let within = in_cells here.config c.args.place here.checked c.requires in
    let is = c.place_cell-index.ensures in
    let wide = here.sized in
    let long = here.words.ok.0 in
    omega (arith, within, is, wide, long)

pub index_mut-requires : goal.index_mut-requires
index_mut-requires c =
    let here = c.args.self.now in
    let within = in_cells here.config c.args.place here.checked c.requires in
    let is = c.place_cell-index.ensures in
    let wide = here.sized in
    let long = here.words.ok.0 in
    omega (arith, within, is, wide, long)

pub returns-then-found-old-clause-makes : goal.returns-then-found-old-clause-makes
returns-then-found-old-clause-makes c = λ turn behind next.
    let here = c.args.self.now in
    let memory = (state_of here.config turn.before).memory in
    let found = found_is here.config here.checked here.words.items memory c.args.place c.place_cell-index.result c.index-found.result.now
    behind.shows next.range c.place_cell-index.ensures c.index-found.ensures in
    let won : stored_if (memory c.args.place) c.args.old c.args.new ≡ Some c.args.new =
    ap (λ b. if b then Some c.args.new else None) (eq-eqb (memory c.args.place) c.args.old (sym found ∙ c.if-found-old.true)) in (
      record {
        each = made_next here.config here.checked here.words.items turn.before turn.step c.args.place
            (λ found. stored_if found c.args.old c.args.new) behind.shows next.place_is next.range next.writes_are (Some c.args.new) won
            behind.each next.seat next.may (omega (arith, c.ranges.new.fits));
        shows = subst (λ i. Shows here.config (set here.words.items i c.args.new) (state_of here.config (turn.step ∷ turn.before)).memory)
            (sym c.place_cell-index.ensures)
            (shows_next here.config here.checked here.words.items turn.before turn.step c.args.place
            (λ found. stored_if found c.args.old c.args.new) behind.shows next.place_is next.range next.writes_are (Some c.args.new) won);
      },
      found,
    )

pub returns-else-found-old-clause-makes : goal.returns-else-found-old-clause-makes
returns-else-found-old-clause-makes c = λ turn behind next.
    let here = c.args.self.now in
    let memory = (state_of here.config turn.before).memory in
    let found = found_is here.config here.checked here.words.items memory c.args.place c.place_cell-index.result c.index-found.result.now
    behind.shows next.range c.place_cell-index.ensures c.index-found.ensures in
    let lost : stored_if (memory c.args.place) c.args.old c.args.new ≡ None =
    ap (λ b. if b then Some c.args.new else None) (ne_eqb (memory c.args.place) c.args.old (λ e. c.if-found-old.false (found ∙ e))) in (
      record {
        each = made_next here.config here.checked here.words.items turn.before turn.step c.args.place
            (λ found. stored_if found c.args.old c.args.new) behind.shows next.place_is next.range next.writes_are None lost
            behind.each next.seat next.may tt;
        shows = shows_next here.config here.checked here.words.items turn.before turn.step c.args.place
            (λ found. stored_if found c.args.old c.args.new) behind.shows next.place_is next.range next.writes_are None lost;
      },
      found,
    )

pub returns-then-found-old-clause-word : goal.returns-then-found-old-clause-word
returns-then-found-old-clause-word c =
    let here = c.args.self.now in
    word_is here.config here.checked here.words.items c.args.place c.place_cell-index.result c.index-found.result.now here.sized c.requires
    c.place_cell-index.ensures c.index-found.ensures

pub returns-else-found-old-clause-word : goal.returns-else-found-old-clause-word
returns-else-found-old-clause-word c =
    let here = c.args.self.now in
    word_is here.config here.checked here.words.items c.args.place c.place_cell-index.result c.index-found.result.now here.sized c.requires
    c.place_cell-index.ensures c.index-found.ensures

pub returns-then-found-old-clause-words : goal.returns-then-found-old-clause-words
returns-then-found-old-clause-words c =
    let here = c.args.self.now in
    let won : stored_if c.index-found.result.now c.args.old c.args.new ≡ Some c.args.new =
    ap (λ b. if b then Some c.args.new else None) (eq-eqb c.index-found.result.now c.args.old c.if-found-old.true) in
    ap (λ i. set here.words.items i c.args.new) c.place_cell-index.ensures ∙ ap (words_with here.config here.words.items c.args.place) (sym won)

pub returns-else-found-old-clause-words : goal.returns-else-found-old-clause-words
returns-else-found-old-clause-words c =
    let here = c.args.self.now in
    let lost : stored_if c.index-found.result.now c.args.old c.args.new ≡ None =
    ap (λ b. if b then Some c.args.new else None) (ne_eqb c.index-found.result.now c.args.old (λ e. c.if-found-old.false e)) in
    ap (words_with here.config here.words.items c.args.place) (sym lost)
