use Rattle.std.proofs.Common.{◌∷◌, Some, set, refl, sym, ap, subst, arith}
use Rattle.mv_layout.proofs.InCells.{in_cells}
use Rattle.mv_layout.specs.Cells.{Shows}
use Rattle.replay_text.specs.replay_rules.States.{state_of}
use Rattle.replay_text.proofs.replay_rules_lemmas.Machines.{shows_next, made_next, found_is, word_is}
use Rattle.step_replay.proofs.machine.Machine.store.Goals as goal

pub index-found-requires : goal.index-found-requires
index-found-requires c =
    let here = c.args.self.now in
    let within = in_cells here.config c.args.place here.checked c.requires in
    let is = c.place_cell-index.ensures in
    let wide = here.sized in
    let long = here.words.ok.0 in
    omega (arith, within, is, wide, long)

pub index_mut-requires : goal.index_mut-requires
index_mut-requires c =
    let here = c.args.self.now in
    let within = in_cells here.config c.args.place here.checked c.requires in
    let is = c.place_cell-index.ensures in
    let wide = here.sized in
    let long = here.words.ok.0 in
    omega (arith, within, is, wide, long)

pub returns-clause-makes : goal.returns-clause-makes
returns-clause-makes c = λ turn behind next.
    let here = c.args.self.now in
    let memory = (state_of here.config turn.before).memory in
    let found = found_is here.config here.checked here.words.items memory c.args.place c.place_cell-index.result c.index-found.result.now
    behind.shows next.range c.place_cell-index.ensures c.index-found.ensures in (
      record {
        each = made_next here.config here.checked here.words.items turn.before turn.step c.args.place
            (λ found. Some c.args.new) behind.shows next.place_is next.range next.writes_are (Some c.args.new) refl
            behind.each next.seat next.may (omega (arith, c.ranges.new.fits));
        shows = subst (λ i. Shows here.config (set here.words.items i c.args.new) (state_of here.config (turn.step ∷ turn.before)).memory)
            (sym c.place_cell-index.ensures)
            (shows_next here.config here.checked here.words.items turn.before turn.step c.args.place
            (λ found. Some c.args.new) behind.shows next.place_is next.range next.writes_are (Some c.args.new) refl);
      },
      found,
    )

pub returns-clause-word : goal.returns-clause-word
returns-clause-word c =
    let here = c.args.self.now in
    word_is here.config here.checked here.words.items c.args.place c.place_cell-index.result c.index-found.result.now here.sized c.requires
    c.place_cell-index.ensures c.index-found.ensures

pub returns-clause-words : goal.returns-clause-words
returns-clause-words c = ap (λ i. set c.args.self.now.words.items i c.args.new) c.place_cell-index.ensures
