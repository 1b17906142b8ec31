use Rattle.std.proofs.Common.{None, refl, arith}
use Rattle.mv_layout.proofs.InCells.{in_cells}
use Rattle.replay_text.specs.replay_rules.States.{state_of}
use Rattle.replay_text.proofs.replay_rules_lemmas.Machines.{shows_next, made_next, found_is, word_is}
use Rattle.step_replay.proofs.machine.Machine.load.Goals as goal

pub index-requires : goal.index-requires
index-requires c =
    let here = c.args.self.now in
    let within = in_cells here.config c.args.place here.checked c.requires in
    let is = c.place_cell.ensures in
    let wide = here.sized in
    let long = here.words.ok.0 in
    omega (arith, within, is, wide, long)

pub returns-clause-makes : goal.returns-clause-makes
returns-clause-makes c = λ turn behind next.
    let here = c.args.self.now in
    let memory = (state_of here.config turn.before).memory in
    let found = found_is here.config here.checked here.words.items memory c.args.place c.place_cell.result c.index.result.now
    behind.shows next.range c.place_cell.ensures c.index.ensures in (
      record {
        each = made_next here.config here.checked here.words.items turn.before turn.step c.args.place
            (λ found. None) behind.shows next.place_is next.range next.writes_are None refl behind.each next.seat next.may tt;
        shows = shows_next here.config here.checked here.words.items turn.before turn.step c.args.place
            (λ found. None) behind.shows next.place_is next.range next.writes_are None refl;
      },
      found,
    )

pub returns-clause-word : goal.returns-clause-word
returns-clause-word c =
    let here = c.args.self.now in
    word_is here.config here.checked here.words.items c.args.place c.place_cell.result c.index.result.now here.sized c.requires c.place_cell.ensures
    c.index.ensures
