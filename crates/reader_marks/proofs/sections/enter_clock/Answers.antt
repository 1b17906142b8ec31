use Rattle.std.proofs.Common.{◌+◌, length, sym, ap, ◌∙◌, arith}
use Rattle.commit_clock.specs.mv_core.declared.view.Knowledge.{Knowledge}
use Rattle.commit_clock.specs.mv_core.Passes.{view, config_of}
use Rattle.reader_marks.proofs.EnterHears.{time_seen, hears_entered}
use Rattle.reader_marks.proofs.Entered.{begins, last_found}
use Rattle.reader_marks.proofs.sections.enter_clock.Goals as goal

pub returns-clause-begins : goal.returns-clause-begins
returns-clause-begins g c =
    let low = c.enter_low-low.ensures.view in
    let t = c.enter_time-word.ensures in
    let help = c.help_clock-last.ensures in
    begins (config_of c.args.shared.now) (view c.args.pass.now) _ _ (view c.enter_time-word.new.pass) _ low.0 _ _ _ t.view.0 c.help_clock-last.result
    low.2 low.1 c.enter_mark.ensures.view t.view.1 t.view.2 t.nothing help.helps help.clock (λ e. (help.none e).0) c.clock_time.ensures

pub returns-clause-hears : goal.returns-clause-hears
returns-clause-hears g c =
    let d = config_of c.args.shared.now in
    let low = c.enter_low-low.ensures.view in
    let t = c.enter_time-word.ensures in
    let help = c.help_clock-last.ensures in
    let word = c.enter_time-word.result in
    let last = last_found d (view c.enter_time-word.new.pass) (view c.help_clock-last.new.pass) word c.help_clock-last.result
    (t.view.1.1 ∙ ap (λ (u : Knowledge). d.base + length u.past.seen) (sym t.view.2)) help.clock c.unwrap_or.result c.unwrap_or.ensures in
    hears_entered d (view c.args.pass.now) (view c.enter_low-low.new.pass) (view c.enter_mark.new.pass) (view c.enter_time-word.new.pass)
    (view c.help_clock-last.new.pass) low.0 _ word c.unwrap_or.result c.clock_time-2.result t.view.0 c.help_clock-last.result low.2
    c.enter_mark.ensures.view t.view.2 help.hears c.unwrap_or.ensures c.clock_time-2.ensures
    (time_seen d (view c.args.pass.now) (view c.help_clock-last.new.pass) c.clock_time.result word c.clock_time-2.result (returns-clause-begins g c)
    c.clock_time.ensures (c.clock_time-2.ensures ∙ last))

pub returns-clause-last : goal.returns-clause-last
returns-clause-last g c =
    let d = config_of c.args.shared.now in
    let t = c.enter_time-word.ensures in
    c.clock_time-2.ensures
    ∙ last_found d (view c.enter_time-word.new.pass) (view c.help_clock-last.new.pass) c.enter_time-word.result c.help_clock-last.result
    (t.view.1.1 ∙ ap (λ (u : Knowledge). d.base + length u.past.seen) (sym t.view.2)) c.help_clock-last.ensures.clock c.unwrap_or.result c.unwrap_or.ensures

pub help_clock-last-requires-clause-loaded : goal.help_clock-last-requires-clause-loaded
help_clock-last-requires-clause-loaded g c = c.enter_time-word.ensures.loaded

pub returns-clause-cost : goal.returns-clause-cost
returns-clause-cost g c =
    let low = c.enter_low-low.ensures.step in
    let mark = c.enter_mark.ensures.step in
    let time = c.enter_time-word.ensures.step in
    let help = c.help_clock-last.ensures.cost in
    omega (arith, low, mark, time, help)
