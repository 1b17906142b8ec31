use Rattle.std.proofs.Common.{rules, ◌≡◌, length, sym, ap, ◌∙◌, ◌+◌, ◌<◌, refl, subst}
use Rattle.mv_layout.specs.declared.Config.{Config}
use Rattle.seat_log.specs.mv_core.Passes.{view, config_of}
use Rattle.seat_log.specs.reader_marks.Sections.{section_in}
use Rattle.log_reclaim.proofs.rests.Heard.{heard_looked, heard_left}
use Rattle.log_reclaim.proofs.looks.Starting.{same_note, place_is, link_there, may_look, object_within, open_still, started, not_started, ok_young}
use Rattle.log_reclaim.proofs.looks.Starting.{top_young, some_live, place_from, place_small, seat_small}
use Rattle.seat_log.specs.mv_core.declared.view.Knowledge.{Knowledge}
use Rattle.seat_log.specs.declared.version.Note.{Note}
use Rattle.seat_log.proofs.OwnSlots.{same_none, same_on, of_still}
use Rattle.seat_log.proofs.commit_clock_lemmas.Hearing.{hears_none}
use Rattle.log_reclaim.proofs.Lengths.{none_more, one_longer, entered_longer, looked_bound, left_bound}
use Rattle.log_reclaim.proofs.writing_back.start_clock.Goals as goal

pub load_head-link-requires : goal.load_head-link-requires
load_head-link-requires g c κs within =
    let same = same_note c.args.log.now c.args.position c.note.result c.note-version.result g.at c.requires.1.1.1.1.0.log c.requires.1.1.1.1.1.0
    c.note.ensures c.note-version.ensures in
    let objects : length (view c.args.pass.now).start ≡ (config_of c.args.shared.now).objects =
    ap length c.requires.1.1.0.3 ∙ c.args.shared.now.opening ∙ ap (λ (d : Config). d.objects) (sym c.args.shared.now.about) in
    let begins = c.enter_clock-clock.ensures.begins in (
      search rules,
      (
        search rules,
        (
          search rules,
          (
            object_within (config_of c.args.shared.now) (view c.args.pass.now) (view c.enter_clock-clock.new.pass) c.args.log.now c.args.position
                c.note-version.result g.at c.enter_clock-clock.result.0 c.requires.1.1.1.1.0 c.requires.1.1.1.1.1.0 same begins _ _
                c.args.pass.now.known objects,
            may_look (config_of c.args.shared.now) (view c.args.pass.now) (view c.enter_clock-clock.new.pass) c.args.log.now c.args.position
                c.note-version.result g.at c.enter_clock-clock.result.0 c.requires.1.1.1.1.0 c.requires.1.1.1.1.1.0 same begins,
          ),
        ),
      ),
    )

pub link_word-requires-clause-position : goal.link_word-requires-clause-position
link_word-requires-clause-position g c = (place_is c.args.log.now c.args.position g.at c.requires.1.1.1.1.0.log c.requires.1.1.1.1.1.0).1

pub returns-then-link-link_word-clause-starts : goal.returns-then-link-link_word-clause-starts
returns-then-link-link_word-clause-starts g c =
    let same = same_note c.args.log.now c.args.position c.note.result c.note-version.result g.at c.requires.1.1.1.1.0.log c.requires.1.1.1.1.1.0
    c.note.ensures c.note-version.ensures in
    let objects : length (view c.args.pass.now).start ≡ (config_of c.args.shared.now).objects =
    ap length c.requires.1.1.0.3 ∙ c.args.shared.now.opening ∙ ap (λ (d : Config). d.objects) (sym c.args.shared.now.about) in
    let begins = c.enter_clock-clock.ensures.begins in
    let link = link_there (config_of c.args.shared.now) (view c.args.pass.now) (view c.enter_clock-clock.new.pass) c.args.log.now c.args.position
    c.note-version.result g.at c.enter_clock-clock.result.0 c.requires.1.1.1.1.0 c.requires.1.1.1.1.1.0 same begins (view c.load_head-link.new.pass)
    c.load_head-link.result c.load_head-link.ensures.view c.load_head-link.ensures.link c.load_head-link.ensures.own c.load_head-link.ensures.newer
    c.seat.result c.link_word.result c.seat.ensures c.link_word.ensures.word in
    started (config_of c.args.shared.now) (view c.args.pass.now) (view c.enter_clock-clock.new.pass) c.args.log.now c.args.position c.note-version.result g.at
    c.enter_clock-clock.result.0 c.requires.1.1.1.1.0 c.requires.1.1.1.1.1.0 same begins (view c.load_head-link.new.pass) c.load_head-link.result
    c.load_head-link.ensures.view c.load_head-link.ensures.link c.load_head-link.ensures.own c.load_head-link.ensures.newer
    (c.if-link-link_word.true ∙ link)
    c.args.mark.now c.args.steps.now c.load_head-link.new.steps c.if-version-mark.false c.requires.1.1.1.1.1.1
    (object_within (config_of c.args.shared.now) (view c.args.pass.now) (view c.enter_clock-clock.new.pass) c.args.log.now c.args.position
    c.note-version.result g.at c.enter_clock-clock.result.0 c.requires.1.1.1.1.0 c.requires.1.1.1.1.1.0 same begins _ _ c.args.pass.now.known objects)
    _ _ c.enter_clock-clock.new.pass.known c.requires.1.1.0.2 c.load_head-link.ensures.seen

pub leave-requires-clause-open : goal.leave-requires-clause-open
leave-requires-clause-open g c =
    open_still (config_of c.args.shared.now) (view c.args.pass.now) (view c.enter_clock-clock.new.pass) c.args.log.now c.args.position c.note-version.result
    g.at c.enter_clock-clock.result.0 c.requires.1.1.1.1.0 c.requires.1.1.1.1.1.0
    (same_note c.args.log.now c.args.position c.note.result c.note-version.result g.at c.requires.1.1.1.1.0.log c.requires.1.1.1.1.1.0 c.note.ensures
    c.note-version.ensures) c.enter_clock-clock.ensures.begins (view c.load_head-link.new.pass) c.load_head-link.result c.load_head-link.ensures.view
    c.load_head-link.ensures.link c.load_head-link.ensures.own c.load_head-link.ensures.newer

pub returns-clause-starts : goal.returns-clause-starts
returns-clause-starts g c =
    let same = same_note c.args.log.now c.args.position c.note.result c.note-version.result g.at c.requires.1.1.1.1.0.log c.requires.1.1.1.1.1.0
    c.note.ensures c.note-version.ensures in
    let begins = c.enter_clock-clock.ensures.begins in
    let link = link_there (config_of c.args.shared.now) (view c.args.pass.now) (view c.enter_clock-clock.new.pass) c.args.log.now c.args.position
    c.note-version.result g.at c.enter_clock-clock.result.0 c.requires.1.1.1.1.0 c.requires.1.1.1.1.1.0 same begins (view c.load_head-link.new.pass)
    c.load_head-link.result c.load_head-link.ensures.view c.load_head-link.ensures.link c.load_head-link.ensures.own c.load_head-link.ensures.newer
    c.seat.result c.link_word.result c.seat.ensures c.link_word.ensures.word in
    not_started (config_of c.args.shared.now) (view c.args.pass.now) (view c.enter_clock-clock.new.pass) c.args.log.now c.args.position c.note-version.result
    g.at c.enter_clock-clock.result.0 c.requires.1.1.1.1.0 c.requires.1.1.1.1.1.0 same begins (view c.load_head-link.new.pass) c.load_head-link.result
    c.load_head-link.ensures.view c.load_head-link.ensures.link c.load_head-link.ensures.own c.load_head-link.ensures.newer
    (view c.leave.new.pass) c.leave.ensures.view (λ z. c.if-link-link_word.false (z ∙ sym link)) c.load_head-link.ensures.own_link
    c.load_head-link.ensures.later c.args.mark.now c.args.steps.now c.leave.new.steps c.not_on_top.result c.if-version-mark.false
    c.not_on_top.ensures.gone c.not_on_top.ensures.above

pub returns-then-link-link_word-clause-hears : goal.returns-then-link-link_word-clause-hears
returns-then-link-link_word-clause-hears g c =
    heard_looked (config_of c.args.shared.now) (view c.args.pass.now) (view c.enter_clock-clock.new.pass) (view c.load_head-link.new.pass)
    (section_in (view c.enter_clock-clock.new.pass)) c.note-version.result.object c.load_head-link.result
    c.enter_clock-clock.result.1 c.enter_clock-clock.ensures.hears c.load_head-link.ensures.view

pub returns-clause-hears : goal.returns-clause-hears
returns-clause-hears g c =
    heard_left (config_of c.args.shared.now) (view c.args.pass.now) (view c.load_head-link.new.pass) (view c.leave.new.pass) c.enter_clock-clock.result.1
    (heard_looked (config_of c.args.shared.now) (view c.args.pass.now) (view c.enter_clock-clock.new.pass) (view c.load_head-link.new.pass)
    (section_in (view c.enter_clock-clock.new.pass)) c.note-version.result.object c.load_head-link.result
    c.enter_clock-clock.result.1 c.enter_clock-clock.ensures.hears c.load_head-link.ensures.view) c.leave.ensures.view

pub returns-then-version-mark-clause-same : goal.returns-then-version-mark-clause-same
returns-then-version-mark-clause-same g c = same_none c.args.pass.now

pub returns-then-version-mark-clause-clock : goal.returns-then-version-mark-clause-clock
returns-then-version-mark-clause-clock g c = λ ne. absurd (ne refl)

pub returns-then-version-mark-clause-young : goal.returns-then-version-mark-clause-young
returns-then-version-mark-clause-young g c = λ e. refl

pub returns-then-version-mark-clause-hears : goal.returns-then-version-mark-clause-hears
returns-then-version-mark-clause-hears g c = hears_none (view c.args.pass.now) (view c.args.pass.now) 0 refl

pub returns-then-version-mark-clause-cost : goal.returns-then-version-mark-clause-cost
returns-then-version-mark-clause-cost g c = none_more c.args.steps.now 8

pub returns-then-version-mark-clause-trail : goal.returns-then-version-mark-clause-trail
returns-then-version-mark-clause-trail g c = none_more (length (view c.args.pass.now).trail) 8

pub returns-then-version-mark-clause-starts : goal.returns-then-version-mark-clause-starts
returns-then-version-mark-clause-starts g c =
    let same = same_note c.args.log.now c.args.position c.note.result c.note-version.result g.at c.requires.1.1.1.1.0.log c.requires.1.1.1.1.1.0
    c.note.ensures c.note-version.ensures in
    (subst (λ (n : Note). c.args.mark.now.time < n.time) same c.if-version-mark.true, refl, refl)

pub leave-requires-clause-of : goal.leave-requires-clause-of
leave-requires-clause-of g c =
    of_still c.args.shared.now c.args.pass.now c.load_head-link.new.pass
    (same_on c.args.pass.now c.enter_clock-clock.new.pass c.load_head-link.new.pass c.enter_clock-clock.ensures.same c.load_head-link.ensures.same)
    c.requires.1.1.0

pub returns-then-link-link_word-clause-same : goal.returns-then-link-link_word-clause-same
returns-then-link-link_word-clause-same g c =
    same_on c.args.pass.now c.enter_clock-clock.new.pass c.load_head-link.new.pass c.enter_clock-clock.ensures.same c.load_head-link.ensures.same

pub returns-then-link-link_word-clause-young : goal.returns-then-link-link_word-clause-young
returns-then-link-link_word-clause-young g c = λ e. ok_young _ e

pub returns-then-link-link_word-clause-clock : goal.returns-then-link-link_word-clause-clock
returns-then-link-link_word-clause-clock g c =
    λ ne. c.enter_clock-clock.ensures.last ∙ sym (ap (λ (u : Knowledge). (config_of c.args.shared.now).base + length u.past.seen) c.load_head-link.ensures.view)

pub returns-then-link-link_word-clause-cost : goal.returns-then-link-link_word-clause-cost
returns-then-link-link_word-clause-cost g c = looked_bound _ c.enter_clock-clock.new.steps _ c.enter_clock-clock.ensures.cost c.load_head-link.ensures.step

pub returns-then-link-link_word-clause-trail : goal.returns-then-link-link_word-clause-trail
returns-then-link-link_word-clause-trail g c =
    looked_bound _ (length (view c.enter_clock-clock.new.pass).trail) _
    (entered_longer (config_of c.args.shared.now) (view c.args.pass.now) (view c.enter_clock-clock.new.pass) c.enter_clock-clock.result.0
    c.enter_clock-clock.ensures.begins)
    (one_longer _ _ _ (ap (λ (u : Knowledge). u.trail) c.load_head-link.ensures.view))

pub returns-clause-same : goal.returns-clause-same
returns-clause-same g c =
    same_on c.args.pass.now c.load_head-link.new.pass c.leave.new.pass
    (same_on c.args.pass.now c.enter_clock-clock.new.pass c.load_head-link.new.pass c.enter_clock-clock.ensures.same c.load_head-link.ensures.same)
    c.leave.ensures.same

pub returns-clause-young : goal.returns-clause-young
returns-clause-young g c = λ e. top_young _ _ c.not_on_top.ensures.gone c.not_on_top.ensures.above e

pub returns-clause-clock : goal.returns-clause-clock
returns-clause-clock g c =
    λ ne. c.enter_clock-clock.ensures.last ∙ sym (ap (λ (u : Knowledge). (config_of c.args.shared.now).base + length u.past.seen) c.leave.ensures.view
    ∙ ap (λ (u : Knowledge). (config_of c.args.shared.now).base + length u.past.seen) c.load_head-link.ensures.view)

pub returns-clause-cost : goal.returns-clause-cost
returns-clause-cost g c =
    left_bound _ c.enter_clock-clock.new.steps c.load_head-link.new.steps _ c.enter_clock-clock.ensures.cost c.load_head-link.ensures.step c.leave.ensures.step

pub returns-clause-trail : goal.returns-clause-trail
returns-clause-trail g c =
    left_bound _ (length (view c.enter_clock-clock.new.pass).trail) (length (view c.load_head-link.new.pass).trail) _
    (entered_longer (config_of c.args.shared.now) (view c.args.pass.now) (view c.enter_clock-clock.new.pass) c.enter_clock-clock.result.0
    c.enter_clock-clock.ensures.begins)
    (one_longer _ _ _ (ap (λ (u : Knowledge). u.trail) c.load_head-link.ensures.view))
    (one_longer _ _ _ (ap (λ (u : Knowledge). u.trail) c.leave.ensures.view))

pub note-requires : goal.note-requires
note-requires g c = some_live c.args.log.now c.args.position g.at c.requires.1.1.1.1.1.0

pub overflow_sub-position : goal.overflow_sub-position
overflow_sub-position g c = (place_from c.args.log.now c.args.position g.at c.requires.1.1.1.1.0.log c.requires.1.1.1.1.1.0 c.note.result c.note.ensures).0

pub overflow_cast-position : goal.overflow_cast-position
overflow_cast-position g c =
    let k = place_from c.args.log.now c.args.position g.at c.requires.1.1.1.1.0.log c.requires.1.1.1.1.1.0 c.note.result c.note.ensures in
    record { fits = place_small _ _ k.1 k.2 }

pub note-version-requires : goal.note-version-requires
note-version-requires g c = (place_from c.args.log.now c.args.position g.at c.requires.1.1.1.1.0.log c.requires.1.1.1.1.1.0 c.note.result c.note.ensures).1

pub link_word-requires-clause-seat : goal.link_word-requires-clause-seat
link_word-requires-clause-seat g c =
    seat_small (config_of c.args.shared.now) (view c.args.pass.now) (view c.enter_clock-clock.new.pass) (view c.load_head-link.new.pass) c.args.log.now
    c.enter_clock-clock.result.0 c.note-version.result.object c.load_head-link.result c.seat.result (section_in (view c.enter_clock-clock.new.pass))
    c.requires.1.1.1.1.0 c.enter_clock-clock.ensures.begins c.load_head-link.ensures.view
    c.seat.ensures

pub not_on_top-requires : goal.not_on_top-requires
not_on_top-requires g c = λ some. (c.load_head-link.ensures.link some).0
