use Rattle.std.proofs.Common.{◌≡◌, refl, sym, ◌∙◌}
use Rattle.list_set.proofs.Windows.{window_has, add_found, add_distinct, add_within, add_adds, room_as, rewritten_before, refuses_as}
use Rattle.list_set.proofs.Answering.{no_not_yes, no_not_again, yes_not_no, yes_not_again, again_not_no, again_not_yes, again_refusal, yes_denies, again_denies}
use Rattle.list_set.proofs.lists.add_in.Goals as goal

pub find-window-requires-clause-head_in : goal.find-window-requires-clause-head_in
find-window-requires-clause-head_in g c = c.requires.head_in

pub returns-then-has-clause-unchanged : goal.returns-then-has-clause-unchanged
returns-then-has-clause-unchanged g c _ = c.find-window.ensures.as_before

pub returns-then-has-clause-yes : goal.returns-then-has-clause-yes
returns-then-has-clause-yes g c e = absurd (no_not_yes e)

pub returns-then-has-clause-again : goal.returns-then-has-clause-again
returns-then-has-clause-again g c refusal e = absurd (no_not_again _ e)

pub returns-in-Ok-clause-unchanged : goal.returns-in-Ok-clause-unchanged
returns-in-Ok-clause-unchanged g c e = absurd (yes_not_no e)

pub returns-in-Ok-clause-again : goal.returns-in-Ok-clause-again
returns-in-Ok-clause-again g c refusal e = absurd (yes_not_again _ e)

pub returns-in-Err-clause-unchanged : goal.returns-in-Err-clause-unchanged
returns-in-Err-clause-unchanged g c e = absurd (again_not_no _ e)

pub returns-in-Err-clause-yes : goal.returns-in-Err-clause-yes
returns-in-Err-clause-yes g c e = absurd (again_not_yes _ e)

pub rewrite-requires-clause-distinct : goal.rewrite-requires-clause-distinct
rewrite-requires-clause-distinct g c =
    let f = add_found _ _ _ _ _ _ _ _ _ (g.met.S.Section.reads _) c.find-window.ensures.window c.has.ensures c.if-has.false _ _ _
    (c.add_writes.ensures.writes _ c.find-window.ensures.window) in
    add_distinct (g.S.Section.section c.args.section.now) _ _ _ _ _ _ c.requires.lawful c.requires.head_in f.0 f.1 c.requires.node_in c.requires.in_range
    c.requires.vacant

pub rewrite-requires-clause-within : goal.rewrite-requires-clause-within
rewrite-requires-clause-within g c =
    let f = add_found _ _ _ _ _ _ _ _ _ (g.met.S.Section.reads _) c.find-window.ensures.window c.has.ensures c.if-has.false _ _ _
    (c.add_writes.ensures.writes _ c.find-window.ensures.window) in
    add_within (g.S.Section.section c.args.section.now) _ _ _ _ _ _ c.requires.lawful c.requires.head_in f.0 f.1 c.requires.node_in c.requires.in_range
    c.requires.vacant
    _ (g.met.S.Section.lawful _).at (g.met.S.Section.others_stay _ _ c.find-window.ensures.as_before)

pub rewrite-requires-clause-room : goal.rewrite-requires-clause-room
rewrite-requires-clause-room g c =
    let f = add_found _ _ _ _ _ _ _ _ _ (g.met.S.Section.reads _) c.find-window.ensures.window c.has.ensures c.if-has.false _ _ _
    (c.add_writes.ensures.writes _ c.find-window.ensures.window) in
    room_as _ _ _ _ (g.met.S.Section.others_stay _ _ c.find-window.ensures.as_before) f.1 (c.requires.room _ f.0)

pub returns-in-Ok-clause-yes : goal.returns-in-Ok-clause-yes
returns-in-Ok-clause-yes g c _ =
    let f = add_found _ _ _ _ _ _ _ _ _ (g.met.S.Section.reads _) c.find-window.ensures.window c.has.ensures c.if-has.false _ _ _
    (c.add_writes.ensures.writes _ c.find-window.ensures.window) in
    add_adds (g.S.Section.section c.args.section.now) _ _ _ _ _ _ c.requires.lawful c.requires.head_in f.0 f.1 c.requires.node_in c.requires.in_range
    c.requires.vacant _ c.requires.fits
    (rewritten_before _ _ _ (g.met.S.Section.lawful _).at (g.met.S.Section.others_stay _ _ c.find-window.ensures.as_before)
    (g.met.S.Section.goes_on _ _ c.find-window.ensures.as_before) _ _ c.in-Ok.ensures.written)

pub returns-in-Err-clause-again : goal.returns-in-Err-clause-again
returns-in-Err-clause-again g c refusal e =
    let f = add_found _ _ _ _ _ _ _ _ _ (g.met.S.Section.reads _) c.find-window.ensures.window c.has.ensures c.if-has.false _ _ _
    (c.add_writes.ensures.writes _ c.find-window.ensures.window) in
    let q : c.in-Err.refusal ≡ refusal = again_refusal _ _ e in (
      c.find-window.result.previous,
      f.0,
      refuses_as _ _ _ (g.met.S.Section.lawful _).at (g.met.S.Section.others_stay _ _ c.find-window.ensures.as_before)
          (g.met.S.Section.goes_on _ _ c.find-window.ensures.as_before) _ _ _ _ _ _ f.1 q c.in-Err.ensures.refused,
    )

pub returns-then-has-clause-no : goal.returns-then-has-clause-no
returns-then-has-clause-no g c =
    let is = window_has _ _ _ _ _ _ _ _ _ (g.met.S.Section.reads _) c.find-window.ensures.window c.has.ensures in (λ _. sym is ∙ c.if-has.true, λ _. refl)

pub returns-in-Ok-clause-no : goal.returns-in-Ok-clause-no
returns-in-Ok-clause-no g c =
    let is = window_has _ _ _ _ _ _ _ _ _ (g.met.S.Section.reads _) c.find-window.ensures.window c.has.ensures in yes_denies _ (sym is ∙ c.if-has.false)

pub returns-in-Err-clause-no : goal.returns-in-Err-clause-no
returns-in-Err-clause-no g c =
    let is = window_has _ _ _ _ _ _ _ _ _ (g.met.S.Section.reads _) c.find-window.ensures.window c.has.ensures in again_denies _ _ (sym is ∙ c.if-has.false)
