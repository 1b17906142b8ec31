use Rattle.std.proofs.Common.{◌≡◌, refl, sym, ◌∙◌}
use Rattle.list_set.proofs.Windows.{window_has, del_found, del_distinct, del_within, del_takes, room_as, rewritten_before, refuses_as}
use Rattle.list_set.proofs.Answering.{absent_not_took, absent_not_again, took_not_absent, took_not_again, took_node, took_inner, took_found}
use Rattle.list_set.proofs.Answering.{del_again_not_absent, del_again_not_took, del_again_refusal, del_again_found}
use Rattle.list_set.proofs.lists.del_in.Goals as goal

pub find-window-requires-clause-head_in : goal.find-window-requires-clause-head_in
find-window-requires-clause-head_in g c = c.requires.head_in

pub returns-then-not-has-clause-absent : goal.returns-then-not-has-clause-absent
returns-then-not-has-clause-absent g c =
    let is = window_has _ _ _ _ _ _ _ _ _ (g.met.S.Section.reads _) c.find-window.ensures.window c.has.ensures in (λ _. sym is ∙ c.if-not-has.true, λ _. refl)

pub returns-then-not-has-clause-unchanged : goal.returns-then-not-has-clause-unchanged
returns-then-not-has-clause-unchanged g c _ = c.find-window.ensures.as_before

pub returns-then-not-has-clause-took : goal.returns-then-not-has-clause-took
returns-then-not-has-clause-took g c node inner e = absurd (absent_not_took _ _ e)

pub returns-then-not-has-clause-again : goal.returns-then-not-has-clause-again
returns-then-not-has-clause-again g c refusal e = absurd (absent_not_again _ e)

pub returns-in-Ok-clause-absent : goal.returns-in-Ok-clause-absent
returns-in-Ok-clause-absent g c =
    let is = window_has _ _ _ _ _ _ _ _ _ (g.met.S.Section.reads _) c.find-window.ensures.window c.has.ensures in
    took_found _ _ _ (sym is ∙ c.if-not-has.false)

pub returns-in-Ok-clause-unchanged : goal.returns-in-Ok-clause-unchanged
returns-in-Ok-clause-unchanged g c e = absurd (took_not_absent _ _ e)

pub returns-in-Ok-clause-again : goal.returns-in-Ok-clause-again
returns-in-Ok-clause-again g c refusal e = absurd (took_not_again _ _ _ e)

pub returns-in-Err-clause-absent : goal.returns-in-Err-clause-absent
returns-in-Err-clause-absent g c =
    let is = window_has _ _ _ _ _ _ _ _ _ (g.met.S.Section.reads _) c.find-window.ensures.window c.has.ensures in
    del_again_found _ _ (sym is ∙ c.if-not-has.false)

pub returns-in-Err-clause-unchanged : goal.returns-in-Err-clause-unchanged
returns-in-Err-clause-unchanged g c e = absurd (del_again_not_absent _ e)

pub returns-in-Err-clause-took : goal.returns-in-Err-clause-took
returns-in-Err-clause-took g c node inner e = absurd (del_again_not_took _ _ _ e)

pub rewrite-requires-clause-distinct : goal.rewrite-requires-clause-distinct
rewrite-requires-clause-distinct g c =
    let f = del_found _ _ _ _ _ _ _ _ _ (g.met.S.Section.reads _) c.find-window.ensures.window c.has.ensures c.if-not-has.false _
    (c.del_writes.ensures.writes _ _ _ c.find-window.ensures.window) in
    del_distinct (g.S.Section.section c.args.section.now) _ _ _ _ _ c.requires.lawful c.requires.head_in f.0 f.1

pub rewrite-requires-clause-within : goal.rewrite-requires-clause-within
rewrite-requires-clause-within g c =
    let f = del_found _ _ _ _ _ _ _ _ _ (g.met.S.Section.reads _) c.find-window.ensures.window c.has.ensures c.if-not-has.false _
    (c.del_writes.ensures.writes _ _ _ c.find-window.ensures.window) in
    del_within (g.S.Section.section c.args.section.now) _ _ _ _ _ c.requires.lawful c.requires.head_in f.0 f.1 _ (g.met.S.Section.lawful _).at
    (g.met.S.Section.others_stay _ _ c.find-window.ensures.as_before)

pub rewrite-requires-clause-room : goal.rewrite-requires-clause-room
rewrite-requires-clause-room g c =
    let f = del_found _ _ _ _ _ _ _ _ _ (g.met.S.Section.reads _) c.find-window.ensures.window c.has.ensures c.if-not-has.false _
    (c.del_writes.ensures.writes _ _ _ c.find-window.ensures.window) in
    room_as _ _ _ _ (g.met.S.Section.others_stay _ _ c.find-window.ensures.as_before) f.1 (c.requires.room _ _ f.0)

pub returns-in-Ok-clause-took : goal.returns-in-Ok-clause-took
returns-in-Ok-clause-took g c node inner e =
    let f = del_found _ _ _ _ _ _ _ _ _ (g.met.S.Section.reads _) c.find-window.ensures.window c.has.ensures c.if-not-has.false _
    (c.del_writes.ensures.writes _ _ _ c.find-window.ensures.window) in
    let zero : inner ≡ 0 = sym (took_inner _ _ _ _ e) in
    let is : c.find-window.result.node ≡ node = took_node _ _ _ _ e in (
      zero,
      del_takes (g.S.Section.section c.args.section.now) _ _ _ _ _ c.requires.lawful c.requires.head_in f.0 f.1 _ _ is
          (rewritten_before _ _ _ (g.met.S.Section.lawful _).at (g.met.S.Section.others_stay _ _ c.find-window.ensures.as_before)
          (g.met.S.Section.goes_on _ _ c.find-window.ensures.as_before) _ _ c.in-Ok.ensures.written),
    )

pub returns-in-Err-clause-again : goal.returns-in-Err-clause-again
returns-in-Err-clause-again g c refusal e =
    let f = del_found _ _ _ _ _ _ _ _ _ (g.met.S.Section.reads _) c.find-window.ensures.window c.has.ensures c.if-not-has.false _
    (c.del_writes.ensures.writes _ _ _ c.find-window.ensures.window) in
    let q : c.in-Err.refusal ≡ refusal = del_again_refusal _ _ e in (
      c.find-window.result.previous,
      c.find-window.result.node,
      f.0,
      refuses_as _ _ _ (g.met.S.Section.lawful _).at (g.met.S.Section.others_stay _ _ c.find-window.ensures.as_before)
          (g.met.S.Section.goes_on _ _ c.find-window.ensures.as_before) _ _ _ _ _ _ f.1 q c.in-Err.ensures.refused,
    )
