use Rattle.std.proofs.Common.{◌≡◌}
use Rattle.list_set.proofs.Windows.{put_value, put_window, put_distinct, put_within, put_puts, other_value, room_as, rewritten_before, refuses_as}
use Rattle.list_set.proofs.Answering.{no_not_yes, no_not_again, yes_not_no, yes_not_again, again_not_no, again_not_yes, again_refusal}
use Rattle.list_set.proofs.lists.put_in.Goals as goal

pub find-window-requires-clause-head_in : goal.find-window-requires-clause-head_in
find-window-requires-clause-head_in g c = c.requires.head_in

pub returns-then-window-value-clause-unchanged : goal.returns-then-window-value-clause-unchanged
returns-then-window-value-clause-unchanged g c _ = c.find-window.ensures.as_before

pub returns-then-window-value-clause-yes : goal.returns-then-window-value-clause-yes
returns-then-window-value-clause-yes g c e = absurd (no_not_yes e)

pub returns-then-window-value-clause-again : goal.returns-then-window-value-clause-again
returns-then-window-value-clause-again g c refusal e = absurd (no_not_again _ e)

pub returns-in-Ok-clause-unchanged : goal.returns-in-Ok-clause-unchanged
returns-in-Ok-clause-unchanged g c e = absurd (yes_not_no e)

pub returns-in-Ok-clause-again : goal.returns-in-Ok-clause-again
returns-in-Ok-clause-again g c refusal e = absurd (yes_not_again _ e)

pub returns-in-Err-clause-unchanged : goal.returns-in-Err-clause-unchanged
returns-in-Err-clause-unchanged g c e = absurd (again_not_no _ e)

pub returns-in-Err-clause-yes : goal.returns-in-Err-clause-yes
returns-in-Err-clause-yes g c e = absurd (again_not_yes _ e)

pub rewrite-requires-clause-distinct : goal.rewrite-requires-clause-distinct
rewrite-requires-clause-distinct g c =
    let f = put_window _ _ _ _ _ _ _ _ (g.met.S.Section.reads _) c.find-window.ensures.window c.requires.present _ _
    (c.put_writes.ensures.writes _ _ _ c.find-window.ensures.window) in
    put_distinct (g.S.Section.section c.args.section.now) _ _ _ _ _ c.requires.lawful c.requires.head_in f.0 f.1

pub rewrite-requires-clause-within : goal.rewrite-requires-clause-within
rewrite-requires-clause-within g c =
    let f = put_window _ _ _ _ _ _ _ _ (g.met.S.Section.reads _) c.find-window.ensures.window c.requires.present _ _
    (c.put_writes.ensures.writes _ _ _ c.find-window.ensures.window) in
    put_within (g.S.Section.section c.args.section.now) _ _ _ _ _ c.requires.lawful c.requires.head_in f.0 f.1 _ (g.met.S.Section.lawful _).at
    (g.met.S.Section.others_stay _ _ c.find-window.ensures.as_before)

pub rewrite-requires-clause-room : goal.rewrite-requires-clause-room
rewrite-requires-clause-room g c =
    let f = put_window _ _ _ _ _ _ _ _ (g.met.S.Section.reads _) c.find-window.ensures.window c.requires.present _ _
    (c.put_writes.ensures.writes _ _ _ c.find-window.ensures.window) in
    room_as _ _ _ _ (g.met.S.Section.others_stay _ _ c.find-window.ensures.as_before) f.1 (c.requires.room _ f.0)

pub returns-in-Ok-clause-yes : goal.returns-in-Ok-clause-yes
returns-in-Ok-clause-yes g c _ =
    let f = put_window _ _ _ _ _ _ _ _ (g.met.S.Section.reads _) c.find-window.ensures.window c.requires.present _ _
    (c.put_writes.ensures.writes _ _ _ c.find-window.ensures.window) in
    put_puts (g.S.Section.section c.args.section.now) _ _ _ _ _ c.requires.lawful c.requires.head_in f.0 f.1 _
    (rewritten_before _ _ _ (g.met.S.Section.lawful _).at (g.met.S.Section.others_stay _ _ c.find-window.ensures.as_before)
    (g.met.S.Section.goes_on _ _ c.find-window.ensures.as_before) _ _ c.in-Ok.ensures.written)

pub returns-in-Err-clause-no : goal.returns-in-Err-clause-no
returns-in-Err-clause-no g c =
    let there = put_value _ _ _ _ _ _ _ _ (g.met.S.Section.reads _) c.find-window.ensures.window c.requires.present in
    (λ e. absurd (again_not_no _ e), λ t. absurd (other_value _ _ _ there c.if-window-value.false t))

pub returns-in-Ok-clause-no : goal.returns-in-Ok-clause-no
returns-in-Ok-clause-no g c =
    let there = put_value _ _ _ _ _ _ _ _ (g.met.S.Section.reads _) c.find-window.ensures.window c.requires.present in
    (λ e. absurd (yes_not_no e), λ t. absurd (other_value _ _ _ there c.if-window-value.false t))

pub returns-in-Err-clause-again : goal.returns-in-Err-clause-again
returns-in-Err-clause-again g c refusal e =
    let f = put_window _ _ _ _ _ _ _ _ (g.met.S.Section.reads _) c.find-window.ensures.window c.requires.present _ _
    (c.put_writes.ensures.writes _ _ _ c.find-window.ensures.window) in
    let q : c.in-Err.refusal ≡ refusal = again_refusal _ _ e in (
      c.find-window.result.node,
      f.0,
      refuses_as _ _ _ (g.met.S.Section.lawful _).at (g.met.S.Section.others_stay _ _ c.find-window.ensures.as_before)
          (g.met.S.Section.goes_on _ _ c.find-window.ensures.as_before) _ _ _ _ _ _ f.1 q c.in-Err.ensures.refused,
    )
