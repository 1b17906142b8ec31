use Rattle.std.proofs.Common.{◌≡◌, refl, ap, ◌∙◌}
use Rattle.mv_history.specs.Legal.{are_distinct}
use Rattle.list_set.proofs.Answering.{took_node, took_inner, took_found, del_again_refusal, del_again_found}
use Rattle.list_set.proofs.Windows.{rewritten_before, refuses_as, room_as}
use Rattle.tree_set.specs.Calls.IsDel.{last_leaf, leaf_and_parent}
use Rattle.list_set.proofs.Answering.{absent_not_took, absent_not_again, took_not_absent, took_not_again, del_again_not_absent, del_again_not_took}
use Rattle.tree_set.proofs.Found.{found_none, found_bare, found_cut, found_has}
use Rattle.tree_set.proofs.Planning.{key_is, key_not, ends_in, within_as}
use Rattle.tree_set.proofs.Changing.{bared_in_range, cut_in_range, bared_distinct, cut_distinct, has_true, has_false, bared_loses, cut_loses, took_as}
use Rattle.tree_set.proofs.changes.del_in.Goals as goal

pub returns-in_default-clause-absent : goal.returns-in_default-clause-absent
returns-in_default-clause-absent g c =
    (λ _. found_none _ _ _ _ (g.met.S.Section.reads _) c.in_default.ensures.empty c.requires.lawful c.requires.root_from c.requires.root_in, λ _. refl)

pub returns-then-not-has-clause-absent : goal.returns-then-not-has-clause-absent
returns-then-not-has-clause-absent g c =
    let has = found_has _ _ _ _ _ _ _ _ _ (g.met.S.Section.reads _) c.in-Some.ensures.descent c.requires.lawful c.requires.root_from c.requires.root_in in
    (λ _. has_false _ _ _ has (key_not _ _ _ c.has.ensures c.if-not-has.true), λ _. refl)

pub rewrite-requires-clause-distinct : goal.rewrite-requires-clause-distinct
rewrite-requires-clause-distinct g c =
    let is = key_is _ _ _ c.has.ensures c.if-not-has.false in
    let place = found_bare _ _ _ _ _ _ _ _ _ (g.met.S.Section.reads _) c.in-Some.ensures.descent is c.if-descent-root.true in
    let e = c.bare_writes.ensures.writes _ _ (ends_in _ _ _ _ _ (g.met.S.Section.reads _) c.in-Some.ensures.descent c.in-Some.ensures.words) in
    ap are_distinct e ∙ bared_distinct _ _ _ c.requires.lawful c.requires.root_from c.requires.root_in _ place

pub rewrite-requires-clause-within : goal.rewrite-requires-clause-within
rewrite-requires-clause-within g c =
    let is = key_is _ _ _ c.has.ensures c.if-not-has.false in
    let place = found_bare _ _ _ _ _ _ _ _ _ (g.met.S.Section.reads _) c.in-Some.ensures.descent is c.if-descent-root.true in
    let e = c.bare_writes.ensures.writes _ _ (ends_in _ _ _ _ _ (g.met.S.Section.reads _) c.in-Some.ensures.descent c.in-Some.ensures.words) in
    within_as _ _ _ e (bared_in_range (g.S.Section.section c.args.section.now) _ _ _ (g.met.S.Section.lawful _).at
    (g.met.S.Section.others_stay _ _ c.find.ensures.as_before) c.requires.lawful c.requires.root_from c.requires.root_in _ place)

pub rewrite-requires-clause-room : goal.rewrite-requires-clause-room
rewrite-requires-clause-room g c =
    let is = key_is _ _ _ c.has.ensures c.if-not-has.false in
    let place = found_bare _ _ _ _ _ _ _ _ _ (g.met.S.Section.reads _) c.in-Some.ensures.descent is c.if-descent-root.true in
    let e = c.bare_writes.ensures.writes _ _ (ends_in _ _ _ _ _ (g.met.S.Section.reads _) c.in-Some.ensures.descent c.in-Some.ensures.words) in
    room_as _ _ _ _ (g.met.S.Section.others_stay _ _ c.find.ensures.as_before) e (c.requires.room _ _ _ (last_leaf _ place))

pub returns-in-Ok-clause-absent : goal.returns-in-Ok-clause-absent
returns-in-Ok-clause-absent g c =
    let has = found_has _ _ _ _ _ _ _ _ _ (g.met.S.Section.reads _) c.in-Some.ensures.descent c.requires.lawful c.requires.root_from c.requires.root_in in
    took_found _ _ _ (has_true _ _ _ has (key_is _ _ _ c.has.ensures c.if-not-has.false))

pub returns-in-Ok-clause-took : goal.returns-in-Ok-clause-took
returns-in-Ok-clause-took g c node inner w =
    let is = key_is _ _ _ c.has.ensures c.if-not-has.false in
    let place = found_bare _ _ _ _ _ _ _ _ _ (g.met.S.Section.reads _) c.in-Some.ensures.descent is c.if-descent-root.true in
    let e = c.bare_writes.ensures.writes _ _ (ends_in _ _ _ _ _ (g.met.S.Section.reads _) c.in-Some.ensures.descent c.in-Some.ensures.words) in
    let named : c.in-Some.descent.leaf ≡ node = took_node _ _ _ _ w in
    let none : 0 ≡ inner = took_inner _ _ _ _ w in
    took_as _ _ _ _ _ _ _ _ named none (bared_loses _ _ _ _ c.requires.lawful c.requires.root_from c.requires.root_in _ _ place e
    (rewritten_before _ _ _ (g.met.S.Section.lawful _).at (g.met.S.Section.others_stay _ _ c.find.ensures.as_before)
    (g.met.S.Section.goes_on _ _ c.find.ensures.as_before) _ _ c.in-Ok.ensures.written))

pub returns-in-Err-clause-absent : goal.returns-in-Err-clause-absent
returns-in-Err-clause-absent g c =
    let has = found_has _ _ _ _ _ _ _ _ _ (g.met.S.Section.reads _) c.in-Some.ensures.descent c.requires.lawful c.requires.root_from c.requires.root_in in
    del_again_found _ _ (has_true _ _ _ has (key_is _ _ _ c.has.ensures c.if-not-has.false))

pub returns-in-Err-clause-again : goal.returns-in-Err-clause-again
returns-in-Err-clause-again g c refusal w =
    let is = key_is _ _ _ c.has.ensures c.if-not-has.false in
    let place = found_bare _ _ _ _ _ _ _ _ _ (g.met.S.Section.reads _) c.in-Some.ensures.descent is c.if-descent-root.true in
    let e = c.bare_writes.ensures.writes _ _ (ends_in _ _ _ _ _ (g.met.S.Section.reads _) c.in-Some.ensures.descent c.in-Some.ensures.words) in
    let q : c.in-Err.refusal ≡ refusal = del_again_refusal _ _ w in (
      _,
      _,
      _,
      last_leaf _ place,
      refuses_as _ _ _ (g.met.S.Section.lawful _).at (g.met.S.Section.others_stay _ _ c.find.ensures.as_before)
          (g.met.S.Section.goes_on _ _ c.find.ensures.as_before) _ _ _ _ _ _ e q c.in-Err.ensures.refused,
    )

pub rewrite-requires-2-clause-distinct : goal.rewrite-requires-2-clause-distinct
rewrite-requires-2-clause-distinct g c =
    let is = key_is _ _ _ c.has.ensures c.if-not-has.false in
    let place = found_cut _ _ _ _ _ _ _ _ _ (g.met.S.Section.reads _) c.in-Some.ensures.descent is c.if-descent-root.false in
    let e = c.tree_del_writes.ensures.writes _ _ _ (ends_in _ _ _ _ _ (g.met.S.Section.reads _) c.in-Some.ensures.descent c.in-Some.ensures.words) in
    ap are_distinct e ∙ cut_distinct _ _ _ c.requires.lawful c.requires.root_from c.requires.root_in _ _ _ place

pub rewrite-requires-2-clause-within : goal.rewrite-requires-2-clause-within
rewrite-requires-2-clause-within g c =
    let is = key_is _ _ _ c.has.ensures c.if-not-has.false in
    let place = found_cut _ _ _ _ _ _ _ _ _ (g.met.S.Section.reads _) c.in-Some.ensures.descent is c.if-descent-root.false in
    let e = c.tree_del_writes.ensures.writes _ _ _ (ends_in _ _ _ _ _ (g.met.S.Section.reads _) c.in-Some.ensures.descent c.in-Some.ensures.words) in
    within_as _ _ _ e (cut_in_range (g.S.Section.section c.args.section.now) _ _ _ (g.met.S.Section.lawful _).at
    (g.met.S.Section.others_stay _ _ c.find.ensures.as_before) c.requires.lawful c.requires.root_from c.requires.root_in _ _ _ place)

pub rewrite-requires-2-clause-room : goal.rewrite-requires-2-clause-room
rewrite-requires-2-clause-room g c =
    let is = key_is _ _ _ c.has.ensures c.if-not-has.false in
    let place = found_cut _ _ _ _ _ _ _ _ _ (g.met.S.Section.reads _) c.in-Some.ensures.descent is c.if-descent-root.false in
    let e = c.tree_del_writes.ensures.writes _ _ _ (ends_in _ _ _ _ _ (g.met.S.Section.reads _) c.in-Some.ensures.descent c.in-Some.ensures.words) in
    room_as _ _ _ _ (g.met.S.Section.others_stay _ _ c.find.ensures.as_before) e (c.requires.room _ _ _ (leaf_and_parent _ _ _ place))

pub returns-in-Ok-rewrite-clause-absent : goal.returns-in-Ok-rewrite-clause-absent
returns-in-Ok-rewrite-clause-absent g c =
    let has = found_has _ _ _ _ _ _ _ _ _ (g.met.S.Section.reads _) c.in-Some.ensures.descent c.requires.lawful c.requires.root_from c.requires.root_in in
    took_found _ _ _ (has_true _ _ _ has (key_is _ _ _ c.has.ensures c.if-not-has.false))

pub returns-in-Ok-rewrite-clause-took : goal.returns-in-Ok-rewrite-clause-took
returns-in-Ok-rewrite-clause-took g c node inner w =
    let is = key_is _ _ _ c.has.ensures c.if-not-has.false in
    let place = found_cut _ _ _ _ _ _ _ _ _ (g.met.S.Section.reads _) c.in-Some.ensures.descent is c.if-descent-root.false in
    let e = c.tree_del_writes.ensures.writes _ _ _ (ends_in _ _ _ _ _ (g.met.S.Section.reads _) c.in-Some.ensures.descent c.in-Some.ensures.words) in
    let named : c.in-Some.descent.leaf ≡ node = took_node _ _ _ _ w in
    let above : c.in-Some.descent.parent ≡ inner = took_inner _ _ _ _ w in
    took_as _ _ _ _ _ _ _ _ named above (cut_loses _ _ _ _ c.requires.lawful c.requires.root_from c.requires.root_in _ _ _ _ place e
    (rewritten_before _ _ _ (g.met.S.Section.lawful _).at (g.met.S.Section.others_stay _ _ c.find.ensures.as_before)
    (g.met.S.Section.goes_on _ _ c.find.ensures.as_before) _ _ c.in-Ok-rewrite.ensures.written))

pub returns-in-Err-rewrite-clause-absent : goal.returns-in-Err-rewrite-clause-absent
returns-in-Err-rewrite-clause-absent g c =
    let has = found_has _ _ _ _ _ _ _ _ _ (g.met.S.Section.reads _) c.in-Some.ensures.descent c.requires.lawful c.requires.root_from c.requires.root_in in
    del_again_found _ _ (has_true _ _ _ has (key_is _ _ _ c.has.ensures c.if-not-has.false))

pub returns-in-Err-rewrite-clause-again : goal.returns-in-Err-rewrite-clause-again
returns-in-Err-rewrite-clause-again g c refusal w =
    let is = key_is _ _ _ c.has.ensures c.if-not-has.false in
    let place = found_cut _ _ _ _ _ _ _ _ _ (g.met.S.Section.reads _) c.in-Some.ensures.descent is c.if-descent-root.false in
    let e = c.tree_del_writes.ensures.writes _ _ _ (ends_in _ _ _ _ _ (g.met.S.Section.reads _) c.in-Some.ensures.descent c.in-Some.ensures.words) in
    let q : c.in-Err-rewrite.refusal ≡ refusal = del_again_refusal _ _ w in (
      _,
      _,
      _,
      leaf_and_parent _ _ _ place,
      refuses_as _ _ _ (g.met.S.Section.lawful _).at (g.met.S.Section.others_stay _ _ c.find.ensures.as_before)
          (g.met.S.Section.goes_on _ _ c.find.ensures.as_before) _ _ _ _ _ _ e q c.in-Err-rewrite.ensures.refused,
    )

pub returns-in_default-clause-unchanged : goal.returns-in_default-clause-unchanged
returns-in_default-clause-unchanged g c _ = c.find.ensures.as_before

pub returns-in_default-clause-took : goal.returns-in_default-clause-took
returns-in_default-clause-took g c node inner e = absurd (absent_not_took _ _ e)

pub returns-in_default-clause-again : goal.returns-in_default-clause-again
returns-in_default-clause-again g c refusal e = absurd (absent_not_again _ e)

pub returns-then-not-has-clause-unchanged : goal.returns-then-not-has-clause-unchanged
returns-then-not-has-clause-unchanged g c _ = c.find.ensures.as_before

pub returns-then-not-has-clause-took : goal.returns-then-not-has-clause-took
returns-then-not-has-clause-took g c node inner e = absurd (absent_not_took _ _ e)

pub returns-then-not-has-clause-again : goal.returns-then-not-has-clause-again
returns-then-not-has-clause-again g c refusal e = absurd (absent_not_again _ e)

pub returns-in-Ok-clause-unchanged : goal.returns-in-Ok-clause-unchanged
returns-in-Ok-clause-unchanged g c e = absurd (took_not_absent _ _ e)

pub returns-in-Ok-clause-again : goal.returns-in-Ok-clause-again
returns-in-Ok-clause-again g c refusal e = absurd (took_not_again _ _ _ e)

pub returns-in-Err-clause-unchanged : goal.returns-in-Err-clause-unchanged
returns-in-Err-clause-unchanged g c e = absurd (del_again_not_absent _ e)

pub returns-in-Err-clause-took : goal.returns-in-Err-clause-took
returns-in-Err-clause-took g c node inner e = absurd (del_again_not_took _ _ _ e)

pub returns-in-Ok-rewrite-clause-unchanged : goal.returns-in-Ok-rewrite-clause-unchanged
returns-in-Ok-rewrite-clause-unchanged g c e = absurd (took_not_absent _ _ e)

pub returns-in-Ok-rewrite-clause-again : goal.returns-in-Ok-rewrite-clause-again
returns-in-Ok-rewrite-clause-again g c refusal e = absurd (took_not_again _ _ _ e)

pub returns-in-Err-rewrite-clause-unchanged : goal.returns-in-Err-rewrite-clause-unchanged
returns-in-Err-rewrite-clause-unchanged g c e = absurd (del_again_not_absent _ e)

pub returns-in-Err-rewrite-clause-took : goal.returns-in-Err-rewrite-clause-took
returns-in-Err-rewrite-clause-took g c node inner e = absurd (del_again_not_took _ _ _ e)
