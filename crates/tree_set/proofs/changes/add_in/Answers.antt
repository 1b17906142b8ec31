use Rattle.std.proofs.Common.{◌≡◌, arith, refl, ap, ◌∙◌}
use Rattle.mv_history.specs.Legal.{are_distinct}
use Rattle.list_set.proofs.Answering.{again_refusal, yes_denies, again_denies}
use Rattle.list_set.proofs.Windows.{rewritten_before, refuses_as, room_as, two_distinct}
use Rattle.tree_set.specs.Calls.IsAdd.{first_leaf, beside_leaf}
use Rattle.list_set.proofs.Answering.{no_not_yes, no_not_again, yes_not_no, yes_not_again, again_not_no, again_not_yes}
use Rattle.tree_set.proofs.Found.{found_none, found_empty, found_some, found_grow, found_has}
use Rattle.tree_set.proofs.Planning.{key_is, key_not, ends_in, within_as}
use Rattle.tree_set.proofs.Changing.{tree_added_in_range, grown_in_range, grown_distinct, has_true, has_false, tree_added_gains, grown_gains}
use Rattle.tree_set.proofs.changes.add_in.Goals as goal

pub rewrite-requires-clause-distinct : goal.rewrite-requires-clause-distinct
rewrite-requires-clause-distinct g c =
    let z = found_empty _ _ _ (g.met.S.Section.reads _) c.in_default.ensures.empty in
    let e = c.tree_add_writes.ensures.writes _ c.requires.lawful z in
    ap are_distinct e ∙ two_distinct _ _ (let a = c.requires.root_in in let b = c.requires.leaf_from in omega arith)

pub rewrite-requires-clause-within : goal.rewrite-requires-clause-within
rewrite-requires-clause-within g c =
    let z = found_empty _ _ _ (g.met.S.Section.reads _) c.in_default.ensures.empty in
    let e = c.tree_add_writes.ensures.writes _ c.requires.lawful z in
    within_as _ _ _ e (tree_added_in_range (g.S.Section.section c.args.section.now) _ _ c.args.key (g.met.S.Section.lawful _).at
    (g.met.S.Section.others_stay _ _ c.find.ensures.as_before) c.requires.lawful c.requires.root_from c.requires.root_in _
    (omega (arith, c.ranges.key.fits)) z (c.requires.leaf_from, c.requires.leaf_in, c.requires.leaf_vacant))

pub rewrite-requires-clause-room : goal.rewrite-requires-clause-room
rewrite-requires-clause-room g c =
    let z = found_empty _ _ _ (g.met.S.Section.reads _) c.in_default.ensures.empty in
    let e = c.tree_add_writes.ensures.writes _ c.requires.lawful z in
    room_as _ _ _ _ (g.met.S.Section.others_stay _ _ c.find.ensures.as_before) e (c.requires.room _ (first_leaf z))

pub returns-in-Ok-clause-no : goal.returns-in-Ok-clause-no
returns-in-Ok-clause-no g c =
    let none = found_none _ _ c.args.root c.args.key (g.met.S.Section.reads _) c.in_default.ensures.empty c.requires.lawful c.requires.root_from
    c.requires.root_in in
    yes_denies _ none

pub returns-in-Ok-clause-yes : goal.returns-in-Ok-clause-yes
returns-in-Ok-clause-yes g c _ =
    let z = found_empty _ _ _ (g.met.S.Section.reads _) c.in_default.ensures.empty in
    let e = c.tree_add_writes.ensures.writes _ c.requires.lawful z in
    tree_added_gains _ _ _ _ _ _ _ c.requires.lawful c.requires.root_from c.requires.root_in (omega (arith, c.ranges.key.fits)) (
      c.requires.leaf_from,
      c.requires.leaf_in,
      c.requires.leaf_vacant,
    ) _ z e
    (rewritten_before _ _ _ (g.met.S.Section.lawful _).at (g.met.S.Section.others_stay _ _ c.find.ensures.as_before)
    (g.met.S.Section.goes_on _ _ c.find.ensures.as_before) _ _ c.in-Ok.ensures.written)

pub returns-in-Err-clause-no : goal.returns-in-Err-clause-no
returns-in-Err-clause-no g c =
    let none = found_none _ _ c.args.root c.args.key (g.met.S.Section.reads _) c.in_default.ensures.empty c.requires.lawful c.requires.root_from
    c.requires.root_in in
    again_denies _ _ none

pub returns-in-Err-clause-again : goal.returns-in-Err-clause-again
returns-in-Err-clause-again g c refusal w =
    let z = found_empty _ _ _ (g.met.S.Section.reads _) c.in_default.ensures.empty in
    let e = c.tree_add_writes.ensures.writes _ c.requires.lawful z in
    let q : c.in-Err.refusal ≡ refusal = again_refusal _ _ w in (
      _,
      first_leaf z,
      refuses_as _ _ _ (g.met.S.Section.lawful _).at (g.met.S.Section.others_stay _ _ c.find.ensures.as_before)
          (g.met.S.Section.goes_on _ _ c.find.ensures.as_before) _ _ _ _ _ _ e q c.in-Err.ensures.refused,
    )

pub returns-then-has-clause-no : goal.returns-then-has-clause-no
returns-then-has-clause-no g c =
    let has = found_has _ _ _ _ _ _ _ _ _ (g.met.S.Section.reads _) c.in-Some.ensures.descent c.requires.lawful c.requires.root_from c.requires.root_in in
    (λ _. has_true _ _ _ has (key_is _ _ _ c.has.ensures c.if-has.true), λ _. refl)

pub rewrite-requires-2-clause-distinct : goal.rewrite-requires-2-clause-distinct
rewrite-requires-2-clause-distinct g c =
    let n = key_not _ _ _ c.has.ensures c.if-has.false in
    let place = found_grow _ _ _ _ _ _ _ _ _ (g.met.S.Section.reads _) c.in-Some.ensures.descent n in
    let e = c.grow_writes.ensures.writes _ (ends_in _ _ _ _ _ (g.met.S.Section.reads _) c.in-Some.ensures.descent c.in-Some.ensures.words) in
    let fresh = c.requires.inner_vacant (found_some _ _ _ _ _ _ _ _ _ (g.met.S.Section.reads _) c.in-Some.ensures.descent) in
    ap are_distinct e ∙ grown_distinct _ _ _ c.requires.lawful c.requires.root_from c.requires.root_in _ _ _ _ (omega (arith, c.ranges.key.fits)) place
    (c.requires.leaf_from, c.requires.leaf_in, c.requires.leaf_vacant) (fresh.0, fresh.1, fresh.2) fresh.3

pub rewrite-requires-2-clause-within : goal.rewrite-requires-2-clause-within
rewrite-requires-2-clause-within g c =
    let n = key_not _ _ _ c.has.ensures c.if-has.false in
    let place = found_grow _ _ _ _ _ _ _ _ _ (g.met.S.Section.reads _) c.in-Some.ensures.descent n in
    let e = c.grow_writes.ensures.writes _ (ends_in _ _ _ _ _ (g.met.S.Section.reads _) c.in-Some.ensures.descent c.in-Some.ensures.words) in
    let fresh = c.requires.inner_vacant (found_some _ _ _ _ _ _ _ _ _ (g.met.S.Section.reads _) c.in-Some.ensures.descent) in
    within_as _ _ _ e (grown_in_range (g.S.Section.section c.args.section.now) _ _ _ (g.met.S.Section.lawful _).at
    (g.met.S.Section.others_stay _ _ c.find.ensures.as_before) c.requires.lawful c.requires.root_from c.requires.root_in _ _ _ _
    (omega (arith, c.ranges.key.fits)) place (c.requires.leaf_from, c.requires.leaf_in, c.requires.leaf_vacant) (fresh.0, fresh.1, fresh.2) fresh.3)

pub rewrite-requires-2-clause-room : goal.rewrite-requires-2-clause-room
rewrite-requires-2-clause-room g c =
    let n = key_not _ _ _ c.has.ensures c.if-has.false in
    let place = found_grow _ _ _ _ _ _ _ _ _ (g.met.S.Section.reads _) c.in-Some.ensures.descent n in
    let e = c.grow_writes.ensures.writes _ (ends_in _ _ _ _ _ (g.met.S.Section.reads _) c.in-Some.ensures.descent c.in-Some.ensures.words) in
    room_as _ _ _ _ (g.met.S.Section.others_stay _ _ c.find.ensures.as_before) e (c.requires.room _ (beside_leaf _ _ place))

pub returns-in-Ok-rewrite-clause-no : goal.returns-in-Ok-rewrite-clause-no
returns-in-Ok-rewrite-clause-no g c =
    let has = found_has _ _ _ _ _ _ _ _ _ (g.met.S.Section.reads _) c.in-Some.ensures.descent c.requires.lawful c.requires.root_from c.requires.root_in in
    yes_denies _ (has_false _ _ _ has (key_not _ _ _ c.has.ensures c.if-has.false))

pub returns-in-Ok-rewrite-clause-yes : goal.returns-in-Ok-rewrite-clause-yes
returns-in-Ok-rewrite-clause-yes g c _ =
    let n = key_not _ _ _ c.has.ensures c.if-has.false in
    let place = found_grow _ _ _ _ _ _ _ _ _ (g.met.S.Section.reads _) c.in-Some.ensures.descent n in
    let e = c.grow_writes.ensures.writes _ (ends_in _ _ _ _ _ (g.met.S.Section.reads _) c.in-Some.ensures.descent c.in-Some.ensures.words) in
    let fresh = c.requires.inner_vacant (found_some _ _ _ _ _ _ _ _ _ (g.met.S.Section.reads _) c.in-Some.ensures.descent) in
    grown_gains _ _ _ _ _ _ _ c.requires.lawful c.requires.root_from c.requires.root_in (omega (arith, c.ranges.key.fits)) (
      c.requires.leaf_from,
      c.requires.leaf_in,
      c.requires.leaf_vacant,
    ) _ _ _ (fresh.0, fresh.1, fresh.2) fresh.3 place e
    (rewritten_before _ _ _ (g.met.S.Section.lawful _).at (g.met.S.Section.others_stay _ _ c.find.ensures.as_before)
    (g.met.S.Section.goes_on _ _ c.find.ensures.as_before) _ _ c.in-Ok-rewrite.ensures.written)

pub returns-in-Err-rewrite-clause-no : goal.returns-in-Err-rewrite-clause-no
returns-in-Err-rewrite-clause-no g c =
    let has = found_has _ _ _ _ _ _ _ _ _ (g.met.S.Section.reads _) c.in-Some.ensures.descent c.requires.lawful c.requires.root_from c.requires.root_in in
    again_denies _ _ (has_false _ _ _ has (key_not _ _ _ c.has.ensures c.if-has.false))

pub returns-in-Err-rewrite-clause-again : goal.returns-in-Err-rewrite-clause-again
returns-in-Err-rewrite-clause-again g c refusal w =
    let n = key_not _ _ _ c.has.ensures c.if-has.false in
    let place = found_grow _ _ _ _ _ _ _ _ _ (g.met.S.Section.reads _) c.in-Some.ensures.descent n in
    let e = c.grow_writes.ensures.writes _ (ends_in _ _ _ _ _ (g.met.S.Section.reads _) c.in-Some.ensures.descent c.in-Some.ensures.words) in
    let q : c.in-Err-rewrite.refusal ≡ refusal = again_refusal _ _ w in (
      _,
      beside_leaf _ _ place,
      refuses_as _ _ _ (g.met.S.Section.lawful _).at (g.met.S.Section.others_stay _ _ c.find.ensures.as_before)
          (g.met.S.Section.goes_on _ _ c.find.ensures.as_before) _ _ _ _ _ _ e q c.in-Err-rewrite.ensures.refused,
    )

pub returns-then-has-clause-unchanged : goal.returns-then-has-clause-unchanged
returns-then-has-clause-unchanged g c _ = c.find.ensures.as_before

pub returns-then-has-clause-yes : goal.returns-then-has-clause-yes
returns-then-has-clause-yes g c e = absurd (no_not_yes e)

pub returns-then-has-clause-again : goal.returns-then-has-clause-again
returns-then-has-clause-again g c refusal e = absurd (no_not_again _ e)

pub returns-in-Ok-clause-unchanged : goal.returns-in-Ok-clause-unchanged
returns-in-Ok-clause-unchanged g c e = absurd (yes_not_no e)

pub returns-in-Ok-clause-again : goal.returns-in-Ok-clause-again
returns-in-Ok-clause-again g c refusal e = absurd (yes_not_again _ e)

pub returns-in-Err-clause-unchanged : goal.returns-in-Err-clause-unchanged
returns-in-Err-clause-unchanged g c e = absurd (again_not_no _ e)

pub returns-in-Err-clause-yes : goal.returns-in-Err-clause-yes
returns-in-Err-clause-yes g c e = absurd (again_not_yes _ e)

pub returns-in-Ok-rewrite-clause-unchanged : goal.returns-in-Ok-rewrite-clause-unchanged
returns-in-Ok-rewrite-clause-unchanged g c e = absurd (yes_not_no e)

pub returns-in-Ok-rewrite-clause-again : goal.returns-in-Ok-rewrite-clause-again
returns-in-Ok-rewrite-clause-again g c refusal e = absurd (yes_not_again _ e)

pub returns-in-Err-rewrite-clause-unchanged : goal.returns-in-Err-rewrite-clause-unchanged
returns-in-Err-rewrite-clause-unchanged g c e = absurd (again_not_no _ e)

pub returns-in-Err-rewrite-clause-yes : goal.returns-in-Err-rewrite-clause-yes
returns-in-Err-rewrite-clause-yes g c e = absurd (again_not_yes _ e)
