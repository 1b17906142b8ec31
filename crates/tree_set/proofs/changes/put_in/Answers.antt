use Rattle.std.proofs.Common.{◌≡◌, ap, ◌∙◌, refl, Some}
use Rattle.mv_history.specs.Legal.{are_distinct}
use Rattle.set_model.proofs.ObjectWords.{word}
use Rattle.list_set.proofs.Answering.{no_not_yes, no_not_again, yes_not_no, yes_not_again, again_not_no, again_not_yes, again_refusal}
use Rattle.list_set.proofs.Windows.{rewritten_before, refuses_as, room_as}
use Rattle.tree_set.proofs.Found.{found_none}
use Rattle.tree_set.proofs.Planning.{ends_in, within_as}
use Rattle.tree_set.proofs.Changing.{put_found, put_within, put_gains, no_other}
use Rattle.tree_set.proofs.changes.put_in.Goals as goal

pub find_leaf-descent-requires-clause-some : goal.find_leaf-descent-requires-clause-some
find_leaf-descent-requires-clause-some g c e =
    let none = found_none _ _ c.args.root c.args.key (g.met.S.Section.reads _) e c.requires.lawful c.requires.root_from c.requires.root_in in
    let present = c.requires.present in absurd (cc)

pub returns-then-descent-value-clause-no : goal.returns-then-descent-value-clause-no
returns-then-descent-value-clause-no g c =
    let f = put_found _ _ _ _ _ _ _ _ _ (g.met.S.Section.reads _) c.find_leaf-descent.ensures.descent c.requires.lawful c.requires.root_from c.requires.root_in
    c.requires.present in
    (λ _. f.value_is ∙ ap Some c.if-descent-value.true, λ _. refl)

pub rewrite-requires-clause-distinct : goal.rewrite-requires-clause-distinct
rewrite-requires-clause-distinct g c =
    let f = put_found _ _ _ _ _ _ _ _ _ (g.met.S.Section.reads _) c.find_leaf-descent.ensures.descent c.requires.lawful c.requires.root_from c.requires.root_in
    c.requires.present in
    let e = c.put_writes.ensures.writes _ _ _ (ends_in _ _ _ _ _ (g.met.S.Section.reads _) c.find_leaf-descent.ensures.descent
    c.find_leaf-descent.ensures.words) in
    ap are_distinct e ∙ refl

pub rewrite-requires-clause-within : goal.rewrite-requires-clause-within
rewrite-requires-clause-within g c =
    let f = put_found _ _ _ _ _ _ _ _ _ (g.met.S.Section.reads _) c.find_leaf-descent.ensures.descent c.requires.lawful c.requires.root_from c.requires.root_in
    c.requires.present in
    let e = c.put_writes.ensures.writes _ _ _ (ends_in _ _ _ _ _ (g.met.S.Section.reads _) c.find_leaf-descent.ensures.descent
    c.find_leaf-descent.ensures.words) in
    within_as _ _ _ e (put_within _ _ _ _ _ (g.met.S.Section.lawful _).at (g.met.S.Section.others_stay _ _ c.find_leaf-descent.ensures.as_before) f.is)

pub rewrite-requires-clause-room : goal.rewrite-requires-clause-room
rewrite-requires-clause-room g c =
    let f = put_found _ _ _ _ _ _ _ _ _ (g.met.S.Section.reads _) c.find_leaf-descent.ensures.descent c.requires.lawful c.requires.root_from c.requires.root_in
    c.requires.present in
    let e = c.put_writes.ensures.writes _ _ _ (ends_in _ _ _ _ _ (g.met.S.Section.reads _) c.find_leaf-descent.ensures.descent
    c.find_leaf-descent.ensures.words) in
    room_as _ _ _ _ (g.met.S.Section.others_stay _ _ c.find_leaf-descent.ensures.as_before) e (c.requires.room _ f.is)

pub returns-in-Ok-clause-no : goal.returns-in-Ok-clause-no
returns-in-Ok-clause-no g c =
    let f = put_found _ _ _ _ _ _ _ _ _ (g.met.S.Section.reads _) c.find_leaf-descent.ensures.descent c.requires.lawful c.requires.root_from c.requires.root_in
    c.requires.present in
    (λ e. absurd (yes_not_no e), λ t. absurd (no_other c.args.key c.args.value _ _ f.value_is c.if-descent-value.false t))

pub returns-in-Ok-clause-yes : goal.returns-in-Ok-clause-yes
returns-in-Ok-clause-yes g c _ =
    let f = put_found _ _ _ _ _ _ _ _ _ (g.met.S.Section.reads _) c.find_leaf-descent.ensures.descent c.requires.lawful c.requires.root_from c.requires.root_in
    c.requires.present in
    let e = c.put_writes.ensures.writes _ _ _ (ends_in _ _ _ _ _ (g.met.S.Section.reads _) c.find_leaf-descent.ensures.descent
    c.find_leaf-descent.ensures.words) in
    put_gains _ _ _ _ c.requires.lawful c.requires.root_from c.requires.root_in _ _ _ f.is (λ q. c.if-descent-value.false (ap (word 5) f.words_are ∙ q)) e
    (rewritten_before _ _ _ (g.met.S.Section.lawful _).at (g.met.S.Section.others_stay _ _ c.find_leaf-descent.ensures.as_before)
    (g.met.S.Section.goes_on _ _ c.find_leaf-descent.ensures.as_before) _ _ c.in-Ok.ensures.written)

pub returns-in-Err-clause-no : goal.returns-in-Err-clause-no
returns-in-Err-clause-no g c =
    let f = put_found _ _ _ _ _ _ _ _ _ (g.met.S.Section.reads _) c.find_leaf-descent.ensures.descent c.requires.lawful c.requires.root_from c.requires.root_in
    c.requires.present in
    (λ e. absurd (again_not_no _ e), λ t. absurd (no_other c.args.key c.args.value _ _ f.value_is c.if-descent-value.false t))

pub returns-in-Err-clause-again : goal.returns-in-Err-clause-again
returns-in-Err-clause-again g c refusal w =
    let f = put_found _ _ _ _ _ _ _ _ _ (g.met.S.Section.reads _) c.find_leaf-descent.ensures.descent c.requires.lawful c.requires.root_from c.requires.root_in
    c.requires.present in
    let e = c.put_writes.ensures.writes _ _ _ (ends_in _ _ _ _ _ (g.met.S.Section.reads _) c.find_leaf-descent.ensures.descent
    c.find_leaf-descent.ensures.words) in
    let q : c.in-Err.refusal ≡ refusal = again_refusal _ _ w in (
      c.find_leaf-descent.result.leaf,
      f.is,
      refuses_as _ _ _ (g.met.S.Section.lawful _).at (g.met.S.Section.others_stay _ _ c.find_leaf-descent.ensures.as_before)
          (g.met.S.Section.goes_on _ _ c.find_leaf-descent.ensures.as_before) _ _ _ _ _ _ e q c.in-Err.ensures.refused,
    )

pub returns-then-descent-value-clause-unchanged : goal.returns-then-descent-value-clause-unchanged
returns-then-descent-value-clause-unchanged g c _ = c.find_leaf-descent.ensures.as_before

pub returns-then-descent-value-clause-yes : goal.returns-then-descent-value-clause-yes
returns-then-descent-value-clause-yes g c e = absurd (no_not_yes e)

pub returns-then-descent-value-clause-again : goal.returns-then-descent-value-clause-again
returns-then-descent-value-clause-again g c refusal e = absurd (no_not_again _ e)

pub returns-in-Ok-clause-unchanged : goal.returns-in-Ok-clause-unchanged
returns-in-Ok-clause-unchanged g c e = absurd (yes_not_no e)

pub returns-in-Ok-clause-again : goal.returns-in-Ok-clause-again
returns-in-Ok-clause-again g c refusal e = absurd (yes_not_again _ e)

pub returns-in-Err-clause-unchanged : goal.returns-in-Err-clause-unchanged
returns-in-Err-clause-unchanged g c e = absurd (again_not_no _ e)

pub returns-in-Err-clause-yes : goal.returns-in-Err-clause-yes
returns-in-Err-clause-yes g c e = absurd (again_not_yes _ e)
