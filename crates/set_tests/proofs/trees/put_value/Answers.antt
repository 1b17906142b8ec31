use Rattle.std.proofs.Common.{◌≡◌, true, refl, arith, sym, subst}
use Rattle.mv_history.specs.State.{State}
use Rattle.set_model.specs.Lawful.{IsLawful}
use Rattle.set_model.specs.Catalogue.{has_key, map_of}
use Rattle.set_model.specs.CatalogueOf.{name_of, catalogue_of}
use Rattle.tree_set.proofs.Filling.{put_room, filled_put, filled_same}
use Rattle.set_tests.proofs.Reading.{still}
use Rattle.set_tests.proofs.trees.put_value.Goals as goal

pub has_in-requires-clause-lawful : goal.has_in-requires-clause-lawful
has_in-requires-clause-lawful g c = subst IsLawful (sym (g.met.S.Section.reads _)) c.requires.filled.lawful

pub put_in-requires-clause-lawful : goal.put_in-requires-clause-lawful
put_in-requires-clause-lawful g c =
    still IsLawful _ _ (g.met.S.Section.lawful _).at (g.met.S.Section.others_stay _ _ c.has_in.ensures.as_before) c.requires.filled.lawful

pub put_in-requires-clause-present : goal.put_in-requires-clause-present
put_in-requires-clause-present g c =
    still (λ (u : State). has_key c.args.key (map_of (name_of c.args.root) (catalogue_of u)) ≡ true) _ _ (g.met.S.Section.lawful _).at
    (g.met.S.Section.others_stay _ _ c.has_in.ensures.as_before)
    (subst (λ (u : State). has_key c.args.key (map_of (name_of c.args.root) (catalogue_of u)) ≡ true) (g.met.S.Section.reads _)
    (sym c.if-not-has_in.ensures.has))

pub put_in-requires-clause-room : goal.put_in-requires-clause-room
put_in-requires-clause-room g c leaf is =
    put_room _ _ _ _ leaf (filled_same _ _ _ _ (g.met.S.Section.lawful _).at (g.met.S.Section.others_stay _ _ c.has_in.ensures.as_before) c.requires.filled)
    (omega arith) is

pub put_in-requires-2-clause-lawful : goal.put_in-requires-2-clause-lawful
put_in-requires-2-clause-lawful g c =
    let same = g.met.S.View.as_long_before _ _ _ c.has_in.ensures.as_before (c.in-No.ensures.unchanged refl) in
    still IsLawful _ _ (g.met.S.Section.lawful _).at (g.met.S.Section.others_stay _ _ same) c.requires.filled.lawful

pub put_in-requires-2-clause-present : goal.put_in-requires-2-clause-present
put_in-requires-2-clause-present g c =
    let same = g.met.S.View.as_long_before _ _ _ c.has_in.ensures.as_before (c.in-No.ensures.unchanged refl) in
    still (λ (u : State). has_key c.args.key (map_of (name_of c.args.root) (catalogue_of u)) ≡ true) _ _ (g.met.S.Section.lawful _).at
    (g.met.S.Section.others_stay _ _ same)
    (subst (λ (u : State). has_key c.args.key (map_of (name_of c.args.root) (catalogue_of u)) ≡ true) (g.met.S.Section.reads _)
    (sym c.if-not-has_in.ensures.has))

pub put_in-requires-2-clause-room : goal.put_in-requires-2-clause-room
put_in-requires-2-clause-room g c leaf is =
    let same = g.met.S.View.as_long_before _ _ _ c.has_in.ensures.as_before (c.in-No.ensures.unchanged refl) in
    put_room _ _ _ _ leaf (filled_same _ _ _ _ (g.met.S.Section.lawful _).at (g.met.S.Section.others_stay _ _ same) c.requires.filled) (omega arith) is

pub returns : goal.returns
returns g c _ =
    let same = g.met.S.View.as_long_before _ _ _ c.has_in.ensures.as_before (c.in-No.ensures.unchanged refl) in
    filled_put _ _ _ _ _ _ c.requires.root_in
    (filled_same _ _ _ _ (g.met.S.Section.lawful _).at (g.met.S.Section.others_stay _ _ same) c.requires.filled) (c.in-Yes.ensures.yes refl)
