use Rattle.std.proofs.Common.{◌≡◌, refl, arith}
use Rattle.list_set.specs.declared.answers.SetStep.TheVariants.{Yes, No}
use Rattle.list_set.proofs.Filling.{filled_same, filled_room_one, filled_put}
use Rattle.set_tests.proofs.lists.put.Goals as goal

pub put_in-requires-clause-room : goal.put_in-requires-clause-room
put_in-requires-clause-room g c node _ =
    filled_room_one _ _ node (filled_same _ _ _ (g.met.S.Section.lawful _).at (g.met.S.Section.others_stay _ _ c.has_in.ensures.as_before) c.requires.filled)
    (omega arith)

pub put_in-requires-in-Table-clause-room : goal.put_in-requires-in-Table-clause-room
put_in-requires-in-Table-clause-room g c node _ =
    filled_room_one _ _ node (filled_same _ _ _ (g.met.S.Section.lawful _).at (g.met.S.Section.others_stay _ _ c.has_in-in-Table.ensures.as_before) c.requires.filled)
    (omega arith)

pub returns-else-not-has_in-clause-no : goal.returns-else-not-has_in-clause-no
returns-else-not-has_in-clause-no g c e =
    let no : c.put_in.result ≡ No = cc in
    let same = g.met.S.View.as_long_before _ _ _ c.has_in.ensures.as_before (c.put_in.ensures.unchanged no) in
    filled_same _ _ _ (g.met.S.Section.lawful _).at (g.met.S.Section.others_stay _ _ same) c.requires.filled

pub returns-else-not-has_in-clause-yes : goal.returns-else-not-has_in-clause-yes
returns-else-not-has_in-clause-yes g c e =
    let yes : c.put_in.result ≡ Yes = cc in
    filled_put _ _ _ _ _ _ _
    (filled_same _ _ _ (g.met.S.Section.lawful _).at (g.met.S.Section.others_stay _ _ c.has_in.ensures.as_before) c.requires.filled) refl
    (c.put_in.ensures.yes yes)

pub returns-else-not-has_in-2-clause-no : goal.returns-else-not-has_in-2-clause-no
returns-else-not-has_in-2-clause-no g c e =
    let no : c.put_in-in-Table.result ≡ No = cc in
    let same = g.met.S.View.as_long_before _ _ _ c.has_in-in-Table.ensures.as_before (c.put_in-in-Table.ensures.unchanged no) in
    filled_same _ _ _ (g.met.S.Section.lawful _).at (g.met.S.Section.others_stay _ _ same) c.requires.filled

pub returns-else-not-has_in-2-clause-yes : goal.returns-else-not-has_in-2-clause-yes
returns-else-not-has_in-2-clause-yes g c e =
    let yes : c.put_in-in-Table.result ≡ Yes = cc in
    filled_put _ _ _ _ _ _ _
    (filled_same _ _ _ (g.met.S.Section.lawful _).at (g.met.S.Section.others_stay _ _ c.has_in-in-Table.ensures.as_before) c.requires.filled) refl
    (c.put_in-in-Table.ensures.yes yes)
