use Rattle.std.proofs.Common.{ap, ◌∙◌, subst}
use Rattle.mv_history.specs.State.{State}
use Rattle.mv_history.specs.Meaning.{Seat}
use Rattle.mv_history.specs.Calls.{Leaves}
use Rattle.mv_history.proofs.Steps.{Continues-Continues}
use Rattle.directory.specs.declared.layout.DirectoryNode.{DirectoryNode}
use Rattle.directory.specs.Ring.{node_at}
use Rattle.directory.proofs.Planned.{directory_read}
use Rattle.directory.proofs.Seeing.{readable, seen_by}
use Rattle.directory.proofs.reading.look_up.Goals as goal

pub shelf_of-shelf-requires-clause-directory : goal.shelf_of-shelf-requires-clause-directory
shelf_of-shelf-requires-clause-directory g c =
    directory_read _ _ (g.met.S.Open.Section.reads c.begin-section.result) c.begin-section.ensures.enters.own (g.met.S.Open.Section.lawful _)

pub read_record-node-requires : goal.read_record-node-requires
read_record-node-requires g c =
    let d = directory_read _ _ (g.met.S.Open.Section.reads c.begin-section.result) c.begin-section.ensures.enters.own (g.met.S.Open.Section.lawful _) in
    let r = readable d (g.met.S.Open.View.same_state _ _ c.shelf_of-shelf.ensures.as_before) c.requires.below in
    record { in_range = r.0; words = r.1 }

pub returns-clause-seen : goal.returns-clause-seen
returns-clause-seen g c =
    let before = g.met.S.Open.View.as_long_before _ _ _ c.shelf_of-shelf.ensures.as_before c.read_record-node.ensures.as_before in
    let same = g.met.S.Open.View.same_state _ _ c.shelf_of-shelf.ensures.as_before in
    seen_by g.S.Store.took _ _ (g.S.Open.Section.section c.begin-section.result) (g.S.Open.Section.section c.read_record-node.new.view) _ c.args.user _
    c.begin-section.ensures.enters c.begin-section.ensures.took (g.met.S.Open.Section.reads c.begin-section.result) (g.met.S.Open.Section.lawful _)
    (g.met.S.Open.Section.others_stay _ _ before)
    (subst (λ (s : Seat). Leaves (g.S.Open.Section.section c.read_record-node.new.view) s) (g.met.S.Store.same_seat _) c.leave.ensures.leaves)
    c.at-time.ensures c.shelf_of-shelf.ensures.on
    (ap (λ (n : DirectoryNode). n.id) c.read_record-node.ensures.record ∙ ap (λ (u : State). (node_at u c.args.user).id) same)

pub returns-clause-continues : goal.returns-clause-continues
returns-clause-continues g c =
    let before = g.met.S.Open.View.as_long_before _ _ _ c.shelf_of-shelf.ensures.as_before c.read_record-node.ensures.as_before in
    let left = subst (λ (s : Seat). Leaves (g.S.Open.Section.section c.read_record-node.new.view) s) (g.met.S.Store.same_seat _) c.leave.ensures.leaves in
    Continues-Continues c.begin-section.ensures.enters.seat.continues
    (Continues-Continues (g.met.S.Open.Section.others_stay _ _ before).seat.continues left.continues)
