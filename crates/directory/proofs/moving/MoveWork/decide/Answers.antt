use Rattle.std.proofs.Common.{◌≡◌, ℕ, ap, ◌∙◌, refl, arith, Some, None}
use Rattle.std.specs.Prelude.{Option}
use Rattle.mv_history.specs.State.{State}
use Rattle.directory.specs.Ring.{node_at}
use Rattle.directory.proofs.Placed.{there}
use Rattle.directory.proofs.Seeing.{readable}
use Rattle.directory.proofs.Planned.{directory_read, planned}
use Rattle.directory.proofs.moving.MoveWork.decide.Goals as goal

none_is : (r : Option ℕ) → ((x : ℕ) → r ≡ Some x → ⊥) → r ≡ None
none_is None h = refl
none_is (Some x) h = absurd (h x refl)

pub find_before-requires-clause-shelf : goal.find_before-requires-clause-shelf
find_before-requires-clause-shelf g c = omega (arith, c.requires.accepts.shelf_is)

pub find_before-requires-clause-directory : goal.find_before-requires-clause-directory
find_before-requires-clause-directory g c = let here = c.requires.here.1 in directory_read _ _ here.state_is here.own here.lawful

pub returns-in_default-clause-found : goal.returns-in_default-clause-found
returns-in_default-clause-found g c = λ last.
    let here = c.requires.here.1 in
    there _ _ _ (directory_read _ _ here.state_is here.own here.lawful) c.requires.accepts
    (c.find_before.ensures.absent (none_is c.find_before.result c.in_default.not-Some))

pub read_record-source-requires : goal.read_record-source-requires
read_record-source-requires g c =
    let d = directory_read _ _ c.requires.here.1.state_is c.requires.here.1.own c.requires.here.1.lawful in
    let same = g.met.V.View.same_state _ _ c.find_before.ensures.as_before in
    let r = readable d same (c.find_before.ensures.found c.in-Some.before c.in-Some.is).below in record { in_range = r.0; words = r.1 }

pub read_record-node-requires : goal.read_record-node-requires
read_record-node-requires g c =
    let d = directory_read _ _ c.requires.here.1.state_is c.requires.here.1.own c.requires.here.1.lawful in
    let same = g.met.V.View.same_state _ _ c.read_record-source.ensures.as_before ∙ g.met.V.View.same_state _ _ c.find_before.ensures.as_before in
    let r = readable d same c.requires.accepts.below in record { in_range = r.0; words = r.1 }

pub read_record-target-requires : goal.read_record-target-requires
read_record-target-requires g c =
    let d = directory_read _ _ c.requires.here.1.state_is c.requires.here.1.own c.requires.here.1.lawful in
    let same = g.met.V.View.same_state _ _ c.read_record-node.ensures.as_before
    ∙ g.met.V.View.same_state _ _ c.read_record-source.ensures.as_before ∙ g.met.V.View.same_state _ _ c.find_before.ensures.as_before in
    let r = readable d same (omega (arith, c.requires.accepts.shelf_is)) in record { in_range = r.0; words = r.1 }

pub returns-clause-found : goal.returns-clause-found
returns-clause-found g c =
    let d = directory_read _ _ c.requires.here.1.state_is c.requires.here.1.own c.requires.here.1.lawful in
    let b = c.find_before.ensures.found c.in-Some.before c.in-Some.is in
    let one = g.met.V.View.same_state _ _ c.find_before.ensures.as_before in
    let two = g.met.V.View.same_state _ _ c.read_record-source.ensures.as_before ∙ one in
    let three = g.met.V.View.same_state _ _ c.read_record-node.ensures.as_before ∙ two in (
      b.on,
      planned (g.V.View.state c.args.view) c.in-Some.before c.args.self.now.user c.args.self.now.shelf _ _ _ _ _ _ d c.requires.accepts b
          (c.read_record-source.ensures.record ∙ ap (λ (u : State). node_at u c.in-Some.before) one)
          (c.read_record-node.ensures.record ∙ ap (λ (u : State). node_at u c.args.self.now.user) two)
          (c.read_record-target.ensures.record ∙ ap (λ (u : State). node_at u c.args.self.now.shelf) three)
          c.linked.ensures c.linked-2.ensures c.linked-3.ensures,
    )

pub returns-clause-as_before : goal.returns-clause-as_before
returns-clause-as_before g c =
    let long = g.met.V.View.as_long_before in
    long _ _ _ c.find_before.ensures.as_before
    (long _ _ _ c.read_record-source.ensures.as_before (long _ _ _ c.read_record-node.ensures.as_before c.read_record-target.ensures.as_before))
