use Rattle.std.proofs.Common.{◌+◌, ◌≤◌}
use Rattle.grow_hash.proofs.Terms.{refl, sym, ◌∙◌, subst, take, length, ℕ, State, IsPlannedSplit}
use Rattle.grow_hash.proofs.split.Reads.{bucket_linked, planned_by}
use Rattle.grow_hash.proofs.split_work.plan_split.Goals as goal
use Rattle.set_model.specs.Objects.{most_objects}

pub read_bucket-bucket-requires-clause-linked : goal.read_bucket-bucket-requires-clause-linked
read_bucket-bucket-requires-clause-linked g c =
    let t = c.table_of-level in
    bucket_linked g.row.LEVELS _ _ t.result.0 t.result.1 _ c.requires.lawful t.ensures.level t.ensures.place (g.met.V.View.same_state _ _ t.ensures.as_before)
    refl

pub returns-clause-planned : goal.returns-clause-planned
returns-clause-planned g c =
    let t = c.table_of-level in
    let b = c.read_bucket-bucket in
    subst (λ (p : ℕ). IsPlannedSplit g.row.LEVELS (g.V.View.state c.args.view.now) p (take c.part.result.count c.part.result.writes)) (sym c.part.ensures.place)
    (planned_by g.row.LEVELS _ _ t.result.0 t.result.1 (t.result.1 + 1) c.requires.lawful t.ensures.level t.ensures.place
    (g.met.V.View.same_state _ _ t.ensures.as_before) b.result.keys _ _ (λ e. c.if-level-most_level.false (e ∙ sym c.most_level.ensures)) refl b.ensures.keys
    c.if-bucket-gt-MOST_SPLIT.false (b.ensures.nodes c.if-bucket-gt-MOST_SPLIT.false) c.part.ensures.writes)

pub returns-clause-as_before : goal.returns-clause-as_before
returns-clause-as_before g c =
    g.met.V.View.as_long_before _ _ _ c.table_of-level.ensures.as_before c.read_bucket-bucket.ensures.as_before

pub returns-then-level-most_level-clause-as_before : goal.returns-then-level-most_level-clause-as_before
returns-then-level-most_level-clause-as_before g c = c.table_of-level.ensures.as_before

pub returns-then-bucket-gt-MOST_SPLIT-clause-as_before : goal.returns-then-bucket-gt-MOST_SPLIT-clause-as_before
returns-then-bucket-gt-MOST_SPLIT-clause-as_before g c =
    g.met.V.View.as_long_before _ _ _ c.table_of-level.ensures.as_before c.read_bucket-bucket.ensures.as_before

pub read_bucket-bucket-requires-clause-few : goal.read_bucket-bucket-requires-clause-few
read_bucket-bucket-requires-clause-few g c =
    subst (λ (s : State). length s ≤ most_objects) (sym (g.met.V.View.same_state _ _ c.table_of-level.ensures.as_before)) c.requires.lawful.few
