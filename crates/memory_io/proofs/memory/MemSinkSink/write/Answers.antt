use Rattle.std.proofs.Common.{◌∙◌, ◌++◌, length, take, refl, ap, inl, inr, arith}
use Rattle.std.proofs.lemmas.Bool.{false≢true}
use Rattle.host_io.specs.Outside.{next_count}
use Rattle.memory_io.specs.Memory.{SinkState}
use Rattle.host_io.proofs.Counts.{has_cause}
use Rattle.memory_io.proofs.Calls.{is_not_in}
use Rattle.memory_io.proofs.memory.MemSinkSink.write.Goals as goal

pub returns-then-is_listed-clause-cause : goal.returns-then-is_listed-clause-cause
returns-then-is_listed-clause-cause c =
    has_cause _ _ c.self.inside.faults _ (ap (λ (v : SinkState). v.faults) c.self.view_is) (omega arith) c.saturating_add-self-inside-then-is_listed.ensures

pub returns-then-is_listed-clause-err : goal.returns-then-is_listed-clause-err
returns-then-is_listed-clause-err c =
    rw (← c.self.view_is, c.saturating_add-self-inside.ensures, c.saturating_add-self-inside-then-is_listed.ensures) refl

pub returns-clause-fails : goal.returns-clause-fails
returns-clause-fails c =
    let list = c.deref.ensures.value ∙ ap (λ (v : SinkState). v.fails) c.self.view_is in
    let number = c.saturating_add-self-inside.ensures ∙ ap (λ (v : SinkState). next_count v.calls) c.self.view_is in
    let room = ap (λ (v : SinkState). v.room) c.self.view_is in
    let long = ap (λ (v : SinkState). length v.written) c.self.view_is in (
      λ e. absurd (false≢true e),
      λ h. absurd (elim h as (λ _. ⊥) [
        | inl x ↦ is_not_in _ _ c.args.self.now.calls _ _ list number c.is_listed.ensures c.if-is_listed.false x
        | inr full ↦ omega (arith, full, c.if-len-self.false, c.len.ensures, room, long)
      ]),
    )

pub returns-clause-takes : goal.returns-clause-takes
returns-clause-takes c = (
  c.put_all.ensures.items ∙ ap (λ (v : SinkState). v.written ++ take c.min-count.result c.args.piece.now) c.self.view_is,
  omega (arith, c.requires, c.self.invariant.0, c.if-len-self.false, c.len.ensures, c.len-2.ensures, c.min.ensures, c.min-count.ensures),
  omega (arith, c.min.ensures, c.min-count.ensures),
)

pub returns-clause-count : goal.returns-clause-count
returns-clause-count c =
    let room = ap (λ (v : SinkState). v.room) c.self.view_is in
    let most = ap (λ (v : SinkState). v.most) c.self.view_is in
    let long = ap (λ (v : SinkState). length v.written) c.self.view_is in
    omega (arith, c.len-2.ensures, c.min.ensures, c.min-count.ensures, room, most, long)
