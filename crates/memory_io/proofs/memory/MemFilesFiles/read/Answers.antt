use Rattle.std.proofs.Common.{◌≡◌, ◌+◌, ◌∙◌, Some, drop, length, map, refl, sym, ap, arith}
use Rattle.std.proofs.lemmas.Bool.{false≢true}
use Rattle.host_io.specs.Outside.{next_count}
use Rattle.memory_io.specs.Memory.{FilesState, named, left_from}
use Rattle.host_io.specs.Told.{name_in}
use Rattle.memory_io.proofs.Calls.{if_named, is_told, is_in, is_not_in, lists_none}
use Rattle.memory_io.proofs.Texts.{left_at, consumed, counted}
use Rattle.memory_io.proofs.memory.MemFilesFiles.read.Goals as goal

pub returns-clause-bytes : goal.returns-clause-bytes
returns-clause-bytes c =
    let ts = c.self.inside.texts.items in
    let p = c.self.inside.place in
    let n = c.move_bytes-count.result in
    let lt = c.self.invariant.1 c.in-Some.opened c.in-Some.is in
    let at = c.index.ensures in
    let before : left_from (map named ts) c.self.inside.opened p ≡ Some (drop p c.deref-2.result.now) =
    rw (c.in-Some.is, c.deref-2.ensures.value) (left_at ts c.in-Some.opened p c.index.result.now lt at) in
    let after : left_from (map named ts) c.self.inside.opened (p + n) ≡ Some (drop (p + n) c.deref-2.result.now) =
    rw (c.in-Some.is, c.deref-2.ensures.value) (left_at ts c.in-Some.opened (p + n) c.index.result.now lt at) in
    let old = sym (ap (λ (v : FilesState). v.left) c.self.view_is) ∙ before in
    consumed _ _ c.deref-2.result.now _ p n c.self.inside.most (length c.move_bytes-count.new.into) old after c.move_bytes-count.ensures.moved
    (rw c.move_bytes-count.auto.into c.move_bytes-count.ensures.count) c.self.invariant.0

pub returns-clause-count : goal.returns-clause-count
returns-clause-count c =
    let ts = c.self.inside.texts.items in
    let p = c.self.inside.place in
    let lt = c.self.invariant.1 c.in-Some.opened c.in-Some.is in
    let before : left_from (map named ts) c.self.inside.opened p ≡ Some (drop p c.deref-2.result.now) =
    rw (c.in-Some.is, c.deref-2.ensures.value) (left_at ts c.in-Some.opened p c.index.result.now lt c.index.ensures) in
    let old = sym (ap (λ (v : FilesState). v.left) c.self.view_is) ∙ before in
    let most : c.self.inside.most ≡ c.args.self.now.most = ap (λ (v : FilesState). v.most) c.self.view_is in
    rw (← most) (counted _ c.deref-2.result.now p _ c.self.inside.most _ old c.move_bytes-count.ensures.count)

pub returns-clause-fails : goal.returns-clause-fails
returns-clause-fails c =
    let list = c.deref.ensures.value ∙ ap (λ (v : FilesState). v.fails) c.self.view_is in
    let number = c.saturating_add-self-inside.ensures ∙ ap (λ (v : FilesState). next_count v.calls) c.self.view_is in
    (λ e. absurd (false≢true e), λ x. absurd (is_not_in _ _ c.args.self.now.calls _ _ list number c.is_listed.ensures c.if-is_listed.false x))

pub returns-then-is_listed-clause-fails : goal.returns-then-is_listed-clause-fails
returns-then-is_listed-clause-fails c =
    let list = c.deref.ensures.value ∙ ap (λ (v : FilesState). v.fails) c.self.view_is in
    let number = c.saturating_add-self-inside.ensures ∙ ap (λ (v : FilesState). next_count v.calls) c.self.view_is in
    (λ _. is_in _ _ c.args.self.now.calls _ _ list number c.is_listed.ensures c.if-is_listed.true, λ _. refl)

pub returns-then-is_listed-clause-succeeds : goal.returns-then-is_listed-clause-succeeds
returns-then-is_listed-clause-succeeds c =
    let list = c.deref.ensures.value ∙ ap (λ (v : FilesState). v.fails) c.self.view_is in
    let number = c.saturating_add-self-inside.ensures ∙ ap (λ (v : FilesState). next_count v.calls) c.self.view_is in
    λ none. absurd (lists_none _ _ none (is_in _ _ c.args.self.now.calls _ _ list number c.is_listed.ensures c.if-is_listed.true))

pub returns-then-is_listed-clause-told : goal.returns-then-is_listed-clause-told
returns-then-is_listed-clause-told c =
    if_named c.self.inside.opened (name_in c.self.inside.told) _ _ (sym (ap (λ (v : FilesState). v.opened) c.self.view_is))
    (is_told _ c.args.self.now c.self.inside.faults _ _ _ _ (ap (λ (v : FilesState). v.faults) c.self.view_is) (omega arith)
    c.saturating_add-self-inside-then-is_listed.ensures (ap (λ (v : FilesState). v.failures) c.self.view_is) c.read_fails.ensures.failures)

pub returns-then-is_listed-clause-err : goal.returns-then-is_listed-clause-err
returns-then-is_listed-clause-err c =
    rw (← c.self.view_is, c.saturating_add-self-inside.ensures, c.saturating_add-self-inside-then-is_listed.ensures, c.read_fails.ensures.name) refl
