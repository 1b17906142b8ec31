use Rattle.std.proofs.Common.{◌≡◌, ◌∙◌, None, map, refl, sym, ap, inl, inr, arith}
use Rattle.host_io.specs.Outside.{next_count}
use Rattle.memory_io.specs.Memory.{FilesState, named, text_of}
use Rattle.memory_io.proofs.Calls.{is_told, is_in, lists_none}
use Rattle.memory_io.proofs.memory.MemFilesFiles.open.Goals as goal

pub returns-then-is_listed-clause-fails : goal.returns-then-is_listed-clause-fails
returns-then-is_listed-clause-fails c =
    let list = c.deref.ensures.value ∙ ap (λ (v : FilesState). v.fails) c.self.view_is in
    let number = c.saturating_add-self-inside.ensures ∙ ap (λ (v : FilesState). next_count v.calls) c.self.view_is in
    (λ _. inl (is_in _ _ c.args.self.now.calls _ _ list number c.is_listed.ensures c.if-is_listed.true), λ _. refl)

pub returns-then-is_listed-clause-succeeds : goal.returns-then-is_listed-clause-succeeds
returns-then-is_listed-clause-succeeds c =
    let list = c.deref.ensures.value ∙ ap (λ (v : FilesState). v.fails) c.self.view_is in
    let number = c.saturating_add-self-inside.ensures ∙ ap (λ (v : FilesState). next_count v.calls) c.self.view_is in
    λ none _. absurd (lists_none _ _ none (is_in _ _ c.args.self.now.calls _ _ list number c.is_listed.ensures c.if-is_listed.true))

pub returns-then-is_listed-clause-told : goal.returns-then-is_listed-clause-told
returns-then-is_listed-clause-told c =
    is_told _ c.args.self.now c.self.inside.faults _ _ _ _ (ap (λ (v : FilesState). v.faults) c.self.view_is) (omega arith)
    c.saturating_add-self-inside-then-is_listed.ensures (ap (λ (v : FilesState). v.failures) c.self.view_is) c.open_fails.ensures.failures

pub returns-then-is_listed-clause-err : goal.returns-then-is_listed-clause-err
returns-then-is_listed-clause-err c =
    rw (← c.self.view_is, c.saturating_add-self-inside.ensures, c.saturating_add-self-inside-then-is_listed.ensures, c.open_fails.ensures.name) refl

pub returns-in_default-clause-fails : goal.returns-in_default-clause-fails
returns-in_default-clause-fails c =
    let name = c.args.name.now in
    let none = ap (λ ts. text_of (map named ts) name) (sym c.deref-2.ensures.value) ∙ c.in_default.ensures in
    (λ _. inr (ap (λ (v : FilesState). text_of v.texts name) (sym c.self.view_is) ∙ none), λ _. refl)

pub returns-in_default-clause-succeeds : goal.returns-in_default-clause-succeeds
returns-in_default-clause-succeeds c =
    let name = c.args.name.now in
    let none = ap (λ ts. text_of (map named ts) name) (sym c.deref-2.ensures.value) ∙ c.in_default.ensures in
    let same : text_of c.args.self.now.texts name ≡ None = ap (λ (v : FilesState). text_of v.texts name) (sym c.self.view_is) ∙ none in
    λ _ told. rw same at told

pub returns-in_default-clause-told : goal.returns-in_default-clause-told
returns-in_default-clause-told c =
    is_told _ c.args.self.now c.self.inside.faults _ _ _ _ (ap (λ (v : FilesState). v.faults) c.self.view_is) (omega arith)
    c.saturating_add-self-inside-in_default.ensures (ap (λ (v : FilesState). v.failures) c.self.view_is) c.open_fails-in_default.ensures.failures

pub returns-in_default-clause-err : goal.returns-in_default-clause-err
returns-in_default-clause-err c =
    rw (← c.self.view_is, c.saturating_add-self-inside.ensures, c.saturating_add-self-inside-in_default.ensures, c.open_fails-in_default.ensures.name) refl
