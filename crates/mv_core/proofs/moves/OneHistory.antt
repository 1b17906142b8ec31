-- One state of the table has one history, and a move adds one entry to it at most, which only the two won exchanges of CLOCK do.
use Rattle.std.proofs.Common.{◌≡◌, ◌⊎◌, ℕ, ◌==◌, Bool, true, false, if◌then◌else◌, List, [], ◌∷◌, ◌++◌, sym, refl}
use Rattle.std.proofs.Common.{ap, ◌∙◌, subst, inl, inr, ⊎_elim, eq-eqb, ne_eqb, Some, None}
use Rattle.mv_core.proofs.Terms.{dite, ℕ_discrete, Entry, Change, Rest, State, Writes, Config, Clock, Knowledge, Past}
use Rattle.atomic_table.specs.Table as table
use Rattle.mv_core.specs.HistoryFacts.{BeginsWith}
use Rattle.mv_core.specs.NameSteps.{commit_of}
use Rattle.mv_core.specs.declared.shared.Opening.{Opening}
use Rattle.mv_core.specs.Rule.{Ruled}
use Rattle.mv_core.specs.Moves.{Moment, MoveKind, act, history_after, stepped, steps, makes, joins}
use Rattle.mv_core.specs.MoveLaws.{AddsEntry, OneHistory, OneEntry}
use Rattle.mv_core.specs.Moves.{stamp, lock_head, cut_head, name_commit, name_rest}
use Rattle.mv_core.proofs.history.LongerSeen.{begins_both}

module _ (starts : State → Type 0) (allows : List ℕ → State → Writes → Type 0) (key : Opening) (s : table.State (List ℕ) Knowledge) where
  -- the views of the table, and their notes, say what each seat has seen
  same_past : (a b : Ruled starts allows key s) (n : ℕ) → ((a.seats n).past ≡ (b.seats n).past) ⊎ ((a.seats n).past.seen ≡ [])
  same_past a b n =
      ⊎_elim
      (λ t. inl (⊎_elim
      (λ e.
      let at : (r : Ruled starts allows key s) → (r.seats n).past ≡ t.holder.past =
      λ r. ap (λ (i : ℕ). (r.seats i).past) (sym e) ∙ ap (λ (u : Knowledge). u.past) (r.seated.there t.id t.holder t.place t.unspent).0 in
      at a ∙ sym (at b))
      (λ note.
      let at : (r : Ruled starts allows key s) → (r.seats n).past ≡ note.0.past =
      λ r. ap (λ (i : ℕ). (r.seats i).past) (sym note.2) ∙ (r.seated.noted t.id t.holder note.0 t.place t.unspent note.1).past in
      at a ∙ sym (at b))
      t.named))
      (λ new. inr (ap (λ (u : Knowledge). u.past.seen) new))
      (a.seated.all n)

  -- each history begins with the other
  begins_with : (a b : Ruled starts allows key s) → BeginsWith b.history a.history
  begins_with a b =
      ⊎_elim
      (λ none. (b.history, ap (λ (x : List Entry). x ++ b.history) (sym none)))
      (λ all. ⊎_elim
      (λ e. subst (BeginsWith b.history) (ap (λ (p : Past). p.seen) (sym e) ∙ all.1) (b.facts.history.seats all.0).seen)
      (λ none. (b.history, ap (λ (x : List Entry). x ++ b.history) (sym none ∙ all.1)))
      (same_past a b all.0))
      a.facts.history.whole

pub one_history : (starts : State → Type 0) (allows : List ℕ → State → Writes → Type 0) → OneHistory starts allows
one_history starts allows key s a b = begins_both b.history a.history (begins_with starts allows key s a b) (begins_with starts allows key s b a)

-- an exchange that makes no entry makes none, won or lost
no_entry : (b : Bool) (h : List Entry) → history_after h (if b then None else None) ≡ h
no_entry true h = refl
no_entry false h = refl

module _ (allows : List ℕ → State → Writes → Type 0) (c : Config) (n : ℕ) (s t : Moment) where
  -- an exchange of CLOCK adds its entry where it is won
  entry_if : (kind : MoveKind) (word : ℕ) (e : Entry) → t ≡ stepped (act allows c (s.seats n) kind) n s
      → t.history ≡ history_after s.history (if s.memory Clock == word then Some e else None)
      → (s.memory Clock ≡ word → t.history ≡ s.history ++ e ∷ [] → AddsEntry allows c n s t)
      → (t.history ≡ s.history) ⊎ AddsEntry allows c n s t
  entry_if kind word e is made adds =
      dite (ℕ_discrete (s.memory Clock) word)
      (λ hit. inr (adds hit (made ∙ ap (λ (b : Bool). history_after s.history (if b then Some e else None)) (eq-eqb (s.memory Clock) word hit))))
      (λ miss. inl (made ∙ ap (λ (b : Bool). history_after s.history (if b then Some e else None)) (ne_eqb (s.memory Clock) word miss)))

  step_entry : (k : MoveKind) → t ≡ stepped (act allows c (s.seats n) k) n s → (t.history ≡ s.history) ⊎ AddsEntry allows c n s t
  step_entry (name_commit word tag inside) is =
      let e : Entry = Change (commit_of c (s.seats n) inside tag) in
      entry_if (name_commit word tag inside) word e is (ap (λ (u : Moment). u.history) is)
      (λ hit longer. record { kind = name_commit word tag inside; won = hit; state = is; entry = e; longer = longer })
  step_entry (name_rest word) is =
      let e : Entry = Rest (s.seats n).number in
      entry_if (name_rest word) word e is (ap (λ (u : Moment). u.history) is)
      (λ hit longer. record { kind = name_rest word; won = hit; state = is; entry = e; longer = longer })
  step_entry (stamp word unset) is = inl (ap (λ (u : Moment). u.history) is ∙ no_entry _ s.history)
  step_entry (lock_head object previous position words build inside) is = inl (ap (λ (u : Moment). u.history) is ∙ no_entry _ s.history)
  step_entry (cut_head object position version note) is = inl (ap (λ (u : Moment). u.history) is ∙ no_entry _ s.history)
  step_entry k is = inl (ap (λ (u : Moment). u.history) is)

pub one_entry : (allows : List ℕ → State → Writes → Type 0) → OneEntry allows
one_entry allows c n s t (steps k may fits is) = step_entry allows c n s t k is
one_entry allows c n s t (makes first room is) = inl (ap (λ (u : Moment). u.history) is)
one_entry allows c n s t (joins other ne seat may is) = inl (ap (λ (u : Moment). u.history) is)
