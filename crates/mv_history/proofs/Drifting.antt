-- What stays while others commit: lemmas for clients, and one for stores.
use Rattle.std.proofs.Common.{◌≡◌, ℕ, true, List, [], ◌∷◌, ◌++◌, length, refl, sym, subst, ◌∙◌, append_assoc}
use Rattle.std.proofs.lemmas.List.Elements.{All-head, All-tail}
use Rattle.mv_history.specs.State.{State, Writes, Entry, Rest, Change, written, touches, writes_of, state_after}
use Rattle.mv_history.specs.Legal.{AreApart, NoneWrites, AreWrites, IsLegal, IsAllowed}
use Rattle.mv_history.specs.Drift.{TaggedWrites, drifted, AreAllowed, Avoid, Drifts, IsFit}
use Rattle.mv_history.specs.Meaning.{words_at}
use Rattle.mv_history.proofs.Writing.{length-written, words-written_other, state_after-append}

-- a state drifts from itself
pub drifts_itself : (allowed : List ℕ → State → Writes → Type 0) (held : Writes) (s : State) → Drifts allowed held s s
drifts_itself allowed held s = record { commits = []; are_allowed = tt; avoid = tt; leads = refl }

drifted_keeps : (allowed : List ℕ → State → Writes → Type 0) (held : Writes) (P : State → Type 0) → ((s : State) (tag : List ℕ) (ws : Writes) → P s
    → AreWrites ws → allowed tag s ws → AreApart held ws → ((o : ℕ) → touches held o ≡ true → words_at (written s ws) o ≡ words_at s o) → P (written s ws))
    → (s : State) (cs : List TaggedWrites) → P s → AreAllowed allowed s cs → Avoid held cs → P (drifted s cs)
drifted_keeps allowed held P step s [] h a v = h
drifted_keeps allowed held P step s (c ∷ cs) h a v =
    drifted_keeps allowed held P step (written s c.1) cs
    (step s c.0 c.1 h a.0 a.1 v.0 (λ o t. words-written_other s c.1 o (v.0 o t)))
    a.2 v.1

-- For clients: a fact that each allowed commit keeps which writes no held object, and so leaves the
-- words of the held objects, holds of each state that drifts from one where it holds.
pub drift_keeps_apart : (allowed : List ℕ → State → Writes → Type 0) (held : Writes) (from : State) (P : State → Type 0) →
    ((s : State) (tag : List ℕ) (ws : Writes) → P s → AreWrites ws → allowed tag s ws → AreApart held ws
    → ((o : ℕ) → touches held o ≡ true → words_at (written s ws) o ≡ words_at s o) → P (written s ws)) → P from → (s : State) → Drifts allowed held from s
    → P s
drift_keeps_apart allowed held from P step h s d =
    subst P d.leads (drifted_keeps allowed held P step from d.commits h d.are_allowed d.avoid)

-- a held object keeps its words while others commit
pub words-drifts : (allowed : List ℕ → State → Writes → Type 0) (held : Writes) (from s : State) (o : ℕ) → Drifts allowed held from s
    → touches held o ≡ true → words_at s o ≡ words_at from o
words-drifts allowed held from s o d t =
    drift_keeps_apart allowed held from (λ u. words_at u o ≡ words_at from o)
    (λ u tag ws e w a apart kept. kept o t ∙ e)
    refl s d

-- no object comes or goes while others commit
pub length-drifts : (allowed : List ℕ → State → Writes → Type 0) (held : Writes) (from s : State) → Drifts allowed held from s → length s ≡ length from
length-drifts allowed held from s d =
    drift_keeps_apart allowed held from (λ u. length u ≡ length from)
    (λ u tag ws e w a apart kept. length-written u ws ∙ e)
    refl s d

-- a fit commit is allowed on the state itself
pub allowed_at_once : (allowed : List ℕ → State → Writes → Type 0) (s : State) (tag : List ℕ) (ws : Writes) → IsFit allowed s tag ws → allowed tag s ws
allowed_at_once allowed s tag ws fit = fit s (drifts_itself allowed ws s)

-- the commits among the entries, as the rules see them
abbrev changes_of : List Entry → List TaggedWrites
changes_of [] = []
changes_of (Rest by ∷ es) = changes_of es
changes_of (Change c ∷ es) = (c.tag, c.writes) ∷ changes_of es

drifted-changes_of : (s : State) (es : List Entry) → drifted s (changes_of es) ≡ state_after s es
drifted-changes_of s [] = refl
drifted-changes_of s (Rest by ∷ es) = drifted-changes_of s es
drifted-changes_of s (Change c ∷ es) = drifted-changes_of (written s c.writes) es

AreAllowed-changes_of : (allowed : List ℕ → State → Writes → Type 0) (n : ℕ) (start : State) (front es : List Entry) → IsLegal n (front ++ es)
    → IsAllowed allowed start (front ++ es) → AreAllowed allowed (state_after start front) (changes_of es)
AreAllowed-changes_of allowed n start front [] l h = tt
AreAllowed-changes_of allowed n start front (Rest by ∷ es) l h =
    let more : IsAllowed allowed start ((front ++ Rest by ∷ []) ++ es) = rw append_assoc h in
    rw state_after-append at (AreAllowed-changes_of allowed n start (front ++ Rest by ∷ []) es (rw append_assoc l) more)
AreAllowed-changes_of allowed n start front (Change c ∷ es) l h =
    let more : IsAllowed allowed start ((front ++ Change c ∷ []) ++ es) = rw append_assoc h in (
      (l front es c refl).words,
      h front es c refl,
      rw state_after-append at (AreAllowed-changes_of allowed n start (front ++ Change c ∷ []) es (rw append_assoc l) more),
    )

Avoid-changes_of : (held : Writes) (es : List Entry) → NoneWrites held es → Avoid held (changes_of es)
Avoid-changes_of held [] h = tt
Avoid-changes_of held (Rest by ∷ es) h = Avoid-changes_of held es (All-tail (λ e. AreApart held (writes_of e)) (Rest by) es h)
Avoid-changes_of held (Change c ∷ es) h =
    (All-head (λ e. AreApart held (writes_of e)) (Change c) es h, Avoid-changes_of held es (All-tail (λ e. AreApart held (writes_of e)) (Change c) es h))

-- the states of a legal and allowed history drift past entries that write nothing held
pub drifts_past : (allowed : List ℕ → State → Writes → Type 0) (n : ℕ) (start : State) (front es : List Entry) (ws : Writes)
    → IsLegal n (front ++ es) → IsAllowed allowed start (front ++ es) → NoneWrites ws es
    → Drifts allowed ws (state_after start front) (state_after start (front ++ es))
drifts_past allowed n start front es ws legal rules apart = record {
  commits = changes_of es;
  are_allowed = AreAllowed-changes_of allowed n start front es legal rules;
  avoid = Avoid-changes_of ws es apart;
  leads = drifted-changes_of (state_after start front) es ∙ sym (state_after-append start front es);
}

-- For stores: a fit commit is allowed after whatever was committed since the snapshot.
pub allowed_after : (allowed : List ℕ → State → Writes → Type 0) (n : ℕ) (start : State) (front es : List Entry) (tag : List ℕ) (ws : Writes)
    → IsFit allowed (state_after start front) tag ws → IsLegal n (front ++ es) → IsAllowed allowed start (front ++ es) → NoneWrites ws es
    → allowed tag (state_after start (front ++ es)) ws
allowed_after allowed n start front es tag ws fit legal rules apart =
    fit (state_after start (front ++ es)) (drifts_past allowed n start front es ws legal rules apart)
