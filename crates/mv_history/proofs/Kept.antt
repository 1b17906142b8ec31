-- What each allowed commit keeps holds in every state that anybody reads.
use Rattle.std.proofs.Common.{◌≡◌, ℕ, List, [], ◌∷◌, ◌++◌, take, drop, refl, sym, ap, subst, ◌∙◌, append_assoc}
use Rattle.std.proofs.lemmas.List.{append-nil, take-append-drop}
use Rattle.mv_history.specs.State.{State, Writes, written, state_after, state_at, Commit, Entry, Rest, Change}
use Rattle.mv_history.specs.Legal.{IsAllowed}
use Rattle.mv_history.specs.Meaning.{Seat, InSection, IsSeat, IsSection, snapshot_of, state_of}
use Rattle.mv_history.proofs.Histories.{IsAllowed-front}
use Rattle.mv_history.proofs.Writing.{state_after-append}

-- the history up to each time that a seat has seen is allowed
pub seen_allowed : {starts : State → Type 0} {allowed : List ℕ → State → Writes → Type 0} (s : Seat) → IsSeat starts allowed s → (t : ℕ)
    → IsAllowed allowed s.start (take t s.seen)
seen_allowed {starts} {allowed} s h t = IsAllowed-front allowed s.start (take t s.seen) (drop t s.seen) (rw (take-append-drop t s.seen) h.allowed)

-- A fact of a state and the entries that led there, kept by each rest and by each commit that is allowed, holds after an allowed history.
module _ (allowed : List ℕ → State → Writes → Type 0) (Q : List Entry → State → Type 0)
    (rests : (front : List Entry) (by : ℕ) (s : State) → Q front s → Q (front ++ Rest by ∷ []) s)
    (changes : (front : List Entry) (c : Commit) (s : State) → allowed c.tag s c.writes → Q front s → Q (front ++ Change c ∷ []) (written s c.writes)) where
  keeps_more : (start : State) (front es : List Entry) (s : State) → state_after start front ≡ s → IsAllowed allowed start (front ++ es) → Q front s
      → Q (front ++ es) (state_after s es)
  keeps_more start front [] s e h q = rw append-nil q
  keeps_more start front (Rest by ∷ es) s e h q =
      rw append_assoc at (keeps_more start (front ++ Rest by ∷ []) es s (state_after-append start front (Rest by ∷ []) ∙ e) (rw append_assoc h)
      (rests front by s q))
  keeps_more start front (Change c ∷ es) s e h q =
      let here : allowed c.tag s c.writes = subst (λ (u : State). allowed c.tag u c.writes) e (h front es c refl) in
      rw append_assoc at (keeps_more start (front ++ Change c ∷ []) es (written s c.writes)
      (state_after-append start front (Change c ∷ []) ∙ ap (λ (u : State). written u c.writes) e) (rw append_assoc h) (changes front c s here q))

  pub keeps_along : (start : State) (es : List Entry) → IsAllowed allowed start es → Q [] start → Q es (state_after start es)
  keeps_along start es h q = keeps_more start [] es start refl h q

module _ (allowed : List ℕ → State → Writes → Type 0) (P : State → Type 0)
    (kept : (tag : List ℕ) (s : State) (ws : Writes) → allowed tag s ws → P s → P (written s ws)) where
  -- after an allowed history
  pub keeps_after : (start : State) (es : List Entry) → IsAllowed allowed start es → P start → P (state_after start es)
  keeps_after start es h p =
      keeps_along allowed (λ front s. P s) (λ front by s q. q) (λ front c s a q. kept c.tag s c.writes a q) start es h p

  -- at each time that a seat has seen
  pub keeps_at : (starts : State → Type 0) (s : Seat) → IsSeat starts allowed s → P s.start → (t : ℕ) → P (state_at s.start s.seen t)
  keeps_at starts s lawful p t = keeps_after s.start (take t s.seen) (seen_allowed s lawful t) p

  -- in what a section began with
  pub keeps_in : (starts : State → Type 0) (s : InSection) → IsSection starts allowed s → P s.seat.start → P (snapshot_of s)
  keeps_in starts s lawful p = keeps_at starts s.seat lawful.seat p s.at

  -- and in what it reads while it holds nothing
  pub keeps_read : (starts : State → Type 0) (s : InSection) → IsSection starts allowed s → s.own ≡ [] → P s.seat.start → P (state_of s)
  keeps_read starts s lawful none p = subst P (sym (ap (written (snapshot_of s)) none)) (keeps_in starts s lawful p)
