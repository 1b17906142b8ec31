-- What stays of a section's snapshot, up to its commit.
use Rattle.std.proofs.Common.{◌≡◌, ℕ, suc, ◌+◌, ◌-◌, ◌<◌, ◌≤◌, true, List, [], ◌∷◌, ◌++◌, length, take, drop, refl, sym, ap, ◌∙◌, arith}
use Rattle.std.proofs.lemmas.List.{take-append-drop, take-take, length-take-le}
use Rattle.std.proofs.lemmas.List.Elements.{All-head, All-tail}
use Rattle.std.proofs.lemmas.Option.{slice_get_within}
use Rattle.mv_history.specs.WordsLaws.{AreWords-state_after}
use Rattle.mv_history.specs.State.{State, Writes, Entry, Change, written, touches, writes_of, state_after, state_at}
use Rattle.mv_history.specs.Legal.{AreApart, NoneWrites, IsNext, AreWords, IsLegal}
use Rattle.mv_history.specs.Meaning.{Seat, InSection, IsSeat, IsSection, snapshot_of, state_of, words_at}
use Rattle.mv_history.specs.Calls.{Continues, GoesOn, Commits, commit_by}
use Rattle.mv_history.proofs.Writing.{words-written_other, state_after-append, length-written, length-state_after}
use Rattle.mv_history.proofs.Histories.{IsLegal-front, split_at}
use Rattle.mv_history.proofs.Steps.{state_at-later}

pub length-state_at : (start : State) (history : List Entry) (t : ℕ) → length (state_at start history t) ≡ length start
length-state_at start history t = length-state_after start (take t history)

-- a section reads as many objects as there are
pub length-state_of : (s : InSection) → length (state_of s) ≡ length s.seat.start
length-state_of s = length-written (snapshot_of s) s.own ∙ length-state_at s.seat.start s.seat.seen s.at

-- the snapshot stays where its seat goes on
pub snapshot_of-later : (a b : InSection) → Continues a.seat b.seat → b.at ≡ a.at → a.at ≤ length a.seat.seen → snapshot_of b ≡ snapshot_of a
snapshot_of-later a b p e l = ap (λ t. state_at b.seat.start b.seat.seen t) e ∙ state_at-later p a.at l

-- the snapshot stays through the calls that stay in its section
pub snapshot_of-goes_on : (a b : InSection) → GoesOn a b → a.at ≤ length a.seat.seen → snapshot_of b ≡ snapshot_of a
snapshot_of-goes_on a b g l = snapshot_of-later a b g.continues g.at l

-- the objects of a snapshot have their words
pub AreWords-snapshot_of : (starts : State → Type 0) (allows : List ℕ → State → Writes → Type 0) (s : InSection) → IsSection starts allows s
    → AreWords (snapshot_of s)
AreWords-snapshot_of starts allows s h =
    let front : IsLegal (length s.seat.start) (take s.at s.seat.seen) =
    IsLegal-front (length s.seat.start) (take s.at s.seat.seen) (drop s.at s.seat.seen) (rw (take-append-drop s.at s.seat.seen) h.seat.legal) in
    AreWords-state_after (length s.seat.start) [] (take s.at s.seat.seen) s.seat.start front h.seat.words

-- an object that none of the entries writes keeps its words
pub words-none_writes : (s : State) (ws : Writes) (es : List Entry) (o : ℕ) → NoneWrites ws es → touches ws o ≡ true
    → words_at (state_after s es) o ≡ words_at s o
words-none_writes s ws [] o h t = refl
words-none_writes s ws (e ∷ es) o h t =
    words-none_writes (written s (writes_of e)) ws es o (All-tail (λ x. AreApart ws (writes_of x)) e es h) t
    ∙ words-written_other s (writes_of e) o (All-head (λ x. AreApart ws (writes_of x)) e es h o t)

-- A held object has, just before the commit, the words of the snapshot.
pub words-before_commit : (starts : State → Type 0) (allows : List ℕ → State → Writes → Type 0) (old : InSection) (tag : List ℕ) (new : Seat) (time o : ℕ)
    → IsSeat starts allows new → IsSection starts allows old → Commits old tag new time → touches old.own o ≡ true
    → words_at (state_at new.start new.seen (time - (new.base + 1))) o ≡ words_at (snapshot_of old) o
words-before_commit starts allows old tag new time o lawful section commits held =
    let i : ℕ = time - (new.base + 1) in
    let front : List Entry = take i new.seen in
    let within : i < length new.seen = slice_get_within new.seen i (Change (commit_by old tag)) commits.entry.there in
    let next : IsNext (length new.start) front (commit_by old tag) =
    lawful.legal front (drop (suc i) new.seen) (commit_by old tag) (split_at new.seen i (Change (commit_by old tag)) commits.entry.there) in
    let short : length front ≡ i = length-take-le i new.seen (omega arith) in
    let past : old.at ≤ i = omega (arith, next.past, short) in
    let parts : take old.at front ++ drop old.at front ≡ front = take-append-drop old.at front in
    let from : state_after new.start front ≡ state_after (state_at new.start new.seen old.at) (drop old.at front) =
    ap (λ h. state_after new.start h) (sym parts) ∙ state_after-append new.start (take old.at front) (drop old.at front)
    ∙ ap (λ h. state_after (state_after new.start h) (drop old.at front)) (take-take old.at i new.seen past) in
    ap (λ s. words_at s o) from ∙ words-none_writes _ old.own (drop old.at front) o next.unwritten held
    ∙ ap (λ s. words_at s o) (state_at-later commits.continues old.at section.at)
