-- What a load of CLOCK that times dead versions makes of each version of the log: an aborted or cut one that waits for its time of death gets it, and else it
-- is as before.
use Rattle.std.proofs.Common.{◌≡◌, ◌⊎◌, ℕ, ◌+◌, ◌<◌, ◌≤◌, Bool, true, false, cond, refl, sym, ap, ◌∙◌, subst, inl, inr, ⊎_elim, Option, Some, None}
use Rattle.mv_core.proofs.Terms.{Slot, Free, Built, Live, Freeing, Version, WriteSetStatus, Held, Aborted, Committed, CommitNote}
use Rattle.mv_core.proofs.FactTerms.{IsBeforeDeath, DeathSeen}
use Rattle.mv_core.specs.LockSteps.{dead_if, timed_status, timed}
use Rattle.mv_core.proofs.logs.Links.{note_once}
use Rattle.mv_core.proofs.logs.Slots.{Becomes}
use Rattle.mv_core.proofs.frames.Matching.{same_place, KeepsPlace, Alike, alike_self, alike_committed}

-- a slot with a version after it had that version before
pub timed_back : (d : ℕ) (z : Slot) (x : Version) (su : WriteSetStatus) → timed d z ≡ Live x su → (st : WriteSetStatus) × (z ≡ Live x st)
    × (timed_status d st ≡ su)
timed_back d Free x su e = absurd (cc)
timed_back d (Built b) x su e = absurd (cc)
timed_back d (Freeing p f) x su e = absurd (cc)
timed_back d (Live y st) x su e =
    let i : Live y (timed_status d st) ≡ Live x su = e in
    let same : y ≡ x = cc in
    let status : timed_status d st ≡ su = cc in
    (st, ap (λ (v : Version). Live v st) same, status)

-- what had a death noted, or has it now
pub aborted_was : (d : ℕ) (st : WriteSetStatus) (e : Option ℕ) → timed_status d st ≡ Aborted e → (o : Option ℕ) × (st ≡ Aborted o) × (dead_if o d ≡ e)
aborted_was d Held e is = absurd (cc)
aborted_was d (Committed m) e is = absurd (cc)
aborted_was d (Aborted o) e is = let i : Aborted (dead_if o d) ≡ Aborted e = is in (o, refl, cc)

-- the note of a committed version after it
abbrev pub timed_note : ℕ → CommitNote → CommitNote
timed_note d m = cond m.cut (record m { dead = dead_if m.dead d }) m

pub committed_was : (d : ℕ) (st : WriteSetStatus) (n : CommitNote) → timed_status d st ≡ Committed n → (m : CommitNote) × (st ≡ Committed m)
    × (timed_note d m ≡ n)
committed_was d Held n is = absurd (cc)
committed_was d (Aborted o) n is = absurd (cc)
committed_was d (Committed m) n is = let i : ◌≡◌ {A = WriteSetStatus} (Committed (timed_note d m))
    (Committed n) = is in (m, refl, note_once (timed_note d m) n i)

-- its time, whether it was cut and whether SUPER was stored below stay
pub note_time : (d : ℕ) (m : CommitNote) → (timed_note d m).time ≡ m.time
note_time d m = go m.cut
  where
    go : (b : Bool) → (cond b (record m { dead = dead_if m.dead d }) m).time ≡ m.time
    go true = refl
    go false = refl

pub note_cut : (d : ℕ) (m : CommitNote) → (timed_note d m).cut ≡ m.cut
note_cut d m = go m.cut
  where
    go : (b : Bool) → (cond b (record m { dead = dead_if m.dead d }) m).cut ≡ m.cut
    go true = refl
    go false = refl

pub note_linked : (d : ℕ) (m : CommitNote) → (timed_note d m).linked ≡ m.linked
note_linked d m = go m.cut
  where
    go : (b : Bool) → (cond b (record m { dead = dead_if m.dead d }) m).linked ≡ m.linked
    go true = refl
    go false = refl

-- one that wasn't cut keeps its note
pub note_uncut : (d : ℕ) (m : CommitNote) → m.cut ≡ false → timed_note d m ≡ m
note_uncut d m e = ap (λ b. cond b (record m { dead = dead_if m.dead d }) m) e

-- a death noted before, or the new one
pub dead_is : (d : ℕ) (o : Option ℕ) (t : ℕ) → dead_if o d ≡ Some t → (o ≡ Some t) ⊎ (t ≡ d)
dead_is d None t e = let i : Some d ≡ Some t = e in inr (cc)
dead_is d (Some a) t e = inl e

pub note_dead : (d : ℕ) (m : CommitNote) (t : ℕ) → (timed_note d m).dead ≡ Some t → (m.dead ≡ Some t) ⊎ (t ≡ d)
note_dead d m t = go m.cut
  where
    go : (b : Bool) → (cond b (record m { dead = dead_if m.dead d }) m).dead ≡ Some t → (m.dead ≡ Some t) ⊎ (t ≡ d)
    go true e = dead_is d m.dead t e
    go false e = inl e

-- a time below the new death is before it
pub before_timed : (t d : ℕ) (st : WriteSetStatus) → t < d → IsBeforeDeath t st → IsBeforeDeath t (timed_status d st)
before_timed t d Held lt a = tt
before_timed t d (Aborted None) lt a = lt
before_timed t d (Aborted (Some e)) lt a = a
before_timed t d (Committed m) lt a = λ dead e. ⊎_elim (λ was. a dead was) (λ is. subst (λ (u : ℕ). t < u) (sym is) lt) (note_dead d m dead e)

-- where the new death is at most the time after what was seen, the status after it notes none that is later
pub timed_seen : (now d : ℕ) (st : WriteSetStatus) → d ≤ now + 1 → DeathSeen now st → DeathSeen now (timed_status d st)
timed_seen now d Held le old = old
timed_seen now d (Aborted o) le old =
    λ dead e. (⊎_elim (λ was. (old dead was).0) (λ is. subst (λ (t : ℕ). t ≤ now + 1) (sym is) le) (dead_is d o dead e), λ none. absurd none)
timed_seen now d (Committed m) le old = λ dead e. (
  ⊎_elim (λ was. (old dead was).0) (λ is. subst (λ (t : ℕ). t ≤ now + 1) (sym is) le) (note_dead d m dead e),
  λ uncut. let was : m.cut ≡ false = sym (note_cut d m) ∙ uncut in (old dead (ap (λ (o : CommitNote). o.dead) (sym (note_uncut d m was)) ∙ e)).1 was,
)

-- what becomes of the own versions, and of those of others
abbrev pub Timed : ℕ → Becomes
Timed d x st y su = (y ≡ x) × ((su ≡ st) ⊎ (su ≡ timed_status d st))

pub timed_self : (d : ℕ) (x : Version) (st : WriteSetStatus) → Timed d x st x st
timed_self d x st = (refl, inl refl)

pub timed_place : (d : ℕ) → KeepsPlace (Timed d)
timed_place d x st y su a = same_place x y a.0

alike_timed : (d : ℕ) (x : Version) (st : WriteSetStatus) → Alike x st x (timed_status d st)
alike_timed d x Held = alike_self x Held
alike_timed d x (Aborted e) = ((refl, λ held. let none : Aborted e ≡ Held = held in absurd (cc)), refl)
alike_timed d x (Committed m) = alike_committed x m (timed_note d m) (note_time d m) (note_cut d m)

pub timed_alike : (d : ℕ) (x : Version) (st : WriteSetStatus) (y : Version) (su : WriteSetStatus) → Timed d x st y su → Alike x st y su
timed_alike d x st y su a =
    subst (λ (v : Version). Alike x st v su) (sym a.0)
    (⊎_elim
    (λ e. subst (Alike x st x) (sym e) (alike_self x st))
    (λ e. subst (Alike x st x) (sym e) (alike_timed d x st))
    a.1)
