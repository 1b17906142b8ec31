-- That SUPER was stored below a commit is noted above it: the facts that read notes but not SUPER.
use Rattle.std.proofs.Common.{◌≡◌, ◌⊎◌, ℕ, ◌<◌, true, List, length, refl, sym, ap, ◌∙◌, subst, inl, inr}
use Rattle.mv_core.proofs.Terms.{Entry, State, Writes, Config, Memory, Ring, Slot, Built, Live, Build, Version, WriteSetStatus, Committed, CommitNote}
use Rattle.mv_core.proofs.Terms.{slot_at, put_slot, Lives, ViewParts, set_at}
use Rattle.mv_core.proofs.FactTerms.{IsHeldOrAborted, Facts}
use Rattle.mv_core.proofs.logs.Links.{live_once, note_once}
use Rattle.mv_core.proofs.logs.Slots.{Matches, live_within, match_put, slots_after}
use Rattle.mv_core.proofs.frames.Matching.{Alike, alike_self, alike_committed}
use Rattle.mv_core.proofs.kinds.reclaiming.cut_head.Cuts.{SameDeath, death_self}
use Rattle.mv_core.proofs.frames.InPlace.{StaysInPlace, in_place_put}

module _ {starts : State → Type 0} {allows : List ℕ → State → Writes → Type 0} {c : Config} {start : State} {m : Memory} {h : List Entry} {f : ViewParts}
    (k : Facts starts allows c start m h f)
    (n j : ℕ) (x : Version) (note : CommitNote) (lives : Lives f.ring n j x (Committed note)) where
  abbrev pub note' : CommitNote
  note' = record note { linked = true }

  abbrev pub new : Slot
  new = Live x (Committed note')

  abbrev pub ring' : Ring
  ring' = put_slot (f.ring n) j new

  abbrev pub rings : ℕ → Ring
  rings = set_at f.ring n ring'

  pub within : j < length (f.ring n).slots
  within = live_within (f.ring n) j x (Committed note) lives

  pub matches : Matches Alike f.ring rings
  matches = match_put Alike alike_self f.ring n j new ring' refl within refl x (Committed note) x (Committed note') lives refl
      (alike_committed x note note' refl refl)

  pub same_death : Matches SameDeath f.ring rings
  same_death = match_put SameDeath death_self f.ring n j new ring' refl within refl x (Committed note) x (Committed note') lives refl
      ((refl, refl, λ cut. cut), refl)

  pub stays : StaysInPlace f.ring rings
  stays = in_place_put f.ring n j ring' x x (Committed note) (Committed note') lives refl

  -- what holds of the new slot, and of each other as it was, holds of all
  pub all_slots : (P : ℕ → ℕ → Slot → Type 0) → P n j new → ((s i : ℕ) → ¬ ((s ≡ n) × (i ≡ j)) → P s i (slot_at (f.ring s) i)) → (s i : ℕ)
      → P s i (slot_at (rings s) i)
  all_slots = slots_after f.ring n j new ring' refl within

  -- what was noted of a commit: the same, but for whether SUPER was stored below
  pub record IsNoted (s i : ℕ) (z : Version) (d : CommitNote) : Type 0 where
    pub was : CommitNote
    pub lives_was : Lives f.ring s i z (Committed was)
    pub time : d.time ≡ was.time
    pub dead : d.dead ≡ was.dead
    pub cut : d.cut ≡ was.cut
    pub linked : (d.linked ≡ was.linked) ⊎ ((s ≡ n) × (i ≡ j))
    pub linked_here : s ≡ n → i ≡ j → d.linked ≡ true

  pub noted : (s i : ℕ) (z : Version) (d : CommitNote) → Lives rings s i z (Committed d) → IsNoted s i z d
  noted s i z d =
      all_slots (λ s i slot. slot ≡ Live z (Committed d) → IsNoted s i z d)
      (λ e.
      let one = live_once new x z (Committed note') (Committed d) refl e in
      let same : d ≡ note' = note_once d note' (sym one.1) in record {
        was = note;
        lives_was = lives ∙ ap (λ v. Live v (Committed note)) one.0;
        time = ap (λ (q : CommitNote). q.time) same;
        dead = ap (λ (q : CommitNote). q.dead) same;
        cut = ap (λ (q : CommitNote). q.cut) same;
        linked = inr (refl, refl);
        linked_here = λ a b. ap (λ (q : CommitNote). q.linked) same;
      })
      (λ s i ne e. record { was = d; lives_was = e; time = refl; dead = refl; cut = refl; linked = inl refl; linked_here = λ a b. absurd (ne (a, b)) })
      s i

  pub was_uncommitted : (s i : ℕ) (z : Version) (st : WriteSetStatus) → IsHeldOrAborted st → Lives rings s i z st → Lives f.ring s i z st
  was_uncommitted s i z st fate = all_slots (λ s i slot. slot ≡ Live z st → slot_at (f.ring s) i ≡ Live z st)
      (λ e. let one = live_once new x z (Committed note') st refl e in absurd (subst IsHeldOrAborted (sym one.1) fate)) (λ s i ne e. e) s i

  pub was_built : (s i : ℕ) (b : Build) → slot_at (rings s) i ≡ Built b → slot_at (f.ring s) i ≡ Built b
  was_built s i b = all_slots (λ s i slot. slot ≡ Built b → slot_at (f.ring s) i ≡ Built b) (λ e. absurd cc) (λ s i ne e. e) s i
