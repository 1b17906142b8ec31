-- A load of SUPER of a version without a time of death: what it needs, and what it leaves.
use Rattle.std.proofs.Common.{◌≡◌, ℕ, ◌+◌, ◌-◌, ◌<◌, ◌≤◌, true, false, List, [], ◌∷◌, ◌++◌, length, refl, sym, ap}
use Rattle.std.proofs.Common.{◌∙◌, subst, ⊎_elim, arith, append-nil, length-append, length-take, Some, take, slice_get}
use Rattle.std.proofs.Math.Logic.{∥∥₁_elim}
use Rattle.std.proofs.Math.Bridge.{le_prop}
use Rattle.std.proofs.lemmas.List.Elements.{All-nil, All-cons}
use mathlib.Core.Logic.{dite}
use native.Mathlib.Decide.{dec_le}
use Rattle.mv_history.specs.declared.Entry.{Entry}
use Rattle.mv_history.specs.declared.Step.{Step}
use Rattle.mv_history.specs.State.{State, Writes}
use Rattle.mv_layout.specs.declared.Config.{Config}
use Rattle.seat_log.specs.mv_core.declared.ring.Slot.TheVariants.{Live}
use Rattle.seat_log.specs.mv_core.declared.ring.WriteSetStatus.TheVariants.{Committed}
use Rattle.seat_log.specs.mv_core.declared.ring.CommitNote.{CommitNote}
use Rattle.seat_log.specs.mv_core.declared.view.Knowledge.{Knowledge}
use Rattle.seat_log.specs.mv_core.Rings.{slot_at, index_of}
use Rattle.seat_log.specs.mv_core.Times.{writes_to, latest_at}
use Rattle.seat_log.specs.mv_core.EnterSteps.{MayLoadLow}
use Rattle.seat_log.specs.mv_core.ReclaimSteps.{MayLoadSuper, super_loaded, SeesSuper, FoundEmpty}
use Rattle.seat_log.specs.mv_core.HistoryFacts.{BeginsWith}
use Rattle.seat_log.specs.mv_core.Known.{Known}
use Rattle.seat_log.proofs.mv_core_lemmas.history.Latest.{last_that-le, latest_at-entry}
use Rattle.seat_log.specs.declared.version.Note.{Note}
use Rattle.seat_log.specs.Notes.{Noted, IsLive, retired}
use Rattle.seat_log.specs.Stands.{version_of, Stands}
use Rattle.seat_log.specs.Builds.{note_in}
use Rattle.seat_log.proofs.Retired.{committed_at, may_load_super, noted_live, stands_found, stands_unfound}
use Rattle.log_reclaim.specs.Parts.{IsReclaimKind, IsOtherKind, super_load}
use Rattle.log_reclaim.specs.Tries.{IsUntimed, Makes, LoadsSuper}
use Rattle.log_reclaim.proofs.Idle.{still_of}

-- a list that begins with another and is as long is that one
same_long : (a b : List Entry) → BeginsWith a b → length a ≤ length b → a ≡ b
same_long a b p le =
    let long : length a ≡ length b + length p.0 = ap length p.1 ∙ length-append b p.0 in
    p.1 ∙ ap (λ l. b ++ l) (none p.0 (omega arith)) ∙ append-nil b
  where
    none : (r : List Entry) → length r ≡ 0 → r ≡ []
    none [] e = refl
    none (x ∷ r) e = absurd (omega arith)

-- where each write of an object after a time is after another time, its last write up to that isn't after the first
none_written : (base : ℕ) (h : List Entry) (o t g : ℕ) → base < t
    → ((s : ℕ) (e : Entry) → (base < s) × (slice_get h (s - (base + 1)) ≡ Some e) → writes_to o e ≡ true → t < s → g < s) → latest_at base h o g ≤ t
none_written base h o t g low none =
    dite (dec_le (latest_at base h o g) t)
    (λ le. le)
    (λ gt.
    let e = latest_at-entry base h o g (omega arith) in
    let late = none (latest_at base h o g) e.0 e.1 e.2 (omega arith) in
    let few = last_that-le (writes_to o) (take (g - base) h) in
    let cut = length-take (g - base) h in
    absurd (omega arith))

module _ (c : Config) (v : Knowledge) (l : Noted) (position : ℕ) (n : Note) (k : Stands c v l) (u : IsUntimed l position n) where
  abbrev own : CommitNote
  own = note_in (slot_at v.ring (index_of c position))

  -- the position is that of the note
  pub position_is : position ≡ n.position
  position_is = let at = k.log.notes.position (position - l.freed) n u.at in let from = u.from in omega arith

  committed : (note : CommitNote) × (slot_at v.ring (index_of c n.position) ≡ Live (version_of n) (Committed note)) × (note.time ≡ n.time)
  committed = let a = committed_at c v l (position - l.freed) n k u.at u.committed in (a.0, a.1, a.2)

  own_is : own ≡ committed.0
  own_is = ap (λ p. note_in (slot_at v.ring (index_of c p))) position_is ∙ ap note_in committed.1

  here : slot_at v.ring (index_of c n.position) ≡ Live (version_of n) (Committed own)
  here = committed.1 ∙ ap (λ (x : CommitNote). Live (version_of n) (Committed x)) (sym own_is)

  pub own_time : own.time ≡ n.time
  own_time = ap (λ (x : CommitNote). x.time) own_is ∙ committed.2

  -- SUPER of it may be loaded
  pub may_super : MayLoadSuper c v position (version_of n) own
  may_super = subst (λ p. MayLoadSuper c v p (version_of n) own) (sym position_is) (may_load_super c v l (position - l.freed) n k u.at own here u.untimed)

  pub may_retire : IsLive l position
  may_retire = subst (IsLive l) (sym position_is) (noted_live c v l (position - l.freed) n k u.at)

  module _ (w : Knowledge) (found : ℕ) (is : w ≡ super_loaded c v position (version_of n) own found w.past.seen) where
    view_is : w ≡ super_loaded c v n.position (version_of n) own found w.past.seen
    view_is = is ∙ ap (λ p. super_loaded c v p (version_of n) own found w.past.seen) position_is

    -- the log stands for the pass after it, with the death that was found
    pub super_stands : (m : Noted) → 0 < found → m ≡ retired l position found → Stands c w m
    super_stands m some_time log =
        subst (Stands c w) (sym (log ∙ ap (λ p. retired l p found) position_is))
        (subst (λ x. Stands c x (retired l n.position found)) (sym view_is)
        (stands_found c v l (position - l.freed) n own found w.past.seen k u.at here u.untimed some_time))

    pub super_stands_none : found ≡ 0 → Stands c w l
    super_stands_none none = subst (λ x. Stands c x l) (sym view_is) (stands_unfound c v l (position - l.freed) n own found w.past.seen k here none)

    abbrev step : Step
    step = super_load c v.number n found

    module _ (starts : State → Type 0) (allows : List ℕ → State → Writes → Type 0) (known : ∥ Known starts allows v ∥₁) (may : MayLoadLow v)
        (base : v.base ≡ c.base) (sees : SeesSuper c v (version_of n) own found w.past.seen) where
      super_makes : Makes v w (step ∷ [])
      super_makes =
          let still = still_of starts allows v known may.outside in
          let x : Knowledge = super_loaded c v n.position (version_of n) own found w.past.seen in
          subst (λ y. Makes v y (step ∷ [])) (sym view_is) (record {
            reclaims = record {
              outside = may.outside;
              no_scan = may.no_scan;
              seen = sees.more;
              mine = refl;
              grace = (let e : v.grace ≤ v.grace = omega arith in e);
              trail = refl;
              kinds = All-cons (λ s. IsReclaimKind s.kind) step [] tt (All-nil (λ s. IsReclaimKind s.kind));
              rest = λ i. record x { phase = may.outside i; walk = still.0 i; back = still.1 i; scan = may.no_scan i };
            };
            rests = refl;
            kinds = All-cons (λ s. IsOtherKind s.kind) step [] tt (All-nil (λ s. IsOtherKind s.kind));
          })

      -- where none was found nothing more was seen
      same_seen : found ≡ 0 → w.past.seen ≡ v.past.seen
      same_seen none = same_long w.past.seen v.past.seen sees.more (⊎_elim (λ e. omega arith) (λ e. omega arith) sees.least)

      unwritten : found ≡ 0 → latest_at w.base w.past.seen n.object v.grace ≤ n.time
      unwritten none =
          let time = own_time in
          let low : v.base < n.time =
          ∥∥₁_elim known le_prop (λ a. let after = (a.commits (index_of c n.position) (version_of n) own here).after in omega arith) in
          let bound : latest_at v.base v.past.seen n.object v.grace ≤ n.time =
          none_written v.base v.past.seen n.object n.time v.grace low
          (λ s e at writes late.
          sees.no_write none s e (subst (λ (b : ℕ). (b < s) × (slice_get v.past.seen (s - (b + 1)) ≡ Some e)) base at) writes (omega arith)) in
          subst (λ (b : ℕ). latest_at b w.past.seen n.object v.grace ≤ n.time) (sym (ap (λ (x : Knowledge). x.base) view_is))
          (subst (λ h. latest_at v.base h n.object v.grace ≤ n.time) (sym (same_seen none)) bound)

      pub loads_none : found ≡ 0 → LoadsSuper c v w l l n false
      loads_none none = record {
        time = found;
        makes = super_makes;
        grace = ap (λ (x : Knowledge). x.grace) view_is;
        none = λ b. (none, refl, unwritten none);
        some = λ b. absurd (cc);
      }

      pub loads_some : (m : Noted) → 0 < found → m ≡ retired l position found → LoadsSuper c v w l m n true
      loads_some m some_time log = record {
        time = found;
        makes = super_makes;
        grace = ap (λ (x : Knowledge). x.grace) view_is;
        none = λ b. absurd (cc);
        some = λ b. (
          some_time,
          log ∙ ap (λ p. retired l p found) position_is,
          subst (λ (b : ℕ). found ≤ b + length w.past.seen) (sym (ap (λ (x : Knowledge). x.base) view_is ∙ base)) sees.time,
        );
      }

    -- a section that found HEAD of the object empty tells that a time is found
    pub empty_is : FoundEmpty v n.object n.time → FoundEmpty v n.object own.time
    empty_is e = subst (FoundEmpty v n.object) (sym own_time) e
