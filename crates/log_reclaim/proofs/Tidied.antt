-- What a tidy leaves: its first frees; and where they left something a scan with write-backs, one try of a rest, and a round without.
use Rattle.std.proofs.Common.{◌≡◌, ℕ, ◌+◌, ◌<◌, ◌≤◌, Bool, true, false, List, [], ◌∷◌, ◌++◌, length, refl}
use Rattle.std.proofs.Common.{sym, ap, ◌∙◌, subst, inl, inr, ⊎_elim, arith, append_assoc, slice_get, Option, Some, None}
use Rattle.mv_history.specs.State.{State, Writes}
use Rattle.mv_history.specs.Trail.{clock_exchanges}
use Rattle.mv_history.specs.declared.Step.{Step}
use Rattle.mv_history.specs.declared.answers.Holder.{Holder}
use Rattle.mv_layout.specs.declared.Config.{Config}
use Rattle.seat_log.specs.mv_core.declared.view.Knowledge.{Knowledge}
use Rattle.seat_log.specs.mv_core.Known.{Known}
use Rattle.seat_log.specs.commit_clock.Hears.{Hears}
use Rattle.seat_log.proofs.commit_clock_lemmas.Hearing.{hears_one, hears_on}
use Rattle.seat_log.specs.Notes.{Noted}
use Rattle.seat_log.specs.Stands.{Stands}
use Rattle.log_reclaim.specs.declared.settling.HeadHolders.{HeadHolders}
use Rattle.log_reclaim.specs.declared.rounds.RoundScan.{RoundScan}
use Rattle.log_reclaim.specs.Parts.{Reclaims, Shrinks, grace_load}
use Rattle.log_reclaim.specs.Tries.{Makes}
use Rattle.log_reclaim.specs.Sweeps.{HasEntries, Sweeps, SweepsAll, SweepsSo}
use Rattle.log_reclaim.specs.Holders.{TidyHolds, HeldSo}
use Rattle.log_reclaim.specs.Rounds.{FreesAll, FreesFirst, FreesBeforeScan, IsHolder, SweptSo}
use Rattle.log_reclaim.specs.Tidies.{RestsOnce, RestsWhereDue, RestsSo, WritesBackSo, HeldBy, TidiesLeft}
use Rattle.log_reclaim.proofs.Reclaiming.{reclaims_on}
use Rattle.log_reclaim.proofs.Composed.{shrinks_then}
use Rattle.log_reclaim.proofs.FirstFrees.{frees_longer, frees_then, grace_plain, sweeps_then}
use Rattle.log_reclaim.proofs.causes.RoundCauses.{round_swept}
use Rattle.log_reclaim.proofs.Swept.{swept_then}
use Rattle.log_reclaim.proofs.rests.Exchanges.{none_exchanged, one_between}
use Rattle.log_reclaim.proofs.causes.TidyCauses.{tidy_holds, tidy_tried}
use Rattle.log_reclaim.proofs.rests.RestsDue.{tidy_due}
use Rattle.log_reclaim.proofs.Alone.{none_alive}
use Rattle.log_reclaim.proofs.rests.Heard.{heard_freed}

pub none_held : {A : Type 0} (holder : Holder) → ◌≡◌ {A = Option Holder} None (Some holder) → A
none_held holder e = absurd (cc)

pub held_by_none : (o : Noted) (first : RoundScan) (last : Option RoundScan) (found : HeadHolders) (held : Option Holder) → last ≡ None → held ≡ None
    → HeldBy o first last found held
held_by_none o first None found held none is = is
held_by_none o first (Some last) found held none is = absurd cc

pub held_by_some : (o : Noted) (first : RoundScan) (last : Option RoundScan) (found : HeadHolders) (held answer : Option Holder) (two : RoundScan)
    → last ≡ Some two → held ≡ answer → IsHolder o first two true found answer → HeldBy o first last found held
held_by_some o first last found held answer two also is_held h =
    subst (λ (p : Option RoundScan). HeldBy o first p found held) (sym also) (subst (IsHolder o first two true found) (sym is_held) h)

pub no_notes : {X : Type 0} (xs : List X) → length xs ≡ 0 → xs ≡ []
no_notes [] e = refl
no_notes (x ∷ xs) e = absurd (omega arith)

shrinks_of : (c : Config) (v w : Knowledge) (l m : Noted) (made : List Step) (back : Bool) (found : HeadHolders) (freed : ℕ) (scanned : Option RoundScan)
    → SweepsSo c v w l m made back found freed scanned → Shrinks l m freed
shrinks_of c v w l m made back found freed None k = k.shrinks
shrinks_of c v w l m made back found freed (Some scanned) k = k.shrinks

-- a rest changes of the log only the count of rests
shrinks_rested : (l m o : Noted) (more : ℕ) → m ≡ record l { rests = m.rests } → Shrinks m o more → Shrinks l o more
shrinks_rested l m o more is k =
    let same : m.live ≡ l.live = ap (λ (q : Noted). q.live) is in
    record {
      few = k.few ∙ ap length same;
      notes = λ i n at. let r = k.notes i n at in (r.0, ap (λ xs. slice_get xs (i + more)) (sym same) ∙ r.1, r.2);
      rest = k.rest ∙ ap (λ (q : Noted). record q { live = o.live; freed = q.freed + more; back = o.back; rests = o.rests }) is;
    }

-- and the table of what the first scan found has an entry for each version that is left
pub table_left : (c : Config) (v w : Knowledge) (l m o : Noted) (made : List Step) (back : Bool) (found other : HeadHolders) (freed : ℕ)
    (scanned : Option RoundScan)
    → HasEntries l found → m ≡ record l { rests = m.rests } → SweepsSo c v w m o made back other freed scanned → HasEntries o found
table_left c v w l m o made back found other freed scanned table rested sweeps =
    let k = shrinks_of c v w m o made back other freed scanned sweeps in
    let live : length m.live ≡ length l.live = ap (λ (q : Noted). length q.live) rested in
    let same : m.freed ≡ l.freed = ap (λ (q : Noted). q.freed) rested in
    let from : o.freed ≡ m.freed + freed = ap (λ (q : Noted). q.freed) k.rest in
    let few = k.few in
    let low = table.0 in
    let high = table.1 in
    (omega arith, omega arith, table.2)

-- each of the two rounds leaves the rests as they were, and between them is at most one
rests_of : (c : Config) (v w : Knowledge) (l m : Noted) (made : List Step) (back : Bool) (found : HeadHolders) (freed : ℕ) (scanned : Option RoundScan)
    → SweepsSo c v w l m made back found freed scanned → w.past.rests ≡ v.past.rests
rests_of c v w l m made back found freed None k = k.rests
rests_of c v w l m made back found freed (Some scanned) k = k.rests

-- a tidy of which the first frees left something, by its parts
module _ (starts : State → Type 0) (allows : List ℕ → State → Writes → Type 0) (c : Config) (v u x w : Knowledge) (k l m o : Noted)
    (made rested later : List Step) (first : RoundScan) (found unused : HeadHolders) (freed more : ℕ) (sweep : Sweeps c v u k l made true first found freed)
    (rest : RestsSo c u x l m rested first.latest) (stands : Stands c v k) (stands_x : Stands c x m) (stands_w : Stands c w o)
    (known : ∥ Known starts allows v ∥₁) (known_x : ∥ Known starts allows x ∥₁) (known_w : ∥ Known starts allows w ∥₁) where
  frees_scanned : FreesBeforeScan c k made (Some first) → FreesFirst c k (made ++ rested ++ later) true
  frees_scanned one =
      subst (λ (s : List Step). FreesFirst c k s true) (sym (append_assoc made rested later)) (frees_longer c k made (rested ++ later) true one.0 one.1)

  by_parts : Hears v u first.latest → (last : Option RoundScan) → SweepsSo c x w m o later false unused more last → FreesBeforeScan c k made (Some first)
      → (held : Option Holder) → HeldBy o first last found held
      → (steps : List Step) × Reclaims v w steps × SweptSo c w o steps false × HeldSo (TidyHolds c w o steps) o held × (length (clock_exchanges steps) ≤ 1)
      × WritesBackSo c w o steps × FreesFirst c k steps true × RestsWhereDue c w k steps
  by_parts hears None again one held by =
      let steps : List Step = made ++ rested ++ later in (
        steps,
        reclaims_on v x w (made ++ rested) later (reclaims_on v u x made rested sweep.reclaims rest.reclaims) again.reclaims,
        inl again.empty,
        subst (HeldSo (TidyHolds c w o steps) o) (sym by) again.empty,
        one_between made rested later (none_exchanged made sweep.leaves) rest.few (none_exchanged later again.leaves),
        inl again.empty,
        frees_scanned one,
        tidy_due c v u x w k l m made rested later first found freed sweep hears rest again.reclaims (none_exchanged later again.leaves),
      )
  by_parts hears (Some last) again one held by =
      let steps : List Step = made ++ rested ++ later in (
        steps,
        reclaims_on v x w (made ++ rested) later (reclaims_on v u x made rested sweep.reclaims rest.reclaims) again.reclaims,
        swept_then c w o (made ++ rested) later false (round_swept starts allows c x w m o later false last unused more again),
        tidy_holds starts allows c v u x w k l m o made rested later first last found unused freed more sweep rest again stands stands_x stands_w
            known known_x known_w held by,
        one_between made rested later (none_exchanged made sweep.leaves) rest.few (none_exchanged later again.leaves),
        inr (tidy_tried starts allows c v u x w k l m o made rested later first last found unused freed more sweep rest again stands stands_x
            stands_w known known_x known_w),
        frees_scanned one,
        tidy_due c v u x w k l m made rested later first found freed sweep hears rest again.reclaims (none_exchanged later again.leaves),
      )

  none_left : (last : Option RoundScan) → SweepsSo c x w m o later false unused more last → v.number < c.seats → c.seats ≡ 1
      → v.base + length v.past.seen < 35184372088831 → o.live ≡ []
  none_left None again mine one early = no_notes o.live again.empty
  none_left (Some last) again mine one early =
      no_notes o.live
      (none_alive c one starts allows v u x w k l m o made rested later first last found unused freed more sweep rest again stands known mine early)

-- a tidy of which the first frees left something
module _ (starts : State → Type 0) (allows : List ℕ → State → Writes → Type 0) (c : Config) (v w : Knowledge) (l m : Noted) (freed : ℕ)
    (held : Option Holder) (t : TidiesLeft starts allows c v w l m freed held) where
  pub left_rests : RestsOnce v w
  left_rests =
      let before = t.scan.rests in
      let after = rests_of c t.rest_view w t.rest_log m t.last_steps false t.unused t.last_freed t.last t.again in
      ⊎_elim (λ same. inl (after ∙ same ∙ before)) (λ one. inr (after ∙ one ∙ ap (λ (n : ℕ). n + 1) before)) t.rest.once

  pub left_shrinks : Shrinks l m freed
  left_shrinks =
      subst (Shrinks l m) (sym t.freed_is)
      (shrinks_then l t.scan_log m t.first_freed t.last_freed t.scan.shrinks
      (shrinks_rested t.scan_log t.rest_log m t.last_freed t.rest.log
      (shrinks_of c t.rest_view w t.rest_log m t.last_steps false t.unused t.last_freed t.last t.again)))

  module _ (stands : Stands c v l) (stands_w : Stands c w m) (known : ∥ Known starts allows v ∥₁) (known_w : ∥ Known starts allows w ∥₁) where
    pub left_reclaims : FreesBeforeScan c l t.scan_steps (Some t.first)
        → (steps : List Step) × Reclaims v w steps × SweptSo c w m steps false × HeldSo (TidyHolds c w m steps) m held
        × (length (clock_exchanges steps) ≤ 1) × WritesBackSo c w m steps × FreesFirst c l steps true × RestsWhereDue c w l steps
    left_reclaims begins =
        by_parts starts allows c v t.scan_view t.rest_view w l t.scan_log t.rest_log m t.scan_steps t.rest_steps t.last_steps t.first t.found t.unused
        t.first_freed t.last_freed t.scan t.rest stands t.stands stands_w known t.known known_w t.hears t.last t.again begins held t.held_by

    pub left_alone : v.number < c.seats → c.seats ≡ 1 → v.base + length v.past.seen < 35184372088831 → m.live ≡ []
    left_alone =
        none_left starts allows c v t.scan_view t.rest_view w l t.scan_log t.rest_log m t.scan_steps t.rest_steps t.last_steps t.first t.found t.unused
        t.first_freed t.last_freed t.scan t.rest stands t.stands stands_w known t.known known_w t.last t.again

-- the same, counted from the load of GRACE and the frees that it allowed
module _ (starts : State → Type 0) (allows : List ℕ → State → Writes → Type 0) (c : Config) (v g x w : Knowledge) (l k m : Noted) (made : List Step)
    (time freed more : ℕ) (held : Option Holder) (load : Makes v g (grace_load c time ∷ [])) (frees : FreesAll g x l k made time freed)
    (t : TidiesLeft starts allows c x w k m more held) where
  -- the load of GRACE finds no time of CLOCK
  loaded : Hears v g t.first.latest
  loaded = hears_one v g t.first.latest (grace_load c time) load.reclaims.trail (λ tells. absurd tells)

  pub left_from : TidiesLeft starts allows c v w l m (freed + more) held
  left_from = record {
    scan_steps = (grace_load c time ∷ []) ++ made ++ t.scan_steps;
    scan_view = t.scan_view;
    scan_log = t.scan_log;
    first = t.first;
    found = t.found;
    first_freed = freed + t.first_freed;
    scan = sweeps_then c v g x t.scan_view l k t.scan_log (grace_load c time ∷ []) made t.scan_steps time freed true t.first t.found t.first_freed load
        (grace_plain c time) frees t.scan;
    hears = hears_on v g t.scan_view t.first.latest loaded
        (hears_on g x t.scan_view t.first.latest (heard_freed g x l k made time freed t.first.latest frees) t.hears);
    rest_steps = t.rest_steps;
    rest_view = t.rest_view;
    rest_log = t.rest_log;
    rest = t.rest;
    stands = t.stands;
    known = t.known;
    last_steps = t.last_steps;
    last = t.last;
    unused = t.unused;
    last_freed = t.last_freed;
    again = t.again;
    freed_is = let is = t.freed_is in omega arith;
    held_by = t.held_by;
  }

  pub left_begins : 0 < length k.live → FreesBeforeScan c l left_from.scan_steps (Some left_from.first)
  unfolding left_from
  left_begins some = frees_then c g x l k made time freed frees t.scan_steps t.first some

-- a tidy whose first frees left nothing
module _ (c : Config) (v w : Knowledge) (l m : Noted) (made : List Step) (freed : ℕ) (sweep : SweepsAll c v w l m made freed) where
  pub emptied : FreesFirst c l made true → (held : Option Holder) → held ≡ None
      → (steps : List Step) × Reclaims v w steps × SweptSo c w m steps false × HeldSo (TidyHolds c w m steps) m held × (length (clock_exchanges steps) ≤ 1)
      × WritesBackSo c w m steps × FreesFirst c l steps true × RestsWhereDue c w l steps
  emptied first held none =
      let untried = none_exchanged made sweep.leaves in
      let few = ap length untried in (
        made,
        sweep.reclaims,
        inl sweep.empty,
        subst (HeldSo (TidyHolds c w m made) m) (sym none) sweep.empty,
        (let le : length (clock_exchanges made) ≤ 1 = omega arith in le),
        inl sweep.empty,
        first,
        inl untried,
      )
