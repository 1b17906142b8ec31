-- A round that first freed what the watermark in GRACE allows.
use Rattle.std.proofs.Common.{◌≡◌, ℕ, ◌+◌, ◌<◌, ◌≤◌, List, [], ◌∷◌, ◌++◌, length, drop, All, Bool, true, false, refl, sym, ap, ◌∙◌, subst, arith}
use Rattle.std.proofs.Common.{append-nil, append_assoc, length-drop, Option, Some, None}
use Rattle.std.proofs.lemmas.List.Elements.{All-nil, All-cons, All-append}
use Rattle.mv_history.specs.declared.Step.{Step}
use Rattle.mv_layout.specs.declared.Config.{Config}
use Rattle.seat_log.specs.mv_core.declared.view.Knowledge.{Knowledge}
use Rattle.seat_log.specs.declared.version.Note.{Note}
use Rattle.seat_log.specs.Notes.{Noted, IsNoteAt}
use Rattle.seat_log.specs.Frees.{OldestIsDead, freed_noted}
use Rattle.log_reclaim.specs.declared.settling.HeadHolders.{HeadHolders}
use Rattle.log_reclaim.specs.declared.rounds.RoundScan.{RoundScan}
use Rattle.log_reclaim.specs.Parts.{LeavesClock, IsPlainKind, DiesFrom, Shrinks, HasScanned, grace_load}
use Rattle.log_reclaim.specs.Untimed.{DatedSo}
use Rattle.log_reclaim.specs.Tries.{Makes}
use Rattle.log_reclaim.specs.Sweeps.{found_at, Sweeps, SweepsAll}
use Rattle.log_reclaim.specs.Rounds.{EndsBy, FreesAll, FreesFirst, FreesBeforeScan}
use Rattle.log_reclaim.proofs.FreedAll.{free_kind}
use Rattle.log_reclaim.proofs.Reclaiming.{reclaims_on, makes_on, reclaims_number, reclaims_base, reclaims_more}
use Rattle.log_reclaim.proofs.Composed.{shrinks_then}
use Rattle.log_reclaim.proofs.Untimed.{untimed_then, dated_then}
use Rattle.log_reclaim.proofs.MoreSteps.{scanned_then}
use Rattle.log_reclaim.proofs.rests.Exchanges.{leaves_clock}
use Rattle.log_reclaim.proofs.Sweeping.{left_at}

module _ (v w : Knowledge) (l m : Noted) (made : List Step) (t freed : ℕ) (k : FreesAll v w l m made t freed) where
  frees_long : length m.live + freed ≡ length l.live
  frees_long = let e : length m.live ≡ length (drop freed l.live) = ap (λ (y : Noted). length y.live) k.log in let d = length-drop freed l.live in let few =
      k.few in omega arith

  pub frees_shrinks : Shrinks l m freed
  frees_shrinks = record {
    few = frees_long;
    notes = λ i n at. (
      n,
      subst (λ (j : ℕ). IsNoteAt l j n) (let q : freed + i ≡ i + freed = omega arith in q) (left_at l m freed i n k.log at),
      record { same = λ _. n; once = λ _ _. n.dead },
    );
    rest = k.log
        ∙ (λ i. record l {
          live = sym (ap (λ (y : Noted). y.live) k.log) i;
          freed = l.freed + freed;
          back = sym (ap (λ (y : Noted). y.back) k.log) i;
          rests = sym (ap (λ (y : Noted). y.rests) k.log) i;
        });
  }

-- a round that began with them
module _ (c : Config) (v w : Knowledge) (l m : Noted) (made : List Step) (t freed : ℕ) (k : FreesAll v w l m made t freed) where
  pub frees_first : (tidies : Bool) (rest : List Step) → (length m.live ≡ 0 → EndsBy c tidies rest)
      → FreesFirst c l ((grace_load c t ∷ []) ++ made ++ rest) tidies
  frees_first tidies rest none =
      let long = k.long in
      let all = frees_long v w l m made t freed k in record {
        time = t;
        frees = made;
        rest = rest;
        made_is = refl;
        kinds = k.kinds;
        few = omega arith;
        kept = λ lt dead. k.kept (omega arith)
            (subst (λ (x : Noted). OldestIsDead x t) (ap (freed_noted l) k.long ∙ sym k.log) dead);
        empty = λ e. none (omega arith);
      }

  -- and was no more
  pub frees_only : FreesFirst c l ((grace_load c t ∷ []) ++ made) false
  frees_only =
      subst (λ (s : List Step). FreesFirst c l s false) (append-nil ((grace_load c t ∷ []) ++ made)) (frees_first false [] (λ e. refl))

  -- and loaded GRACE once more
  pub frees_again : (again : ℕ) → FreesFirst c l ((grace_load c t ∷ []) ++ made ++ grace_load c again ∷ []) true
  frees_again again = frees_first true (grace_load c again ∷ []) (λ e. (again, refl))

  -- or scanned what they left
  pub frees_then : (rest : List Step) (scanned : RoundScan) → 0 < length m.live
      → FreesBeforeScan c l ((grace_load c t ∷ []) ++ made ++ rest) (Some scanned)
  unfolding frees_first
  frees_then rest scanned some =
      let long = k.long in
      let all = frees_long v w l m made t freed k in
      (frees_first false rest (λ e. absurd (omega arith)), (let lt : length made < length l.live = omega arith in lt))

-- it holds of more steps, of a round or a tidy, where the first frees left something
pub frees_longer : (c : Config) (l : Noted) (made more : List Step) (tidies : Bool) (f : FreesFirst c l made false) → length f.frees < length l.live
    → FreesFirst c l (made ++ more) tidies
frees_longer c l made more tidies f some = record {
  time = f.time;
  frees = f.frees;
  rest = f.rest ++ more;
  made_is = ap (λ (s : List Step). s ++ more) f.made_is ∙ append_assoc (grace_load c f.time ∷ f.frees) f.rest more;
  kinds = f.kinds;
  few = f.few;
  kept = f.kept;
  empty = λ e. absurd (omega arith);
}

-- whatever a round scanned, it freed first
pub freed_first : (c : Config) (l : Noted) (made : List Step) (scanned : Option RoundScan) → FreesBeforeScan c l made scanned → FreesFirst c l made false
freed_first c l made None f = f
freed_first c l made (Some scanned) f = f.0

-- the load of GRACE writes nothing back
pub grace_plain : (c : Config) (time : ℕ) → All (λ s. IsPlainKind s.kind) (grace_load c time ∷ [])
grace_plain c time = All-cons (λ (s : Step). IsPlainKind s.kind) (grace_load c time) [] tt (All-nil (λ (s : Step). IsPlainKind s.kind))

-- the frees left nothing
pub sweeps_all : (c : Config) (v g w : Knowledge) (l m : Noted) (one made : List Step) (t freed : ℕ) → Makes v g one
    → All (λ s. IsPlainKind s.kind) one → FreesAll g w l m made t freed → length m.live ≡ 0 → SweepsAll c v w l m (one ++ made) freed
sweeps_all c v g w l m one made t freed load plain k empty =
    let all = makes_on v g w one made load k.makes in
    record {
      reclaims = all.reclaims;
      leaves = leaves_clock (one ++ made) all.kinds;
      plain = λ off. All-append (λ s. IsPlainKind s.kind) one made plain (free_kind IsPlainKind tt made k.kinds);
      rests = all.rests;
      shrinks = frees_shrinks g w l m made t freed k;
      empty = empty;
    }

-- they left nothing, and what followed did nothing either
pub sweeps_on : (c : Config) (v x w : Knowledge) (l m : Noted) (made more : List Step) (freed : ℕ) → SweepsAll c v x l m made freed → Makes x w more
    → All (λ s. IsPlainKind s.kind) more → SweepsAll c v w l m (made ++ more) freed
sweeps_on c v x w l m made more freed k then plain = record {
  reclaims = reclaims_on v x w made more k.reclaims then.reclaims;
  leaves = All-append (λ s. LeavesClock s.kind) made more k.leaves (leaves_clock more then.kinds);
  plain = λ off. All-append (λ s. IsPlainKind s.kind) made more (k.plain off) plain;
  rests = then.rests ∙ k.rests;
  shrinks = k.shrinks;
  empty = k.empty;
}

-- they left something, and then the round scanned
module _ (c : Config) (v g x w : Knowledge) (l k m : Noted) (one made more : List Step) (t freed : ℕ) (back : Bool) (scanned : RoundScan)
    (found : HeadHolders) (then : ℕ)
    (load : Makes v g one) (plain : All (λ s. IsPlainKind s.kind) one) (frees : FreesAll g x l k made t freed)
    (s : Sweeps c x w k m more back scanned found then) where
  first : Makes v x (one ++ made)
  first = makes_on v g x one made load frees.makes

  before : (i : ℕ) (n : Note) → IsNoteAt m i n → (old : Note) × IsNoteAt l (i + (freed + then)) old × DiesFrom old n
      × DatedSo c w (one ++ made ++ more) scanned.latest back old n
  before i n at =
      let a = s.notes i n at in
      let le : scanned.latest ≤ scanned.latest = omega arith in (
        a.0,
        subst (λ (j : ℕ). IsNoteAt l j a.0) (let q : freed + (i + then) ≡ i + (freed + then) = omega arith in q)
            (left_at l k freed (i + then) a.0 frees.log a.1),
        a.2,
        dated_then c w (one ++ made) more scanned.latest scanned.latest back a.0 n le a.3,
      )

  pub sweeps_then : Sweeps c v w l m (one ++ made ++ more) back scanned found (freed + then)
  sweeps_then =
      let r = first.reclaims in
      let base = reclaims_base v x (one ++ made) r in
      let seen = reclaims_more v x (one ++ made) r in
      let later = s.after in record {
        reclaims = reclaims_on v x w (one ++ made) more r s.reclaims;
        leaves = All-append (λ s. LeavesClock s.kind) (one ++ made) more (leaves_clock (one ++ made) first.kinds) s.leaves;
        plain = λ off. All-append (λ s. IsPlainKind s.kind) (one ++ made) more
            (All-append (λ s. IsPlainKind s.kind) one made plain (free_kind IsPlainKind tt made frees.kinds)) (s.plain off);
        rests = s.rests ∙ first.rests;
        shrinks = shrinks_then l k m freed then (frees_shrinks g x l k made t freed frees) s.shrinks;
        scan = scanned_then (one ++ made) more c v.number scanned.mark scanned.clock
            (subst (λ (n : ℕ). HasScanned c n more scanned.mark scanned.clock) (reclaims_number v x (one ++ made) r) s.scan);
        known = s.known;
        after = omega arith;
        before = s.before;
        early = s.early;
        from = s.from;
        within = s.within;
        notes = before;
        untimed = λ i n at alive. untimed_then c w (one ++ made) more scanned.mark scanned.clock n back (found_at found n.position) (s.untimed i n at alive);
        kept = s.kept;
        table = s.table;
        alone = λ only.
            let is = s.alone only in
            let mine : length x.past.mine ≡ length v.past.mine = ap length r.mine in
            let rests = first.rests in
            omega arith;
      }
