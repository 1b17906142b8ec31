-- The cause of the holder that a round answers, and what it leaves.
use Rattle.std.proofs.Common.{◌≡◌, ℕ, ◌<◌, List, [], length, Bool, true, refl, sym, subst, inl, inr, ⊎_elim, arith, Option, Some, None}
use Rattle.std.proofs.lemmas.Bool.{cases_lt}
use Rattle.mv_history.specs.State.{State, Writes}
use Rattle.mv_history.specs.Trail.{clock_exchanges}
use Rattle.mv_history.specs.declared.Step.{Step}
use Rattle.mv_history.specs.declared.answers.Holder.{Holder}
use Rattle.mv_layout.specs.declared.Config.{Config}
use Rattle.seat_log.specs.mv_core.declared.view.Knowledge.{Knowledge}
use Rattle.seat_log.specs.mv_core.Known.{Known}
use Rattle.seat_log.specs.declared.version.Note.{Note}
use Rattle.seat_log.specs.Notes.{Noted, IsNoteAt}
use Rattle.seat_log.specs.Stands.{Stands}
use Rattle.seat_log.specs.Frees.{IsDeadNote}
use Rattle.seat_log.proofs.Places.{get_within}
use Rattle.log_reclaim.specs.declared.settling.HeadHolders.{HeadHolders}
use Rattle.log_reclaim.specs.declared.rounds.RoundScan.{RoundScan}
use Rattle.log_reclaim.specs.Parts.{Reclaims, HasScanned}
use Rattle.log_reclaim.specs.Untimed.{StaysUntimed}
use Rattle.log_reclaim.specs.Sweeps.{found_at, Sweeps, SweepsAll}
use Rattle.log_reclaim.specs.Holders.{RoundHolds, HeldSo}
use Rattle.log_reclaim.specs.Rounds.{untimed_holder, holder_of, IsHolder, SweptSo, HasMade}
use Rattle.log_reclaim.proofs.Reclaiming.{reclaims_number}
use Rattle.log_reclaim.proofs.rests.Exchanges.{none_exchanged}
use Rattle.log_reclaim.proofs.Needed.{needs_of_note, needs_more_timed, needs_more_untimed}
use Rattle.log_reclaim.proofs.causes.ScanCauses.{low_known, marked_cause, fresh_cause}
use Rattle.log_reclaim.proofs.causes.EndCause.{end_cause}
use Rattle.log_reclaim.proofs.causes.HolderCases.{by_cases}

module _ (starts : State → Type 0) (allows : List ℕ → State → Writes → Type 0) (c : Config) (v w : Knowledge) (l m : Noted) (made : List Step) (back : Bool)
    (scanned : RoundScan) (found : HeadHolders) (freed : ℕ) (k : Sweeps c v w l m made back scanned found freed) where
  scan : HasScanned c w.number made scanned.mark scanned.clock
  scan = subst (λ (own : ℕ). HasScanned c own made scanned.mark scanned.clock) (sym (reclaims_number v w made k.reclaims)) k.scan

  -- what a round leaves that scanned
  pub round_swept : SweptSo c w m made back
  round_swept =
      ⊎_elim
      (λ some. inr
      (record {
        mark = scanned.mark;
        clock = scanned.clock;
        scan = scan;
        kept = k.kept some;
        untimed = λ i n at alive. (found_at found n.position, k.untimed i n at alive);
      }))
      (λ none. inl (omega arith))
      (cases_lt 0 (length m.live))

  module _ (stood : Stands c v l) (stands : Stands c w m) (before : ∥ Known starts allows v ∥₁) (after : ∥ Known starts allows w ∥₁) where
    module _ (i : ℕ) (n : Note) (at : IsNoteAt m i n) (oldest : n.first ≡ m.freed) (alive : IsDeadNote scanned.mark.time n → ⊥) where
      -- a time of death is above the watermark, and so above its low time
      above_low : 0 < n.dead → scanned.mark.low < n.dead
      above_low some =
          let low = low_known c w.number made scanned.mark scanned.clock scan in
          ⊎_elim (λ lt. omega arith) (λ le. absurd (alive (some, le))) (cases_lt scanned.mark.time n.dead)

      untimed : (above : Option ℕ) → StaysUntimed c w made scanned.mark scanned.clock back n above → n.dead ≡ 0 → back ≡ true
          → RoundHolds c w m made back (untimed_holder scanned n above)
      untimed None u none wrote =
          let t = u.tried wrote in
          let low = low_known c w.number made scanned.mark scanned.clock scan in (
            marked_cause c w.number made scanned.mark scanned.clock scan t.0,
            needs_more_untimed c w m i n stands at starts allows after oldest scanned.mark.low none u.committed u.unwritten
                (⊎_elim (λ young. inl (omega arith)) inr t.1),
          )
      untimed (Some seat) u none wrote = record {
        index = i;
        note = n;
        at = at;
        oldest = oldest;
        committed = u.committed;
        untimed = none;
        object_is = λ _. n.object;
        finds = u.tried wrote;
      }

      cause : RoundHolds c w m made back (holder_of scanned scanned back found n)
      cause =
          by_cases (RoundHolds c w m made back) scanned scanned back found n
          (λ late. (
            end_cause starts allows c v w l m made back scanned found freed k stood before after i n at late,
            needs_more_timed c w m i n stands at starts allows after oldest 35184372088831 late,
          ))
          (λ above within.
          inl (
            fresh_cause c w.number made scanned.mark scanned.clock scan n.dead above,
            needs_of_note c w m i n stands at starts allows after oldest (omega arith),
          ))
          (λ some within.
          let lt = above_low some in (
            marked_cause c w.number made scanned.mark scanned.clock scan (omega arith),
            needs_more_timed c w m i n stands at starts allows after oldest scanned.mark.low lt,
          ))
          (λ none wrote. untimed (found_at found n.position) (k.untimed i n at none) none wrote)
          (λ none unwritten.
          inr (unwritten, record { index = i; note = n; at = at; oldest = oldest; time_is = λ _. n.time; super = (k.untimed i n at none).super }))

    -- the holder that it answers has its cause in its steps
    pub round_holds : (held : Option Holder) → IsHolder m scanned scanned back found held → HeldSo (RoundHolds c w m made back) m held
    round_holds None dead = ⊎_elim (λ some. absurd (k.kept some dead)) (λ none. omega arith) (cases_lt 0 (length m.live))
    round_holds (Some holder) is =
        let due = is.1 in
        let lt = get_within m.live due.0 is.0 due.1 in
        (omega arith, subst (λ (h : Holder). RoundHolds c w m made back h) (sym is.2) (cause due.0 is.0 due.1 due.2 due.3))

    -- all that it leaves where it scanned
    pub round_scanned : (held : Option Holder) → IsHolder m scanned scanned back found held
        → Reclaims v w made × SweptSo c w m made back × HeldSo (RoundHolds c w m made back) m held × (clock_exchanges made ≡ [])
    round_scanned held is = (k.reclaims, round_swept, round_holds held is, none_exchanged made k.leaves)

-- it wrote nothing back unless it was to
pub round_plain : (c : Config) (v w : Knowledge) (l m : Noted) (made : List Step) (back : Bool) (scanned : RoundScan) (found : HeadHolders) (freed : ℕ)
    → Sweeps c v w l m made back scanned found freed → HasMade v w back
round_plain c v w l m made back scanned found freed k = (made, k.reclaims.trail, k.plain)

-- and where the log was empty before that
pub emptied_plain : (c : Config) (v w : Knowledge) (l m : Noted) (made : List Step) (back : Bool) (freed : ℕ) → SweepsAll c v w l m made freed
    → HasMade v w back
emptied_plain c v w l m made back freed k = (made, k.reclaims.trail, λ off. k.plain refl)

pub round_emptied : (c : Config) (v w : Knowledge) (l m : Noted) (made : List Step) (back : Bool) (freed : ℕ) → SweepsAll c v w l m made freed
    → (held : Option Holder) → held ≡ None → Reclaims v w made × SweptSo c w m made back × HeldSo (RoundHolds c w m made back) m held
    × (clock_exchanges made ≡ [])
round_emptied c v w l m made back freed k held none =
    (k.reclaims, inl k.empty, subst (HeldSo (RoundHolds c w m made back) m) (sym none) k.empty, none_exchanged made k.leaves)
