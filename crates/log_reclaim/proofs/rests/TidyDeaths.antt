-- Which times of death the versions have in a tidy: after the first round, after the rest, and after the last round.
use Rattle.std.proofs.Common.{◌≡◌, ◌⊎◌, ℕ, ◌+◌, ◌<◌, ◌≤◌, true, false, List, length, sym, ap, ◌∙◌, subst, inl, inr, ⊎_elim, arith, slice_get}
use Rattle.std.proofs.lemmas.Bool.{cases_lt}
use Rattle.mv_history.specs.State.{State, Writes}
use Rattle.mv_history.specs.declared.Step.{Step}
use Rattle.mv_layout.specs.declared.Config.{Config}
use Rattle.seat_log.specs.mv_core.declared.view.Knowledge.{Knowledge}
use Rattle.seat_log.specs.mv_core.Known.{Known}
use Rattle.seat_log.specs.declared.version.Note.{Note}
use Rattle.seat_log.specs.Notes.{Noted, IsNoteAt}
use Rattle.seat_log.specs.Stands.{Stands}
use Rattle.log_reclaim.specs.declared.settling.HeadHolders.{HeadHolders}
use Rattle.log_reclaim.specs.declared.rounds.RoundScan.{RoundScan}
use Rattle.log_reclaim.specs.Parts.{DiesFrom}
use Rattle.log_reclaim.specs.Untimed.{StaysUntimed}
use Rattle.log_reclaim.specs.Sweeps.{Sweeps, found_at}
use Rattle.log_reclaim.specs.Holders.{IsOthers}
use Rattle.log_reclaim.specs.Tidies.{RestsSo}
use Rattle.log_reclaim.proofs.Needed.{death_known}
use Rattle.log_reclaim.proofs.Reclaiming.{reclaims_number, reclaims_base, reclaims_more}
use Rattle.log_reclaim.proofs.Others.{others_meanwhile}

-- a note without a time of death is as it was
pub untimed_same : (old n : Note) → DiesFrom old n → n.dead ≡ 0 → n ≡ old
untimed_same old n dies none =
    let was : old.dead ≡ 0 = ⊎_elim (λ some. let e = dies.once some in absurd (omega arith)) (λ le. omega arith) (cases_lt 0 old.dead) in
    dies.same ∙ ap (λ (t : ℕ). record old { dead = t }) (none ∙ sym was)

module _ (starts : State → Type 0) (allows : List ℕ → State → Writes → Type 0) (c : Config) (v u : Knowledge) (k l : Noted) (made : List Step)
    (first : RoundScan)
    (found : HeadHolders) (freed : ℕ)
    (sweep : Sweeps c v u k l made true first found freed) (stands : Stands c v k) (known : ∥ Known starts allows v ∥₁) where
  -- after the first round each was seen, or is at most one above the clock
  pub death_first : (i : ℕ) (n : Note) → IsNoteAt l i n → (n.dead ≤ u.base + length u.past.seen) ⊎ (n.dead ≤ first.latest + 1)
  death_first i n at =
      let r = sweep.notes i n at in
      ⊎_elim
      (λ same.
      let was = death_known c v k (i + freed) r.0 stands r.1 starts allows known in
      let after = sweep.after in
      let from = sweep.from in
      inr (omega arith))
      (λ new. ⊎_elim (λ seen. inl seen.0) (λ t. inr t.1) new)
      r.3

  module _ (x : Knowledge) (m : Noted) (rested : List Step) (rest : RestsSo c u x l m rested first.latest) where
    pub at_before : (i : ℕ) (n : Note) → IsNoteAt m i n → IsNoteAt l i n
    at_before i n at = ap (λ (q : Noted). slice_get q.live i) (sym rest.log) ∙ at

    -- after the rest each was seen, or the last time was
    pub death_next : (i : ℕ) (n : Note) → IsNoteAt m i n
        → (n.dead ≤ x.base + length x.past.seen) ⊎ ((x.base + length x.past.seen ≡ 35184372088831) × (x.past.rests ≡ u.past.rests))
    death_next i n at =
        let was = at_before i n at in
        let base = reclaims_base u x rested rest.reclaims in
        let more = reclaims_more u x rested rest.reclaims in
        let within = sweep.within in
        ⊎_elim
        (λ none. let le = none i n was in inl (omega arith))
        (λ moved. ⊎_elim (λ late. inl (⊎_elim (λ seen. omega arith) (λ one. omega arith) (death_first i n was))) inr moved)
        rest.dated

    module _ (w : Knowledge) (o : Noted) (later : List Step) (last : RoundScan) (unused : HeadHolders) (more : ℕ)
        (again : Sweeps c x w m o later false last unused more) where
      -- of a version that has none after the last round it is known why from the first
      pub untimed_first : (i : ℕ) (n : Note) → IsNoteAt o i n → n.dead ≡ 0 → StaysUntimed c u made first.mark first.clock true n (found_at found n.position)
      untimed_first i n at none =
          let r = again.notes i n at in
          let was = at_before (i + more) r.0 r.1 in
          sweep.untimed (i + more) n (subst (IsNoteAt l (i + more)) (sym (untimed_same r.0 n r.2 none)) was) none

      -- one that is above the last scan's clock and in time was seen only after that scan
      pub death_last : (i : ℕ) (n : Note) → IsNoteAt o i n → last.clock < n.dead → n.dead ≤ 35184372088831 → n.dead ≤ w.base + length w.past.seen
      death_last i n at late in_time =
          let r = again.notes i n at in
          let after = again.after in
          ⊎_elim
          (λ same. ⊎_elim (λ seen. absurd (omega arith)) (λ end. let all = end.0 in absurd (omega arith)) (death_next (i + more) r.0 r.1))
          (λ new. ⊎_elim (λ seen. seen.0) (λ t. let b : false ≡ true = t.0 in absurd cc) new)
          r.3

      -- and so is of another seat's entry
      pub death_others : ∥ Known starts allows x ∥₁ → ∥ Known starts allows w ∥₁ → (i : ℕ) (n : Note) → IsNoteAt o i n → last.clock < n.dead
          → n.dead ≤ 35184372088831 → IsOthers w n.dead
      death_others known_x known_w i n at late in_time =
          let r = again.reclaims in
          let after = again.after in
          others_meanwhile starts allows x w known_x known_w (reclaims_number x w later r) (reclaims_base x w later r) r.seen r.mine again.rests n.dead
          (omega arith) (death_last i n at late in_time)
