-- The log behind a tidy, by that before it.
use Rattle.std.proofs.Common.{◌≡◌, ℕ, ◌+◌, ◌-◌, false, List, length, None, refl, sym, ap, ◌∙◌, subst, arith, slice_get}
use Rattle.std.specs.Prelude.{◌&&◌, is_some}
use Rattle.std.proofs.lemmas.List.Elements.{All-weaker}
use Rattle.mv_history.specs.declared.Step.{Step}
use Rattle.mv_history.specs.declared.StepKind.{StepKind}
use Rattle.mv_history.specs.declared.StepKind.TheVariants.{LockHead, UnlockHead, NameCommit}
use Rattle.mv_core.proofs.Terms.{Config}
use Rattle.mv_core.specs.declared.view.Knowledge.{Knowledge}
use Rattle.mv_core.specs.Known.{Known}
use Rattle.seat_log.specs.Notes.{Noted}
use Rattle.seat_log.specs.Stands.{Stands, is_lock_kind, is_unlock_kind, is_won_lock, is_unlock}
use Rattle.seat_log.proofs.StepCounts.{keeps_more}
use Rattle.log_reclaim.specs.Parts.{IsReclaimKind, Reclaims, Shrinks, DiesFrom}
use Rattle.log_reclaim.proofs.Idle.{still_of}
use Rattle.replay_rules.specs.declared.seats.NotedVersion.{NotedVersion}
use Rattle.replay_rules.specs.States.{any_commit, any_start}
use Rattle.replay_rules.proofs.runs.Sections.{RestsAt}
use Rattle.replay_rules.proofs.runs.LogFacts.{noted_long, noted_at}
use Rattle.replay_rules.proofs.runs.Rounds.{note_is}
use Rattle.replay_rules.proofs.answers.Tidying.Further.{further_number}
use Rattle.replay_rules.proofs.answers.Tidying.Far.{HasCome, note_in}

-- a kind of step that reclaiming may make locks nothing and gives nothing up
reclaim_kind : (kind : StepKind) → IsReclaimKind kind → (is_lock_kind kind ≡ false) × (is_unlock_kind kind ≡ false)
reclaim_kind NameCommit is = absurd is
reclaim_kind LockHead is = absurd is
reclaim_kind UnlockHead is = absurd is
reclaim_kind _ is = (refl, refl)

module _ (c : Config) (v0 w : Knowledge) (log : List NotedVersion) (freed from began : ℕ) (k : HasCome c v0 w log freed from began)
    (rests : RestsAt c w log freed from None) where
  abbrev pub before_noted : Noted
  before_noted = k.rests.2.noted

  abbrev pub after_noted : Noted
  after_noted = record rests.2.noted { aborts = k.rests.2.noted.aborts }

  same_held : rests.2.noted.held ≡ k.rests.2.noted.held
  same_held =
      let now = rests.2.is.held in
      let was = k.rests.2.is.held in
      let same = k.same.long in
      omega (arith, now, was, same)

  same_commits : rests.2.noted.commits ≡ k.rests.2.noted.commits
  same_commits = rests.2.stands.commits ∙ ap length k.further.mine ∙ sym k.rests.2.stands.commits

  -- no step of a tidy gives an object up, so no more were aborted
  same_aborts : rests.2.noted.aborts ≡ k.rests.2.noted.aborts
  same_aborts =
      let f = k.further in
      let kept = keeps_more v0.trail w.trail k.made f.trail
      (All-weaker (λ (s : Step). IsReclaimKind s.kind) (λ s. is_won_lock s ≡ false)
      (λ s is. ap (λ b. b && is_some s.stored) (reclaim_kind s.kind is).0) k.made f.kinds)
      (All-weaker (λ (s : Step). IsReclaimKind s.kind) (λ s. is_unlock s ≡ false) (λ s is. (reclaim_kind s.kind is).1) k.made f.kinds) in
      rests.2.stands.aborts ∙ kept.aborts ∙ sym k.rests.2.stands.aborts

  pub after_stands : Stands c w after_noted
  after_stands = subst (λ (n : ℕ). Stands c w (record rests.2.noted { aborts = n })) same_aborts rests.2.stands

  pub after_shrinks : Shrinks before_noted after_noted (freed - began)
  after_shrinks =
      let l = k.rests.2.noted in
      let m = rests.2.noted in
      let long = noted_long c m log freed from rests.2.is in
      let was = noted_long c l k.old began from k.rests.2.is in
      let gone = rests.2.is.gone in
      let left = k.rests.2.is.gone in
      let same = k.same.long in
      let low = k.same.low in
      let seat : m.seat ≡ l.seat = rests.2.stands.seat ∙ further_number v0 w k.made k.further ∙ sym k.rests.2.stands.seat in
      let slots : m.slots ≡ l.slots = rests.2.stands.slots ∙ sym k.rests.2.stands.slots in
      let built : m.built ≡ l.built = rests.2.is.unbuilt ∙ sym k.rests.2.is.unbuilt in
      let far : m.freed ≡ l.freed + (freed - began) = omega (arith, gone, left, low) in
      record {
        few = omega (arith, long, was, same, low);
        notes = λ i n at.
            let is = note_is c m log freed from i n rests.2.is at in
            let within = is.0 in
            let place : i + freed - began ≡ i + (freed - began) = omega (arith, low) in (
              note_in k.old (i + freed),
              ap (λ p. slice_get l.live p) (sym place)
                  ∙ noted_at c l k.old began from (i + freed) k.rests.2.is (omega (arith, low)) (omega (arith, within, same)),
              subst (DiesFrom (note_in k.old (i + freed))) (sym is.1) (k.same.each (i + freed) (omega arith) within),
            );
        rest = λ i. record {
          seat = seat i;
          slots = slots i;
          live = m.live;
          built = built i;
          held = same_held i;
          freed = far i;
          back = m.back;
          commits = same_commits i;
          aborts = l.aborts;
          rests = m.rests;
        };
      }

  pub after_reclaims : Known any_start any_commit w → w.scan ≡ None → Reclaims v0 w k.made
  after_reclaims known no_scan =
      let f = k.further in
      let still = still_of any_start any_commit w ∣ known ∣₁ rests.0 in
      record {
        outside = rests.0;
        no_scan = no_scan;
        seen = f.seen;
        mine = f.mine;
        grace = f.grace;
        trail = f.trail;
        kinds = f.kinds;
        rest = f.rest
            ∙ (λ i. record v0 {
              past = w.past;
              phase = rests.0 i;
              clocks = w.clocks;
              walk = still.0 i;
              empty = w.empty;
              ring = w.ring;
              back = still.1 i;
              scan = no_scan i;
              grace = w.grace;
              trail = w.trail;
            });
      }
