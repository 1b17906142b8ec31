-- Which times the loads of CLOCK of the parts of a reclaiming call found.
use Rattle.std.proofs.Common.{◌≡◌, ℕ, ◌≤◌, List, [], ◌∷◌, ◌++◌, ap, subst, arith, Bool, Some, None}
use Rattle.std.proofs.lemmas.List.Elements.{All-cons, All-weaker}
use Rattle.mv_history.specs.declared.Step.{Step}
use Rattle.mv_history.specs.declared.StepKind.TheVariants.{LoadHead, ClearMark, CutHead, LoadDeath, StoreMaster}
use Rattle.mv_layout.specs.declared.Config.{Config}
use Rattle.mv_layout.specs.declared.SharedWord.TheVariants.{Clock, Head, Mark}
use Rattle.mv_layout.specs.Places.{place_of}
use Rattle.mv_layout.specs.Words.{clock_time_of, link_of}
use Rattle.seat_log.specs.mv_core.declared.view.Knowledge.{Knowledge}
use Rattle.seat_log.specs.mv_core.declared.view.OwnSection.{OwnSection}
use Rattle.seat_log.specs.mv_core.EnterSteps.{mark_cleared}
use Rattle.seat_log.specs.mv_core.WalkSteps.{head_loaded}
use Rattle.seat_log.specs.commit_clock.Hears.{TellsTime, FindsUpTo, Hears}
use Rattle.seat_log.proofs.commit_clock_lemmas.Hearing.{hears_one, hears_on, hears_quiet}
use Rattle.seat_log.specs.reader_marks.declared.scanning.Watermark.{Watermark}
use Rattle.seat_log.specs.reader_marks.Scans.{Scans, scan_step, mark_steps, grace_step}
use Rattle.seat_log.specs.declared.version.Note.{Note}
use Rattle.seat_log.specs.Notes.{Noted}
use Rattle.log_reclaim.specs.declared.writing_back.StartedWriteBack.{StartedWriteBack}
use Rattle.log_reclaim.specs.Backs.{HasCut, HasLostTo, FindsDeath}
use Rattle.log_reclaim.specs.Parts.{super_load}
use Rattle.log_reclaim.specs.Rounds.{FreesAll}
use Rattle.log_reclaim.specs.Tries.{LoadsSuper}
use Rattle.log_reclaim.proofs.FreedAll.{free_kind}
use Rattle.log_reclaim.proofs.causes.ScanCauses.{after_clock_all}
use Rattle.log_reclaim.proofs.looks.StoringAll.{HasStored}

-- HEAD was loaded after that
pub heard_looked : (c : Config) (v u w : Knowledge) (inside : OwnSection) (object link top : ℕ) → Hears v u top → w ≡ head_loaded c u inside object link
    → Hears v w top
heard_looked c v u w inside object link top first is =
    let s : Step = record { kind = LoadHead; word = place_of c (Head object); found = Some link; stored = None } in
    hears_on v u w top first (hears_one u w top s (ap (λ (x : Knowledge). x.trail) is) (λ tells. absurd tells))

-- the section was left after that
pub heard_left : (c : Config) (v u w : Knowledge) (top : ℕ) → Hears v u top → w ≡ mark_cleared c u → Hears v w top
heard_left c v u w top first is =
    let s : Step = record { kind = ClearMark; word = place_of c (Mark u.number); found = None; stored = Some 0 } in
    hears_on v u w top first (hears_one u w top s (ap (λ (x : Knowledge). x.trail) is) (λ tells. absurd tells))

-- SUPER was loaded
pub heard_super : (c : Config) (v w : Knowledge) (l m : Noted) (n : Note) (found : Bool) (top : ℕ) → LoadsSuper c v w l m n found → Hears v w top
heard_super c v w l m n found top k = hears_one v w top (super_load c v.number n k.time) k.makes.reclaims.trail (λ tells. absurd tells)

-- a chain was cut, and CLOCK loaded
pub heard_cut : (c : Config) (v u x w : Knowledge) (back : StartedWriteBack) (time : ℕ) → HasCut c v u back → FindsDeath c u x time → w ≡ mark_cleared c x
    → Hears v w time
heard_cut c v u x w back time cut death left =
    let s : Step = record { kind = CutHead; word = place_of c (Head back.object); found = Some (link_of v.number back.position); stored = Some 0 } in
    let d : Step = record { kind = LoadDeath; word = place_of c Clock; found = Some death.word; stored = None } in
    heard_left c v x w time
    (hears_on v u x time (hears_one v u time s (ap (λ (y : Knowledge). y.trail) cut.view) (λ tells. absurd tells))
    (hears_one u x time d (ap (λ (y : Knowledge). y.trail) death.view) (λ tells word found.
    let e : death.word ≡ word = cc in let same = ap clock_time_of e in let is = death.time_is in omega arith)))
    left

-- a chain wasn't cut
pub heard_uncut : (c : Config) (v u w : Knowledge) (back : StartedWriteBack) (seat top : ℕ) → HasLostTo c v u back seat → w ≡ mark_cleared c u → Hears v w top
heard_uncut c v u w back seat top lost left =
    let s : Step = record { kind = CutHead; word = place_of c (Head back.object); found = Some lost.link; stored = None } in
    heard_left c v u w top (hears_one v u top s (ap (λ (y : Knowledge). y.trail) lost.view) (λ tells. absurd tells)) left

-- words were stored
pub heard_stored : (c : Config) (v w : Knowledge) (b d : StartedWriteBack) (count before after top : ℕ) → HasStored c v w b d count before after → Hears v w top
heard_stored c v w b d count before after top k =
    hears_quiet v w top k.made k.trail
    (All-weaker (λ (s : Step). s.kind ≡ StoreMaster) (λ s. TellsTime s.kind → ⊥) (λ s e tells. subst TellsTime e tells) k.made k.kinds)

-- slots were freed
pub heard_freed : (v w : Knowledge) (l m : Noted) (made : List Step) (time freed top : ℕ) → FreesAll v w l m made time freed → Hears v w top
heard_freed v w l m made time freed top k =
    hears_quiet v w top made k.makes.reclaims.trail (free_kind (λ kind. TellsTime kind → ⊥) (λ tells. tells) made k.kinds)

-- a scan was made
pub heard_scan : (c : Config) (v w : Knowledge) (mark : Watermark) (clock before after top : ℕ) → Scans c v w mark clock before after → clock ≤ top
    → Hears v w top
heard_scan c v w mark clock before after top k le =
    let rest : List Step = mark_steps c v.number k.marks c.seats ++ grace_step c mark.low k.found ∷ [] in
    let is = k.clock_is in
    record {
      made = scan_step c k.word ∷ rest;
      trail = ap (λ (x : Knowledge). x.trail) k.view;
      most = All-cons (λ s. FindsUpTo top s) (scan_step c k.word) rest
          (λ tells word found. let e : k.word ≡ word = cc in let same = ap clock_time_of e in omega arith)
          (All-weaker (λ (s : Step). TellsTime s.kind → ⊥) (λ s. FindsUpTo top s) (λ s quiet tells. absurd (quiet tells)) rest
          (after_clock_all (λ kind. TellsTime kind → ⊥) c v.number k.marks mark.low k.found (λ tells. tells) (λ tells. tells)));
    }
