-- What the loads of CLOCK of an `enter` found.
use Rattle.std.proofs.Common.{◌≡◌, ℕ, ◌+◌, ◌≤◌, List, length, ap, subst, sym, arith, Option, Some, None, unwrap_or}
use Rattle.mv_history.specs.declared.Entry.{Entry}
use Rattle.mv_history.specs.declared.Step.{Step}
use Rattle.mv_history.specs.declared.StepKind.TheVariants.{LoadLow, StoreMark, LoadTime}
use Rattle.mv_layout.specs.declared.Config.{Config}
use Rattle.mv_layout.specs.declared.SharedWord.TheVariants.{Clock, Mark}
use Rattle.mv_layout.specs.Places.{place_of}
use Rattle.mv_layout.specs.Words.{clock_time_of}
use Rattle.commit_clock.specs.mv_core.declared.view.Knowledge.{Knowledge}
use Rattle.commit_clock.specs.mv_core.EnterSteps.{low_loaded, mark_stored, time_loaded}
use Rattle.commit_clock.specs.Hears.{HearsJust, Hears}
use Rattle.commit_clock.proofs.Hearing.{hears_one, hears_on, hears_just}
use Rattle.reader_marks.specs.Sections.{Begins}

-- the section's word is of a time that was seen
pub time_seen : (c : Config) (v w : Knowledge) (time word top : ℕ) → Begins c v w time → time ≡ clock_time_of word → top ≡ c.base + length w.past.seen
    → clock_time_of word ≤ top
time_seen c v w time word top k is last = let at = k.time_is in let within = k.within in omega arith

pub hears_entered : (c : Config) (v v1 v2 v3 w : Knowledge) (low mark word x top : ℕ) (h : List Entry) (last : Option ℕ) → v1 ≡ low_loaded c v low
    → v2 ≡ mark_stored c v1 mark → v3 ≡ time_loaded c v2 word h → HearsJust v3 w last → x ≡ unwrap_or last word → top ≡ clock_time_of x
    → clock_time_of word ≤ top → Hears v w top
hears_entered c v v1 v2 v3 w low mark word x top h last is1 is2 is3 just is top_is within =
    let a : Step = record { kind = LoadLow; word = place_of c Clock; found = Some low; stored = None } in
    let b : Step = record { kind = StoreMark; word = place_of c (Mark v1.number); found = None; stored = Some (1 + mark) } in
    let d : Step = record { kind = LoadTime; word = place_of c Clock; found = Some word; stored = None } in
    hears_on v v1 w top (hears_one v v1 top a (ap (λ (u : Knowledge). u.trail) is1) (λ tells. absurd tells))
    (hears_on v1 v2 w top (hears_one v1 v2 top b (ap (λ (u : Knowledge). u.trail) is2) (λ tells. absurd tells))
    (hears_on v2 v3 w top
    (hears_one v2 v3 top d (ap (λ (u : Knowledge). u.trail) is3) (λ tells found there.
    let e : word ≡ found = cc in let same = ap clock_time_of e in omega arith))
    (subst (Hears v3 w) (sym top_is) (hears_just v3 w last word x is just))))
