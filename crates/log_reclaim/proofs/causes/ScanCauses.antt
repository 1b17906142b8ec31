-- What the steps of a scan show: whose mark was read, which times are after the scan, and the last time where the scan found it.
use Rattle.std.proofs.Common.{◌≡◌, ◌≢◌, ℕ, zero, suc, ◌+◌, ◌<◌, ◌≤◌, ◌==◌, if◌then◌else◌, Bool, true, false}
use Rattle.std.proofs.Common.{List, [], ◌∷◌, ◌++◌, All, Contains, refl, sym, ap, ◌∙◌, subst, ⊎_elim, arith, append_assoc, Some}
use Rattle.std.proofs.Common.{None}
use Rattle.std.proofs.lemmas.Bool.{cases_lt, ne_eqb}
use Rattle.std.proofs.lemmas.List.Elements.{All-nil, All-cons, All-append, Contains-append_left, Contains-append_right}
use Rattle.mv_history.specs.declared.Step.{Step}
use Rattle.mv_history.specs.declared.StepKind.{StepKind}
use Rattle.mv_history.specs.declared.StepKind.TheVariants.{LoadMark, RaiseGrace}
use Rattle.mv_layout.specs.declared.Config.{Config}
use Rattle.seat_log.specs.reader_marks.declared.scanning.Watermark.{Watermark}
use Rattle.seat_log.specs.reader_marks.Scans.{IsFixedBy, mark_step, mark_steps, scan_step, grace_step, scan_steps}
use Rattle.log_reclaim.specs.Parts.{BeginsNoScan, HasScanned}
use Rattle.log_reclaim.specs.Holders.{ReadsMark, IsAfterScan, FindsLast}

-- the load of a mark is among those of the seats up to it
mark_there : (c : Config) (own : ℕ) (marks : ℕ → ℕ) (n seat : ℕ) → seat < n → seat ≢ own → Contains (mark_steps c own marks n) (mark_step c seat (marks seat))
mark_there c own marks zero seat lt ne = absurd (omega arith)
mark_there c own marks (suc n) seat lt ne =
    ⊎_elim
    (λ before. Contains-append_left (mark_steps c own marks n) (here n) (mark_step c seat (marks seat)) (mark_there c own marks n seat before ne))
    (λ le.
    let same : seat ≡ n = omega arith in
    let differs : n ≢ own = λ e. ne (same ∙ e) in
    let one : Contains (here n) (mark_step c n (marks n)) =
    subst (λ (b : Bool). Contains (if b then [] else mark_step c n (marks n) ∷ []) (mark_step c n (marks n))) (sym (ne_eqb n own differs))
    (0, omega arith, refl) in
    Contains-append_right (mark_steps c own marks n) (here n) (mark_step c seat (marks seat))
    (subst (λ (s : ℕ). Contains (here n) (mark_step c s (marks s))) (sym same) one))
    (cases_lt seat n)
  where
    here : ℕ → List Step
    here s = if s == own then [] else mark_step c s (marks s) ∷ []

-- a step or none
one_or_none : (P : StepKind → Type 0) (b : Bool) (s : Step) → P s.kind → All (λ (x : Step). P x.kind) (if b then [] else s ∷ [])
one_or_none P true s p = All-nil (λ (x : Step). P x.kind)
one_or_none P false s p = All-cons (λ (x : Step). P x.kind) s [] p (All-nil (λ (x : Step). P x.kind))

marks_all : (P : StepKind → Type 0) (c : Config) (own : ℕ) (marks : ℕ → ℕ) (n : ℕ) → P LoadMark → All (λ (s : Step). P s.kind) (mark_steps c own marks n)
marks_all P c own marks zero p = All-nil (λ (s : Step). P s.kind)
marks_all P c own marks (suc n) p =
    All-append (λ (s : Step). P s.kind) (mark_steps c own marks n) (if n == own then [] else mark_step c n (marks n) ∷ []) (marks_all P c own marks n p)
    (one_or_none P (n == own) (mark_step c n (marks n)) p)

-- what holds of a load of MARK and of a raise of GRACE holds of all steps of a scan after its first
pub after_clock_all : (P : StepKind → Type 0) (c : Config) (own : ℕ) (marks : ℕ → ℕ) (low found : ℕ) → P LoadMark → P RaiseGrace
    → All (λ (s : Step). P s.kind) (mark_steps c own marks c.seats ++ grace_step c low found ∷ [])
after_clock_all P c own marks low found p q =
    All-append (λ (s : Step). P s.kind) (mark_steps c own marks c.seats) (grace_step c low found ∷ []) (marks_all P c own marks c.seats p)
    (All-cons (λ (s : Step). P s.kind) (grace_step c low found) [] q (All-nil (λ (s : Step). P s.kind)))

module _ (c : Config) (own : ℕ) (made : List Step) (mark : Watermark) (clock : ℕ) (k : HasScanned c own made mark clock) where
  abbrev steps : List Step
  steps = scan_steps c own k.word k.marks mark.low k.found

  -- a step of the scan is one of those made
  scan_there : (s : Step) → Contains steps s → Contains made s
  scan_there s there =
      subst (λ (all : List Step). Contains all s) (sym k.made_is)
      (Contains-append_left (k.before ++ steps) k.after s (Contains-append_right k.before steps s there))

  -- its low time isn't above the clock's, nor above its watermark
  pub low_below : mark.low ≤ clock
  low_below = go mark.marked k.lowest.fixed
    where
      go : (b : Bool) → IsFixedBy clock k.marks c.seats mark.low (if b then Some mark.seat else None) → mark.low ≤ clock
      go true fixed = let lt = fixed.0 in omega arith
      go false fixed = omega arith

  pub low_known : mark.low ≤ mark.time
  low_known = let is = k.time in omega arith

  -- a low time below the clock's is of the mark of another seat, which the scan read
  pub marked_cause : mark.low < clock → ReadsMark c own made mark.seat mark.low
  marked_cause lt = go mark.marked k.lowest.fixed
    where
      go : (b : Bool) → IsFixedBy clock k.marks c.seats mark.low (if b then Some mark.seat else None) → ReadsMark c own made mark.seat mark.low
      go false fixed = absurd (omega arith)
      go true fixed =
          let first = fixed.1 in
          let found : k.marks mark.seat ≡ 1 + mark.low = first.1 in
          let differs : mark.seat ≢ own = λ e. let none : k.marks mark.seat ≡ 0 = ap k.marks e ∙ k.own_is in omega arith in
          let marks : List Step = mark_steps c own k.marks c.seats in
          let load : Step = mark_step c mark.seat (k.marks mark.seat) in
          let there : Contains steps load =
          Contains-append_left (scan_step c k.word ∷ marks) (grace_step c mark.low k.found ∷ []) load
          (Contains-append_right (scan_step c k.word ∷ []) marks load (mark_there c own k.marks c.seats mark.seat first.0 differs)) in
          record { not_own = differs; in_range = first.0; read = subst (λ (m : ℕ). Contains made (mark_step c mark.seat m)) found (scan_there load there) }

  -- a time above the clock's is after the scan
  pub fresh_cause : (time : ℕ) → clock < time → IsAfterScan c made time
  fresh_cause time lt =
      let is = k.clock_is in
      let rest : List Step = mark_steps c own k.marks c.seats ++ grace_step c mark.low k.found ∷ [] in record {
        word = k.word;
        before = k.before;
        after = rest ++ k.after;
        made_is = k.made_is ∙ append_assoc k.before steps k.after;
        last = All-append (λ (s : Step). BeginsNoScan s.kind) rest k.after (after_clock_all BeginsNoScan c own k.marks mark.low k.found tt tt) k.last;
        later = omega arith;
      }

  -- and where the scan found the last time, it is found
  pub end_found : clock ≡ 35184372088831 → FindsLast made
  end_found last = record {
    step = scan_step c k.word;
    there = scan_there (scan_step c k.word) (0, omega arith, refl);
    clock = refl;
    word = k.word;
    found = refl;
    last = sym k.clock_is ∙ last;
  }
