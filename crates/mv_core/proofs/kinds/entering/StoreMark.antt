-- store MARK. The form of a step that writes a word and changes parts of its view: what changes is named in `settle`, and of the facts below only those that
-- read it aren't that of before.
use Rattle.std.proofs.Common.{◌≡◌, ◌≢◌, ℕ, ◌+◌, ◌≤◌, cond, List, sym, refl, ap, ◌∙◌, subst, eq-eqb, ne_eqb, Some}
use Rattle.mv_core.proofs.Terms.{dite, ℕ_discrete, State, Writes, Config, Clock, Mark, clock_time_of, Memory, put, Knowledge, Phase, Outside, Lowered}
use Rattle.mv_core.proofs.Terms.{Marked, Inside, OwnSection, Scan, section_of, time_of, set_at}
use Rattle.mv_core.proofs.FactTerms.{MarkedAs, Marks, RunsOn, Stores, IsKept}
use Rattle.mv_core.specs.EnterSteps.{MayStoreMark, mark_stored}
use Rattle.mv_core.proofs.frames.FrameLaw.{set_at_here, set_at_else, set_at_all, unchanged, settle}

-- the mark of a seat after a store into one
pub put_mark : (m : Memory) (a n : ℕ) (P : ℕ → ℕ → Type 0) → P a n → ((b : ℕ) → b ≢ a → P b (m (Mark b))) → (b : ℕ) → P b (put m (Mark a) n (Mark b))
put_mark m a n P here rest b =
    dite (ℕ_discrete b a)
    (λ e. subst (λ (t : ℕ). P t (put m (Mark a) n (Mark t))) (sym e) (subst (P a) (sym (ap (λ t. cond t n (m (Mark a))) (eq-eqb a a refl))) here))
    (λ ne. subst (P b) (sym (ap (λ t. cond t n (m (Mark b))) (ne_eqb a b (λ e. ne (sym e))))) (rest b ne))

-- the marks after a seat stores its own and changes its phase to fit
pub marks_after : (m : Memory) (a n : ℕ) (phase : ℕ → Phase) (p : Phase) → Marks (m Clock) (λ s. m (Mark s)) phase → MarkedAs (m Clock) n p
    → Marks (m Clock) (λ s. put m (Mark a) n (Mark s)) (set_at phase a p)
marks_after m a n phase p old here =
    put_mark m a n (λ s x. MarkedAs (m Clock) x (set_at phase a p s))
    (subst (MarkedAs (m Clock) n) (sym (set_at_here phase a p)) here)
    (λ s ne. subst (MarkedAs (m Clock) (m (Mark s))) (sym (set_at_else phase a p s ne)) (old s))

-- a seat outside a section keeps what its pass has at run time
pub runs_outside : (v w : Knowledge) → ((s : OwnSection) → w.phase ≢ Inside s) → RunsOn v w
runs_outside v w out time first a b = ((λ s e. absurd (out s e)), (λ s e o l. absurd (out s e)))

module _ (starts : State → Type 0) (allows : List ℕ → State → Writes → Type 0) (c : Config) (start : State) (v : Knowledge) where
  mark_stores_low : (low : ℕ) → MayStoreMark v low → Stores starts allows c start v (Mark v.number) (1 + low) (λ w. ((w ≡ mark_stored c v low) × RunsOn v w)
      × IsKept v w)
  mark_stores_low low may m h seats k is own begins =
      let w = mark_stored c v low in
      let n = v.number in
      let phase_is : (seats n).phase ≡ Lowered low = ap (λ (u : Knowledge). u.phase) is ∙ may in
      let low_now : low ≤ clock_time_of (m Clock) = (subst (MarkedAs (m Clock) (m (Mark n))) phase_is (k.marks n)).1 in
      let marks = marks_after m n (1 + low) (λ s. (seats s).phase) (Marked low) k.marks (refl, low_now) in
      let scanning = set_at_all (λ s p. (running : Scan) → (seats s).scan ≡ Some running → p ≡ Outside) (λ t. (seats t).phase) n (Marked low)
      (λ running e. let out : Lowered low ≡ Outside = sym phase_is ∙ k.phases_and_scan.scanning n running e in absurd (cc))
      (λ s ne. k.phases_and_scan.scanning s) in (
        w,
        h,
        settle starts allows c start (put m (Mark n) (1 + low)) h seats n v w is (record unchanged { phase = Some (Marked low) })
            (refl, refl, ap section_of (sym may), ap time_of (sym may), refl, refl, refl, refl, refl, refl, refl) (assumption (marks, scanning, k)),
        ((refl, runs_outside v w (λ s e. let f : Marked low ≡ Inside s = e in absurd (cc))), (refl, refl, refl, refl, refl, refl)),
      )

  pub mark_stores : (low new : ℕ) → new ≡ 1 + low → MayStoreMark v low
      → Stores starts allows c start v (Mark v.number) new (λ w. ((w ≡ mark_stored c v low) × RunsOn v w) × IsKept v w)
  mark_stores low new e may =
      subst (λ (x : ℕ). Stores starts allows c start v (Mark v.number) x (λ w. ((w ≡ mark_stored c v low) × RunsOn v w) × IsKept v w)) (sym e)
      (mark_stores_low low may)
