-- A scan goes from mark to mark.
use Rattle.std.proofs.Common.{◌≡◌, ◌≢◌, ◌⊎◌, ℕ, zero, suc, ◌+◌, ◌-◌, ◌<◌, ◌≤◌, ◌==◌, nat_lt, min, max, Bool}
use Rattle.std.proofs.Common.{true, false, cond, List, [], ◌∷◌, ◌++◌, length, sym, refl, ap, ◌∙◌, subst, ⊎_elim, append-nil}
use Rattle.std.proofs.Common.{append_assoc, length-append, eq-eqb, ne_eqb, arith, Option, Some, None, is_some, unwrap_or}
use Rattle.std.proofs.lemmas.Bool.{cases_lt}
use Rattle.std.proofs.lemmas.Bool.Decides.{nat_tests}
use Rattle.mv_history.specs.declared.Entry.{Entry}
use Rattle.mv_history.specs.declared.Step.{Step}
use Rattle.mv_layout.specs.declared.Config.{Config}
use Rattle.mv_layout.specs.Words.{clock_time_of}
use Rattle.commit_clock.specs.mv_core.declared.view.Knowledge.{Knowledge}
use Rattle.commit_clock.specs.mv_core.declared.view.Scan.{Scan}
use Rattle.commit_clock.specs.mv_core.EnterSteps.{IsWhole}
use Rattle.commit_clock.specs.mv_core.ReclaimSteps.{other_from, scan_on, grace_on, scan_loaded, MayLoadMark, least_with, mark_loaded}
use Rattle.commit_clock.specs.mv_core.SeatSteps.{grace_raised}
use Rattle.reader_marks.specs.declared.scanning.Lowest.{Lowest}
use Rattle.reader_marks.specs.declared.scanning.Watermark.{Watermark}
use Rattle.reader_marks.specs.Scans.{IsFixedBy, IsLowest, named_by, mark_step, mark_steps, scan_step, grace_step, scan_steps, scanned, Scans, IsKnown}
use Rattle.reader_marks.specs.Lowering.{lowered, looking, Looks}

-- where a scan goes from its own seat
pub past_own : (n : ℕ) → other_from n n ≡ other_from n (n + 1)
past_own n = grind (arith, nat_tests)

-- and from another
pub from_other : (own n : ℕ) → n ≢ own → other_from own n ≡ n
from_other own n ne = ap (λ (b : Bool). cond b (n + 1) n) (ne_eqb n own ne)

-- the marks that were found, with one more
abbrev more : (ℕ → ℕ) → ℕ → ℕ → ℕ → ℕ
more marks n mark s = cond (s == n) mark (marks s)

more_at : (marks : ℕ → ℕ) (n mark : ℕ) → more marks n mark n ≡ mark
more_at marks n mark = ap (λ (b : Bool). cond b mark (marks n)) (eq-eqb n n refl)

more_else : (marks : ℕ → ℕ) (n mark s : ℕ) → s ≢ n → more marks n mark s ≡ marks s
more_else marks n mark s ne = ap (λ (b : Bool). cond b mark (marks s)) (ne_eqb s n ne)

-- the loads of marks below n don't know of a later one
steps_same : (c : Config) (own : ℕ) (marks : ℕ → ℕ) (n mark k : ℕ) → k ≤ n → mark_steps c own (more marks n mark) k ≡ mark_steps c own marks k
steps_same c own marks n mark zero le = refl
steps_same c own marks n mark (suc k) le =
    ap (λ (l : List Step). l ++ cond (k == own) [] (mark_step c k (more marks n mark k) ∷ [])) (steps_same c own marks n mark k (omega arith))
    ∙ ap (λ (m : ℕ). mark_steps c own marks k ++ cond (k == own) [] (mark_step c k m ∷ [])) (more_else marks n mark k (omega arith))

-- the loads of marks up to the own seat
pub steps_own : (c : Config) (own : ℕ) (marks : ℕ → ℕ) → mark_steps c own marks (own + 1) ≡ mark_steps c own marks own
steps_own c own marks =
    (let e : own + 1 ≡ suc own = omega arith in ap (mark_steps c own marks) e)
    ∙ ap (λ (b : Bool). mark_steps c own marks own ++ cond b [] (mark_step c own (marks own) ∷ [])) (eq-eqb own own refl)
    ∙ append-nil (mark_steps c own marks own)

-- and up to another
steps_more : (c : Config) (own : ℕ) (marks : ℕ → ℕ) (n mark : ℕ) → n ≢ own
    → mark_steps c own (more marks n mark) (n + 1) ≡ mark_steps c own marks n ++ mark_step c n mark ∷ []
steps_more c own marks n mark ne =
    (let e : n + 1 ≡ suc n = omega arith in ap (mark_steps c own (more marks n mark)) e)
    ∙ ap (λ (b : Bool). mark_steps c own (more marks n mark) n ++ cond b [] (mark_step c n (more marks n mark n) ∷ [])) (ne_eqb n own ne)
    ∙ ap (λ (m : ℕ). mark_steps c own (more marks n mark) n ++ mark_step c n m ∷ []) (more_at marks n mark)
    ∙ ap (λ (l : List Step). l ++ mark_step c n mark ∷ []) (steps_same c own marks n mark n (omega arith))

-- a time fixed by a lower seat stays so with further marks
fixed_on : (clock : ℕ) (marks marks' : ℕ → ℕ) (n k low : ℕ) (seat : Option ℕ) → n ≤ k → ((s : ℕ) → s < n → marks' s ≡ marks s)
    → IsFixedBy clock marks n low seat → IsFixedBy clock marks' k low seat
fixed_on clock marks marks' n k low None le same f = f
fixed_on clock marks marks' n k low (Some seat) le same f =
    let below = f.1.0 in
    (f.0, ((omega arith), same seat f.1.0 ∙ f.1.1, λ s lt e. f.1.2 s lt (sym (same s (omega arith)) ∙ e)))

-- no seat's mark was above
fixed_above : (clock : ℕ) (marks : ℕ → ℕ) (n low : ℕ) (seat : Option ℕ) → IsFixedBy clock marks n low seat → low ≤ clock
fixed_above clock marks n low None f = let e : low ≡ clock = f in omega arith
fixed_above clock marks n low (Some seat) f = let e = f.0 in omega arith

-- the first of the marks
pub lowest_first : (clock : ℕ) (marks : ℕ → ℕ) → IsLowest clock marks 0 clock None
lowest_first clock marks = record { least = λ s lt. absurd (omega arith); fixed = refl }

-- the own seat tells nothing
pub lowest_own : (clock : ℕ) (marks : ℕ → ℕ) (n low : ℕ) (seat : Option ℕ) → marks n ≡ 0 → IsLowest clock marks n low seat
    → IsLowest clock marks (n + 1) low seat
lowest_own clock marks n low seat none l = record {
  least = λ s lt ne. l.least s (let d : s ≢ n = λ e. ne (ap marks e ∙ none) in omega arith) ne;
  fixed = fixed_on clock marks marks n (n + 1) low seat (omega arith) (λ s lt. refl) l.fixed;
}

below_or : (s n : ℕ) → s < n + 1 → (s < n) ⊎ (s ≡ n)
below_or s n lt = grind arith

-- a mark that isn't below changes nothing
lowest_kept : (clock : ℕ) (marks : ℕ → ℕ) (n low : ℕ) (seat : Option ℕ) (mark : ℕ) → (mark ≢ 0 → low < mark) → IsLowest clock marks n low seat
    → IsLowest clock (more marks n mark) (n + 1) low seat
lowest_kept clock marks n low seat mark high is =
    let same : (s : ℕ) → s < n → more marks n mark s ≡ marks s = λ s lt. more_else marks n mark s (omega arith) in record {
      least = λ s lt ne. ⊎_elim
          (λ (b : s < n). subst (λ (m : ℕ). low < m) (sym (same s b)) (is.least s b (λ z. ne (same s b ∙ z))))
          (λ (b : s ≡ n). let e : more marks n mark s ≡ mark = ap (more marks n mark) b ∙ more_at marks n mark in
          subst (λ (m : ℕ). low < m) (sym e) (high (λ z. ne (e ∙ z))))
          (below_or s n lt);
      fixed = fixed_on clock marks (more marks n mark) n (n + 1) low seat (omega arith) same is.fixed;
    }

-- a mark below is the least
lowest_new : (clock : ℕ) (marks : ℕ → ℕ) (n old : ℕ) (seat : Option ℕ) (low : ℕ) → low < old → IsLowest clock marks n old seat
    → IsLowest clock (more marks n (suc low)) (n + 1) low (Some n)
lowest_new clock marks n old seat low lt is =
    let same : (s : ℕ) → s < n → more marks n (suc low) s ≡ marks s = λ s b. more_else marks n (suc low) s (omega arith) in
    let here = more_at marks n (suc low) in
    let above = fixed_above clock marks n old seat is.fixed in record {
      least = λ s b ne. ⊎_elim
          (λ (b : s < n). subst (λ (m : ℕ). low < m) (sym (same s b)) (let o = is.least s b (λ z. ne (same s b ∙ z)) in omega arith))
          (λ (b : s ≡ n). subst (λ (m : ℕ). low < m) (sym (ap (more marks n (suc low)) b ∙ here)) (omega arith))
          (below_or s n b);
      fixed = (
        (omega arith),
        (
          (omega arith),
          here ∙ (let e : suc low ≡ 1 + low = omega arith in e),
          λ s b e.
              let at : marks s ≡ 1 + low = sym (same s b) ∙ e in
              let o = is.least s b (λ z. absurd (omega arith)) in absurd (omega arith),
        ),
      );
    }

-- with each mark more the least is the least
pub lowest_more : (clock : ℕ) (marks : ℕ → ℕ) (n : ℕ) (l : Lowest) (mark : ℕ) → IsLowest clock marks n l.low l.seat
    → IsLowest clock (more marks n mark) (n + 1) (lowered l n mark).low (lowered l n mark).seat
lowest_more clock marks n l zero is = lowest_kept clock marks n l.low l.seat 0 (λ ne. absurd (ne refl)) is
lowest_more clock marks n l (suc low) is = ⊎_elim
    (λ (lt : low < l.low).
    let e : nat_lt low l.low ≡ true = grind (arith, nat_tests) in
    subst (λ (b : Bool). let x : Lowest = cond b (record { low = low; seat = Some n }) l in IsLowest clock (more marks n (suc low)) (n + 1) x.low x.seat)
    (sym e) (lowest_new clock marks n l.low l.seat low lt is))
    (λ (le : l.low ≤ low).
    let e : nat_lt low l.low ≡ false = grind (arith, nat_tests) in
    subst (λ (b : Bool). let x : Lowest = cond b (record { low = low; seat = Some n }) l in IsLowest clock (more marks n (suc low)) (n + 1) x.low x.seat)
    (sym e) (lowest_kept clock marks n l.low l.seat (suc low) (λ ne. omega arith) is))
    (cases_lt low l.low)

-- the core lowers the least time of the scan in the same way
pub least_is : (l : Lowest) (n mark : ℕ) → least_with l.low mark ≡ (lowered l n mark).low
least_is l n zero = refl
least_is l n (suc low) =
    let least : least_with l.low (suc low) ≡ min l.low low =
    ap (λ (b : Bool). cond b l.low (min l.low (suc low - 1))) (ne_eqb (suc low) 0 (omega arith))
    ∙ (let e : min l.low (suc low - 1) ≡ min l.low low = omega arith in e) in
    ⊎_elim
    (λ (lt : low < l.low).
    let e : nat_lt low l.low ≡ true = grind (arith, nat_tests) in
    let m : min l.low low ≡ low = omega arith in
    subst (λ (b : Bool). let x : Lowest = cond b (record { low = low; seat = Some n }) l in least_with l.low (suc low) ≡ x.low) (sym e) (least ∙ m))
    (λ (le : l.low ≤ low).
    let e : nat_lt low l.low ≡ false = grind (arith, nat_tests) in
    let m : min l.low low ≡ l.low = omega arith in
    subst (λ (b : Bool). let x : Lowest = cond b (record { low = low; seat = Some n }) l in least_with l.low (suc low) ≡ x.low) (sym e) (least ∙ m))
    (cases_lt low l.low)

module _ (c : Config) (v : Knowledge) where
  -- the load of CLOCK begins it
  pub looks_first : (w : Knowledge) (word clock before after : ℕ) (h : List Entry) → IsWhole c v word h → w ≡ scan_loaded c v word h
      → clock ≡ clock_time_of word
      → after ≡ before + 1 → Looks c v w clock 0 (record { low = clock; seat = None }) before after
  looks_first w word clock before after h whole is clock_is count = record {
    word = word;
    clock_is = clock_is;
    h = h;
    whole = whole;
    marks = λ s. 0;
    own = refl;
    lowest = lowest_first clock (λ s. 0);
    view = is ∙ ap (λ (t : ℕ). looking c v word h (λ s. 0) 0 t) (sym clock_is);
    count = count;
  }

  module _ (w : Knowledge) (clock n : ℕ) (l : Lowest) (before after : ℕ) (k : Looks c v w clock n l before after) where
    -- the mark of this seat may be loaded
    pub may_look : n < c.seats → n ≢ v.number → (scan : Scan) × MayLoadMark c w n scan
    may_look lt ne =
        let on = from_other v.number n ne in
        let scan : Scan = record { clock = clock_time_of k.word; least = l.low; next = n } in
        let in_range : nat_lt n c.seats ≡ true = grind (arith, nat_tests) in (
          scan,
          record {
            running = ap (λ (u : Knowledge). u.scan) k.view ∙ ap (scan_on c (clock_time_of k.word) l.low) on
                ∙ ap (λ (b : Bool). cond b (Some scan) None) in_range;
            next = refl;
            in_range = lt;
          },
        )

    -- the own mark isn't loaded
    pub looks_own : n ≡ v.number → Looks c v w clock (n + 1) l before after
    looks_own is =
        let next : other_from v.number n ≡ other_from v.number (n + 1) = subst (λ (s : ℕ). other_from s n ≡ other_from s (n + 1)) is (past_own n) in
        let steps : mark_steps c v.number k.marks n ≡ mark_steps c v.number k.marks (n + 1) =
        subst (λ (s : ℕ). mark_steps c v.number k.marks s ≡ mark_steps c v.number k.marks (s + 1)) (sym is) (sym (steps_own c v.number k.marks)) in record {
          word = k.word;
          clock_is = k.clock_is;
          h = k.h;
          whole = k.whole;
          marks = k.marks;
          own = k.own;
          lowest = lowest_own clock k.marks n l.low l.seat (ap k.marks is ∙ k.own) k.lowest;
          view = k.view ∙ (λ i. record v {
            past = record v.past { seen = k.h };
            scan = scan_on c (clock_time_of k.word) l.low (next i);
            grace = grace_on c v.grace l.low (next i);
            trail = v.trail ++ scan_step c k.word ∷ steps i;
          });
          count = k.count ∙ ap (λ (s : List Step). before + length (scan_step c k.word ∷ s)) steps;
        }

    -- another is
    pub looks_other : (u : Knowledge) (mark count : ℕ) (scan : Scan) → n < c.seats → n ≢ v.number → w.scan ≡ Some scan → u ≡ mark_loaded c w n scan mark
        → count ≡ after + 1 → Looks c v u clock (n + 1) (lowered l n mark) before count
    unfolding may_look
    looks_other u mark count scan lt ne running is step =
        let may = may_look lt ne in
        let on = from_other v.number n ne in
        let same : Some scan ≡ Some may.0 = sym running ∙ may.1.running in
        let scan_is : scan ≡ may.0 = cc in
        let in_range : nat_lt n c.seats ≡ true = grind (arith, nat_tests) in
        let grace_is : grace_on c v.grace l.low (other_from v.number n) ≡ v.grace =
        ap (grace_on c v.grace l.low) on ∙ ap (λ (b : Bool). cond b v.grace (max v.grace l.low)) in_range in
        let before_it : List Step = mark_steps c v.number k.marks n in
        let later : before_it ++ mark_step c n mark ∷ [] ≡ mark_steps c v.number (more k.marks n mark) (n + 1) =
        sym (steps_more c v.number k.marks n mark ne) in
        let next : ℕ = other_from v.number (n + 1) in
        let least : least_with l.low mark ≡ (lowered l n mark).low = least_is l n mark in
        let long : length (before_it ++ mark_step c n mark ∷ []) ≡ length before_it + 1 = length-append before_it (mark_step c n mark ∷ []) in
        let was = k.count in record {
          word = k.word;
          clock_is = k.clock_is;
          h = k.h;
          whole = k.whole;
          marks = more k.marks n mark;
          own = more_else k.marks n mark v.number (λ e. ne (sym e)) ∙ k.own;
          lowest = lowest_more clock k.marks n l mark k.lowest;
          view = is ∙ ap (λ (z : Knowledge). mark_loaded c z n scan mark) k.view
              ∙ ap (λ (z : Scan). mark_loaded c (looking c v k.word k.h k.marks n l.low) n z mark) scan_is ∙ (λ i. record v {
                past = record v.past { seen = k.h };
                scan = scan_on c (clock_time_of k.word) (least i) next;
                grace = grace_on c (grace_is i) (least i) next;
                trail = append_assoc v.trail (scan_step c k.word ∷ before_it) (mark_step c n mark ∷ []) i;
              }) ∙ (λ i. record v {
                past = record v.past { seen = k.h };
                scan = scan_on c (clock_time_of k.word) (lowered l n mark).low next;
                grace = grace_on c v.grace (lowered l n mark).low next;
                trail = v.trail ++ scan_step c k.word ∷ later i;
              });
          count = step ∙ (let e : after + 1 ≡ before + length (scan_step c k.word ∷ (before_it ++ mark_step c n mark ∷ [])) = omega arith in e)
              ∙ ap (λ (s : List Step). before + length (scan_step c k.word ∷ s)) later;
        }

-- the seat that fixed a time, as a watermark says it
pub named_is : (mark : Watermark) (seat : Option ℕ) → mark.marked ≡ is_some seat → mark.seat ≡ unwrap_or seat 0
    → (named_by mark ≡ seat) × (mark.marked ≡ false → mark.seat ≡ 0)
named_is mark None marked seat = (ap (λ (b : Bool). cond b (Some mark.seat) None) marked, λ e. seat)
named_is mark (Some s) marked seat =
    (ap (λ (b : Bool). cond b (Some mark.seat) None) marked ∙ ap Some seat, λ e. absurd (let x : true ≡ false = sym marked ∙ e in cc))

at_most_one : (b : Bool) (s : Step) → length (cond b [] (s ∷ [])) ≤ 1
at_most_one true s = omega arith
at_most_one false s = omega arith

-- there are no more loads of marks than seats
few : (c : Config) (own : ℕ) (marks : ℕ → ℕ) (n : ℕ) → length (mark_steps c own marks n) ≤ n
few c own marks zero = omega arith
few c own marks (suc n) =
    let here : List Step = cond (n == own) [] (mark_step c n (marks n) ∷ []) in
    let long : length (mark_steps c own marks n ++ here) ≡ length (mark_steps c own marks n) + length here = length-append (mark_steps c own marks n) here in
    let one : length here ≤ 1 = at_most_one (n == own) (mark_step c n (marks n)) in
    let was = few c own marks n in omega arith

module _ (c : Config) (v w u : Knowledge) (clock : ℕ) (l : Lowest) (before after count : ℕ) (k : Looks c v w clock c.seats l before after)
    (lt : v.number < c.seats) (none : v.scan ≡ None) (found : ℕ) (mark : Watermark) where
  -- where a scan is past the last seat, it is finished
  past_last : other_from v.number c.seats ≡ c.seats
  past_last = from_other v.number c.seats (omega arith)

  -- the fetch_max of GRACE ends it
  pub scans : u ≡ grace_raised c w l.low found → count ≡ after + 1 → mark.time ≡ max l.low found → mark.low ≡ l.low → mark.marked ≡ is_some l.seat
      → mark.seat ≡ unwrap_or l.seat 0 → Scans c v u mark clock before count
  scans is step time low marked seat =
      let named = named_is mark l.seat marked seat in
      let out : nat_lt c.seats c.seats ≡ false = grind (arith, nat_tests) in
      let scan_is : scan_on c (clock_time_of k.word) l.low (other_from v.number c.seats) ≡ None =
      ap (scan_on c (clock_time_of k.word) l.low) past_last
      ∙ ap (λ (b : Bool). cond b (Some (record { clock = clock_time_of k.word; least = l.low; next = c.seats })) None) out in
      let grace_is : grace_on c v.grace l.low (other_from v.number c.seats) ≡ max v.grace l.low =
      ap (grace_on c v.grace l.low) past_last ∙ ap (λ (b : Bool). cond b v.grace (max v.grace l.low)) out in
      let loads : List Step = mark_steps c v.number k.marks c.seats in
      let last : List Step = grace_step c l.low found ∷ [] in
      let long : length (loads ++ last) ≡ length loads + 1 = length-append loads last in
      let was = k.count in record {
        word = k.word;
        clock_is = k.clock_is;
        h = k.h;
        whole = k.whole;
        marks = k.marks;
        own = k.own;
        lowest = subst (IsLowest clock k.marks c.seats mark.low) (sym named.0) (subst (λ (t : ℕ). IsLowest clock k.marks c.seats t l.seat) (sym low) k.lowest);
        unmarked = named.1;
        found = found;
        time = time ∙ ap (λ (t : ℕ). max t found) (sym low);
        view = is ∙ ap (λ (z : Knowledge). grace_raised c z l.low found) k.view ∙ (λ i. record v {
          past = record v.past { seen = k.h };
          scan = scan_is i;
          grace = max (grace_is i) found;
          trail = append_assoc v.trail (scan_step c k.word ∷ loads) last i;
        }) ∙ ap (λ (t : ℕ). scanned c v k.word k.h k.marks t found) (sym low);
        count = step ∙ (let e : after + 1 ≡ before + length (scan_steps c v.number k.word k.marks l.low found) = omega arith in e)
            ∙ ap (λ (t : ℕ). before + length (scan_steps c v.number k.word k.marks t found)) (sym low);
      }

-- the steps of a scan
pub scan_cost : (c : Config) (v w : Knowledge) (mark : Watermark) (clock before after : ℕ) → Scans c v w mark clock before after
    → after ≤ before + (c.seats + 3)
scan_cost c v w mark clock before after s =
    let loads : List Step = mark_steps c v.number s.marks c.seats in
    let last : List Step = grace_step c mark.low s.found ∷ [] in
    let long : length (loads ++ last) ≡ length loads + 1 = length-append loads last in
    let most = few c v.number s.marks c.seats in
    let count = s.count in omega arith

-- the time that it found is known
pub scan_known : (c : Config) (v w : Knowledge) (mark : Watermark) (clock before after : ℕ) → Scans c v w mark clock before after → IsKnown w mark
scan_known c v w mark clock before after s =
    let time = s.time in
    let grace : w.grace ≡ max (max v.grace mark.low) s.found = ap (λ (u : Knowledge). u.grace) s.view in omega arith
