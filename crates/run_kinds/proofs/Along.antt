-- What is left of a domain whose seats went along the chains of a run, once its lines are in their order and its sets are read.
use Rattle.std.proofs.Common.{◌≡◌, ℕ, List, [], ◌∷◌, map, replicate, sym, ap, ◌∙◌, subst}
use Rattle.std.specs.List.{AllZip}
use Rattle.std.specs.List.Sorted.{IsPermutation}
use Rattle.domain_loan.specs.Met.{HasMet, HaveMet, MetAlong}
use Rattle.domain_loan.specs.New.{AreFrom}
use Rattle.domain_loan.proofs.Opened.{opened_new}
use Rattle.mv_history.specs.declared.answers.LogTable.{LogTable}
use Rattle.mv_history.specs.Meaning as history
use Rattle.mv_history.specs.State.{State, Writes, commits_of, rests_of}
use Rattle.mv_layout.specs.declared.config.Config.{Config}
use Rattle.mvrlu.specs.declared.closing.Closing.{Closing}
use Rattle.mvrlu.specs.declared.domain.Domain.{Domain}
use Rattle.mvrlu.specs.declared.domain.Seat.{Seat}
use Rattle.mvrlu.specs.Meant.{numbers_of, opening_of, name_of, seat_of, whole_of}
use Rattle.mvrlu.specs.MetLaws.{still_met, still_apart}
use Rattle.mvrlu.specs.Opened.{IsOpened, new_seat}
use Rattle.mvrlu.specs.Whole.{Whole, IsStill}
use Rattle.run_report.specs.declared.line.Line.{Line}
use Rattle.run_report.specs.Worked.{Past}
use Rattle.domain_lines.specs.Joined.{past_of_whole}
use Rattle.set_model.specs.Objects.{no_words}
use Rattle.run_kinds.specs.Kinds.{IsLeftOf, IsRunAlong}

-- seats that have met stand in the same history later, and the closing still tells of them
all_met : (v w : Whole) → IsStill v w → (firsts met : List history.Seat) → AllZip (HasMet v) firsts met → AllZip (HasMet w) firsts met
all_met v w still [] [] h = tt
all_met v w still [] (m ∷ ms) h = absurd h
all_met v w still (f ∷ fs) [] h = absurd h
all_met v w still (f ∷ fs) (m ∷ ms) h = (
  record {
    continues = h.0.continues;
    seen = λ before b. rw still.history (h.0.seen before b);
    mine = h.0.mine ∙ ap (commits_of f.number) (sym still.history);
    rests = h.0.rests ∙ ap (rests_of f.number) (sym still.history);
    named = still_met v w still m h.0.named;
  },
  all_met v w still fs ms h.1,
)

-- and so do all of them
have_met : (allows : List ℕ → State → Writes → Type 0) (c : Config) (start : State) (firsts met : List history.Seat) (v w : Whole) → IsStill v w
    → HaveMet allows c start firsts met v → HaveMet allows c start firsts met w
have_met allows c start firsts met v w still h = record {
  config = still.config ∙ h.config;
  opening = still.start ∙ h.opening;
  base = still.base ∙ h.base;
  legal = rw (still.start, still.history) h.legal;
  allowed = rw (still.start, still.history) h.allowed;
  time = rw (still.base, still.history) h.time;
  makers = rw still.history h.makers;
  each = all_met v w still firsts met h.each;
  numbered = still_apart v w still h.numbered;
  tables = rw still.tables h.tables;
}

-- a run of the seats with which a domain was opened is one along their chains
run_along : {P : Type 0} {rules : _} (d : Domain P) (seats : List (Seat P rules)) (c numbers : Config)
    → IsOpened c (replicate numbers.objects no_words) d seats → c ≡ numbers → (allows : List ℕ → State → Writes → Type 0)
    → (chain : List history.Seat → List history.Seat → List Line → Type 0) (is_run : Past → Type 0) (own lines : List Line)
    → (v w : Whole) → IsPermutation own lines → IsStill v w
    → MetAlong (λ olds news. chain olds news own) allows (numbers_of d) (opening_of d) (map seat_of seats) v → is_run (past_of_whole w)
    → IsRunAlong allows chain numbers is_run lines w
run_along d seats c numbers o same allows chain is_run own lines v w ordered still along run =
    let firsts : List history.Seat = map seat_of seats in
    let at : numbers_of d ≡ numbers = o.numbers ∙ same in
    let fresh = opened_new d c (replicate numbers.objects no_words) seats o in
    let numbered = subst (λ (n : Config). AreFrom (new_seat (name_of d) n (opening_of d)) 0 firsts) at fresh in
    let kept = have_met allows (numbers_of d) (opening_of d) firsts along.met v w still along.whole in
    let whole = subst (λ (n : Config). HaveMet allows n (opening_of d) firsts along.met w) at kept in
    record {
      run = run;
      home = name_of d;
      firsts = firsts;
      new = subst (λ (s : State). AreFrom (new_seat (name_of d) numbers s) 0 firsts) o.opening numbered;
      own = own;
      same = ordered;
      linked = record {
        met = along.met;
        whole = subst (λ (s : State). HaveMet allows numbers s firsts along.met w) o.opening whole;
        along = along.along;
      };
    }

-- a run in a history is one in the same history later
still_run : {End : Type 0} (is_run : Past → List Line → End → List LogTable → Type 0) (lines : List Line) (end : End) (v w : Whole) → IsStill v w
    → is_run (past_of_whole v) lines end v.tables → is_run (past_of_whole w) lines end w.tables
still_run is_run lines end v w still run = rw (still.start, still.base, still.history, still.tables) run

-- The domain is left of a run of lines, which has this end, where its seats, with which it was opened, met along the run's chains, and its end was
-- read behind that.
pub left_along : {P End : Type 0} {rules : _} (d : Domain P) (seats : List (Seat P rules)) (c numbers : Config)
    → IsOpened c (replicate numbers.objects no_words) d seats → c ≡ numbers → (allows : List ℕ → State → Writes → Type 0)
    → (chain : List history.Seat → List history.Seat → List Line → Type 0) (is_run : Past → List Line → End → List LogTable → Type 0)
    → (own lines : List Line) (end : End) (v : Whole) (closing : Closing P) → IsPermutation own lines → IsStill v (whole_of closing)
    → MetAlong (λ olds news. chain olds news own) allows (numbers_of d) (opening_of d) (map seat_of seats) v
    → is_run (past_of_whole v) lines end v.tables
    → IsLeftOf numbers (λ w. IsRunAlong allows chain numbers (λ past. is_run past lines end w.tables) lines w) closing
left_along d seats c numbers o same allows chain is_run own lines end v closing ordered still along run = record {
  start = still.start ∙ along.whole.opening ∙ o.opening;
  base = still.base ∙ along.whole.base ∙ ap (λ (n : Config). n.base) (o.numbers ∙ same);
  run = run_along d seats c numbers o same allows chain (λ past. is_run past lines end (whole_of closing).tables) own lines v (whole_of closing)
      ordered still along (still_run is_run lines end v (whole_of closing) still run);
}
