-- A run of tasks, by the number of each.
use Rattle.std.proofs.Common.{◌≡◌, ℕ, ◌+◌, List, subst, arith}
use Rattle.mv_history.specs.State.{State, Writes}
use Rattle.mv_history.specs.Meaning.{Seat}
use Rattle.mv_layout.specs.declared.Config.{Config}
use Rattle.mvrlu.specs.Opened.{new_seat}
use Rattle.mvrlu.specs.Whole.{Whole}
use Rattle.domain_loan.specs.Met.{HasMet, HaveMet}
use Rattle.domain_loan.specs.New.{AreFrom}
use Rattle.domain_run.specs.Runs.{AllDid, IsRun}
use Rattle.domain_run.proofs.Working.{did_at, did_long, did_each}

-- tasks that ran on new seats which have met are a run
pub is_run : {T : Type 0} (does : Seat → Seat → T → T → Type 0) (allows : List ℕ → State → Writes → Type 0) (home : List ℕ) (c : Config)
    (start : State) (firsts met : List Seat) (olds news : List T) (w : Whole) → AreFrom (new_seat home c start) 0 firsts
    → HaveMet allows c start firsts met w → AllDid does firsts met olds news → IsRun does allows home c start olds news met w
is_run does allows home c start firsts met olds news w new have ran = record {
  config = have.config;
  opening = have.opening;
  base = have.base;
  legal = have.legal;
  allowed = have.allowed;
  time = have.time;
  makers = have.makers;
  numbered = have.numbered;
  tables = have.tables;
  many = did_long does firsts met olds news ran;
  seats = did_each does firsts met olds news ran;
  each = λ k n s e f.
      let r = did_at does (new_seat home c start) w 0 firsts met olds news new have.each ran k n s e f in
      let same : 0 + k ≡ k = omega arith in
      let on = subst (λ j. HasMet w (new_seat home c start j) s) same r.2 in (
        r.0,
        r.1,
        record {
          continues = on.continues;
          did = subst (λ j. does (new_seat home c start j) s r.0 n) same r.3;
          seen = on.seen;
          mine = on.mine;
          rests = on.rests;
          named = on.named;
        },
      );
}
