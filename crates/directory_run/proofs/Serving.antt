-- What clerks did, by the whole history.
use Rattle.std.proofs.Common.{◌≡◌, ℕ, List, length, ap, sym, subst, ◌∙◌, arith}
use mathlib.Core.Option.{some}
use lib.ListN.{get_elem?}
use Rattle.mv_history.specs.State.{State}
use Rattle.mv_history.specs.Meaning.{Seat}
use Rattle.mv_history.proofs.Steps.{Continues-Continues}
use Rattle.mv_layout.specs.declared.Config.{Config}
use Rattle.mvrlu.specs.Causes.{Took}
use Rattle.mvrlu.specs.Opened.{new_seat}
use Rattle.mvrlu.specs.Whole.{Whole}
use Rattle.domain_run.specs.Numbers.{numbers_for}
use Rattle.domain_run.specs.Runs.{IsRun}
use Rattle.client_run.proofs.Told.{ran_at, seen_in_whole, worn_over, kept_at}
use Rattle.directory.specs.declared.rules.TheConstants.{OBJECTS}
use Rattle.directory.specs.Ring.{node_at, IsOn, IsDirectory}
use Rattle.directory.specs.Moves.{IsOpening, IsMove}
use Rattle.directory.proofs.Keeps.{move_keeps}
use Rattle.directory.proofs.Opens.{opened}
use Rattle.directory.proofs.Placed.{placed}
use Rattle.directory_run.specs.declared.clerk.Clerk.{Clerk}
use Rattle.directory_run.specs.Runs.{AsksForUser, Served, IsServed, EachServed}

one_served : {home : List ℕ} {c : Config} {start : State} {olds news : List Clerk} {met : List Seat} {w : Whole} → IsOpening start
    → IsRun (Served Took) IsMove home c start olds news met w → ((k : ℕ) (o : Clerk) → get_elem? olds k ≡ some o → AsksForUser o)
    → (k : ℕ) (n : Clerk) → get_elem? news k ≡ some n → (o : Clerk) × (get_elem? olds k ≡ some o) × IsServed home w k o n
one_served {home = home} {start = start} opens ran asks k n e =
    let r = ran_at ran k n e in
    let on = r.3 in
    let d = on.did in
    let looks = d.looks in
    let later = Continues-Continues looks.enters.seat.continues looks.leaves in
    let there = seen_in_whole ran on looks.entered.at looks.within in
    let asked = asks k r.1 r.2 in
    let directory = kept_at ran IsDirectory move_keeps (opened start opens) looks.entered.at in (
      r.1,
      r.2,
      record {
        met = r.0;
        named = on.named;
        seen = on.seen;
        served = subst (λ f. Served Took f r.0 r.1 n) (sym (λ i. new_seat home (ran.config i) (ran.opening i) k)) d;
        asked = d.asked;
        made = omega (arith, d.moves.mine, ap length on.mine, ap length looks.mine);
        most = d.moves.most;
        all = λ less. worn_over ran on d.moves.continues later (d.moves.all less);
        at = looks.entered.at;
        within = there.0;
        time_is = omega (arith, looks.time_is, on.continues.base, ran.base);
        on = subst (λ (u : State). IsOn u n.seen.shelf r.1.asked.user) there.1 looks.on;
        placed = placed directory r.1.asked.user asked.0 asked.1;
        id_is = looks.id_is ∙ ap (λ (u : State). (node_at u r.1.asked.user).id) there.1;
      },
    )

pub each_served : {home : List ℕ} {c : Config} {start : State} {olds news : List Clerk} {met : List Seat} {w : Whole} → IsOpening start
    → IsRun (Served Took) IsMove home c start olds news met w → ((k : ℕ) (o : Clerk) → get_elem? olds k ≡ some o → AsksForUser o)
    → c ≡ numbers_for (length olds) OBJECTS 3 → EachServed olds news w
each_served {home = home} {olds = olds} {news = news} {w = w} opens ran asks numbers = record {
  config = ran.config ∙ numbers;
  numbered = ran.numbered;
  home = home;
  many = ran.many;
  each = one_served opens ran asks;
}
