-- What a lock answers: its causes, by the steps that it made.
use Rattle.std.proofs.Common.{◌≡◌, ◌≢◌, ℕ, ◌<◌, ◌≤◌, ◌^◌, true, false, List, [], ◌∷◌, refl, sym, ap, ◌∙◌, subst, arith}
use Rattle.mv_history.specs.declared.Step.{Step}
use Rattle.mv_history.specs.declared.answers.LockAnswer.{LockAnswer}
use Rattle.mv_history.specs.declared.answers.LockAnswer.TheVariants.{Held, Busy, Stale, SetFull, LogFull}
use Rattle.mv_layout.specs.Words.{IsUnset, link_seat_of}
use Rattle.mv_core.proofs.Terms.{Config}
use Rattle.mv_core.specs.declared.view.Knowledge.{Knowledge}
use Rattle.mv_core.specs.declared.view.Phase.{Phase}
use Rattle.mv_core.specs.declared.view.Phase.TheVariants.{Inside}
use Rattle.mv_core.specs.declared.view.OwnSection.{OwnSection}
use Rattle.mv_core.specs.Views.{time_in}
use Rattle.mv_core.specs.WalkSteps.{IsWriteOf}
use Rattle.version_chain.specs.Walks.{inside_of}
use Rattle.object_lock.specs.Tops.{FoundHeld, IsRefused}
use Rattle.object_lock.specs.Locks.{AreFew, HasRoom, LockAnswers}
use Rattle.object_lock.proofs.Looks.{head_found}
use Rattle.replay_rules.specs.declared.plan.Call.TheVariants.{Lock}
use Rattle.replay_rules.specs.declared.seats.NextStep.{NextStep}
use Rattle.replay_rules.specs.declared.seats.CallAnswer.TheVariants.{Locked}
use Rattle.replay_rules.specs.declared.seats.Then.TheVariants.{Ends}
use Rattle.replay_rules.specs.GoesOn.{is_unset, refusal}
use Rattle.replay_rules.specs.LockAnswers.{LocksSo}
use Rattle.replay_rules.specs.Answers.{AnswersSo}
use Rattle.replay_rules.proofs.runs.Known.{if_so, leb_le, leb_gt}
use Rattle.replay_rules.proofs.answers.Progress.{Comes}
use Rattle.replay_rules.proofs.answers.Locks.Far.{HasDone, HasFound, first_step, stamp_step}

-- the answer of a refusal
refusal_says : (c : Config) (v w : Knowledge) (o : ℕ) (answer : LockAnswer) → HasRoom c v → IsRefused c v w o answer → LockAnswers c v w o answer
refusal_says c v w o Held room cause = absurd cause
refusal_says c v w o (Busy seat) room cause = (room, cause)
refusal_says c v w o (Stale time) room cause = (room, cause)
refusal_says c v w o SetFull room cause = absurd cause
refusal_says c v w o LogFull room cause = absurd cause

-- a lock that is refused
refused_so : (c : Config) (v w : Knowledge) (o most : ℕ) (tried : List Step) (answer : LockAnswer) → HasDone c v w o most tried → most ≤ 24 → AreFew c o tried
    → IsRefused c v w o answer → LocksSo c v w o answer
refused_so c v w o most tried answer done le few cause =
    let lacks = done.2.lacks in
    let some = done.1 in record {
      again = λ e. let clash : true ≡ false = sym e ∙ lacks in absurd (cc);
      answers = λ _. refusal_says c v w o answer done.2.room cause;
      refused = λ _. done.2.keeps;
      made = done.0;
      tries = (tried, done.2.tries, few);
      few = omega (arith, some, le);
    }

-- the last three steps found the object held
held_so : (c : Config) (v w : Knowledge) (o link first stamp : ℕ) → HasFound c v w o link (first_step c link first ∷ stamp_step c link first stamp ∷ [])
    → IsUnset stamp → FoundHeld c o (link_seat_of link) v.trail w.trail
held_so c v w o link first stamp found unset = record {
  before = found.before;
  head = head_found c found.kind o link;
  first = first_step c link first;
  stamp = stamp_step c link first stamp;
  steps = found.steps;
  link = link;
  seat_is = refl;
  in_range = found.packed.1;
  on_top = (refl, refl, refl);
  position = first;
  begins = refl;
  word = stamp;
  of_set = refl;
  unset = unset;
}

-- a lock stays in its section
pub same_phase : (c : Config) (v w : Knowledge) (o most : ℕ) (tried : List Step) → HasDone c v w o most tried → w.phase ≡ v.phase
same_phase c v w o most tried done = ap (λ (z : Knowledge). z.phase) done.2.tries.rest

-- and its seat keeps its number
pub same_number : (c : Config) (v w : Knowledge) (o most : ℕ) (tried : List Step) → HasDone c v w o most tried → w.number ≡ v.number
same_number c v w o most tried done = ap (λ (z : Knowledge). z.number) done.2.tries.rest

-- A lock that is refused by a version of another seat where its stamp is unset, and is of a later time where it is one.
pub refusal_so : (Far : NextStep → Type 0) (c : Config) (v w : Knowledge) (p o link first stamp most : ℕ) (tried : List Step) (i : OwnSection) → p ≡ o
    → HasDone c v w p most tried → most ≤ 24 → AreFew c p tried
    → HasFound c v w p link (first_step c link first ∷ stamp_step c link first stamp ∷ []) → w.phase ≡ Inside i
    → (IsUnset stamp → link_seat_of link ≢ v.number) → (stamp < 2 ^ 63 → (time_in i < stamp) × IsWriteOf c w.past.seen p stamp)
    → Comes Far (AnswersSo c (Lock o) v w) (refusal link stamp)
refusal_so Far c v w p o link first stamp most tried i same done le few found phase other late =
    if_so (Comes Far (AnswersSo c (Lock o) v w)) (is_unset stamp) (Ends (Locked (Busy (link_seat_of link)))) (Ends (Locked (Stale stamp)))
    (λ e.
    let unset : IsUnset stamp = leb_le 9223372036854775808 stamp e in
    subst (λ (q : ℕ). LocksSo c v w q (Busy (link_seat_of link))) same
    (refused_so c v w p most tried (Busy (link_seat_of link)) done le few (other unset, held_so c v w p link first stamp found unset)))
    (λ e.
    let low = leb_gt 9223372036854775808 stamp e in
    let so = late (omega (arith, low)) in
    let before = so.0 in
    let there : time_in (inside_of v.phase) ≡ time_in i =
    ap (λ (ph : Phase). time_in (inside_of ph)) (sym (same_phase c v w p most tried done) ∙ phase) in
    subst (λ (q : ℕ). LocksSo c v w q (Stale stamp)) same
    (refused_so c v w p most tried (Stale stamp) done le few (omega (arith, before, there), so.1)))
