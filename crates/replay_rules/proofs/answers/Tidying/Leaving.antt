-- The end of a tidy's write-back: the time of death is loaded, the section is left, and SUPER is loaded once more.
use Rattle.std.proofs.Common.{◌≡◌, ◌≢◌, ℕ, ◌+◌, ◌<◌, ◌≤◌, List, [], ◌∷◌, ◌++◌, length, true, Option, Some, None}
use Rattle.std.proofs.Common.{if◌then◌else◌, refl, sym, ap, ◌∙◌, subst, arith, ne_eqb}
use Rattle.std.proofs.lemmas.List.Elements.{Contains-push}
use Rattle.mv_history.specs.declared.Step.{Step}
use Rattle.mv_history.specs.declared.StepKind.TheVariants as steps
use Rattle.mv_layout.specs.declared.SharedWord.TheVariants.{Clock, Mark}
use Rattle.mv_layout.specs.Places.{place_of}
use Rattle.mv_layout.specs.Words.{clock_time_of}
use Rattle.mv_core.proofs.Terms.{Config, Checked, Super}
use Rattle.mv_core.specs.declared.view.Knowledge.{Knowledge}
use Rattle.mv_core.specs.Known.{Known}
use Rattle.mv_core.specs.Rings.{index_of}
use Rattle.mv_core.specs.ReclaimSteps.{FoundEmpty}
use Rattle.mv_core.specs.Moves.{Moment, load_death, clear_mark}
use Rattle.log_reclaim.specs.Holders.{FindsLast}
use Rattle.log_reclaim.specs.Untimed.{TriedSo, StaysUntimed}
use Rattle.replay_rules.specs.declared.seats.NotedVersion.{NotedVersion}
use Rattle.replay_rules.specs.declared.seats.Sweep.{Sweep}
use Rattle.replay_rules.specs.declared.seats.Edit.TheVariants.{Kept, Retired, AboveNoted}
use Rattle.replay_rules.specs.declared.seats.WriteBackEnd.{WriteBackEnd}
use Rattle.replay_rules.specs.declared.seats.Sweeping.TheVariants.{LoadCutDeath, LeaveBack, LoadSuperAgain}
use Rattle.replay_rules.specs.declared.seats.NextStep.TheVariants.{Tidies}
use Rattle.replay_rules.specs.SeatNotes.{version_at, edited_from, applied}
use Rattle.replay_rules.specs.Sweeps.{settle_behind}
use Rattle.replay_rules.specs.NextSteps.{IsStepOf}
use Rattle.replay_rules.specs.States.{any_commit, any_start, Made, state_of, AreMade}
use Rattle.replay_rules.proofs.runs.Notes.{edited_long}
use Rattle.replay_rules.proofs.runs.Sections.{RestsAt}
use Rattle.replay_rules.proofs.runs.Standing.{step_of}
use Rattle.replay_rules.proofs.runs.Stepping.{view_by}
use Rattle.replay_rules.proofs.runs.Known.{facts, number_is}
use Rattle.replay_rules.proofs.answers.Tidying.Further.{Further, further_one, begins_same}
use Rattle.replay_rules.proofs.answers.Tidying.Far.{HasCome, LookedAt, IsFirst, Looks, TidyFar, mark_of, note_in}
use Rattle.replay_rules.proofs.answers.Tidying.Grown.{come_on, last_found_on, tried_on}
use Rattle.replay_rules.proofs.answers.Tidying.Edits.{come_retired, come_above, tried_retired, tried_above}
use Rattle.replay_rules.proofs.answers.Tidying.Backing.{first_goes, backs_goes, backs_later}
use Rattle.replay_rules.proofs.answers.Tidying.Looking.{kind, found, w, step, super_further, found_seen, some_found}
use Rattle.replay_rules.proofs.answers.Tidying.Rounds.{settle_so}
use Rattle.replay_rules.proofs.answers.Tidying.Stepping.{tidying, ComesSo, front, clock_long, known_by, GoesBy}

-- a first round goes on behind a version that has a time of death now
first_retired : (c : Config) (v0 v : Knowledge) (made : List Step) (log : List NotedVersion) (freed : ℕ) (sweep : Sweep) (at dead : ℕ)
    → at < length log → 0 < dead
    → (35184372088831 < dead → FindsLast made) → IsFirst c v0 v made log freed at sweep
    → IsFirst c v0 v made (edited_from (Retired at dead) 0 log) freed (at + 1) sweep
first_retired c v0 v made log freed sweep at dead live some late x = record {
  again = x.again;
  swept = x.swept;
  tried = tried_retired c v0 v made log freed sweep.first at live dead at (at + 1) some late (λ i before inside ne. omega (arith, before, ne)) x.tried;
  unrested = x.unrested;
  latest = x.latest;
  same = x.same;
}

module _ (c : Config) (k : Checked c) (n : ℕ) (lt : n < c.seats) (made : List Made) (each : AreMade c made) (log : List NotedVersion) (freed from : ℕ)
    (sweep : Sweep) (no_scan : ((state_of c made).seats n).scan ≡ None) (v0 : Knowledge) (at : ℕ) where
  abbrev s : Moment
  s = state_of c made

  abbrev v : Knowledge
  v = s.seats n

  -- the time of death is loaded
  pub death_goes : (time : Option ℕ) → TidyFar c n v0 v log (tidying n time from freed sweep) (Tidies (LoadCutDeath at))
      → GoesBy c k n made each v0 log (tidying n time from freed sweep) (Tidies (LoadCutDeath at)) load_death
  death_goes time far stands =
      let u = view_by c s n load_death in
      let word = s.memory Clock in
      let one : Step = record { kind = steps.LoadDeath; word = place_of c Clock; found = Some word; stored = None } in
      let f : Further v u (one ∷ []) = further_one v u one (front c k n made each) refl (omega arith) refl tt refl in
      let long : clock_time_of word ≡ u.base + length u.past.seen = clock_long c k n made each in
      let heard : clock_time_of word ≤ u.base + length u.past.seen = omega (arith, long) in
      let top = (facts c k n made each).history.in_time in
      let is = (facts c k n made each).history.long in (
        come_on c v u far.0.made (one ∷ []) f v0 log freed from sweep.began far.0 refl,
        (
          backs_later c v u one f refl refl v0 far.0.made far.0.old log freed sweep word heard at far.1,
          λ late. record {
            step = one;
            there = Contains-push far.0.made one;
            clock = refl;
            word = word;
            found = refl;
            last = omega (arith, late, top, is);
          },
        ),
      )

  -- the section is left
  module _ (time : Option ℕ) (low : freed ≤ at) (live : at < length log) (alive : (version_at log at).dead ≡ 0)
      (back : WriteBackEnd) (next : IsStepOf c made (step_of n clear_mark) n (Tidies (LeaveBack at back)))
      (far : TidyFar c n v0 ((state_of c made).seats n) log (tidying n time from freed sweep) (Tidies (LeaveBack at back))) where
    abbrev u : Knowledge
    u = view_by c (state_of c made) n clear_mark

    abbrev one : Step
    one = record { kind = steps.ClearMark; word = place_of c (Mark ((state_of c made).seats n).number); found = None; stored = Some 0 }

    f : Further v u (one ∷ [])
    f = further_one v u one (begins_same v) refl (omega arith) refl tt refl

    abbrev come : HasCome c v0 u log freed from sweep.began
    come = come_on c v u far.0.made (one ∷ []) f v0 log freed from sweep.began far.0 refl

    first : IsFirst c v0 u (far.0.made ++ one ∷ []) log freed at sweep
    first = (backs_goes c v u one f refl refl v0 far.0.made far.0.old log freed sweep at far.1.0).0

    still : LookedAt c u (far.0.made ++ one ∷ []) log freed sweep.first at
    still = (backs_goes c v u one f refl refl v0 far.0.made far.0.old log freed sweep at far.1.0).1

    known : Known any_start any_commit u
    known = known_by c k n made each clear_mark (Tidies (LeaveBack at back)) next

    pub leave_cut : (dead : ℕ) → 0 < dead → (35184372088831 < dead → FindsLast far.0.made)
        → ComesSo c n v0 u (edited_from (Retired at dead) 0 log) (tidying n None from freed sweep)
        (settle_behind (edited_from (Retired at dead) 0 log) (tidying n None from freed sweep) at)
    leave_cut dead some late =
        let log2 = edited_from (Retired at dead) 0 log in
        let long = edited_long (Retired at dead) 0 log in
        let x = first_retired c v0 u (far.0.made ++ one ∷ []) log freed sweep at dead live some
        (λ after. last_found_on far.0.made (one ∷ []) (late after)) first in
        settle_so c n v0 u log2 freed from sweep (come_retired c v0 u log freed from sweep.began come at live dead alive) known no_scan
        (omega (arith, low, live, long)) (at + 1) (omega (arith, live, long))
        (subst (λ b. Looks c v0 u (far.0.made ++ one ∷ []) far.0.old log2 freed sweep b (at + 1)) (sym first.again) x)

    pub leave_above : (seat : Option ℕ) → TriedSo c v far.0.made (mark_of sweep.first) sweep.first.clock (note_in log at) seat
        → ComesSo c n v0 u (edited_from (AboveNoted at seat) 0 log) (tidying n None from freed sweep)
        (settle_behind (edited_from (AboveNoted at seat) 0 log) (tidying n None from freed sweep) at)
    leave_above seat tried =
        let log2 = edited_from (AboveNoted at seat) 0 log in
        let long = edited_long (AboveNoted at seat) 0 log in
        let why : StaysUntimed c u (far.0.made ++ one ∷ []) (mark_of sweep.first) sweep.first.clock true (note_in log at) seat = record {
          committed = still.still.committed;
          super = still.still.super;
          unwritten = still.still.unwritten;
          tried = λ b. tried_on c v u far.0.made (one ∷ []) f (mark_of sweep.first) sweep.first.clock (note_in log at) seat tried;
        } in
        let x : IsFirst c v0 u (far.0.made ++ one ∷ []) log2 freed (at + 1) sweep = record {
          again = first.again;
          swept = first.swept;
          tried = tried_above c v0 u (far.0.made ++ one ∷ []) log freed sweep.first at live seat why first.tried;
          unrested = first.unrested;
          latest = first.latest;
          same = first.same;
        } in
        settle_so c n v0 u log2 freed from sweep (come_above c v0 u log freed from sweep.began come at live seat) known no_scan
        (omega (arith, low, live, long)) (at + 1) (omega (arith, live, long))
        (subst (λ b. Looks c v0 u (far.0.made ++ one ∷ []) far.0.old log2 freed sweep b (at + 1)) (sym first.again) x)

    pub leave_gone : FoundEmpty v (version_at log at).object (version_at log at).time
        → TidyFar c n v0 u log (tidying n None from freed sweep) (Tidies (LoadSuperAgain at))
    leave_gone empty = (come, ((first, still), empty))

  -- SUPER is loaded once more, and a time is found
  module _ (rests : RestsAt c ((state_of c made).seats n) log freed from None) (low : freed ≤ at) (live : at < length log)
      (alive : (version_at log at).dead ≡ 0)
      (next : IsStepOf c made (step_of n (kind c k n lt made each log freed from rests no_scan at low live alive)) n (Tidies (LoadSuperAgain at)))
      (far : TidyFar c n v0 ((state_of c made).seats n) log (tidying n None from freed sweep) (Tidies (LoadSuperAgain at))) where
    abbrev there : ℕ
    there = (state_of c made).memory (Super n (index_of c at))

    same_found : found c k n lt made each log freed from rests no_scan at low live alive ≡ there
    same_found = ap (λ p. (state_of c made).memory (Super p (index_of c at))) (number_is c k n made each)

    abbrev again : Knowledge
    again = w c k n lt made each log freed from rests no_scan at low live alive

    abbrev load : Step
    load = step c k n lt made each log freed from rests no_scan at low live alive

    is_some : there ≢ 0
    is_some z = some_found c k n lt made each log freed from rests no_scan at low live alive next.may.may far.1.1 (same_found ∙ z)

    pub again_goes : GoesBy c k n made each v0 log (tidying n None from freed sweep) (Tidies (LoadSuperAgain at))
        (kind c k n lt made each log freed from rests no_scan at low live alive)
    again_goes =
        let f : Further v again (load ∷ []) = super_further c k n lt made each log freed from rests no_scan at low live alive next.may.may in
        let knows = known_by c k n made each (kind c k n lt made each log freed from rests no_scan at low live alive) (Tidies (LoadSuperAgain at)) next in
        let log2 = edited_from (Retired at there) 0 log in
        let long = edited_long (Retired at there) 0 log in
        let top = knows.in_time in
        let seen = found_seen c k n lt made each log freed from rests no_scan at low live alive next.may.may in
        let same = same_found in
        let some = is_some in
        let y = first_goes c v again load f refl refl v0 far.0.made far.0.old log freed sweep at far.1.0.0 in
        let x = first_retired c v0 again (far.0.made ++ load ∷ []) log freed sweep at there live (omega (arith, some))
        (λ late. absurd (omega (arith, late, seen, same, top))) y in
        let to = come_on c v again far.0.made (load ∷ []) f v0 log freed from sweep.began far.0 refl in
        subst (λ b. ComesSo c n v0 again (applied (if b then Kept else Retired at there) log) (tidying n None from freed sweep)
        (settle_behind (applied (if b then Kept else Retired at there) log) (tidying n None from freed sweep) at))
        (sym (ne_eqb there 0 some))
        (settle_so c n v0 again log2 freed from sweep (come_retired c v0 again log freed from sweep.began to at live there alive) knows no_scan
        (omega (arith, low, live, long)) (at + 1) (omega (arith, live, long))
        (subst (λ b. Looks c v0 again (far.0.made ++ load ∷ []) far.0.old log2 freed sweep b (at + 1)) (sym y.again) x))
