-- How a tidy goes on behind a load of SUPER.
use Rattle.std.proofs.Common.{◌≡◌, ◌≢◌, ℕ, ◌+◌, ◌-◌, ◌<◌, ◌≤◌, ◌==◌, ◌&&◌, ◌||◌, ltb, not, List, [], ◌∷◌, ◌++◌, length, Bool, true, false}
use Rattle.std.proofs.Common.{None, if◌then◌else◌, refl, sym, ap, ◌∙◌, subst, arith, inl, Contains, eqb-true}
use Rattle.std.proofs.lemmas.List.Elements.{Contains-push}
use Rattle.mv_history.specs.declared.Step.{Step}
use Rattle.mv_core.proofs.Terms.{Config, Checked, Super}
use Rattle.mv_core.specs.declared.view.Knowledge.{Knowledge}
use Rattle.mv_core.specs.Rings.{index_of}
use Rattle.mv_core.proofs.history.Latest.{latest_at-mono}
use Rattle.log_reclaim.specs.Parts.{BeginsNoScan, super_step, super_load}
use Rattle.log_reclaim.specs.Untimed.{TriedSo, StaysUntimed}
use Rattle.replay_rules.specs.declared.seats.NotedVersion.{NotedVersion}
use Rattle.replay_rules.specs.declared.seats.Edit.TheVariants.{Kept, Retired, AboveNoted}
use Rattle.mv_core.specs.Known.{Known}
use Rattle.replay_rules.specs.declared.seats.Scanned.{Scanned}
use Rattle.replay_rules.specs.declared.seats.Sweep.{Sweep}
use Rattle.replay_rules.specs.declared.seats.Entering.TheVariants.{LoadLow}
use Rattle.replay_rules.specs.declared.seats.Sweeping.TheVariants.{LoadSuper}
use Rattle.replay_rules.specs.declared.seats.NextStep.TheVariants.{Enters, Tidies}
use Rattle.replay_rules.specs.declared.seats.Then.TheVariants.{Goes}
use Rattle.replay_rules.specs.SeatNotes.{version_at, edited_from, applied}
use Rattle.replay_rules.specs.Sweeps.{settle_behind}
use Rattle.replay_rules.specs.NextSteps.{IsStepOf}
use Rattle.replay_rules.specs.States.{any_commit, any_start, Made, state_of, AreMade}
use Rattle.replay_rules.proofs.runs.Notes.{note_of, edited_long}
use Rattle.replay_rules.proofs.runs.Sections.{RestsAt, IsSwept}
use Rattle.replay_rules.proofs.runs.Standing.{step_of}
use Rattle.replay_rules.proofs.runs.Known.{if_so, eqb_ne, ltb_lt, number_is}
use Rattle.replay_rules.proofs.runs.LogFacts.{noted_at}
use Rattle.log_reclaim.proofs.Needed.{time_seen}
use Rattle.replay_rules.proofs.answers.Tidying.Far.{HasCome, KnowsUntimed, IsFirst, Looks}
use Rattle.replay_rules.proofs.answers.Tidying.Far.{TidyFar, note_in, mark_of}
use Rattle.replay_rules.proofs.answers.Tidying.Further.{Further, one_all}
use Rattle.replay_rules.proofs.answers.Tidying.Grown.{come_on, rested_on, second_on, tries_on, unrested_on, within_on, scanned_on}
use Rattle.replay_rules.proofs.answers.Tidying.Edits.{come_retired, come_above, tried_retired, tried_above, tried_noted, deaths_retired, above_here}
use Rattle.replay_rules.proofs.answers.Tidying.Looking.{kind, found, w, step, not_dead, super_further, found_seen, none_written}
use Rattle.replay_rules.proofs.answers.Tidying.Rounds.{settle_so}
use Rattle.replay_rules.proofs.answers.Tidying.Stepping.{tidying, ComesSo, known_by, GoesBy}

-- the time of an own version was seen before the tidy
pub old_time : (c : Config) (v0 v : Knowledge) (log : List NotedVersion) (freed from began : ℕ) → HasCome c v0 v log freed from began → (i : ℕ) → freed ≤ i
    → i < length log → (version_at log i).time ≤ v0.base + length v0.past.seen
old_time c v0 v log freed from began k i low lt =
    let l = k.rests.2.noted in
    let first = k.same.low in
    let long = k.same.long in
    let at = noted_at c l k.old began from i k.rests.2.is (omega (arith, low, first)) (omega (arith, lt, long)) in
    let seen = time_seen c v0 l (i - began) (note_in k.old i) k.rests.2.stands at any_start any_commit ∣ k.known ∣₁ in
    let same = ap (λ x. x.time) (k.same.each i low lt).same in
    omega (arith, seen, same)

module _ (c : Config) (k : Checked c) (n : ℕ) (lt : n < c.seats) (made : List Made) (each : AreMade c made) (log : List NotedVersion) (freed from : ℕ)
    (rests : RestsAt c ((state_of c made).seats n) log freed from None) (no_scan : ((state_of c made).seats n).scan ≡ None) (at : ℕ) (low : freed ≤ at)
    (live : at < length log) (alive : (version_at log at).dead ≡ 0) (sweep : Sweep) (swept : IsSwept ((state_of c made).seats n).grace sweep) (v0 : Knowledge)
    (next : IsStepOf c made (step_of n (kind c k n lt made each log freed from rests no_scan at low live alive)) n (Tidies (LoadSuper at))) where
  abbrev v : Knowledge
  v = (state_of c made).seats n

  abbrev u : Knowledge
  u = w c k n lt made each log freed from rests no_scan at low live alive

  abbrev there : ℕ
  there = (state_of c made).memory (Super n (index_of c at))

  same_found : found c k n lt made each log freed from rests no_scan at low live alive ≡ there
  same_found = ap (λ p. (state_of c made).memory (Super p (index_of c at))) (number_is c k n made each)

  abbrev one : Step
  one = step c k n lt made each log freed from rests no_scan at low live alive

  f : Further v u (one ∷ [])
  f = super_further c k n lt made each log freed from rests no_scan at low live alive next.may.may

  known : Known any_start any_commit u
  known = known_by c k n made each (kind c k n lt made each log freed from rests no_scan at low live alive) (Tidies (LoadSuper at)) next

  abbrev sweep2 : Sweep
  sweep2 = record sweep { at = at }

  -- the first round goes on from a longer trail
  first_on : (k0 : HasCome c v0 v log freed from sweep.began) → IsFirst c v0 v k0.made log freed at sweep
      → IsFirst c v0 u (k0.made ++ one ∷ []) log freed at sweep2
  first_on k0 x = record {
    again = x.again;
    swept = x.swept;
    tried = tries_on c v u k0.made (one ∷ []) f v0 log freed at sweep.first x.tried;
    unrested = unrested_on c v u k0.made (one ∷ []) f v0 refl refl x.unrested;
    latest = within_on c v u k0.made (one ∷ []) f sweep.latest x.latest;
    same = x.same;
  }

  abbrev come : (k0 : HasCome c v0 v log freed from sweep.began) → HasCome c v0 u log freed from sweep.began
  come k0 = come_on c v u k0.made (one ∷ []) f v0 log freed from sweep.began k0 refl

  -- a time was found: the version is dead from it on
  module _ (some : there ≢ 0) where
    abbrev log2 : List NotedVersion
    log2 = edited_from (Retired at there) 0 log

    looks_retired : (again : Bool) → (k0 : HasCome c v0 v log freed from sweep.began) → Looks c v0 v k0.made k0.old log freed sweep again at
        → Looks c v0 u (k0.made ++ one ∷ []) k0.old log2 freed sweep2 again (at + 1)
    looks_retired false k0 x =
        let y = first_on k0 x in
        let top = known.in_time in
        let seen = found_seen c k n lt made each log freed from rests no_scan at low live alive next.may.may in
        let same = same_found in
        record {
          again = y.again;
          swept = y.swept;
          tried = tried_retired c v0 u (k0.made ++ one ∷ []) log freed sweep.first at live there at (at + 1) (omega (arith, some))
              (λ late. absurd (omega (arith, late, seen, same, top)))
              (λ i before inside ne. omega (arith, before, ne)) y.tried;
          unrested = y.unrested;
          latest = y.latest;
          same = y.same;
        }
    looks_retired true k0 x =
        let top = known.in_time in
        let seen = found_seen c k n lt made each log freed from rests no_scan at low live alive next.may.may in
        let same = same_found in
        let second = second_on c v u k0.made (one ∷ []) f v0 log freed sweep.first x.2 in (
          x.0,
          rested_on c v u k0.made (one ∷ []) f v0 refl refl x.1,
          record {
            tried = tried_retired c v0 u (k0.made ++ one ∷ []) log freed sweep.first at live there (length log) (length log2) (omega (arith, some))
                (λ late. absurd (omega (arith, late, seen, same, top)))
                (λ i before inside ne. inside) second.tried;
            deaths = deaths_retired u log freed at there live (omega (arith, seen, same)) second.deaths;
          },
          scanned_on c v u k0.made (one ∷ []) f sweep.last sweep.bound refl (one_all (λ s. BeginsNoScan s.kind) one tt) x.3,
        )

    pub goes_retired : (k0 : HasCome c v0 v log freed from sweep.began) → Looks c v0 v k0.made k0.old log freed sweep sweep.again at
        → ComesSo c n v0 u log2 (tidying n None from freed sweep2) (settle_behind log2 (tidying n None from freed sweep2) at)
    goes_retired k0 x =
        let long = edited_long (Retired at there) 0 log in
        settle_so c n v0 u log2 freed from sweep2 (come_retired c v0 u log freed from sweep.began (come k0) at live there alive) known no_scan
        (omega (arith, low, live, long)) (at + 1) (omega (arith, live, long)) (looks_retired sweep.again k0 x)

  -- none was found
  module _ (none : there ≡ 0) where
    zero_found : found c k n lt made each log freed from rests no_scan at low live alive ≡ 0
    zero_found = same_found ∙ none

    zero_step : one ≡ super_step c u.number (note_in log at)
    zero_step = ap (super_load c v.number (note_in log at)) zero_found

    -- in the second round nothing is noted
    pub goes_second : (k0 : HasCome c v0 v log freed from sweep.began) → sweep.again ≡ true → Looks c v0 v k0.made k0.old log freed sweep true at
        → ComesSo c n v0 u log (tidying n None from freed sweep2) (settle_behind log (tidying n None from freed sweep2) at)
    goes_second k0 again x =
        settle_so c n v0 u log freed from sweep2 (come k0) known no_scan (omega (arith, low, live)) (at + 1) (omega (arith, live))
        (subst (λ b. Looks c v0 u (k0.made ++ one ∷ []) k0.old log freed sweep2 b (at + 1)) (sym again) (
          x.0,
          rested_on c v u k0.made (one ∷ []) f v0 refl refl x.1,
          second_on c v u k0.made (one ∷ []) f v0 log freed sweep.first x.2,
          scanned_on c v u k0.made (one ∷ []) f sweep.last sweep.bound refl (one_all (λ s. BeginsNoScan s.kind) one tt) x.3,
        ))

    -- in the first round it is known why
    abbrev log3 : List NotedVersion
    log3 = edited_from (AboveNoted at None) 0 log

    stays : (k0 : HasCome c v0 v log freed from sweep.began) → IsFirst c v0 v k0.made log freed at sweep → (back : Bool)
        → (back ≡ true → TriedSo c u (k0.made ++ one ∷ []) (mark_of sweep.first) sweep.first.clock (note_in log at) None)
        → StaysUntimed c u (k0.made ++ one ∷ []) (mark_of sweep.first) sweep.first.clock back (note_in log at) None
    stays k0 x back tried =
        let written = none_written c k n lt made each log freed from rests no_scan at low live alive next.may.may zero_found in
        let known_low = x.tried.known in
        let same = ap (λ (y : Scanned). y.time) x.same in
        let most = swept.1 in
        let up = latest_at-mono u.base u.past.seen (version_at log at).object sweep.first.low v.grace (omega (arith, known_low, same, most)) in
        record {
          committed = (not_dead c k n lt made each log freed from rests no_scan at low live alive).committed;
          super = subst (Contains (k0.made ++ one ∷ [])) zero_step (Contains-push k0.made one);
          unwritten = omega (arith, written, up);
          tried = tried;
        }

    -- it is too young for the watermark
    pub goes_young : (k0 : HasCome c v0 v log freed from sweep.began) → sweep.again ≡ false → IsFirst c v0 v k0.made log freed at sweep
        → sweep.last.time < (version_at log at).time
        → ComesSo c n v0 u log3 (tidying n None from freed sweep2) (settle_behind log3 (tidying n None from freed sweep2) at)
    goes_young k0 again x young =
        let long = edited_long (AboveNoted at None) 0 log in
        let y = first_on k0 x in
        let same = ap (λ (y : Scanned). y.time) x.same in
        let known_low = x.tried.known in
        let after = x.tried.after in
        let seen = old_time c v0 v log freed from sweep.began k0 at low live in
        let late : sweep.first.time < (version_at log at).time = omega (arith, young, same) in
        let why = stays k0 x true (λ b. (omega (arith, late, known_low, after, seen), inl late)) in
        settle_so c n v0 u log3 freed from sweep2 (come_above c v0 u log freed from sweep.began (come k0) at live None) known no_scan
        (omega (arith, low, live, long)) (at + 1) (omega (arith, live, long))
        (subst (λ b. Looks c v0 u (k0.made ++ one ∷ []) k0.old log3 freed sweep2 b (at + 1)) (sym again) (record {
          again = y.again;
          swept = y.swept;
          tried = tried_above c v0 u (k0.made ++ one ∷ []) log freed sweep.first at live None why y.tried;
          unrested = y.unrested;
          latest = y.latest;
          same = y.same;
        }))

    -- it is written back
    pub goes_back : (k0 : HasCome c v0 v log freed from sweep.began) → IsFirst c v0 v k0.made log freed at sweep
        → ComesSo c n v0 u log3 (tidying n None from freed sweep2) (Goes (Enters LoadLow))
    goes_back k0 x stands =
        let long = edited_long (AboveNoted at None) 0 log in
        let y = first_on k0 x in
        let is = above_here log at None live in
        let still = stays k0 x false (λ b. let f : false ≡ true = b in absurd (cc)) in (
          come_above c v0 u log freed from sweep.began (come k0) at live None,
          (
            record {
              again = y.again;
              swept = y.swept;
              tried = still_tried y.tried;
              unrested = y.unrested;
              latest = y.latest;
              same = y.same;
            },
            record {
              low = low;
              live = omega (arith, live, long);
              still = subst (λ (x : NotedVersion). StaysUntimed c u (k0.made ++ one ∷ []) (mark_of sweep.first) sweep.first.clock false (note_of at x) None)
                  (sym is) still;
              before = k0.made;
              later = [];
              made_is = ap (λ s. k0.made ++ s ∷ [])
                  (zero_step ∙ ap (λ (x : NotedVersion). super_step c u.number (note_of at x)) (sym is));
            },
          ),
        )
      where
        still_tried : KnowsUntimed c v0 u (k0.made ++ one ∷ []) log freed at sweep.first → KnowsUntimed c v0 u (k0.made ++ one ∷ []) log3 freed at sweep.first
        still_tried t = tried_noted c v0 u (k0.made ++ one ∷ []) log freed sweep.first at live None t

  -- how the tidy goes on, by what was found, and by the round
  abbrev So : Bool → Bool → Type 0
  So b a =
      let log4 = applied (if b && not a then AboveNoted at None else (if b then Kept else Retired at there)) log in
      ComesSo c n v0 u log4 (tidying n None from freed sweep2)
      (if not b || (a || ltb sweep.last.time (version_at log4 at).time) then settle_behind log4 (tidying n None from freed sweep2) at
      else Goes (Enters LoadLow))

  pub super_goes : TidyFar c n v0 v log (tidying n None from freed sweep) (Tidies (LoadSuper at))
      → GoesBy c k n made each v0 log (tidying n None from freed sweep) (Tidies (LoadSuper at))
      (kind c k n lt made each log freed from rests no_scan at low live alive)
  super_goes far = go (there == 0) sweep.again refl refl
    where
      go : (b a : Bool) → (there == 0) ≡ b → sweep.again ≡ a → So b a
      go false a e is = goes_retired (eqb_ne there 0 e) far.0 far.1
      go true true e is =
          goes_second (eqb-true there 0 e) far.0 is (subst (λ b. Looks c v0 v far.0.made far.0.old log freed sweep b at) is far.1)
      go true false e is =
          let none = eqb-true there 0 e in
          let x = subst (λ b. Looks c v0 v far.0.made far.0.old log freed sweep b at) is far.1 in
          let log4 = edited_from (AboveNoted at None) 0 log in
          let same_time : (version_at log4 at).time ≡ (version_at log at).time = ap (λ (y : NotedVersion). y.time) (above_here log at None live) in
          if_so (ComesSo c n v0 u log4 (tidying n None from freed sweep2)) (ltb sweep.last.time (version_at log4 at).time)
          (settle_behind log4 (tidying n None from freed sweep2) at) (Goes (Enters LoadLow))
          (λ young. goes_young none far.0 is x (let late = ltb_lt _ _ young in omega (arith, late, same_time)))
          (λ old. goes_back none far.0 x)
