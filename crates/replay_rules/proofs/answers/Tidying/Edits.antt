-- What is known of a tidy's log behind a step that changes a version in it.
use Rattle.std.proofs.Common.{◌≡◌, ◌≢◌, ℕ, ◌+◌, ◌<◌, ◌≤◌, List, length, true, Option, sym, ap, ◌∙◌, subst, arith, if◌then◌else◌, eq-eqb, ne_eqb}
use Rattle.mv_history.specs.declared.Step.{Step}
use Rattle.mv_core.proofs.Terms.{Config, dite, ℕ_discrete}
use Rattle.mv_core.specs.declared.view.Knowledge.{Knowledge}
use Rattle.seat_log.specs.declared.version.Note.{Note}
use Rattle.log_reclaim.specs.Parts.{DiesFrom}
use Rattle.log_reclaim.specs.Untimed.{StaysUntimed}
use Rattle.log_reclaim.specs.Holders.{FindsLast}
use Rattle.replay_rules.specs.declared.seats.NotedVersion.{NotedVersion}
use Rattle.replay_rules.specs.declared.seats.Scanned.{Scanned}
use Rattle.replay_rules.specs.declared.seats.Edit.TheVariants.{Retired, AboveNoted}
use Rattle.replay_rules.specs.SeatNotes.{version_at, no_version, edited_from}
use Rattle.replay_rules.proofs.runs.Notes.{note_of, edited_long, edited_at}
use Rattle.replay_rules.proofs.answers.Tidying.Far.{HasCome, KnowsUntimed, AreSame, DeathsAreSeen, note_in, mark_of}

-- a version that has no time of death has one now
dies_now : (old m : Note) (dead : ℕ) → DiesFrom old m → m.dead ≡ 0 → DiesFrom old (record m { dead = dead })
dies_now old m dead k none = record {
  same = ap (λ (x : Note). record x { dead = dead }) k.same;
  once = λ some. (let same = k.once some in absurd (omega (arith, some, same, none)));
}

module _ (log : List NotedVersion) (at : ℕ) where
  pub retired_here : (dead : ℕ) → at < length log → version_at (edited_from (Retired at dead) 0 log) at ≡ record (version_at log at) { dead = dead }
  retired_here dead lt =
      edited_at (Retired at dead) 0 at log no_version lt
      ∙ ap (λ b. if b then record (version_at log at) { dead = dead } else version_at log at) (eq-eqb at (0 + at) (omega arith))

  pub retired_else : (dead i : ℕ) → i < length log → i ≢ at → version_at (edited_from (Retired at dead) 0 log) i ≡ version_at log i
  retired_else dead i lt ne =
      edited_at (Retired at dead) 0 i log no_version lt
      ∙ ap (λ b. if b then record (version_at log i) { dead = dead } else version_at log i) (ne_eqb at (0 + i) (λ e. ne (omega (arith, e))))

  pub above_here : (seat : Option ℕ) → at < length log → version_at (edited_from (AboveNoted at seat) 0 log) at ≡ record (version_at log at) { above = seat }
  above_here seat lt =
      edited_at (AboveNoted at seat) 0 at log no_version lt
      ∙ ap (λ b. if b then record (version_at log at) { above = seat } else version_at log at) (eq-eqb at (0 + at) (omega arith))

  pub above_else : (seat : Option ℕ) (i : ℕ) → i < length log → i ≢ at → version_at (edited_from (AboveNoted at seat) 0 log) i ≡ version_at log i
  above_else seat i lt ne =
      edited_at (AboveNoted at seat) 0 i log no_version lt
      ∙ ap (λ b. if b then record (version_at log i) { above = seat } else version_at log i) (ne_eqb at (0 + i) (λ e. ne (omega (arith, e))))

-- the versions of a log are as they were before the tidy, where one has a time of death now
pub same_retired : (old log : List NotedVersion) (began freed at dead : ℕ) → AreSame old log began freed → at < length log → (version_at log at).dead ≡ 0
    → AreSame old (edited_from (Retired at dead) 0 log) began freed
same_retired old log began freed at dead k live none =
    let long = edited_long (Retired at dead) 0 log in
    let was = k.long in
    record {
      long = omega (arith, long, was);
      low = k.low;
      each = λ i low lt.
          let inside : i < length log = omega (arith, lt, long) in
          dite (ℕ_discrete i at)
          (λ e.
          subst (λ (x : NotedVersion). DiesFrom (note_in old i) (note_of i x))
          (sym (ap (λ p. version_at (edited_from (Retired at dead) 0 log) p) e ∙ retired_here log at dead live
          ∙ ap (λ p. record (version_at log p) { dead = dead }) (sym e)))
          (dies_now (note_in old i) (note_in log i) dead (k.each i low inside) (ap (λ p. (version_at log p).dead) e ∙ none)))
          (λ ne. subst (λ (x : NotedVersion). DiesFrom (note_in old i) (note_of i x)) (sym (retired_else log at dead i inside ne)) (k.each i low inside));
    }

-- and where another seat was noted above one
pub same_above : (old log : List NotedVersion) (began freed at : ℕ) (seat : Option ℕ) → AreSame old log began freed → at < length log
    → AreSame old (edited_from (AboveNoted at seat) 0 log) began freed
same_above old log began freed at seat k live =
    let long = edited_long (AboveNoted at seat) 0 log in
    let was = k.long in
    record {
      long = omega (arith, long, was);
      low = k.low;
      each = λ i low lt.
          let inside : i < length log = omega (arith, lt, long) in
          dite (ℕ_discrete i at)
          (λ e.
          subst (λ (x : NotedVersion). DiesFrom (note_in old i) (note_of i x))
          (sym (ap (λ p. version_at (edited_from (AboveNoted at seat) 0 log) p) e ∙ above_here log at seat live
          ∙ ap (λ p. record (version_at log p) { above = seat }) (sym e)))
          (k.each i low inside))
          (λ ne. subst (λ (x : NotedVersion). DiesFrom (note_in old i) (note_of i x)) (sym (above_else log at seat i inside ne)) (k.each i low inside));
    }

module _ (c : Config) (v0 v : Knowledge) (log : List NotedVersion) (freed from began : ℕ) (k : HasCome c v0 v log freed from began) (at : ℕ)
    (live : at < length log)
  where
    abbrev pub come_retired : (dead : ℕ) → (version_at log at).dead ≡ 0 → HasCome c v0 v (edited_from (Retired at dead) 0 log) freed from began
    come_retired dead none = record {
      old = k.old;
      rests = k.rests;
      known = k.known;
      made = k.made;
      further = k.further;
      same = same_retired k.old log began freed at dead k.same live none;
    }

    abbrev pub come_above : (seat : Option ℕ) → HasCome c v0 v (edited_from (AboveNoted at seat) 0 log) freed from began
    come_above seat = record {
      old = k.old;
      rests = k.rests;
      known = k.known;
      made = k.made;
      further = k.further;
      same = same_above k.old log began freed at seat k.same live;
    }

module _ (c : Config) (v0 v : Knowledge) (made : List Step) (log : List NotedVersion) (freed : ℕ) (first : Scanned) (at : ℕ) (live : at < length log) where
  -- a version has a time of death now, after the last time only where that was found
  pub tried_retired : (dead up then_up : ℕ) → 0 < dead → (35184372088831 < dead → FindsLast made)
      → ((i : ℕ) → i < then_up → i < length log → i ≢ at → i < up) → KnowsUntimed c v0 v made log freed up first
      → KnowsUntimed c v0 v made (edited_from (Retired at dead) 0 log) freed then_up first
  tried_retired dead up then_up some late_found further k =
      let long = edited_long (Retired at dead) 0 log in
      record {
        read = k.read;
        known = k.known;
        after = k.after;
        ends = λ i low lt late.
            let inside : i < length log = omega (arith, lt, long) in
            dite (ℕ_discrete i at)
            (λ e.
            late_found (subst (λ (x : NotedVersion). 35184372088831 < x.dead)
            (ap (λ p. version_at (edited_from (Retired at dead) 0 log) p) e ∙ retired_here log at dead live) late))
            (λ ne. k.ends i low inside (subst (λ (x : NotedVersion). 35184372088831 < x.dead) (retired_else log at dead i inside ne) late));
        untimed = λ i low lt before none.
            let inside : i < length log = omega (arith, lt, long) in
            dite (ℕ_discrete i at)
            (λ e.
            let is : dead ≡ 0 = subst (λ (x : NotedVersion). x.dead ≡ 0)
            (ap (λ p. version_at (edited_from (Retired at dead) 0 log) p) e ∙ retired_here log at dead live) none in
            absurd (omega (arith, is, some)))
            (λ ne.
            let is = retired_else log at dead i inside ne in
            subst (λ (x : NotedVersion). StaysUntimed c v made (mark_of first) first.clock true (note_of i x) x.above) (sym is)
            (k.untimed i low inside (further i before inside ne) (subst (λ (x : NotedVersion). x.dead ≡ 0) is none)));
      }

  -- of a version it is known now why it has no time of death
  pub tried_above : (seat : Option ℕ) → StaysUntimed c v made (mark_of first) first.clock true (note_in log at) seat
      → KnowsUntimed c v0 v made log freed at first → KnowsUntimed c v0 v made (edited_from (AboveNoted at seat) 0 log) freed (at + 1) first
  tried_above seat stays k =
      let long = edited_long (AboveNoted at seat) 0 log in
      record {
        read = k.read;
        known = k.known;
        after = k.after;
        ends = λ i low lt late.
            let inside : i < length log = omega (arith, lt, long) in
            dite (ℕ_discrete i at)
            (λ e.
            k.ends i low inside
            (subst (λ (x : NotedVersion). 35184372088831 < x.dead)
            (ap (λ p. version_at (edited_from (AboveNoted at seat) 0 log) p) e ∙ above_here log at seat live
            ∙ ap (λ p. record (version_at log p) { above = seat }) (sym e)) late))
            (λ ne. k.ends i low inside (subst (λ (x : NotedVersion). 35184372088831 < x.dead) (above_else log at seat i inside ne) late));
        untimed = λ i low lt before none.
            let inside : i < length log = omega (arith, lt, long) in
            dite (ℕ_discrete i at)
            (λ e.
            subst (λ p. StaysUntimed c v made (mark_of first) first.clock true (note_in (edited_from (AboveNoted at seat) 0 log) p)
            (version_at (edited_from (AboveNoted at seat) 0 log) p).above) (sym e)
            (subst (λ (x : NotedVersion). StaysUntimed c v made (mark_of first) first.clock true (note_of at x) x.above)
            (sym (above_here log at seat live)) stays))
            (λ ne.
            let is = above_else log at seat i inside ne in
            subst (λ (x : NotedVersion). StaysUntimed c v made (mark_of first) first.clock true (note_of i x) x.above) (sym is)
            (k.untimed i low inside (omega (arith, before, ne)) (subst (λ (x : NotedVersion). x.dead ≡ 0) is none)));
      }

  -- of those before it nothing changes where something is noted of it
  pub tried_noted : (seat : Option ℕ) → KnowsUntimed c v0 v made log freed at first
      → KnowsUntimed c v0 v made (edited_from (AboveNoted at seat) 0 log) freed at first
  tried_noted seat k =
      let long = edited_long (AboveNoted at seat) 0 log in
      record {
        read = k.read;
        known = k.known;
        after = k.after;
        ends = λ i low lt late.
            let inside : i < length log = omega (arith, lt, long) in
            dite (ℕ_discrete i at)
            (λ e.
            k.ends i low inside
            (subst (λ (x : NotedVersion). 35184372088831 < x.dead)
            (ap (λ p. version_at (edited_from (AboveNoted at seat) 0 log) p) e ∙ above_here log at seat live
            ∙ ap (λ p. record (version_at log p) { above = seat }) (sym e)) late))
            (λ ne. k.ends i low inside (subst (λ (x : NotedVersion). 35184372088831 < x.dead) (above_else log at seat i inside ne) late));
        untimed = λ i low lt before none.
            let inside : i < length log = omega (arith, lt, long) in
            let is = above_else log at seat i inside (λ e. omega (arith, e, before)) in
            subst (λ (x : NotedVersion). StaysUntimed c v made (mark_of first) first.clock true (note_of i x) x.above) (sym is)
            (k.untimed i low inside before (subst (λ (x : NotedVersion). x.dead ≡ 0) is none));
      }

-- a time of death that was seen is noted
pub deaths_retired : (v : Knowledge) (log : List NotedVersion) (freed at dead : ℕ) → at < length log → dead ≤ v.base + length v.past.seen
    → DeathsAreSeen v log freed → DeathsAreSeen v (edited_from (Retired at dead) 0 log) freed
deaths_retired v log freed at dead live seen k i low lt in_time =
    let long = edited_long (Retired at dead) 0 log in
    let inside : i < length log = omega (arith, lt, long) in
    dite (ℕ_discrete i at)
    (λ e.
    subst (λ (x : NotedVersion). x.dead ≤ v.base + length v.past.seen)
    (sym (ap (λ p. version_at (edited_from (Retired at dead) 0 log) p) e ∙ retired_here log at dead live)) seen)
    (λ ne.
    let is = retired_else log at dead i inside ne in
    subst (λ (x : NotedVersion). x.dead ≤ v.base + length v.past.seen) (sym is)
    (k i low inside (subst (λ (x : NotedVersion). x.dead ≤ 35184372088831) is in_time)))
