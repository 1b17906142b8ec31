-- The place of a command of a growing set and of a split, what one attempt leaves, and that a chain of them is a run.
use Rattle.std.proofs.lemmas.Bool.Decides.{nat_tests}
use Rattle.section_work.specs.Attempts.{IsReadAt}
use Rattle.section_work.specs.Works.{Meaning}
use Rattle.set_model.specs.Replies.{next, applies, overflows, reply, changes}
use Rattle.set_model.specs.declared.commands.Command.TheVariants as commands
use Rattle.set_model.specs.declared.commands.Reply.TheVariants.{Yes, No, Full, Worn}
use Rattle.item_workers.specs.declared.runner.Tried.{Tried}
use Rattle.item_workers.specs.declared.runner.Tried.TheVariants as tries
use Rattle.grow_hash.specs.Grown.{IsGrownOpening, grown_catalogue, grown_capacity, first_grown}
use Rattle.grow_hash.specs.GrowAttempts.{GrowAttempted}
use Rattle.grow_hash.specs.GrowPlans.{GrowPlan}
use Rattle.grow_hash.specs.GrowRules.{IsGrowCommit}
use Rattle.grow_hash.specs.SplitAttempts.{SplitTried}
use Rattle.grow_hash.specs.SplitCalls.{most_writes}
use Rattle.grow_hash.specs.declared.answer.Split.{Split}
use Rattle.grow_hash.specs.declared.answer.Split.TheVariants as splits
use Rattle.grow_hash.specs.declared.attempt.GrowStep.TheVariants as steps
use Rattle.grow_report.specs.Turns.{GrowPlaceOf, SplitIf, CannotSplit, LineAndSplit, TurnsOf, IsAhead, first_place, RanGrow, AllRanGrow}
use Rattle.grow_report.specs.Turns as reported
use Rattle.grow_report.proofs.Known.{place_longer as grow_longer, due_longer}
use Rattle.script_workers.proofs.Places.{RanTo, same_room, last_by, ran_commit, ran_read, ran_after, placed_later, follows_earlier}
use Rattle.script_workers.proofs.Runs.{by_seat}
use Rattle.script_workers.proofs.Terms.{◌≡◌, ℕ, suc, ◌+◌, ◌-◌, ◌≤◌, ◌==◌, ◌&&◌, ◌++◌, ◌∷◌, [], ◌∙◌, Bool, true, false, not, if◌then◌else◌, List, length, map}
use Rattle.script_workers.proofs.Terms.{Vec, Option, Some, None, inl, inr, refl, sym, ap, subst, arith, append_assoc, append-nil, slice_get_within}
use Rattle.script_workers.proofs.Terms.{Continues-Continues, each_seat, chain_told, entered_fresh, seen_grows, entered_continues, entered_within, under_still}
use Rattle.script_workers.proofs.Terms.{grow_levels, is_added, odd_with, flat_map, Global, Seat, IsSeat, Continues, Continues-itself, Commit, Change, State}
use Rattle.script_workers.proofs.Terms.{Writes, state_at, Command, Place, AtCommit, Read, Reply, Causes, Line, time_of, Past, past_of, state_of_time, Answer}
use Rattle.script_workers.proofs.Terms.{Chain, EachDid, HaveNumbers, answered, OnTried, CommitsNone, IsUnder, IsEnteredBetween, none_begun, line_of, row_of}
use Rattle.script_workers.proofs.Terms.{GrowKept, kept, LinkedCommand, LinkedTurn, LinkedTurnLine, LinkedTurns, AllLinkedTurns, LinkedIf, IsAnsweredBy}
use Rattle.script_workers.proofs.Terms.{IsUnderTurn}

-- the reply of a change is yes only where there is one
change_yes : (a o : Bool) → (if a then (if o then Full else (if false then Worn else Yes)) else No) ≡ Yes → a && not o && not false ≡ true
change_yes true false e = refl
change_yes _ _ e = absurd (cc)

-- what locks something and replies yes changes something
plan_changes : (command : Command) (from : State) (writes : Writes) (s : State) → GrowPlan grow_levels command from writes
    → reply command (grown_catalogue grow_levels s) (grown_capacity grow_levels s) false ≡ Yes
    → changes command (grown_catalogue grow_levels s) (grown_capacity grow_levels s) false ≡ true
plan_changes (commands.Add name key) from writes s plan said =
    change_yes (applies (commands.Add name key) (grown_catalogue grow_levels s))
    (overflows (commands.Add name key) (grown_catalogue grow_levels s) (grown_capacity grow_levels s)) said
plan_changes (commands.Del name key) from writes s plan said =
    change_yes (applies (commands.Del name key) (grown_catalogue grow_levels s))
    (overflows (commands.Del name key) (grown_catalogue grow_levels s) (grown_capacity grow_levels s)) said
plan_changes _ from writes s plan said = absurd plan

-- the command took place there, with this reply
abbrev pub RanAt : Seat → Seat → Command → Place → Reply → Type 0
RanAt old new command place answer = RanTo (λ p seat made. GrowPlaceOf p seat command place answer made) old new place

-- an attempt that is done
done_at : (k : Causes) (s t : Seat) (command : Command) (place : Place) (answer : Reply) → IsSeat (IsGrownOpening grow_levels) (IsGrowCommit grow_levels) t
    → GrowAttempted grow_levels k s t command (steps.Done answer place) → RanAt s t command place answer
done_at k s t command (AtCommit time) answer lawful d =
    let done = d.done in
    let before : State = state_of_time (past_of t) (time - 1) in
    let room = same_room (first_grown grow_levels) t (time - 1) in
    ran_commit _ s t done.commit time lawful.mine done.continues done.entry done.later done.mine
    (λ by. (
      done.commit,
      refl,
      record {
        later = done.entry.later;
        there = done.entry.there;
        seat_is = by;
        tagged = done.plan.tagged;
        answers = done.makes.0 ∙ (λ i. reply command (grown_catalogue grow_levels before) (room i) false);
        changing = sym (λ i. changes command (grown_catalogue grow_levels before) (room i) false)
            ∙ plan_changes command (state_at t.start t.seen done.commit.snapshot) done.commit.writes before done.plan.plan done.makes.1.answer;
        leaves = done.makes.1.leaves ∙ (λ i. next command (grown_catalogue grow_levels before) (room i) false);
      },
    ))
done_at k s t command (Read time) answer lawful read =
    let now : State = state_of_time (past_of t) time in
    let room = same_room (first_grown grow_levels) t time in
    ran_read _ k s t read.enters.before read.entered time read.enters.comes read.enters.enters read.time_is read.mine
    (λ after seen. (
      refl,
      record {
        after = after;
        seen = seen;
        answers = read.settles.0 ∙ (λ i. reply command (grown_catalogue grow_levels now) (room i) (time == t.last));
        unchanging = sym (λ i. changes command (grown_catalogue grow_levels now) (room i) (time == t.last)) ∙ read.settles.1;
      },
    ))

-- The command of a link has its place.
pub command_ran : (k : Causes) (s t : Seat) (command : Command) (place : Place) (answer : Reply) → LinkedCommand k s t command (place, answer)
    → RanAt s t command place answer
command_ran k s t command place answer l = ran_after _ s l.from t place l.none (done_at k l.from t command place answer l.lawful l.attempted)

-- What comes behind a command that is done: the seat goes on, and its commits grow by those of the split that is due.
pub record Behind (due : Bool) (s t : Seat) : Type 0 where
  pub continues : Continues s t
  pub split : Option ℕ
  pub commits : List Commit
  pub mine : t.mine ≡ s.mine ++ commits
  pub split_if : (from : ℕ) → from ≤ s.base + length s.seen → SplitIf due (past_of t) t.number from None split commits

-- none was made, since the state of a look can't be split
looked_at : {R : Type 0} (m : Meaning R) (k : Causes) (s t : Seat) (looked : R) (time : ℕ) → IsReadAt k m s t looked time → CannotSplit (past_of t) time
    → Behind true s t
looked_at m k s t looked time r cannot =
    let e = r.enters in
    let within = entered_within k s t e.before r.entered time e.comes e.enters r.time_is in
    record {
      continues = entered_continues k s t e.before r.entered time e.comes e.enters r.time_is;
      split = None;
      commits = [];
      mine = r.mine ∙ sym (append-nil s.mine);
      split_if = λ from le. (refl, time, omega (arith, le, within.0), within.1, tt, cannot);
    }

is_last : (time last : ℕ) → (time == last) ≡ true → time ≡ last
is_last time last e = grind (arith, nat_tests)

-- a try that answered
pub split_answered : (k : Causes) (s t : Seat) → IsSeat (IsGrownOpening grow_levels) (IsGrowCommit grow_levels) t → IsAnsweredBy k s t → Behind true s t
split_answered k s t lawful a = go a.split a.tried a.answered
  where
    go : (split : Split) → SplitTried grow_levels k s t split → ((cause : _) → split ≡ splits.Again cause → ⊥) → Behind true s t
    go (splits.Done time) h other =
        let done = h.made.done in
        let by = last_by t s.mine done.commit lawful.mine done.mine in
        record {
          continues = done.continues;
          split = Some time;
          commits = done.commit ∷ [];
          mine = done.mine;
          split_if = λ from le. (
            done.commit,
            refl,
            omega (arith, le, done.later),
            tt,
            record { later = done.entry.later; there = done.entry.there; seat_is = by; tagged = h.tagged },
          );
        }
    go splits.Whole h other = looked_at _ k s t _ h.0 h.1 (inl h.1.settles)
    go (splits.Long keys) h other = looked_at _ k s t _ h.0 h.1 (inr (inl (omega (arith, h.1.settles.1, h.1.settles.2))))
    go splits.Worn h other = looked_at _ k s t _ h.0 h.1 (inr (inr (is_last h.0 t.last h.1.settles.1)))
    go (splits.Again cause) h other = absurd (other cause refl)

-- What the link of a split leaves that was due, or not.
pub behind : (due : Bool) (k : Causes) (s t : Seat) → LinkedIf due k s t → Behind due s t
behind false k s t same = record {
  continues = subst (Continues s) (sym same) (Continues-itself s);
  split = None;
  commits = [];
  mine = ap (λ (u : Seat). u.mine) same ∙ sym (append-nil s.mine);
  split_if = λ from le. (refl, refl);
}
behind true k s t l =
    let b = split_answered k l.from t l.lawful l.attempted in
    record {
      continues = Continues-Continues l.none.continues b.continues;
      split = b.split;
      commits = b.commits;
      mine = b.mine ∙ ap (λ cs. cs ++ b.commits) l.none.mine;
      split_if = λ from le. b.split_if from (omega (arith, le, seen_grows s l.from l.none.continues));
    }

-- behind the second of two adds their number is even
even_then : (o a : Bool) → (o && a) ≡ true → odd_with o a ≡ false
even_then true true e = refl
even_then _ _ e = absurd (cc)

module _ (k : Causes) (s : GrowKept) (command : Command) where
  -- An attempt of the command that is done leaves its link, and a seat that may hold what a split locks.
  pub done_command : (t u : Seat) (place : Place) (answer : Reply) → IsUnder most_writes s.seat t
      → IsSeat (IsGrownOpening grow_levels) (IsGrowCommit grow_levels) u
      → GrowAttempted grow_levels k t u command (steps.Done answer place) → LinkedCommand k s.seat u command (place, answer) × IsUnder most_writes u u
  done_command t u place answer under lawful left =
      let linked : LinkedCommand k s.seat u command (place, answer) = record { from = t; none = under.none; attempted = left; lawful = lawful } in
      let ran = command_ran k s.seat u command place answer linked in
      (linked, none_begun most_writes u (omega (arith, under.may, under.none.continues.write_max, ran.continues.write_max)))

  -- With no split due behind it, its turn is done.
  pub turn_done : (u : Seat) (odd : Bool) (place : Place) (answer : Reply) → LinkedCommand k s.seat u command (place, answer)
      → (s.odd && is_added command answer) ≡ false → odd ≡ odd_with s.odd (is_added command answer) → LinkedTurn k s (kept u odd) command (place, answer)
  turn_done u odd place answer linked not_due odd_is = record {
    between = u;
    command_done = linked;
    split_done = subst (λ (d : Bool). LinkedIf d k u u) (sym not_due) refl;
    odd = odd_is;
  }

  -- What a try of the split leaves that is due behind a command that is done.
  pub split_told : (between t u : Seat) (odd : Bool) (found : Option (Place × Reply)) (place : Place) (answer : Reply) (tried : Tried (Place × Reply))
      → LinkedCommand k s.seat between command (place, answer) → IsUnder most_writes between t → (s.odd && is_added command answer) ≡ true
      → IsSeat (IsGrownOpening grow_levels) (IsGrowCommit grow_levels) u
      → OnTried (λ d. (d ≡ (place, answer)) × (odd ≡ false) × (found ≡ None) × IsAnsweredBy k t u)
      ((odd ≡ true) × (found ≡ Some (place, answer)) × CommitsNone t u) tried
      → OnTried (λ d. LinkedTurn k s (kept u odd) command d × ((found ≡ None) × (most_writes ≤ u.write_max))) (IsUnderTurn k s command (kept u odd) found) tried
  split_told between t u odd found place answer (tries.Done d) linked under due lawful h =
      let turn : LinkedTurn k s (kept u odd) command (place, answer) = record {
        between = between;
        command_done = linked;
        split_done = subst (λ (b : Bool). LinkedIf b k between u) (sym due)
            (record { from = t; none = under.none; attempted = h.3; lawful = lawful });
        odd = h.1 ∙ sym (even_then s.odd (is_added command answer) due);
      } in (
        subst (λ (e : Place × Reply). LinkedTurn k s (kept u odd) command e) (sym h.0) turn,
        (h.2, omega (arith, under.may, (split_answered k t u lawful h.3).continues.write_max)),
      )
  split_told between t u odd found place answer tries.Again linked under due lawful h =
      subst (λ (d : Option (Place × Reply)). IsUnderTurn k s command (kept u odd) d) (sym h.1)
      (between, linked, under_still most_writes between t u under h.2, due)

module _ (p : Past) where
  -- a split that is due is ahead of what follows all of the history
  due_ahead : (due : Bool) (seat from : ℕ) (next : Option Place) (split : Option ℕ) (commits : List Commit)
      → ((time : ℕ) → time ≤ p.base + length p.entries → IsAhead next time) → SplitIf due p seat from None split commits
      → SplitIf due p seat from next split commits
  due_ahead false seat from next split commits follows h = h
  due_ahead true seat from next (Some time) commits follows h =
      let within = slice_get_within p.entries (time - (p.base + 1)) (Change h.0) h.4.there in
      (h.0, h.1, h.2, follows time (omega (arith, within, h.4.later)), h.4)
  due_ahead true seat from next None commits follows h = (h.0, h.1, h.2, h.3, follows h.1 h.3, h.5)

-- From what was kept on these turns were made, with the lines of these answers, the first of this number and following this time.
record RanFrom (s u : GrowKept) (number before : ℕ) (commands : List Command) (lines : List Line) : Type 0 where
  pub continues : Continues s.seat u.seat
  pub commits : List Commit
  pub mine : u.seat.mine ≡ s.seat.mine ++ commits
  pub turns : List LineAndSplit
  pub lines_are : lines ≡ map reported.line_of turns
  pub ahead : (time : ℕ) → time ≤ s.seat.base + length s.seat.seen → IsAhead (first_place turns) time
  pub each : TurnsOf (past_of u.seat) u.seat.number number before s.odd commands turns commits

ran_from : (k : Causes) (s u : GrowKept) (number before : ℕ) (commands : List Command) (ds : List (Answer (Place × Reply)))
    → before ≤ s.seat.base + length s.seat.seen → Chain (answered (LinkedTurn k)) s u commands ds
    → HaveNumbers (λ (c : Command). 1) s.seat.number number commands ds → RanFrom s u number before commands (map line_of ds)
ran_from k s u number before [] [] le c n = record {
  continues = subst (λ (t : GrowKept). Continues s.seat t.seat) (sym c) (Continues-itself s.seat);
  commits = [];
  mine = ap (λ (t : GrowKept). t.seat.mine) c ∙ sym (append-nil s.seat.mine);
  turns = [];
  lines_are = refl;
  ahead = λ time le. tt;
  each = refl;
}
ran_from k s u number before (i ∷ commands) (d ∷ ds) le c n =
    let t : GrowKept = c.0 in
    let link = c.1 in
    let b : Seat = link.between in
    let place : Place = d.done.0 in
    let answer : Reply = d.done.1 in
    let due : Bool = s.odd && is_added i answer in
    let ran = command_ran k s.seat b i place answer link.command_done in
    let next = behind due k b t.seat link.split_done in
    let same : t.seat.number ≡ s.seat.number = next.continues.number ∙ ran.continues.number in
    let rest = ran_from k t u (number + 1) (time_of place) commands ds (omega (arith, ran.seen, seen_grows b t.seat next.continues)) c.2
    (subst (λ (m : ℕ). HaveNumbers (λ (c : Command). 1) m (number + 1) commands ds) (sym same) n.2) in
    let on = Continues-Continues next.continues rest.continues in
    let placed = placed_later (λ p seat commits. GrowPlaceOf p seat i place answer commits) b u.seat ran.commits on
    (λ p more seat h. grow_longer p more seat i place answer ran.commits h) ran.placed in
    let split = placed_later (λ p seat commits. SplitIf due p seat (time_of place) (first_place rest.turns) next.split commits) t.seat u.seat next.commits
    rest.continues (λ p more seat h. due_longer p more due seat (time_of place) (first_place rest.turns) next.split next.commits h)
    (due_ahead (past_of t.seat) due t.seat.number (time_of place) (first_place rest.turns) next.split next.commits rest.ahead
    (next.split_if (time_of place) ran.seen)) in
    let after : number + 1 ≡ suc number = omega arith in
    record {
      continues = Continues-Continues ran.continues on;
      commits = ran.commits ++ (next.commits ++ rest.commits);
      mine = rest.mine ∙ ap (λ cs. cs ++ rest.commits) next.mine ∙ ap (λ cs. (cs ++ next.commits) ++ rest.commits) ran.mine
          ∙ append_assoc (s.seat.mine ++ ran.commits) next.commits rest.commits
          ∙ append_assoc s.seat.mine ran.commits (next.commits ++ rest.commits);
      turns = record { line = line_of d; split = next.split } ∷ rest.turns;
      lines_are = ap (λ ls. line_of d ∷ ls) rest.lines_are;
      ahead = λ time h. follows_earlier time (s.seat.base + length s.seat.seen) place h ran.follows;
      each = (
        ran.commits,
        next.commits,
        rest.commits,
        refl,
        record {
          by = n.0 ∙ sym (rest.continues.number ∙ same);
          numbered = n.1;
          follows = follows_earlier before (s.seat.base + length s.seat.seen) place le ran.follows;
          place = placed;
        },
        split,
        subst (λ (m : ℕ). TurnsOf (past_of u.seat) u.seat.number m (time_of place) (odd_with s.odd (is_added i answer)) commands rest.turns rest.commits)
            after
            (subst (λ (o : Bool). TurnsOf (past_of u.seat) u.seat.number (number + 1) (time_of place) o commands rest.turns rest.commits) link.odd rest.each),
      );
    }
ran_from k s u number before _ _ le c n = absurd c

-- So a chain is a run.
pub chain_ran : (k : Causes) (s : Seat) (u : GrowKept) (commands : List Command) (ds : List (Answer (Place × Reply)))
    → Chain (answered (LinkedTurn k)) (kept s false) u commands ds → HaveNumbers (λ (c : Command). 1) s.number 1 commands ds
    → RanGrow s u.seat commands (map line_of ds)
chain_ran k s u commands ds c n =
    let ran = ran_from k (kept s false) u 1 (s.base + length s.seen) commands ds (omega arith) c n in
    record { continues = ran.continues; commits = ran.commits; mine = ran.mine; turns = ran.turns; lines_are = ran.lines_are; each = ran.each }

-- No read is older than what its seat had seen when the command began, which is all that the commands before it and their splits did.
pub turn_fresh : (k : Causes) (s t : GrowKept) (command : Command) (time : ℕ) (answer : Reply) → (l : LinkedTurn k s t command (Read time, answer))
    → IsEnteredBetween k s.seat l.between time
turn_fresh k s t command time answer l =
    let r = l.command_done.attempted in
    entered_fresh k l.command_done.from l.between r.enters.before r.entered time r.enters.comes r.enters.enters r.time_is s.seat l.command_done.none

module _ (k : Causes) {T : Type 0} (seat_in : T → Seat) where
  abbrev first : T → GrowKept
  first t = kept (seat_in t) false

  module _ (ts : List T) (ns : List Seat) (scripts : List (List Command)) (rows : List (Vec (Answer (Place × Reply)) Global))
      (each : EachDid (λ (g : GrowKept). g.seat) (LinkedTurn k) (λ (c : Command). 1) (map first ts) ns scripts rows) where
    -- what all seats ran
    pub all_ran : AllRanGrow (map seat_in ts) ns scripts (flat_map row_of rows)
    all_ran =
        each_seat first (λ (g : GrowKept). g.seat) (LinkedTurn k) (λ (c : Command). 1)
        (λ ts ns scripts rows. AllRanGrow (map seat_in ts) ns scripts (flat_map row_of rows)) refl
        (λ t n s r ts ns scripts rows h rest. (
          row_of r,
          flat_map row_of rows,
          refl,
          subst (λ (m : Seat). RanGrow (seat_in t) m s (row_of r)) h.seat_is (chain_ran k (seat_in t) h.end s r.items h.did.chain h.did.numbers),
          rest,
        ))
        ts ns scripts rows each

    -- and that each went on from where it was
    pub all_linked : AllLinkedTurns k (map seat_in ts) ns scripts (flat_map row_of rows)
    all_linked =
        by_seat first (λ (g : GrowKept). g.seat) (LinkedTurn k) seat_in (LinkedTurns k)
        (λ t n s r h. (
          h.end.odd,
          subst (λ (m : Seat). Chain (LinkedTurnLine k) (first t) (kept m h.end.odd) s (row_of r)) h.seat_is
              (chain_told (answered (LinkedTurn k)) (LinkedTurnLine k) line_of (λ a b c d l. l) (first t) h.end s r.items h.did.chain),
        ))
        ts ns scripts rows each
