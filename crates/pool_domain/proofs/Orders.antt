-- What each seat of a pool took, as its script, the replay of a pool's lines, and that its commits are of different times.
use Rattle.std.proofs.lemmas.List.Sums.{sum_by-cons}
use Rattle.run_report.proofs.history.Counts.{lines_append}
use Rattle.std.proofs.lemmas.Bool.{cases_lt}
use Rattle.mv_history.specs.declared.history.Entry.TheVariants.{Change}
use Rattle.set_model.specs.Replies.{reply}
use Rattle.section_work.specs.declared.place.Place.{Place}
use Rattle.section_work.specs.declared.place.Place.TheVariants.{Commit as AtCommit, Read}
use Rattle.set_model.specs.declared.commands.Reply.{Reply}
use Rattle.run_report.proofs.Replaying.{some_and}
use Rattle.pool_domain.proofs.Terms.{◌≡◌, ◌+◌, ◌∷◌, ◌++◌, ◌∙◌, ◌-◌, ◌<◌, ℕ, suc, List, [], length, refl, sym, ap, cond, take_at, drop_at, Seat, Command, Line}
use Rattle.pool_domain.proofs.Terms.{AllRan, commit_lines, is_commit_of, AreTaken, lines_from, EachSeat, Took, IsTrue, Option, Some, None, slice_get, replicate}
use Rattle.pool_domain.proofs.Terms.{inl, inr, subst, arith, All, IsSomeAnd, get_or-replicate, All-head, All-tail, Commit, Maps, time_of, EachPair, Follows}
use Rattle.pool_domain.proofs.Terms.{IsAlone, IsInTime, MayStand, Replays, after, command_at, command_of, is_commit, is_last, Past, PlaceOf, StandsIn}
use Rattle.pool_domain.proofs.Terms.{ReplaysPool, StandsInPool}

taken_length : (commands : List Command) (before : ℕ) (taken : List Line) (script : List Command) → AreTaken commands before taken script
    → length script ≡ length taken
taken_length commands before [] [] are = refl
taken_length commands before [] (command ∷ script) are = absurd are
taken_length commands before (c ∷ taken) [] are = absurd are
taken_length commands before (c ∷ taken) (command ∷ script) are = ap suc (taken_length commands c.number taken script are.2)

lines_length : (number : ℕ) (taken : List Line) → length (lines_from number taken) ≡ length taken
lines_length number [] = refl
lines_length number (c ∷ taken) = ap suc (lines_length (suc number) taken)

-- there is a line for each command of what a seat took
pub lines_as_script : (commands : List Command) (taken : List Line) (script : List Command) → AreTaken commands 0 taken script
    → length (lines_from 1 taken) ≡ length script
lines_as_script commands taken script are = lines_length 1 taken ∙ sym (taken_length commands 0 taken script are)

-- the scripts of the seats, and their lines
abbrev pub scripts_of : (olds news : List Seat) (commands : List Command) (lines : List Line)
    → EachSeat (Took commands) olds news lines → List (List Command)
scripts_of [] [] commands lines h = []
scripts_of [] (n ∷ ns) commands lines h = absurd h
scripts_of (o ∷ os) [] commands lines h = absurd h
scripts_of (o ∷ os) (n ∷ ns) commands lines h = h.3.script ∷ scripts_of os ns commands h.1 h.4

abbrev pub script_lines : (olds news : List Seat) (commands : List Command) (lines : List Line) → EachSeat (Took commands) olds news lines → List Line
script_lines [] [] commands lines h = []
script_lines [] (n ∷ ns) commands lines h = absurd h
script_lines (o ∷ os) [] commands lines h = absurd h
script_lines (o ∷ os) (n ∷ ns) commands lines h = lines_from 1 h.0 ++ script_lines os ns commands h.1 h.4

-- the seats ran these scripts
pub all_ran : (olds news : List Seat) (commands : List Command) (lines : List Line) (h : EachSeat (Took commands) olds news lines)
    → AllRan olds news (scripts_of olds news commands lines h) (script_lines olds news commands lines h)
all_ran [] [] commands lines h = refl
all_ran [] (n ∷ ns) commands lines h = absurd h
all_ran (o ∷ os) [] commands lines h = absurd h
all_ran (o ∷ os) (n ∷ ns) commands lines h =
    let others = script_lines os ns commands h.1 h.4 in
    let len = lines_as_script commands h.0 h.3.script h.3.rising in (
      rw (take_at (lines_from 1 h.0) others (length h.3.script) len) h.3.ran,
      rw (drop_at (lines_from 1 h.0) others (length h.3.script) len) (all_ran os ns commands h.1 h.4),
    )

pub scripts_length : (olds news : List Seat) (commands : List Command) (lines : List Line) (h : EachSeat (Took commands) olds news lines)
    → length (scripts_of olds news commands lines h) ≡ length olds
scripts_length [] [] commands lines h = refl
scripts_length [] (n ∷ ns) commands lines h = absurd h
scripts_length (o ∷ os) [] commands lines h = absurd h
scripts_length (o ∷ os) (n ∷ ns) commands lines h = ap suc (scripts_length os ns commands h.1 h.4)

-- lines of other numbers are as many commits of a time
commits_from : (time number : ℕ) (taken : List Line) → commit_lines time (lines_from number taken) ≡ commit_lines time taken
commits_from time number [] = refl
commits_from time number (c ∷ taken) =
    let l : Line = record { seat = c.seat; number = number; place = c.place; reply = c.reply } in
    sum_by-cons (λ (m : Line). cond (is_commit_of time m.place) 1 0) l (lines_from (suc number) taken)
    ∙ ap (λ k. cond (is_commit_of time c.place) 1 0 + k) (commits_from time (suc number) taken)
    ∙ sym (sum_by-cons (λ (m : Line). cond (is_commit_of time m.place) 1 0) c taken)

pub same_commits : (time : ℕ) (olds news : List Seat) (commands : List Command) (lines : List Line) (h : EachSeat (Took commands) olds news lines)
    → commit_lines time lines ≡ commit_lines time (script_lines olds news commands lines h)
same_commits time [] [] commands lines h = ap (commit_lines time) h
same_commits time [] (n ∷ ns) commands lines h = absurd h
same_commits time (o ∷ os) [] commands lines h = absurd h
same_commits time (o ∷ os) (n ∷ ns) commands lines h =
    let others = script_lines os ns commands h.1 h.4 in
    ap (commit_lines time) h.2
    ∙ lines_append time h.0 h.1
    ∙ ap (λ k. k + commit_lines time h.1) (sym (commits_from time 1 h.0))
    ∙ ap (λ k. commit_lines time (lines_from 1 h.0) + k) (same_commits time os ns commands h.1 h.4)
    ∙ sym (lines_append time (lines_from 1 h.0) others)

-- the commands of a pool, as the script of each of so many seats
abbrev pub as_scripts : ℕ → List Command → List (List Command)
as_scripts seats commands = replicate seats commands

same_command : (seats : ℕ) (commands : List Command) (line : Line) → line.seat < seats
    → command_of (as_scripts seats commands) line ≡ command_at commands line.number
same_command seats commands line lt = ap (λ script. command_at script line.number) (get_or-replicate seats line.seat commands [] lt)

-- a line of a pool stands as one of a script
pub stands_as : (p : Past) (seats : ℕ) (commands : List Command) (line : Line) → line.seat < seats → StandsInPool p commands line
    → StandsIn p (as_scripts seats commands) line
stands_as p seats commands line lt stands =
    subst (λ o. IsSomeAnd o (λ command. (commits : List Commit) × PlaceOf p line.seat command line.place line.reply commits))
    (sym (same_command seats commands line lt)) stands

-- and the replay of such lines is that of the pool
pub replays_pool : (seats : ℕ) (commands : List Command) (capacity : ℕ) (c : Maps) (lines : List Line) (end : Maps) → All (λ line. line.seat < seats) lines
    → Replays (as_scripts seats commands) capacity c lines end → ReplaysPool commands capacity c lines end
replays_pool seats commands capacity c [] end below h = h
replays_pool seats commands capacity c (line ∷ lines) end below h =
    let here = subst (λ o. IsSomeAnd o
    (λ command. (line.reply ≡ reply command c capacity (is_last line.place)) × MayStand line.place command c capacity
    × Replays (as_scripts seats commands) capacity (after line.place command c capacity) lines end))
    (same_command seats commands line (All-head (λ line. line.seat < seats) line lines below)) h in
    some_and (command_at commands line.number) _ _
    (λ command r. (
      r.0,
      r.1,
      replays_pool seats commands capacity (after line.place command c capacity) lines end
          (All-tail (λ line. line.seat < seats) line lines below) r.2,
    )) here

module _ (p : Past) (commands : List Command) where
  -- the commit of a line, where its place is one
  made_by : (seat : ℕ) (command : Option Command) (place : Place) (answer : Reply) → IsTrue (is_commit place)
      → IsSomeAnd command (λ c. (commits : List Commit) × PlaceOf p seat c place answer commits)
      → (c : Commit) × (slice_get p.entries (time_of place - (p.base + 1)) ≡ Some (Change c)) × (c.seat ≡ seat)
  made_by seat None place answer made stands = absurd stands
  made_by seat (Some command) (Read time) answer made stands = absurd (cc)
  made_by seat (Some command) (AtCommit time) answer made stands = (stands.1.0, stands.1.2.there, stands.1.2.seat_is)

  -- a commit that follows a time is later
  later_commit : (before : ℕ) (place : Place) → IsTrue (is_commit place) → Follows before place → before < time_of place
  later_commit before (AtCommit time) made follows = follows
  later_commit before (Read time) made follows = absurd (cc)

  alone_of : (a b : Line) → StandsInPool p commands a → StandsInPool p commands b → IsInTime a b → IsInTime b a → IsAlone a b
  alone_of a b stands_a stands_b a_b b_a made_a made_b same =
      let of_a = made_by a.seat (command_at commands a.number) a.place a.reply made_a stands_a in
      let of_b = made_by b.seat (command_at commands b.number) b.place b.reply made_b stands_b in
      let there : slice_get p.entries (time_of a.place - (p.base + 1)) ≡ Some (Change of_b.0) = rw same of_b.1 in
      let one : of_a.0 ≡ of_b.0 = cc in
      let seats : a.seat ≡ b.seat = sym of_a.2 ∙ ap (λ (c : Commit). c.seat) one ∙ of_b.2 in
      elim (cases_lt a.number b.number) [
        | inl lt ↦ absurd (omega (arith, same, later_commit (time_of a.place) b.place made_b (a_b seats lt)))
        | inr ge ↦ elim (cases_lt b.number a.number) [
          | inl lt ↦ absurd (omega (arith, same, later_commit (time_of b.place) a.place made_a (b_a (sym seats) lt)))
          | inr le ↦ let numbers : a.number ≡ b.number = omega arith in rw (seats, numbers) refl
        ]
      ]

  -- no two commit lines are of one time
  pub all_alone : (lines : List Line) → All (StandsInPool p commands) lines → EachPair IsInTime lines → EachPair IsAlone lines
  all_alone lines stands in_time =
      λ k d lt k' d' lt'. alone_of _ _ (stands k d lt) (stands k' d' lt') (in_time k d lt k' d' lt') (in_time k' d' lt' k d lt)
