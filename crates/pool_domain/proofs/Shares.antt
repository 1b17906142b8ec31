-- What the seats of a pool took, each with its lines in the whole history.
use Rattle.run_report.proofs.Runs.{follows_earlier}
use Rattle.run_report.proofs.history.Scripts.{AllWorked}
use Rattle.run_report.proofs.history.Steps.{follows_le}
use Rattle.pool_domain.proofs.Terms.{◌≡◌, ◌+◌, ◌<◌, ◌≤◌, ◌∷◌, ◌++◌, ℕ, zero, suc, List, [], length, sym, subst, arith, take_at, drop_at, All, IsSomeAnd}
use Rattle.pool_domain.proofs.Terms.{All-nil, All-cons, All-weaker, All-append, Commit, commits_of, Seat, Command, Line, time_of, EachPair, Follows, IsInTime}
use Rattle.pool_domain.proofs.Terms.{Past, PlaceOf, LinesOf, pairs_cons, pairs_append, AreTaken, lines_from, EachSeat, Took, StandsInPool}
use Rattle.pool_domain.proofs.Orders.{lines_as_script, scripts_of, script_lines}

-- Each of so many seats, the first of which has this number, took some, which stand in the history.
abbrev pub AreShares : Past → List Command → ℕ → ℕ → List Line → Type 0
AreShares p commands seat zero lines = lines ≡ []
AreShares p commands seat (suc count) lines =
    (taken others : List Line) × (script : List Command) × (lines ≡ taken ++ others) × AreTaken commands 0 taken script
    × LinesOf p seat 1 p.base script (lines_from 1 taken) (commits_of seat p.entries) × AreShares p commands (suc seat) count others

-- what each took, where its script was worked off
pub are_shares : (p : Past) (seat : ℕ) (olds news : List Seat) (commands : List Command) (lines : List Line)
    (h : EachSeat (Took commands) olds news lines)
    → AllWorked p seat (scripts_of olds news commands lines h) (script_lines olds news commands lines h)
    → AreShares p commands seat (length olds) lines
are_shares p seat [] [] commands lines h worked = h
are_shares p seat [] (n ∷ ns) commands lines h worked = absurd h
are_shares p seat (o ∷ os) [] commands lines h worked = absurd h
are_shares p seat (o ∷ os) (n ∷ ns) commands lines h worked =
    let others = script_lines os ns commands h.1 h.4 in
    let len = lines_as_script commands h.0 h.3.script h.3.rising in
    let own : LinesOf p seat 1 p.base h.3.script (lines_from 1 h.0) (commits_of seat p.entries) =
    subst (λ ls. LinesOf p seat 1 p.base h.3.script ls (commits_of seat p.entries)) (take_at (lines_from 1 h.0) others (length h.3.script) len) worked.0 in
    let rest : AllWorked p (suc seat) (scripts_of os ns commands h.1 h.4) others =
    subst (AllWorked p (suc seat) (scripts_of os ns commands h.1 h.4)) (drop_at (lines_from 1 h.0) others (length h.3.script) len) worked.1 in
    (h.0, h.1, h.3.script, h.2, h.3.rising, own, are_shares p (suc seat) os ns commands h.1 h.4 rest)

-- the line is of the seat, and its number is above this one
abbrev IsAbove : ℕ → ℕ → Line → Type 0
IsAbove seat low line = (line.seat ≡ seat) × (low < line.number)

-- it is of one of so many seats from this one on
abbrev pub IsOneOf : ℕ → ℕ → Line → Type 0
IsOneOf seat count line = (seat ≤ line.seat) × (line.seat < seat + count)

module _ (p : Past) (commands : List Command) where
  -- the lines of one seat: each follows the time before them all
  seat_follows : (seat number before low : ℕ) (taken : List Line) (script : List Command) (commits : List Commit) → AreTaken commands low taken script
      → LinesOf p seat number before script (lines_from number taken) commits → All (λ line. Follows before line.place) taken
  seat_follows seat number before low [] script commits are h = All-nil (λ line. Follows before line.place)
  seat_follows seat number before low (c ∷ taken) [] commits are h = absurd are
  seat_follows seat number before low (c ∷ taken) (command ∷ script) commits are h =
      let later : before ≤ time_of c.place = follows_le before c.place h.3.follows in
      All-cons (λ line. Follows before line.place) c taken h.3.follows
      (All-weaker (λ line. Follows (time_of c.place) line.place) (λ line. Follows before line.place)
      (λ line f. follows_earlier before (time_of c.place) line.place later f) taken
      (seat_follows seat (suc number) (time_of c.place) c.number taken script h.1 are.2 h.4))

  -- each is of the seat, and its number is above the one before them all
  seat_above : (seat number before low : ℕ) (taken : List Line) (script : List Command) (commits : List Commit) → AreTaken commands low taken script
      → LinesOf p seat number before script (lines_from number taken) commits → All (IsAbove seat low) taken
  seat_above seat number before low [] script commits are h = All-nil (IsAbove seat low)
  seat_above seat number before low (c ∷ taken) [] commits are h = absurd are
  seat_above seat number before low (c ∷ taken) (command ∷ script) commits are h =
      All-cons (IsAbove seat low) c taken (h.3.by, are.0)
      (All-weaker (IsAbove seat c.number) (IsAbove seat low) (λ line above. (above.0, omega (arith, above.1, are.0))) taken
      (seat_above seat (suc number) (time_of c.place) c.number taken script h.1 are.2 h.4))

  -- the times rise with the numbers
  seat_in_time : (seat number before low : ℕ) (taken : List Line) (script : List Command) (commits : List Commit) → AreTaken commands low taken script
      → LinesOf p seat number before script (lines_from number taken) commits → EachPair IsInTime taken
  seat_in_time seat number before low [] script commits are h = All-nil _
  seat_in_time seat number before low (c ∷ taken) [] commits are h = absurd are
  seat_in_time seat number before low (c ∷ taken) (command ∷ script) commits are h =
      pairs_cons IsInTime c taken
      (λ same below. absurd (omega (arith, below)))
      (All-weaker (λ line. Follows (time_of c.place) line.place) (IsInTime c) (λ line f same below. f) taken
      (seat_follows seat (suc number) (time_of c.place) c.number taken script h.1 are.2 h.4))
      (All-weaker (IsAbove seat c.number) (λ line. IsInTime line c) (λ line above same below. absurd (omega (arith, above.1, below)))
      taken
      (seat_above seat (suc number) (time_of c.place) c.number taken script h.1 are.2 h.4))
      (seat_in_time seat (suc number) (time_of c.place) c.number taken script h.1 are.2 h.4)

  -- each stands in the history
  seat_stands : (seat number before low : ℕ) (taken : List Line) (script : List Command) (commits : List Commit) → AreTaken commands low taken script
      → LinesOf p seat number before script (lines_from number taken) commits → All (StandsInPool p commands) taken
  seat_stands seat number before low [] script commits are h = All-nil (StandsInPool p commands)
  seat_stands seat number before low (c ∷ taken) [] commits are h = absurd are
  seat_stands seat number before low (c ∷ taken) (command ∷ script) commits are h =
      let placed : PlaceOf p c.seat command c.place c.reply h.0 =
      subst (λ s. PlaceOf p s command c.place c.reply h.0) (sym h.3.by) h.3.place in
      let stands : StandsInPool p commands c =
      subst (λ o. IsSomeAnd o (λ command. (commits : List Commit) × PlaceOf p c.seat command c.place c.reply commits)) (sym are.1) (h.0, placed) in
      All-cons (StandsInPool p commands) c taken stands
      (seat_stands seat (suc number) (time_of c.place) c.number taken script h.1 are.2 h.4)

  -- what holds of the lines of each seat holds of all
  by_seats : (P : Line → Type 0)
      → ((seat : ℕ) (taken : List Line) (script : List Command) → AreTaken commands 0 taken script
      → LinesOf p seat 1 p.base script (lines_from 1 taken) (commits_of seat p.entries) → All P taken)
      → (seat count : ℕ) (lines : List Line) → AreShares p commands seat count lines → All P lines
  by_seats P each seat zero lines h = rw h (All-nil P)
  by_seats P each seat (suc count) lines h =
      rw h.3
      (All-append P h.0 h.1 (each seat h.0 h.2 h.4 h.5) (by_seats P each (suc seat) count h.1 h.6))

  pub all_follow : (seat count : ℕ) (lines : List Line) → AreShares p commands seat count lines
      → All (λ line. Follows p.base line.place) lines
  all_follow = by_seats (λ line. Follows p.base line.place)
      (λ seat taken script are h. seat_follows seat 1 p.base 0 taken script (commits_of seat p.entries) are h)

  pub all_stand : (seat count : ℕ) (lines : List Line) → AreShares p commands seat count lines
      → All (StandsInPool p commands) lines
  all_stand = by_seats (StandsInPool p commands)
      (λ seat taken script are h. seat_stands seat 1 p.base 0 taken script (commits_of seat p.entries) are h)

  -- they are of these seats
  pub all_seats : (seat count : ℕ) (lines : List Line) → AreShares p commands seat count lines
      → All (IsOneOf seat count) lines
  all_seats seat zero lines h = rw h (All-nil (IsOneOf seat 0))
  all_seats seat (suc count) lines h =
      rw h.3
      (All-append (IsOneOf seat (suc count)) h.0 h.1
      (All-weaker (IsAbove seat 0) (IsOneOf seat (suc count)) (λ line above. (omega (arith, above.0), omega (arith, above.0))) h.0
      (seat_above seat 1 p.base 0 h.0 h.2 (commits_of seat p.entries) h.4 h.5))
      (All-weaker (IsOneOf (suc seat) count) (IsOneOf seat (suc count)) (λ line one. (omega (arith, one.0), omega (arith, one.1))) h.1
      (all_seats (suc seat) count h.1 h.6)))

  -- along the numbers of each seat the times rise
  pub all_in_time : (seat count : ℕ) (lines : List Line) → AreShares p commands seat count lines → EachPair IsInTime lines
  all_in_time seat zero lines h = rw h (λ k d lt. absurd (omega arith))
  all_in_time seat (suc count) lines h =
      let own = seat_above seat 1 p.base 0 h.0 h.2 (commits_of seat p.entries) h.4 h.5 in
      let others = all_seats (suc seat) count h.1 h.6 in
      rw h.3
      (pairs_append IsInTime h.0 h.1
      (seat_in_time seat 1 p.base 0 h.0 h.2 (commits_of seat p.entries) h.4 h.5)
      (all_in_time (suc seat) count h.1 h.6)
      (All-weaker (IsAbove seat 0) (λ a. All (IsInTime a) h.1)
      (λ a of_a. All-weaker (IsOneOf (suc seat) count) (IsInTime a)
      (λ b of_b same below. absurd (omega (arith, of_a.0, of_b.0, same))) h.1 others)
      h.0 own)
      (All-weaker (IsOneOf (suc seat) count) (λ b. All (IsInTime b) h.0)
      (λ b of_b. All-weaker (IsAbove seat 0) (IsInTime b) (λ a of_a same below. absurd (omega (arith, of_a.0, of_b.0, same))) h.0 own)
      h.1 others))
