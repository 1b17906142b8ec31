-- The steps of all seats, seat by seat: how their times rise, and that each commit of the history has one line.
use Rattle.std.proofs.Common.{◌≡◌, ℕ, suc, ◌+◌, ◌-◌, ◌<◌, ◌≤◌, IsTrue, List, [], ◌∷◌, length, get_or, Some}
use Rattle.std.proofs.Common.{inl, inr, refl, sym, ap, ◌∙◌, arith}
use Rattle.std.specs.Bool.{⊤}
use Rattle.std.specs.List.{All, slice_get, flat_map}
use Rattle.std.proofs.lemmas.Bool.{cases_lt}
use Rattle.std.proofs.lemmas.List.Elements.{All-nil, All-append, All-weaker}
use Rattle.mv_history.specs.declared.history.Commit.{Commit}
use Rattle.mv_history.specs.declared.history.Entry.TheVariants.{Change}
use Rattle.mv_history.specs.State.{commits_of}
use Rattle.mv_history.specs.Legal.{IsLegal}
use Rattle.section_work.specs.declared.place.Place.{Place}
use Rattle.section_work.specs.declared.place.Place.TheVariants.{Commit as AtCommit, Read}
use Rattle.run_report.specs.declared.line.Line.{Line}
use Rattle.run_report.specs.Order.{time_of}
use Rattle.run_report.specs.Legal.{EachPair, Follows, IsInTime, IsAlone, is_commit}
use Rattle.run_report.specs.Worked.{Past}
use Rattle.run_report.specs.Whole.{commit_lines}
use Rattle.run_report.proofs.Pairs.{pairs_append}
use Rattle.run_report.proofs.history.Commits.{commit_there, one_place}
use Rattle.run_report.proofs.history.Counts.{lines_append}
use Rattle.run_report.proofs.history.Steps.{
  IsPlaced,
  StepsOf,
  IsFrom,
  IsSamePlace,
  steps_follow,
  steps_from,
  steps_in_time,
  steps_same,
  steps_placed,
  seat_at_most,
  seat_has_line,
  seat_not_others,
}

-- Each seat's lines, the first of them those of this seat, are steps from the opening state on, and their commits are all that the
-- seat has in the history.
abbrev pub AllSteps : Past → ℕ → List (List Line) → Type 0
AllSteps p seat [] = ⊤
AllSteps p seat (lines ∷ groups) = StepsOf p seat 1 p.base lines (commits_of seat p.entries) × AllSteps p (suc seat) groups

-- the lines of all seats
abbrev pub flat : List (List Line) → List Line
flat groups = flat_map (λ lines. lines) groups

module _ (p : Past) where
  -- what holds of each seat's lines holds of all
  by_group : (P : Line → Type 0) → ((seat : ℕ) (lines : List Line) → StepsOf p seat 1 p.base lines (commits_of seat p.entries) → All P lines)
      → (seat : ℕ) (groups : List (List Line)) → AllSteps p seat groups → All P (flat groups)
  by_group P each seat [] h = All-nil P
  by_group P each seat (lines ∷ groups) h = All-append P lines (flat groups) (each seat lines h.0) (by_group P each (suc seat) groups h.1)

  -- each line follows the time of the opening state
  pub all_follow : (seat : ℕ) (groups : List (List Line)) → AllSteps p seat groups → All (λ line. Follows p.base line.place) (flat groups)
  all_follow seat groups h =
      by_group (λ line. Follows p.base line.place) (λ s ls ran. steps_follow p s 1 p.base ls (commits_of s p.entries) ran) seat groups h

  -- and stands in the history
  pub all_placed : (seat : ℕ) (groups : List (List Line)) → AllSteps p seat groups
      → All (λ line. (own : List Commit) × IsPlaced p line.seat line.place own) (flat groups)
  all_placed seat groups h =
      by_group (λ line. (own : List Commit) × IsPlaced p line.seat line.place own)
      (λ s ls ran. steps_placed p s 1 p.base ls (commits_of s p.entries) ran) seat groups h

  -- they are of this seat and later ones
  all_from : (seat : ℕ) (groups : List (List Line)) → AllSteps p seat groups → All (λ line. seat ≤ line.seat) (flat groups)
  all_from seat [] h = All-nil (λ line. seat ≤ line.seat)
  all_from seat (lines ∷ groups) h =
      All-append (λ line. seat ≤ line.seat) lines (flat groups)
      (All-weaker (IsFrom seat 1) (λ line. seat ≤ line.seat) (λ line from. omega (arith, from.0)) lines
      (steps_from p seat 1 p.base lines (commits_of seat p.entries) h.0))
      (All-weaker (λ line. suc seat ≤ line.seat) (λ line. seat ≤ line.seat) (λ line from. omega (arith, from)) (flat groups)
      (all_from (suc seat) groups h.1))

  -- what holds of each two lines of one seat, and of any two of different seats, holds of each two
  by_pairs : (R : Line → Line → Type 0) → ((a b : Line) → (a.seat ≡ b.seat → ⊥) → R a b)
      → ((seat : ℕ) (lines : List Line) → StepsOf p seat 1 p.base lines (commits_of seat p.entries) → EachPair R lines)
      → (seat : ℕ) (groups : List (List Line)) → AllSteps p seat groups → EachPair R (flat groups)
  by_pairs R apart each seat [] h = All-nil _
  by_pairs R apart each seat (lines ∷ groups) h =
      let own = steps_from p seat 1 p.base lines (commits_of seat p.entries) h.0 in
      let others = all_from (suc seat) groups h.1 in
      pairs_append R lines (flat groups) (each seat lines h.0) (by_pairs R apart each (suc seat) groups h.1)
      (All-weaker (IsFrom seat 1) (λ a. All (R a) (flat groups))
      (λ a of_a. All-weaker (λ b. suc seat ≤ b.seat) (R a) (λ b of_b. apart a b (λ same. omega (arith, of_a.0, of_b, same))) (flat groups) others)
      lines own)
      (All-weaker (λ b. suc seat ≤ b.seat) (λ b. All (R b) lines)
      (λ b of_b. All-weaker (IsFrom seat 1) (R b) (λ a of_a. apart b a (λ same. omega (arith, of_a.0, of_b, same))) lines own)
      (flat groups) others)

  -- along each seat's lines the times rise
  pub all_in_time : (seat : ℕ) (groups : List (List Line)) → AllSteps p seat groups → EachPair IsInTime (flat groups)
  all_in_time seat groups h =
      by_pairs IsInTime (λ a b apart same below. absurd (apart same))
      (λ s ls ran. steps_in_time p s 1 p.base ls (commits_of s p.entries) ran) seat groups h

  -- lines of one seat and number have one place
  pub all_same : (seat : ℕ) (groups : List (List Line)) → AllSteps p seat groups → EachPair IsSamePlace (flat groups)
  all_same seat groups h =
      by_pairs IsSamePlace (λ a b apart same numbers. absurd (apart same))
      (λ s ls ran. steps_same p s 1 p.base ls (commits_of s p.entries) ran) seat groups h

  -- the commit of a line, where its place is one
  made_by : (seat : ℕ) (place : Place) (own : List Commit) → IsTrue (is_commit place) → IsPlaced p seat place own
      → (c : Commit) × (slice_get p.entries (time_of place - (p.base + 1)) ≡ Some (Change c)) × (c.seat ≡ seat)
  made_by seat (Read time) own made placed = absurd (cc)
  made_by seat (AtCommit time) own made placed = (placed.0, placed.3, placed.4)

  -- a commit that follows a time is later
  later_commit : (before : ℕ) (place : Place) → IsTrue (is_commit place) → Follows before place → before < time_of place
  later_commit before (AtCommit time) made follows = follows
  later_commit before (Read time) made follows = absurd (cc)

  alone_of : (a b : Line) → (own : List Commit) × IsPlaced p a.seat a.place own → (own : List Commit) × IsPlaced p b.seat b.place own
      → IsInTime a b → IsInTime b a → IsAlone a b
  alone_of a b placed_a placed_b a_b b_a made_a made_b same =
      let of_a = made_by a.seat a.place placed_a.0 made_a placed_a.1 in
      let of_b = made_by b.seat b.place placed_b.0 made_b placed_b.1 in
      let there : slice_get p.entries (time_of a.place - (p.base + 1)) ≡ Some (Change of_b.0) = rw same of_b.1 in
      let one : of_a.0 ≡ of_b.0 = cc in
      let seats : a.seat ≡ b.seat = sym of_a.2 ∙ ap (λ (c : Commit). c.seat) one ∙ of_b.2 in
      elim (cases_lt a.number b.number) [
        | inl lt ↦ absurd (omega (arith, same, later_commit (time_of a.place) b.place made_b (a_b seats lt)))
        | inr ge ↦ elim (cases_lt b.number a.number) [
          | inl lt ↦ absurd (omega (arith, same, later_commit (time_of b.place) a.place made_a (b_a (sym seats) lt)))
          | inr le ↦ let numbers : a.number ≡ b.number = omega arith in rw (seats, numbers) refl
        ]
      ]

  -- no two commit lines are of one time
  pub all_alone : (seat : ℕ) (groups : List (List Line)) → AllSteps p seat groups → EachPair IsAlone (flat groups)
  all_alone seat groups h =
      let placed = all_placed seat groups h in
      let in_time = all_in_time seat groups h in
      λ k d lt k' d' lt'.
      alone_of (get_or (flat groups) k d) (get_or (flat groups) k' d') (placed k d lt) (placed k' d' lt') (in_time k d lt k' d' lt')
      (in_time k' d' lt' k d lt)

  -- the seat's commit has one line among its lines
  seat_one : (n i : ℕ) (c : Commit) (lines : List Line) → IsLegal n p.entries → slice_get p.entries i ≡ Some (Change c)
      → StepsOf p c.seat 1 p.base lines (commits_of c.seat p.entries) → commit_lines (p.base + suc i) lines ≡ 1
  seat_one n i c lines legal there h =
      let has = seat_has_line p c.seat 1 p.base lines (commits_of c.seat p.entries) _ c h (commit_there p.entries i c there) in
      let at : has.time - (p.base + 1) ≡ i = one_place n p.entries (has.time - (p.base + 1)) i c legal has.there there in
      let time : has.time ≡ p.base + suc i = omega (arith, at, has.later) in
      let some : 1 ≤ commit_lines (p.base + suc i) lines = rw time at has.some in
      omega (arith, some, seat_at_most p (p.base + suc i) c.seat 1 p.base lines (commits_of c.seat p.entries) h)

  -- a commit of a seat before these has no line among theirs
  none_of_others : (i : ℕ) (c : Commit) (seat : ℕ) (groups : List (List Line)) → slice_get p.entries i ≡ Some (Change c)
      → c.seat < seat → AllSteps p seat groups → commit_lines (p.base + suc i) (flat groups) ≡ 0
  none_of_others i c seat [] there lt h = refl
  none_of_others i c seat (lines ∷ groups) there lt h =
      let own = seat_not_others p seat 1 p.base lines (commits_of seat p.entries) i c h.0 there (λ e. omega (arith, e, lt)) in
      let rest = none_of_others i c (suc seat) groups there (omega (arith, lt)) h.1 in
      omega (arith, lines_append (p.base + suc i) lines (flat groups), own, rest)

  -- a commit of one of these seats has one line
  pub all_one : (n i : ℕ) (c : Commit) (seat : ℕ) (groups : List (List Line)) → IsLegal n p.entries
      → slice_get p.entries i ≡ Some (Change c) → seat ≤ c.seat → c.seat < seat + length groups → AllSteps p seat groups
      → commit_lines (p.base + suc i) (flat groups) ≡ 1
  all_one n i c seat [] legal there le lt h = absurd (omega arith)
  all_one n i c seat (lines ∷ groups) legal there le lt h =
      elim (cases_lt seat c.seat) [
        | inl later ↦
            let own = seat_not_others p seat 1 p.base lines (commits_of seat p.entries) i c h.0 there (λ e. omega (arith, e, later)) in
            let rest = all_one n i c (suc seat) groups legal there (omega (arith, later)) (omega (arith, lt)) h.1 in
            omega (arith, lines_append (p.base + suc i) lines (flat groups), own, rest)
        | inr ge ↦
            let is : seat ≡ c.seat = omega arith in
            let own = seat_one n i c lines legal there (rw is at h.0) in
            let rest = none_of_others i c (suc seat) groups there (omega (arith, is)) h.1 in
            omega (arith, lines_append (p.base + suc i) lines (flat groups), own, rest)
      ]
