-- One seat's lines as steps in a history, whatever they reply: at their places, one after another, each commit with one line.
use Rattle.std.proofs.Common.{◌≡◌, ◌≢◌, ℕ, zero, suc, ◌+◌, ◌-◌, ◌<◌, ◌≤◌, List, [], ◌∷◌, ◌++◌, Some, inl}
use Rattle.std.proofs.Common.{inr, refl, sym, ap, ◌∙◌, subst, arith}
use Rattle.std.specs.List.{All, slice_get}
use Rattle.std.proofs.lemmas.Bool.{cases_lt}
use Rattle.std.proofs.lemmas.List.Elements.{All-nil, All-cons, All-weaker}
use Rattle.mv_history.specs.declared.history.Commit.{Commit}
use Rattle.mv_history.specs.declared.history.Entry.TheVariants.{Change}
use Rattle.set_model.specs.declared.commands.Command.{Command}
use Rattle.section_work.specs.declared.place.Place.{Place}
use Rattle.section_work.specs.declared.place.Place.TheVariants.{Commit as AtCommit, Read}
use Rattle.set_model.specs.declared.commands.Reply.{Reply}
use Rattle.run_report.specs.declared.line.Line.{Line}
use Rattle.run_report.specs.Order.{time_of}
use Rattle.run_report.specs.Legal.{EachPair, Follows, IsInTime}
use Rattle.run_report.specs.Worked.{Past, PlaceOf, LinesOf}
use Rattle.run_report.specs.Whole.{commit_lines}
use Rattle.run_report.proofs.Pairs.{pairs_cons}
use Rattle.run_report.proofs.Runs.{follows_earlier}
use Rattle.run_report.proofs.history.Counts.{one_if, lines_cons, one_at_most, none_earlier, counts_at, counts_itself}

-- a line is no earlier than what it follows
pub follows_le : (before : ℕ) (place : Place) → Follows before place → before ≤ time_of place
follows_le before (AtCommit time) f = omega (arith, f)
follows_le before (Read time) f = f

-- The place stands in the history: a commit is the entry of its time and by this seat, and a read is of no commit.
abbrev pub IsPlaced : Past → ℕ → Place → List Commit → Type 0
IsPlaced p seat (AtCommit time) commits =
    (c : Commit) × (commits ≡ c ∷ []) × (p.base < time) × (slice_get p.entries (time - (p.base + 1)) ≡ Some (Change c)) × (c.seat ≡ seat)
IsPlaced p seat (Read time) commits = commits ≡ []

-- A line of the seat, of this number or a later one, whose place follows a time and stands in the history.
pub record StepOf (p : Past) (seat number before : ℕ) (line : Line) (commits : List Commit) : Type 0 where
  pub by : line.seat ≡ seat
  pub from : number ≤ line.number
  pub follows : Follows before line.place
  pub placed : IsPlaced p seat line.place commits

-- Lines of the seat whose numbers and times rise, and the commits of them.
abbrev pub StepsOf : Past → ℕ → ℕ → ℕ → List Line → List Commit → Type 0
StepsOf p seat number before [] commits = commits ≡ []
StepsOf p seat number before (line ∷ lines) commits =
    (first : List Commit) × (others : List Commit) × (commits ≡ first ++ others) × StepOf p seat number before line first
    × StepsOf p seat (suc line.number) (time_of line.place) lines others

-- the line is of the seat, and of this number or a later one
abbrev pub IsFrom : ℕ → ℕ → Line → Type 0
IsFrom seat number line = (line.seat ≡ seat) × (number ≤ line.number)

-- lines of one seat and number have one place
abbrev pub IsSamePlace : Line → Line → Type 0
IsSamePlace a b = a.seat ≡ b.seat → a.number ≡ b.number → a.place ≡ b.place

module _ (p : Past) where
  place_placed : (seat : ℕ) (command : Command) (place : Place) (answer : Reply) (commits : List Commit) → PlaceOf p seat command place answer commits
      → IsPlaced p seat place commits
  place_placed seat command (AtCommit time) answer commits h = (h.0, h.1, h.2.later, h.2.there, h.2.seat_is)
  place_placed seat command (Read time) answer commits h = h.0

  -- the lines of a script are such steps
  pub lines_steps : (seat number before : ℕ) (script : List Command) (lines : List Line) (commits : List Commit)
      → LinesOf p seat number before script lines commits → StepsOf p seat number before lines commits
  lines_steps seat number before [] [] commits h = h
  lines_steps seat number before [] (line ∷ lines) commits h = absurd h
  lines_steps seat number before (command ∷ script) [] commits h = absurd h
  lines_steps seat number before (command ∷ script) (line ∷ lines) commits h = (
    h.0,
    h.1,
    h.2,
    record {
      by = h.3.by;
      from = omega (arith, h.3.numbered);
      follows = h.3.follows;
      placed = place_placed seat command line.place line.reply h.0 h.3.place;
    },
    subst (λ n. StepsOf p seat (suc n) (time_of line.place) lines h.1) (sym h.3.numbered)
        (lines_steps seat (suc number) (time_of line.place) script lines h.1 h.4),
  )

  -- each line follows the time before them all
  pub steps_follow : (seat number before : ℕ) (lines : List Line) (commits : List Commit) → StepsOf p seat number before lines commits
      → All (λ line. Follows before line.place) lines
  steps_follow seat number before [] commits h = All-nil _
  steps_follow seat number before (line ∷ lines) commits h =
      let here = h.3 in
      let later : before ≤ time_of line.place = follows_le before line.place here.follows in
      All-cons (λ l. Follows before l.place) line lines here.follows
      (All-weaker (λ l. Follows (time_of line.place) l.place) (λ l. Follows before l.place)
      (λ l f. follows_earlier before (time_of line.place) l.place later f) lines
      (steps_follow seat (suc line.number) (time_of line.place) lines h.1 h.4))

  -- each is of the seat, and of this number or a later one
  pub steps_from : (seat number before : ℕ) (lines : List Line) (commits : List Commit) → StepsOf p seat number before lines commits
      → All (IsFrom seat number) lines
  steps_from seat number before [] commits h = All-nil _
  steps_from seat number before (line ∷ lines) commits h =
      let here = h.3 in
      All-cons (IsFrom seat number) line lines (here.by, here.from)
      (All-weaker (IsFrom seat (suc line.number)) (IsFrom seat number) (λ l from. (from.0, omega (arith, from.1, here.from))) lines
      (steps_from seat (suc line.number) (time_of line.place) lines h.1 h.4))

  -- the times of the lines rise with their numbers
  pub steps_in_time : (seat number before : ℕ) (lines : List Line) (commits : List Commit) → StepsOf p seat number before lines commits
      → EachPair IsInTime lines
  steps_in_time seat number before [] commits h = All-nil _
  steps_in_time seat number before (line ∷ lines) commits h =
      pairs_cons IsInTime line lines
      (λ same below. absurd (omega arith))
      (All-weaker (λ l. Follows (time_of line.place) l.place) (IsInTime line) (λ l f same below. f) lines
      (steps_follow seat (suc line.number) (time_of line.place) lines h.1 h.4))
      (All-weaker (IsFrom seat (suc line.number)) (λ l. IsInTime l line) (λ l from same below. absurd (omega (arith, from.1))) lines
      (steps_from seat (suc line.number) (time_of line.place) lines h.1 h.4))
      (steps_in_time seat (suc line.number) (time_of line.place) lines h.1 h.4)

  -- lines of one number have one place
  pub steps_same : (seat number before : ℕ) (lines : List Line) (commits : List Commit) → StepsOf p seat number before lines commits
      → EachPair IsSamePlace lines
  steps_same seat number before [] commits h = All-nil _
  steps_same seat number before (line ∷ lines) commits h =
      let from = steps_from seat (suc line.number) (time_of line.place) lines h.1 h.4 in
      pairs_cons IsSamePlace line lines
      (λ seats numbers. refl)
      (All-weaker (IsFrom seat (suc line.number)) (IsSamePlace line) (λ l later seats numbers. absurd (omega (arith, later.1, numbers))) lines from)
      (All-weaker (IsFrom seat (suc line.number)) (λ l. IsSamePlace l line) (λ l later seats numbers. absurd (omega (arith, later.1, numbers))) lines from)
      (steps_same seat (suc line.number) (time_of line.place) lines h.1 h.4)

  -- each stands in the history
  pub steps_placed : (seat number before : ℕ) (lines : List Line) (commits : List Commit) → StepsOf p seat number before lines commits
      → All (λ line. (own : List Commit) × IsPlaced p line.seat line.place own) lines
  steps_placed seat number before [] commits h = All-nil _
  steps_placed seat number before (line ∷ lines) commits h =
      All-cons (λ l. (own : List Commit) × IsPlaced p l.seat l.place own) line lines
      (h.0, subst (λ s. IsPlaced p s line.place h.0) (sym h.3.by) h.3.placed)
      (steps_placed seat (suc line.number) (time_of line.place) lines h.1 h.4)

  -- none of the lines is a commit of a time before them
  none_before : (time seat number before : ℕ) (lines : List Line) (commits : List Commit) → time ≤ before
      → StepsOf p seat number before lines commits → commit_lines time lines ≡ 0
  none_before time seat number before [] commits le h = refl
  none_before time seat number before (line ∷ lines) commits le h =
      let here = h.3 in
      let later : before ≤ time_of line.place = follows_le before line.place here.follows in
      let rest = none_before time seat (suc line.number) (time_of line.place) lines h.1 (omega (arith, le, later)) h.4 in
      omega (arith, lines_cons time line lines, none_earlier time before line le here.follows, rest)

  -- at most one is a commit of one time
  pub seat_at_most : (time seat number before : ℕ) (lines : List Line) (commits : List Commit) → StepsOf p seat number before lines commits
      → commit_lines time lines ≤ 1
  seat_at_most time seat number before [] commits h = omega arith
  seat_at_most time seat number before (line ∷ lines) commits h =
      elim (cases_lt (one_if time line) 1) [
        | inl none ↦ omega (arith, lines_cons time line lines, seat_at_most time seat (suc line.number) (time_of line.place) lines h.1 h.4, none)
        | inr one ↦
            let at : time_of line.place ≡ time = ap time_of (counts_at time line one) in
            let rest = none_before time seat (suc line.number) (time_of line.place) lines h.1 (omega (arith, at)) h.4 in
            omega (arith, lines_cons time line lines, rest, one_at_most time line)
      ]

  -- A commit of the lines has a line, at a time of the history at which it stands.
  pub record HasLine (lines : List Line) (c : Commit) : Type 0 where
    pub time : ℕ
    pub some : 1 ≤ commit_lines time lines
    pub later : p.base < time
    pub there : slice_get p.entries (time - (p.base + 1)) ≡ Some (Change c)

  later_line : (line : Line) (lines : List Line) (c : Commit) → HasLine lines c → HasLine (line ∷ lines) c
  later_line line lines c has =
      record {
        time = has.time;
        some = omega (arith, lines_cons has.time line lines, has.some);
        later = has.later;
        there = has.there;
      }

  -- the commits of a line and those of others have lines where the others have theirs
  here_or_later : (seat : ℕ) (line : Line) (place : Place) (lines : List Line) (first others : List Commit) (j : ℕ) (c : Commit) → line.place ≡ place
      → IsPlaced p seat place first → ((k : ℕ) → slice_get others k ≡ Some c → HasLine lines c)
      → slice_get (first ++ others) j ≡ Some c → HasLine (line ∷ lines) c
  here_or_later seat line (AtCommit time) lines first others j c at place rest is = by j (rw place.1 at is)
    where
      by : (k : ℕ) → slice_get (place.0 ∷ others) k ≡ Some c → HasLine (line ∷ lines) c
      by zero e =
          let same : place.0 ≡ c = cc in
          record {
            time = time;
            some = omega (arith, lines_cons time line lines, counts_itself time line at);
            later = place.2;
            there = place.3 ∙ ap (λ d. Some (Change d)) same;
          }
      by (suc k) e = later_line line lines c (rest k e)
  here_or_later seat line (Read time) lines first others j c at place rest is = later_line line lines c (rest j (rw place at is))

  -- each of the commits has a line
  pub seat_has_line : (seat number before : ℕ) (lines : List Line) (commits : List Commit) (j : ℕ) (c : Commit)
      → StepsOf p seat number before lines commits → slice_get commits j ≡ Some c → HasLine lines c
  seat_has_line seat number before [] commits j c h is = absurd (let none : slice_get {X = Commit} [] j ≡ Some c = rw h at is in by j none)
    where
      by : (k : ℕ) → slice_get {X = Commit} [] k ≡ Some c → ⊥
      by zero e = cc
      by (suc k) e = cc
  seat_has_line seat number before (line ∷ lines) commits j c h is =
      here_or_later seat line line.place lines h.0 h.1 j c refl h.3.placed
      (λ k e. seat_has_line seat (suc line.number) (time_of line.place) lines h.1 k c h.4 e)
      (rw h.2 at is)

  -- a line of a seat is no commit of a time at which another seat's commit stands
  not_others : (seat : ℕ) (place : Place) (first : List Commit) (i : ℕ) (c : Commit) → IsPlaced p seat place first
      → slice_get p.entries i ≡ Some (Change c) → c.seat ≢ seat → place ≢ AtCommit (p.base + suc i)
  not_others seat (AtCommit time) first i c made there other is =
      let at : time ≡ p.base + suc i = ap time_of is in
      let same_place : time - (p.base + 1) ≡ i = omega (arith, at) in
      let here : slice_get p.entries i ≡ Some (Change made.0) = rw same_place at made.3 in
      let same : made.0 ≡ c = cc in
      other (ap (λ (d : Commit). d.seat) (sym same) ∙ made.4)
  not_others seat (Read time) first i c made there other is = cc

  pub seat_not_others : (seat number before : ℕ) (lines : List Line) (commits : List Commit) (i : ℕ) (c : Commit)
      → StepsOf p seat number before lines commits → slice_get p.entries i ≡ Some (Change c) → c.seat ≢ seat
      → commit_lines (p.base + suc i) lines ≡ 0
  seat_not_others seat number before [] commits i c h there other = refl
  seat_not_others seat number before (line ∷ lines) commits i c h there other =
      let rest = seat_not_others seat (suc line.number) (time_of line.place) lines h.1 i c h.4 there other in
      elim (cases_lt (one_if (p.base + suc i) line) 1) [
        | inl none ↦ omega (arith, lines_cons (p.base + suc i) line lines, rest, none)
        | inr one ↦ absurd (not_others seat line.place h.0 i c h.3.placed there other (counts_at (p.base + suc i) line one))
      ]
