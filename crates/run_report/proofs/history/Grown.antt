-- What stands in the history that a seat has seen stands in the whole history too.
use Rattle.std.proofs.Common.{◌≡◌, ℕ, zero, suc, ◌+◌, ◌-◌, ◌≤◌, ◌==◌, false, List, []}
use Rattle.std.proofs.Common.{◌∷◌, ◌++◌, length, take, drop, Some, sym, ap, ◌∙◌, subst, arith, length-append}
use Rattle.std.specs.List.{slice_get}
use Rattle.std.proofs.lemmas.List.{take-append-le}
use Rattle.std.proofs.lemmas.Option.{slice_get_within}
use Rattle.mv_history.specs.declared.history.Commit.{Commit}
use Rattle.mv_history.specs.declared.history.Entry.{Entry}
use Rattle.mv_history.specs.declared.history.Entry.TheVariants.{Change}
use Rattle.mv_history.specs.State.{state_after, commits_of}
use Rattle.mv_history.specs.Calls.{Continues}
use Rattle.mv_history.specs.Meaning.{Seat}
use Rattle.set_model.specs.CatalogueOf.{catalogue_of}
use Rattle.set_model.specs.Replies.{reply, changes}
use Rattle.set_model.specs.Rules.{capacity}
use Rattle.set_model.specs.declared.commands.Command.{Command}
use Rattle.section_work.specs.declared.place.Place.{Place}
use Rattle.section_work.specs.declared.place.Place.TheVariants.{Commit as AtCommit, Read}
use Rattle.set_model.specs.declared.commands.Reply.{Reply}
use Rattle.run_report.specs.declared.line.Line.{Line}
use Rattle.run_report.specs.Order.{time_of}
use Rattle.run_report.specs.Worked.{Past, past_of, state_of_time, PlaceOf, LinesOf, Ran, AllRan}
use Rattle.run_report.proofs.history.Scripts.{AllWorked}

-- the history with more entries
abbrev pub longer : Past → List Entry → Past
longer p more = record { start = p.start; base = p.base; last = p.last; entries = p.entries ++ more }

pub there_longer : (es more : List Entry) (i : ℕ) (e : Entry) → slice_get es i ≡ Some e → slice_get (es ++ more) i ≡ Some e
there_longer [] more i e is = absurd (cc)
there_longer (f ∷ es) more zero e is = is
there_longer (f ∷ es) more (suc i) e is = there_longer es more i e is

pub state_longer : (p : Past) (more : List Entry) (time : ℕ) → time ≤ p.base + length p.entries
    → state_of_time (longer p more) time ≡ state_of_time p time
state_longer p more time le = ap (state_after p.start) (take-append-le (time - p.base) p.entries more (omega (arith, le)))

pub place_longer : (p : Past) (more : List Entry) (seat : ℕ) (command : Command) (place : Place) (answer : Reply) (commits : List Commit)
    → PlaceOf p seat command place answer commits → PlaceOf (longer p more) seat command place answer commits
place_longer p more seat command (AtCommit time) answer commits placed =
    let made = placed.2 in
    let within = slice_get_within p.entries (time - (p.base + 1)) (Change placed.0) made.there in
    let same = state_longer p more (time - 1) (omega (arith, made.later, within)) in (
      placed.0,
      placed.1,
      record {
        later = made.later;
        there = there_longer p.entries more (time - (p.base + 1)) (Change placed.0) made.there;
        seat_is = made.seat_is;
        tagged = made.tagged;
        answers = made.answers ∙ (λ i. reply command (catalogue_of (sym same i)) (capacity p.start) false);
      },
    )
place_longer p more seat command (Read time) answer commits placed =
    let read = placed.1 in
    let same = state_longer p more time read.seen in (
      placed.0,
      record {
        after = read.after;
        seen = omega (arith, read.seen, length-append p.entries more);
        answers = read.answers ∙ (λ i. reply command (catalogue_of (sym same i)) (capacity p.start) (time == p.last));
        unchanging = (λ i. changes command (catalogue_of (same i)) (capacity p.start) (time == p.last)) ∙ read.unchanging;
      },
    )

lines_longer : (p : Past) (more : List Entry) (seat number before : ℕ) (script : List Command) (lines : List Line) (commits : List Commit)
    → LinesOf p seat number before script lines commits → LinesOf (longer p more) seat number before script lines commits
lines_longer p more seat number before [] [] commits h = h
lines_longer p more seat number before [] (line ∷ lines) commits h = absurd h
lines_longer p more seat number before (command ∷ script) [] commits h = absurd h
lines_longer p more seat number before (command ∷ script) (line ∷ lines) commits h =
    let here = h.3 in (
      h.0,
      h.1,
      h.2,
      record {
        by = here.by;
        numbered = here.numbered;
        follows = here.follows;
        place = place_longer p more seat command line.place line.reply h.0 here.place;
      },
      lines_longer p more seat (suc number) (time_of line.place) script lines h.1 h.4,
    )

-- the seat is outside at the opening state, and has made nothing
pub record IsAtOpening (p : Past) (s : Seat) : Type 0 where
  pub start : s.start ≡ p.start
  pub base : s.base ≡ p.base
  pub last : s.last ≡ p.last
  pub seen : s.seen ≡ []
  pub mine : s.mine ≡ []

-- what the seat of this number has seen begins the history, and its commits are all of its number in it
pub record IsKnown (p : Past) (number : ℕ) (s : Seat) : Type 0 where
  pub numbered : s.number ≡ number
  pub more : List Entry
  pub seen : p.entries ≡ s.seen ++ more
  pub mine : s.mine ≡ commits_of number p.entries

-- so of each seat, the first of which has this number
abbrev pub AreKnown : Past → ℕ → List Seat → List Seat → Type 0
AreKnown p number [] news = Unit {0}
AreKnown p number (o ∷ olds) [] = Unit {0}
AreKnown p number (o ∷ olds) (n ∷ news) = IsAtOpening p o × IsKnown p number n × AreKnown p (suc number) olds news

-- What a seat made in what it has seen, from the opening state on, it made in the whole history, where that holds on as entries are added.
pub made_in : (made : Past → ℕ → ℕ → List Commit → Type 0)
    → ((p : Past) (more : List Entry) (seat before : ℕ) (commits : List Commit) → made p seat before commits → made (longer p more) seat before commits)
    → (p : Past) (number : ℕ) (o n : Seat) (commits : List Commit) → IsAtOpening p o → IsKnown p number n → Continues o n
    → n.mine ≡ o.mine ++ commits → made (past_of n) n.number (o.base + length o.seen) commits → made p number p.base (commits_of number p.entries)
made_in made holds_on p number o n commits opening known c mine own =
    let all : longer (past_of n) known.more ≡ p = λ i. record {
      start = (c.start ∙ opening.start) i;
      base = (c.base ∙ opening.base) i;
      last = (c.last ∙ opening.last) i;
      entries = sym known.seen i;
    } in
    let each : commits ≡ commits_of number p.entries = ap (λ cs. cs ++ commits) (sym opening.mine) ∙ sym mine ∙ known.mine in
    let none : length o.seen ≡ 0 = ap length opening.seen in
    let from : o.base + length o.seen ≡ p.base = omega (arith, opening.base, none) in
    let later = holds_on (past_of n) known.more n.number (o.base + length o.seen) commits own in
    subst (λ q. made q number p.base (commits_of number p.entries)) all
    (subst (λ k. made (longer (past_of n) known.more) k p.base (commits_of number p.entries)) known.numbered
    (subst (λ b. made (longer (past_of n) known.more) n.number b (commits_of number p.entries)) from
    (subst (λ cs. made (longer (past_of n) known.more) n.number (o.base + length o.seen) cs) each later)))

seat_worked : (p : Past) (number : ℕ) (o n : Seat) (script : List Command) (lines : List Line) → IsAtOpening p o → IsKnown p number n → Ran o n script lines
    → LinesOf p number 1 p.base script lines (commits_of number p.entries)
seat_worked p number o n script lines opening known ran =
    made_in (λ q seat before commits. LinesOf q seat 1 before script lines commits)
    (λ q more seat before commits h. lines_longer q more seat 1 before script lines commits h) p number o n ran.commits opening known
    ran.continues ran.mine ran.each

-- each seat worked its script off
pub all_worked : (p : Past) (number : ℕ) (olds news : List Seat) (scripts : List (List Command)) (lines : List Line) → AreKnown p number olds news
    → AllRan olds news scripts lines → AllWorked p number scripts lines
all_worked p number [] [] [] lines known ran = ran
all_worked p number [] [] (script ∷ scripts) lines known ran = absurd ran
all_worked p number [] (n ∷ news) [] lines known ran = absurd ran
all_worked p number [] (n ∷ news) (script ∷ scripts) lines known ran = absurd ran
all_worked p number (o ∷ olds) [] [] lines known ran = absurd ran
all_worked p number (o ∷ olds) [] (script ∷ scripts) lines known ran = absurd ran
all_worked p number (o ∷ olds) (n ∷ news) [] lines known ran = absurd ran
all_worked p number (o ∷ olds) (n ∷ news) (script ∷ scripts) lines known ran = (
  seat_worked p number o n script (take (length script) lines) known.0 known.1 ran.0,
  all_worked p (suc number) olds news scripts (drop (length script) lines) known.2 ran.1,
)
