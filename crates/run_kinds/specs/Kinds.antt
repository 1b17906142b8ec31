-- What a kind of run over a domain is: each is a record of one shape.
use Rattle.std.specs.Prelude.{◌≡◌, ℕ, ◌/◌, ◌-◌, List, replicate}
use Rattle.std.specs.List.Sorted.{IsPermutation}
use Rattle.domain_loan.specs.Met.{MetAlong}
use Rattle.domain_loan.specs.New.{AreFrom}
use Rattle.mv_history.specs.declared.answers.LogTable.{LogTable}
use Rattle.mv_history.specs.Meaning.{Seat}
use Rattle.mv_history.specs.State.{State, Writes}
use Rattle.mv_layout.specs.declared.config.Config.{Config}
use Rattle.mvrlu.specs.declared.closing.Closing.{Closing}
use Rattle.mvrlu.specs.Meant.{whole_of}
use Rattle.mvrlu.specs.Opened.{new_seat}
use Rattle.mvrlu.specs.Whole.{Whole}
use Rattle.run_report.specs.declared.line.Line.{Line}
use Rattle.run_report.specs.Order.{IsOrdered}
use Rattle.run_report.specs.Worked.{Past}
use Rattle.run_words.specs.declared.request.Options.{Options}
use Rattle.domain_lines.specs.Joined.{past_of_whole}
use Rattle.set_model.specs.Objects.{no_words}

-- the numbers of a domain with so many seats, each of which may hold so many objects
abbrev pub config_of : Options → ℕ → ℕ → Config
config_of options write_max seats = record {
  seats = seats;
  objects = options.objects;
  slots = options.slots;
  write_max = write_max;
  low = options.slots / 2;
  high = options.slots - write_max;
  base = options.base;
}

-- A kind of run over a domain, which ends in values of this type: the numbers of its domain; what makes lines and an end those of one run
-- in its whole history; and the text of them and of the tables of its seats.
pub record Kind (End : Type 0) : Type 1 where
  pub numbers : Config
  pub is_run : List Line → End → Whole → Type 0
  pub text_of : List Line → End → List LogTable → List ℕ

-- The history of a domain is that of a run, and each seat went along the chain of its lines: from the one with which a domain of these numbers,
-- all of them, was opened, to the one that met, of which the closing tells, with its trail and its table. The lines that are printed are those of
-- the chains, in another order.
pub record IsRunAlong (allows : List ℕ → State → Writes → Type 0) (chain : List Seat → List Seat → List Line → Type 0) (numbers : Config)
    (is_run : Past → Type 0) (lines : List Line) (w : Whole) : Type 0 where
  pub run : is_run (past_of_whole w)
  pub home : List ℕ
  pub firsts : List Seat
  pub new : AreFrom (new_seat home numbers (replicate numbers.objects no_words)) 0 firsts
  pub own : List Line
  pub same : IsPermutation own lines
  pub linked : MetAlong (λ olds news. chain olds news own) allows numbers (replicate numbers.objects no_words) firsts w

-- The kind of runs that go along these chains, by commits that are allowed so, over a domain of these numbers: what makes lines, an end and tables
-- those of one of them in a history, and their text.
abbrev pub kind_along : {End : Type 0} → (List ℕ → State → Writes → Type 0) → (List Seat → List Seat → List Line → Type 0) → Config
    → (Past → List Line → End → List LogTable → Type 0) → (List Line → End → List LogTable → List ℕ) → Kind End
kind_along allows chain numbers is_run text_of = record {
  numbers = numbers;
  is_run = λ lines end w. IsRunAlong allows chain numbers (λ past. is_run past lines end w.tables) lines w;
  text_of = text_of;
}

-- The numbers of a run that has no options. They stand here as numbers, and not as the code's constants, with
-- which a run over fewer objects would meet the clauses too.
abbrev pub usual_options : Options
usual_options = record { objects = 4096; slots = 1024; base = 0 }

module _ {Rules : Type 0} where
  -- The domain that is left was opened with these numbers, and with objects that are all zero; and its one history is that of a run.
  pub record IsLeftOf (numbers : Config) (is_run : Whole → Type 0) (closing : Closing Rules) : Type 0 where
    pub start : (whole_of closing).start ≡ replicate numbers.objects no_words
    pub base : (whole_of closing).base ≡ numbers.base
    pub run : is_run (whole_of closing)

  -- the domain is left of a run of this kind, of these lines and this end
  abbrev pub IsLeft : {End : Type 0} → Kind End → List Line → End → Closing Rules → Type 0
  IsLeft kind lines end closing = IsLeftOf kind.numbers (kind.is_run lines end) closing

  -- The text of a run of this kind: it is that of the run's lines in their order, of its end and of the tables that the closing has.
  pub record IsTextOf {End : Type 0} (kind : Kind End) (closing : Closing Rules) (text : List ℕ) : Type 0 where
    pub lines : List Line
    pub end : End
    pub left : IsLeft kind lines end closing
    pub ordered : IsOrdered lines
    pub is : text ≡ kind.text_of lines end (whole_of closing).tables

-- The text of a run of what was read, over the domain that is left: of these things that may be read, and the kind of run of each.
pub record IsTextOfRead {Rules End Read : Type 0} (is_read : Read → Type 0) (kind_of : Read → Kind End) (closing : Closing Rules)
    (text : List ℕ) : Type 0 where
  -- what was read
  pub read : Read
  pub files : is_read read
  -- the text of the run
  pub printed : IsTextOf (kind_of read) closing text
