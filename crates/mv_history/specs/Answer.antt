-- What the answers of `try_commit` say.
use Rattle.std.specs.Prelude.{ℕ, ⊤}
use Rattle.mv_history.specs.declared.answers.CommitAnswer.{CommitAnswer}
use Rattle.mv_history.specs.declared.answers.CommitAnswer.TheVariants.{Done, Again, End}
use Rattle.mv_history.specs.declared.answers.Rival.{Rival}
use Rattle.mv_history.specs.Meaning.{Seat, InSection}

-- what holds where the answer is `Done`
abbrev pub OnDone : {B S : Type 0} → CommitAnswer B S → (B → ℕ → Type 0) → Type 0
OnDone (Done back time) P = P back time
OnDone (Again section rival) P = ⊤
OnDone (End section) P = ⊤

-- what holds where the answer is `Again`
abbrev pub OnAgain : {B S : Type 0} → CommitAnswer B S → (S → Rival → Type 0) → Type 0
OnAgain (Done back time) P = ⊤
OnAgain (Again section rival) P = P section rival
OnAgain (End section) P = ⊤

-- what holds where the answer is `End`
abbrev pub OnEnd : {B S : Type 0} → CommitAnswer B S → (S → Type 0) → Type 0
OnEnd (Done back time) P = ⊤
OnEnd (Again section rival) P = ⊤
OnEnd (End section) P = P section

-- the seat that came back, outside a section or in one
abbrev pub seat_after : {B S : Type 0} → (B → Seat) → (S → InSection) → CommitAnswer B S → Seat
seat_after stands section (Done back time) = stands back
seat_after stands section (Again left rival) = (section left).seat
seat_after stands section (End left) = (section left).seat
