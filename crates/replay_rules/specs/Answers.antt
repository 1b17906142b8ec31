-- What a call that has ended answers: by its seat's view before its first step and behind its last, what the contract of the same call of the
-- runtime says. Of an enter and a leave that is said in `reader_marks`, of a commit and an abort in `commit_abort`, of a lock and a write in
-- `object_lock` and LockAnswers, of a read in ReadAnswers, and of a tidy in `log_reclaim` and Tidied.
use Rattle.std.specs.Prelude.{◌≡◌}
use Rattle.mv_layout.specs.declared.config.Config.{Config}
use Rattle.mv_core.specs.declared.view.Knowledge.{Knowledge}
use Rattle.mv_core.specs.EnterSteps.{mark_cleared}
use Rattle.mv_core.specs.Rings.{held_count}
use Rattle.reader_marks.specs.Sections.{Begins, IsOpen, section_in}
use Rattle.commit_abort.specs.Commits.{EndsSo}
use Rattle.commit_abort.specs.Aborts.{Aborts, abort_cost}
use Rattle.replay_rules.specs.declared.plan.Call.{Call}
use Rattle.replay_rules.specs.declared.plan.Call.TheVariants as calls
use Rattle.replay_rules.specs.declared.seats.CallAnswer.{CallAnswer}
use Rattle.replay_rules.specs.declared.seats.CallAnswer.TheVariants.{Silent, AtTime, SixWords, Locked, Committed, Tidied}
use Rattle.replay_rules.specs.Kinds.{no_tag}
use Rattle.replay_rules.specs.ReadAnswers.{ReadsSo}
use Rattle.replay_rules.specs.LockAnswers.{LocksSo, WritesSo}
use Rattle.replay_rules.specs.Tidied.{TidiesSo}

-- what the answer of a call says of the view v before its first step and of the view w behind its last
abbrev pub AnswersSo : Config → Call → Knowledge → Knowledge → CallAnswer → Type 0
AnswersSo c calls.Enter v w (AtTime time) = Begins c v w time
AnswersSo c (calls.Read object) v w (SixWords words) = ReadsSo c v w object words
AnswersSo c (calls.Lock object) v w (Locked answer) = LocksSo c v w object answer
AnswersSo c (calls.Write object words) v w Silent = WritesSo c v w object words
AnswersSo c calls.Commit v w (Committed ended) = EndsSo c v w (section_in v) no_tag ended
AnswersSo c calls.Abort v w Silent = Aborts v w (abort_cost (held_count v.ring))
AnswersSo c calls.Leave v w Silent = IsOpen v × (w ≡ mark_cleared c v)
AnswersSo c calls.Tidy v w (Tidied reclaimed) = TidiesSo c v w reclaimed
AnswersSo c call v w answer = ⊥
