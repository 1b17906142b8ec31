-- A turn behind steps of the core is behind one more of them, where its step is one that may come next.
use Rattle.std.proofs.Common.{◌≡◌, ℕ, List, ◌∷◌, Option, Some, None, refl, sym, ap, subst, arith}
use Rattle.mv_core.proofs.Terms.{Config, Checked, SharedWord, Shows}
use Rattle.replay_rules.specs.declared.seats.NextStep.{NextStep}
use Rattle.replay_rules.specs.States.{Made, state_of}
use Rattle.replay_rules.specs.Words.{word_at, words_with}
use Rattle.replay_rules.specs.Tasks.{place_in_task, access_in_task, written_by}
use Rattle.replay_rules.specs.Runs.{TapeOf, with_line, tape_stepped, turned}
use Rattle.replay_rules.specs.ReplayLaws.{IsTurn, no_step, one_step}
use Rattle.replay_rules.specs.Behind.{IsTapeBehind}
use Rattle.replay_rules.specs.NextSteps.{IsStepOf, IsTurnBehind, stays, moves_on, TurnsGoOn}
use Rattle.replay_rules.proofs.Machines.{words_after, shows_next}
use Rattle.replay_rules.proofs.OneStep.{turn_is}

-- both say which words are there after a write
same_words : (c : Config) (words : List ℕ) (place : SharedWord) (o : Option ℕ) → words_after c words place o ≡ words_with c words place o
same_words c words place None = refl
same_words c words place (Some new) = refl

-- a line more
pub lined : (c : Config) (t : TapeOf) (made : List Made) (line : List ℕ) → IsTapeBehind c t made → IsTapeBehind c (with_line t line) made
lined c t made line b = record { each = b.each; shows = b.shows; count = b.count }

module _ (c : Config) (k : Checked c) (made : List Made) (t : TapeOf) (b : IsTapeBehind c t made) (step : Made) (seat : ℕ) (task : NextStep)
    (is : IsStepOf c made step seat task) where
  abbrev place : SharedWord
  place = place_in_task c seat task

  abbrev writes : ℕ → Option ℕ
  writes found = written_by (access_in_task seat task) found

  abbrev o : Option ℕ
  o = writes (word_at c t.words place)

  same : writes ((state_of c made).memory place) ≡ o
  same = ap writes (sym (b.shows.each place is.range))

  -- the tape behind the step
  pub step_behind : IsTapeBehind c (tape_stepped c seat task place t) (step ∷ made)
  step_behind = record {
    each = (is.may, b.each);
    shows = subst (λ words. Shows c words (state_of c (step ∷ made)).memory) (same_words c t.words place o)
        (shows_next c k t.words made step place writes b.shows is.place_is is.range is.writes_are o same);
    count = (let e = b.count in omega (arith, e));
  }

from_turn : (c : Config) (k : Checked c) (old new : TapeOf) (made : List Made) → IsTapeBehind c old made → IsTurn c old new → IsTurnBehind c made old new
from_turn c k old new made b (no_step lines is) = stays (subst (λ u. IsTapeBehind c u made) (sym is) (lined c old made lines b))
from_turn c k old new made b (one_step seat task before behind there is) =
    moves_on seat task before behind is
    (λ step next. subst (λ u. IsTapeBehind c u (step ∷ made)) (sym is)
    (lined c (tape_stepped c seat task (place_in_task c seat task) (with_line old before)) (step ∷ made) behind
    (step_behind c k made (with_line old before) (lined c old made before b) step seat task next)))

pub turns_go_on : TurnsGoOn
turns_go_on c k x made b = from_turn c k x.tape (turned c x).tape made b (turn_is c x)
