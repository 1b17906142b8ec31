-- What holds of a whole history: that it is sound is a proposition, and what stays of it.
use Rattle.std.proofs.Common.{◌≡◌, ℕ, List, [], ◌++◌, length, refl, sym, ap, ◌∙◌, append_assoc, arith}
use Rattle.std.proofs.lemmas.List.{append-nil}
use Rattle.std.proofs.lemmas.List.Elements.{All-nil, All-append}
use Rattle.mv_history.specs.declared.history.TheConstants.{LAST}
use Rattle.mv_history.specs.State.{State, Writes, state_after, commits_of, rests_of}
use Rattle.mv_history.specs.Legal.{AreWords}
use Rattle.mv_history.specs.Meaning.{Seat, IsSeat}
use Rattle.mv_history.specs.Laws.{IsSeat-prop}
use Rattle.mv_history.specs.WordsLaws.{AreWords-state_after}
use Rattle.mv_history.specs.declared.Step.{Step}
use Rattle.mvrlu.specs.MetSeats.{IsLookStep}
use Rattle.mvrlu.specs.Whole.{Whole, last_state, IsStill, IsSound}

-- a seat that has seen the whole history
abbrev seeing : Whole → Seat
seeing w = record {
  number = 0;
  home = [];
  write_max = 0;
  start = w.start;
  base = w.base;
  last = LAST;
  seen = w.history;
  mine = commits_of 0 w.history;
  rests = rests_of 0 w.history;
  spare = 0;
  trail = [];
}

-- rules that ask for nothing
abbrev any_start : State → Type 0
any_start s = Unit {0}

abbrev any_writes : List ℕ → State → Writes → Type 0
any_writes tag before writes = Unit {0}

abbrev sound_seeing : (w : Whole) → IsSound w → IsSeat any_start any_writes (seeing w)
sound_seeing w is = record {
  start = tt;
  words = is.words;
  legal = is.legal;
  allowed = λ front back c e. tt;
  mine = refl;
  rests = refl;
  time = is.time;
  last = omega arith;
}

pub IsSound-prop : (w : Whole) → IsProp (IsSound w)
IsSound-prop w x y =
    let same = IsSeat-prop any_start any_writes (λ s a b. refl) (λ t s ws a b. refl) (seeing w) (sound_seeing w x) (sound_seeing w y) in
    λ i. record { words = (same i).words; legal = (same i).legal; time = (same i).time }

pub words_at_last : (w : Whole) → IsSound w → AreWords (last_state w)
words_at_last w is = AreWords-state_after (length w.start) [] w.history w.start is.legal is.words

pub still_itself : (v : Whole) → IsStill v v
still_itself v = record {
  config = refl;
  start = refl;
  base = refl;
  history = refl;
  number = refl;
  trail = ([], sym (append-nil v.trail), All-nil (λ (s : Step). IsLookStep s.kind));
  others = refl;
  tables = refl;
}

pub still_long : (u v w : Whole) → IsStill u v → IsStill v w → IsStill u w
still_long u v w p q = record {
  config = q.config ∙ p.config;
  start = q.start ∙ p.start;
  base = q.base ∙ p.base;
  history = q.history ∙ p.history;
  number = q.number ∙ p.number;
  trail = (
    p.trail.0 ++ q.trail.0,
    q.trail.1 ∙ ap (λ t. t ++ q.trail.0) p.trail.1 ∙ append_assoc u.trail p.trail.0 q.trail.0,
    All-append (λ (s : Step). IsLookStep s.kind) p.trail.0 q.trail.0 p.trail.2 q.trail.2,
  );
  others = q.others ∙ p.others;
  tables = q.tables ∙ p.tables;
}

pub still_state : (v w : Whole) → IsStill v w → last_state w ≡ last_state v
still_state v w p = λ i. state_after (p.start i) (p.history i)
