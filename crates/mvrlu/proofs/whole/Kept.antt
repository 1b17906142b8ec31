-- What a seat knew is kept in the view of the seat that it was joined to.
use Rattle.std.proofs.Common.{◌≡◌, ℕ, ◌<◌, List, [], ◌∷◌, ◌++◌, refl, sym, ap, ◌∙◌, subst, ⊎_elim, inl, inr, append_assoc, arith}
use Rattle.std.specs.Prelude.{Contains}
use Rattle.std.proofs.lemmas.List.{append-nil}
use Rattle.std.proofs.lemmas.List.Elements.{Contains-append_left, Contains-append_right}
use Rattle.mv_history.specs.Meaning as history
use Rattle.mv_history.specs.declared.Entry.{Entry}
use Rattle.mv_history.specs.declared.Step.{Step}
use Rattle.mv_history.specs.State.{commits_of, rests_of}
use Rattle.mv_layout.specs.declared.Config.{Config}
use Rattle.object_lock.specs.mv_core.declared.view.Knowledge.{Knowledge}
use Rattle.object_lock.specs.mv_core.declared.view.Past.{Past}
use Rattle.object_lock.specs.mv_core.declared.view.JoinedSeat.{JoinedSeat}
use Rattle.object_lock.specs.mv_core.HistoryFacts.{BeginsWith}
use Rattle.object_lock.specs.mv_core.SeatSteps.{joined, note_of, AreJoined}
use Rattle.mvrlu.specs.Joined.{IsOwn, IsNoted, IsKept}

pub begins_itself : (h : List Entry) → BeginsWith h h
begins_itself h = ([], sym (append-nil h))

pub begins_long : (h g front : List Entry) → BeginsWith h g → BeginsWith g front → BeginsWith h front
begins_long h g front a b = (b.0 ++ a.0, a.1 ∙ ap (λ x. x ++ a.0) b.1 ∙ append_assoc front b.0 a.0)

-- the later view may have seen more, and has more notes
pub record GoesOn (v w : Knowledge) : Type 0 where
  pub number : w.number ≡ v.number
  pub start : w.start ≡ v.start
  pub base : w.base ≡ v.base
  pub mine : w.past.mine ≡ v.past.mine
  pub rests : w.past.rests ≡ v.past.rests
  pub seen : BeginsWith w.past.seen v.past.seen
  pub notes : (more : List JoinedSeat) × (w.notes ≡ v.notes ++ more)

pub kept_on : (t : List Step) (v w : Knowledge) (s : history.Seat) → GoesOn v w → IsKept t v s → IsKept t w s
kept_on t v w s on k = record {
  start = k.start ∙ sym on.start;
  base = k.base ∙ sym on.base;
  past = ⊎_elim
      (λ (own : IsOwn t v s). inl (record {
        number = on.number ∙ own.number;
        seen = begins_long w.past.seen v.past.seen s.seen on.seen own.seen;
        mine = on.mine ∙ own.mine;
        rests = on.rests ∙ own.rests;
        steps = own.steps;
      }))
      (λ (noted : IsNoted v s). inr (record {
        note = noted.note;
        there = subst (λ ns. Contains ns noted.note) (sym on.notes.1) (Contains-append_left v.notes on.notes.0 noted.note noted.there);
        number = noted.number;
        past = noted.past;
        steps = noted.steps;
      }))
      k.past;
}

pub joins_on : (c : Config) (v other : Knowledge) → GoesOn v (joined c v other)
joins_on c v other = record {
  number = refl;
  start = refl;
  base = refl;
  mine = refl;
  rests = refl;
  seen = begins_itself v.past.seen;
  notes = (note_of other ∷ other.notes, refl);
}

-- a seat's own view keeps what it knows
pub kept_own : (v : Knowledge) (s : history.Seat) → v.number ≡ s.number → s.start ≡ v.start → s.base ≡ v.base → v.past.seen ≡ s.seen → v.past.mine ≡ s.mine
    → v.past.rests ≡ s.rests → IsKept s.trail v s
kept_own v s number start base seen mine rests = record {
  start = start;
  base = base;
  past = inl (record { number = number; seen = ([], seen ∙ sym (append-nil s.seen)); mine = mine; rests = rests; steps = refl });
}

-- what the joined seat knew is kept
pub kept_other : (c : Config) (t : List Step) (v other : Knowledge) (s : history.Seat) → s.start ≡ v.start → s.base ≡ v.base → other.number ≡ s.number
    → other.past ≡ record { seen = s.seen; mine = s.mine; rests = s.rests } → other.trail ≡ s.trail → IsKept t (joined c v other) s
kept_other c t v other s start base number past steps = record {
  start = start;
  base = base;
  past = inr (record {
    note = note_of other;
    there = Contains-append_right v.notes (note_of other ∷ other.notes) (note_of other) (0, omega arith, refl);
    number = number;
    past = past;
    steps = steps;
  });
}

-- what a seat knew is its part of the history h
pub record KnowsIn (c : Config) (h : List Entry) (s : history.Seat) : Type 0 where
  pub range : s.number < c.seats
  pub seen : BeginsWith h s.seen
  pub mine : s.mine ≡ commits_of s.number h
  pub rests : s.rests ≡ rests_of s.number h

-- what is kept is told of, where the whole history is h
pub knows_in : (c : Config) (t : List Step) (v : Knowledge) (h : List Entry) (s : history.Seat) → v.number < c.seats → AreJoined c v h → IsKept t v s
    → KnowsIn c h s
knows_in c t v h s range told kept =
    ⊎_elim
    (λ (own : IsOwn t v s). record {
      range = subst (λ (n : ℕ). n < c.seats) own.number range;
      seen = begins_long h v.past.seen s.seen told.own.seen own.seen;
      mine = sym own.mine ∙ told.own.mine ∙ ap (λ n. commits_of n h) own.number;
      rests = sym own.rests ∙ told.own.rests ∙ ap (λ n. rests_of n h) own.number;
    })
    (λ (noted : IsNoted v s).
    let r = told.joined noted.note noted.there in record {
      range = subst (λ (n : ℕ). n < c.seats) noted.number r.0;
      seen = subst (λ (p : Past). BeginsWith h p.seen) noted.past r.2.seen;
      mine = sym (ap (λ (p : Past). p.mine) noted.past) ∙ r.2.mine ∙ ap (λ n. commits_of n h) noted.number;
      rests = sym (ap (λ (p : Past). p.rests) noted.past) ∙ r.2.rests ∙ ap (λ n. rests_of n h) noted.number;
    })
    kept.past
