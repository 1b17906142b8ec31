-- A view that is further than another one, by steps of a tidy.
use Rattle.std.proofs.Common.{◌≡◌, ◌≤◌, List, [], ◌∷◌, ◌++◌, length, All, refl, sym, ap, ◌∙◌, arith, append_assoc, append-nil}
use Rattle.std.proofs.lemmas.List.Elements.{All-nil, All-cons, All-append}
use Rattle.mv_history.specs.declared.Step.{Step}
use Rattle.mv_core.specs.declared.view.Knowledge.{Knowledge}
use Rattle.mv_core.specs.HistoryFacts.{BeginsWith}
use Rattle.mv_core.proofs.history.Fronts.{begins_by, begins_long}
use Rattle.log_reclaim.specs.Parts.{IsReclaimKind}

-- A view came from another one by these steps, none of which names a commit: what was seen is only longer, the own commits are as before, the
-- watermark isn't lower, and nothing else has changed but where the seat is and its log.
pub record Further (v w : Knowledge) (made : List Step) : Type 0 where
  pub seen : BeginsWith w.past.seen v.past.seen
  pub mine : w.past.mine ≡ v.past.mine
  pub grace : v.grace ≤ w.grace
  pub trail : w.trail ≡ v.trail ++ made
  pub kinds : All (λ s. IsReclaimKind s.kind) made
  pub rest : w ≡ record v {
    past = w.past;
    phase = w.phase;
    clocks = w.clocks;
    walk = w.walk;
    empty = w.empty;
    ring = w.ring;
    back = w.back;
    scan = w.scan;
    grace = w.grace;
    trail = w.trail;
  }

-- no step was made
pub further_none : (v : Knowledge) → Further v v []
further_none v = record {
  seen = ([], sym (append-nil v.past.seen));
  mine = refl;
  grace = (let e : v.grace ≤ v.grace = omega arith in e);
  trail = sym (append-nil v.trail);
  kinds = All-nil (λ s. IsReclaimKind s.kind);
  rest = refl;
}

-- more steps were made
pub further_on : (u v w : Knowledge) (made more : List Step) → Further u v made → Further v w more → Further u w (made ++ more)
further_on u v w made more a b = record {
  seen = begins_by w.past.seen v.past.seen u.past.seen b.seen a.seen;
  mine = b.mine ∙ a.mine;
  grace = (let first = a.grace in let then = b.grace in omega (arith, first, then));
  trail = b.trail ∙ ap (λ l. l ++ more) a.trail ∙ append_assoc u.trail made more;
  kinds = All-append (λ s. IsReclaimKind s.kind) made more a.kinds b.kinds;
  rest = b.rest
      ∙ ap
      (λ (x : Knowledge).
      record x {
        past = w.past;
        phase = w.phase;
        clocks = w.clocks;
        walk = w.walk;
        empty = w.empty;
        ring = w.ring;
        back = w.back;
        scan = w.scan;
        grace = w.grace;
        trail = w.trail;
      })
      a.rest;
}

-- one step was made
pub further_one : (v w : Knowledge) (s : Step) → BeginsWith w.past.seen v.past.seen → w.past.mine ≡ v.past.mine → v.grace ≤ w.grace
    → w.trail ≡ v.trail ++ s ∷ [] → IsReclaimKind s.kind
    → w ≡ record v {
      past = w.past;
      phase = w.phase;
      clocks = w.clocks;
      walk = w.walk;
      empty = w.empty;
      ring = w.ring;
      back = w.back;
      scan = w.scan;
      grace = w.grace;
      trail = w.trail;
    }
    → Further v w (s ∷ [])
further_one v w s seen mine grace trail kind rest = record {
  seen = seen;
  mine = mine;
  grace = grace;
  trail = trail;
  kinds = All-cons (λ s. IsReclaimKind s.kind) s [] kind (All-nil (λ s. IsReclaimKind s.kind));
  rest = rest;
}

-- what holds of a step holds of all of a list of one
pub one_all : (P : Step → Type 0) (s : Step) → P s → All P (s ∷ [])
one_all P s is = All-cons P s [] is (All-nil P)

-- what was seen begins with itself
pub begins_same : (v : Knowledge) → BeginsWith v.past.seen v.past.seen
begins_same v = ([], sym (append-nil v.past.seen))

module _ (v w : Knowledge) (made : List Step) (f : Further v w made) where
  pub further_number : w.number ≡ v.number
  further_number = ap (λ (x : Knowledge). x.number) f.rest

  pub further_base : w.base ≡ v.base
  further_base = ap (λ (x : Knowledge). x.base) f.rest

  pub further_long : length v.past.seen ≤ length w.past.seen
  further_long = begins_long w.past.seen v.past.seen f.seen
