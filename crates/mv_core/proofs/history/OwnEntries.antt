-- What a seat sees more of the history while it makes no entry is by other seats.
use Rattle.std.proofs.Common.{◌≡◌, ◌≢◌, ℕ, zero, suc, ◌+◌, ◌-◌, ◌≤◌, eqb, if◌then◌else◌, Bool, true, false, List}
use Rattle.std.proofs.Common.{[], ◌∷◌, length, sym, ap, ◌∙◌, arith, eq-eqb, length-append, Some}
use Rattle.std.specs.Prelude.{slice_get}
use Rattle.std.proofs.Math.Logic.{∥∥₁_elim}
use Rattle.std.proofs.Math.Bridge.{le_prop}
use Rattle.mv_history.specs.declared.Commit.{Commit}
use Rattle.mv_core.proofs.Terms.{Entry, Rest, Change, State, Writes, maker_of, commits_of, rests_of, Knowledge}
use Rattle.mv_history.proofs.Writing.{commits_of-append}
use Rattle.mv_core.proofs.FactTerms.{BeginsWith, Known}
use Rattle.mv_core.proofs.history.LongerSeen.{rests_of-append}
use Rattle.mv_core.proofs.history.Fronts.{get_after}

one_longer : (b : Bool) (d : Commit) (cs : List Commit)
    → (length cs ≤ length (if b then d ∷ cs else cs)) × (length (if b then d ∷ cs else cs) ≤ length cs + 1)
one_longer true d cs = (omega arith, omega arith)
one_longer false d cs = (omega arith, omega arith)

at_most_one : (b : Bool) → (if b then 1 else 0) ≤ 1
at_most_one true = omega arith
at_most_one false = omega arith

-- a seat made no more commits and rests than there are entries
own_few : (n : ℕ) (es : List Entry) → length (commits_of n es) + rests_of n es ≤ length es
own_few n [] = omega arith
own_few n (Rest by ∷ es) =
    let rest = own_few n es in
    let one = at_most_one (eqb by n) in
    let all : length (commits_of n es) + ((if eqb by n then 1 else 0) + rests_of n es) ≤ length es + 1 = omega arith in
    omega arith
own_few n (Change d ∷ es) =
    let rest = own_few n es in
    let longer = (one_longer (eqb d.seat n) d (commits_of n es)).1 in
    omega arith

-- an own entry is a commit or a rest of the seat
own_counts : (n : ℕ) (xs : List Entry) (i : ℕ) (e : Entry) → slice_get xs i ≡ Some e → maker_of e ≡ n → length (commits_of n xs) + rests_of n xs ≢ 0
own_counts n [] i e at own none = absurd cc
own_counts n (Rest by ∷ es) zero e at own none =
    let same : Rest by ≡ e = cc in
    let one : ◌≡◌ {A = ℕ} (if eqb by n then 1 else 0) 1 = ap (λ (b : Bool). if b then 1 else 0) (eq-eqb by n (ap maker_of same ∙ own)) in
    omega arith
own_counts n (Change d ∷ es) zero e at own none =
    let same : Change d ≡ e = cc in
    let one : length (if eqb d.seat n then d ∷ commits_of n es else commits_of n es) ≡ suc (length (commits_of n es)) =
    ap (λ (b : Bool). length (if b then d ∷ commits_of n es else commits_of n es)) (eq-eqb d.seat n (ap maker_of same ∙ own)) in
    omega arith
own_counts n (Rest by ∷ es) (suc i) e at own none =
    let b : ℕ = if eqb by n then 1 else 0 in
    let all : length (commits_of n es) + (b + rests_of n es) ≡ 0 = none in
    own_counts n es i e at own (omega arith)
own_counts n (Change d ∷ es) (suc i) e at own none =
    let longer = (one_longer (eqb d.seat n) d (commits_of n es)).0 in
    own_counts n es i e at own (omega arith)

-- so where a seat made no entry meanwhile, one after the front is of another
pub not_own : (n : ℕ) (h front : List Entry) (i : ℕ) (e : Entry) → BeginsWith h front → slice_get h i ≡ Some e → length front ≤ i
    → commits_of n h ≡ commits_of n front → rests_of n h ≡ rests_of n front → maker_of e ≢ n
not_own n h front i e begins at late mine rests own =
    let r = begins.0 in
    let commits = ap length (sym mine ∙ ap (commits_of n) begins.1 ∙ commits_of-append n front r) in
    let long = length-append (commits_of n front) (commits_of n r) in
    let more = sym rests ∙ ap (rests_of n) begins.1 ∙ rests_of-append n front r in
    own_counts n r (i - length front) e (sym (get_after front r i late) ∙ ap (λ l. slice_get l i) (sym begins.1) ∙ at) own (omega arith)

module _ (starts : State → Type 0) (allows : List ℕ → State → Writes → Type 0) where
  -- the own commits and rests are no more than the entries seen
  pub own_seen : (v : Knowledge) → ∥ Known starts allows v ∥₁ → length v.past.mine + v.past.rests ≤ length v.past.seen
  own_seen v known =
      ∥∥₁_elim known le_prop (λ a.
      let few = own_few v.number v.past.seen in
      let mine = ap length a.mine in
      let rests = a.rests in
      omega arith)

  -- of two views of a seat that made no entry between them: an entry that only the later has seen is of another seat
  module _ (v w : Knowledge) (before : ∥ Known starts allows v ∥₁) (after : ∥ Known starts allows w ∥₁) (number : w.number ≡ v.number)
      (seen : BeginsWith w.past.seen v.past.seen) (mine : w.past.mine ≡ v.past.mine) (rests : w.past.rests ≡ v.past.rests) where
    pub other_maker : (i : ℕ) (e : Entry) → slice_get w.past.seen i ≡ Some e → length v.past.seen ≤ i → maker_of e ≢ w.number
    other_maker i e at late own =
        ∥∥₁_elim before (λ a b. absurd a) (λ kv. ∥∥₁_elim after (λ a b. absurd a) (λ kw.
        not_own w.number w.past.seen v.past.seen i e seen at late
        (sym kw.mine ∙ mine ∙ kv.mine ∙ ap (λ n. commits_of n v.past.seen) (sym number))
        (sym kw.rests ∙ rests ∙ kv.rests ∙ ap (λ n. rests_of n v.past.seen) (sym number))
        own))
