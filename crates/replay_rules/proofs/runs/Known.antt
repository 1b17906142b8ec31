-- What a state behind steps of the core is, for one of its seats; and tests of numbers.
use Rattle.std.proofs.Common.{◌≡◌, ◌≢◌, ◌⊎◌, ℕ, ◌<◌, ◌≤◌, ◌^◌, suc, ◌==◌, ◌&&◌, ltb, leb, get_or, List, [], ◌∷◌, ◌++◌, Bool, true, false, refl, ap}
use Rattle.std.proofs.Common.{arith, inl, inr, if◌then◌else◌, eq-eqb, lt-ltb, le-ltb, le-leb, length}
use Rattle.std.proofs.lemmas.Bool.{cases_lt, lt-leb}
use Rattle.std.proofs.lemmas.List.Elements.{All-nil, All-cons}
use Rattle.mv_history.specs.declared.Step.{Step}
use Rattle.mv_core.proofs.Terms.{Config, Checked, parts_of, SharedWord}
use Rattle.mv_core.specs.declared.view.Knowledge.{Knowledge}
use Rattle.mv_core.specs.Rule.{Facts, IsSeated}
use Rattle.mv_core.proofs.moves.Notes.{seat_is}
use Rattle.mv_core.proofs.logs.Links.{next_small}
use Rattle.mv_core.specs.Known.{Known}
use Rattle.mv_core.proofs.frames.Turning.{known_of}
use Rattle.seat_log.proofs.PlainSteps.{LeavesLog, IsPlain, one_plain, stands_plain}
use Rattle.replay_rules.specs.declared.seats.NotedVersion.{NotedVersion}
use Rattle.replay_rules.specs.States.{any_commit, any_start, zeros, Made, state_of, AreMade}
use Rattle.replay_rules.proofs.Replays.{made_behind, holds_behind}
use Rattle.replay_rules.proofs.runs.Sections.{Logs}

-- either of two holds of what is chosen, by the test
pub if_so : {A : Type 0} (P : A → Type 0) (b : Bool) (x y : A) → (b ≡ true → P x) → (b ≡ false → P y) → P (if b then x else y)
if_so P true x y one other = one refl
if_so P false x y one other = other refl

pub eqb_ne : (a b : ℕ) → (a == b) ≡ false → a ≢ b
eqb_ne a b e same = let t = eq-eqb a b same in absurd (cc)

pub ltb_lt : (a b : ℕ) → ltb a b ≡ true → a < b
ltb_lt a b e = go (cases_lt a b)
  where
    go : (a < b) ⊎ (b ≤ a) → a < b
    go (inl lt) = lt
    go (inr ge) = let f = le-ltb a b ge in absurd (cc)

pub ltb_ge : (a b : ℕ) → ltb a b ≡ false → b ≤ a
ltb_ge a b e = go (cases_lt a b)
  where
    go : (a < b) ⊎ (b ≤ a) → b ≤ a
    go (inl lt) = let f = lt-ltb a b lt in absurd (cc)
    go (inr ge) = ge

pub leb_le : (a b : ℕ) → leb a b ≡ true → a ≤ b
leb_le a b e = go (cases_lt b a)
  where
    go : (b < a) ⊎ (a ≤ b) → a ≤ b
    go (inl lt) = let f = lt-leb a b lt in absurd (cc)
    go (inr le) = le

pub leb_gt : (a b : ℕ) → leb a b ≡ false → b < a
leb_gt a b e = go (cases_lt b a)
  where
    go : (b < a) ⊎ (a ≤ b) → b < a
    go (inl lt) = lt
    go (inr le) = let f = le-leb a b le in absurd (cc)

module _ (c : Config) (k : Checked c) (n : ℕ) (made : List Made) (each : AreMade c made) where
  abbrev v : Knowledge
  v = (state_of c made).seats n

  -- all facts hold
  pub facts : Facts any_start any_commit c (zeros c) (state_of c made).memory (state_of c made).history (parts_of (state_of c made).seats)
  facts = (holds_behind c k made each).facts

  -- the seat has its number, and its view is there
  pub number_is : ((state_of c made).seats n).number ≡ n
  number_is = ((holds_behind c k made each).seats.own n).0

  pub view_there : (state_of c made).seats ((state_of c made).seats n).number ≡ (state_of c made).seats n
  view_there = ap (state_of c made).seats ((holds_behind c k made each).seats.own n).0

  pub starts : ((state_of c made).seats n).start ≡ zeros c
  starts = ((holds_behind c k made each).seats.own n).1

  pub knows : Known any_start any_commit ((state_of c made).seats n)
  knows =
      let h = holds_behind c k made each in
      let own = h.seats.own n in
      known_of any_start any_commit c (zeros c) (state_of c made).memory (state_of c made).history (state_of c made).seats ((state_of c made).seats n) h.facts
      (ap (state_of c made).seats own.0) own.1 own.2 ((made_behind c k made each).0 n).2

  -- the seat is one of the domain's
  pub seated : n < c.seats → IsSeated c (state_of c made).seats ((state_of c made).seats n)
  seated lt =
      let h = holds_behind c k made each in
      let u = (made_behind c k made each).0 in
      let made_is : ((state_of c made).seats 0).made ≡ c.seats = (u 0).0 refl in
      seat_is c (zeros c) (state_of c made).seats h.seats h.notes n (omega (arith, lt, made_is)) (u n).2

  -- its next position is at most this
  pub next_low : ((state_of c made).seats n).ring.next ≤ 2 ^ 57
  next_low =
      let f = (holds_behind c k made each).facts in
      next_small c (state_of c made).history (λ t. ((state_of c made).seats t).ring) f.checked f.history.in_time f.positions n

  pub word_small : (p : SharedWord) → (state_of c made).memory p < 2 ^ 64
  word_small p = (holds_behind c k made each).words p

-- the notes stand for the view after a plain step
pub logs_plain : (c : Config) (v w : Knowledge) (log : List NotedVersion) (freed from : ℕ) → w.number ≡ v.number → w.ring ≡ v.ring → w.past.mine ≡ v.past.mine
    → w.past.rests ≡ v.past.rests → (s : Step) → w.trail ≡ v.trail ++ s ∷ [] → IsPlain s → Logs c v log freed from → Logs c w log freed from
logs_plain c v w log freed from number ring mine rests s trail plain k = record {
  noted = k.noted;
  stands = stands_plain c v w k.noted k.stands number ring mine rests (s ∷ []) trail (All-cons IsPlain s [] plain (All-nil IsPlain));
  is = k.is;
}

-- and after one of a kind that leaves the log alone
pub logs_left : (c : Config) (v w : Knowledge) (log : List NotedVersion) (freed from : ℕ) → w.number ≡ v.number → w.ring ≡ v.ring → w.past.mine ≡ v.past.mine
    → w.past.rests ≡ v.past.rests → (s : Step) → w.trail ≡ v.trail ++ s ∷ [] → LeavesLog s.kind → Logs c v log freed from → Logs c w log freed from
logs_left c v w log freed from number ring mine rests s trail leaves k =
    logs_plain c v w log freed from number ring mine rests s trail (one_plain s leaves) k

-- lists as long as one another with the same elements
pub same_list : {A : Type 0} (d : A) (xs ys : List A) → length xs ≡ length ys → ((i : ℕ) → i < length xs → get_or xs i d ≡ get_or ys i d) → xs ≡ ys
same_list d [] [] long same = refl
same_list d [] (y ∷ ys) long same = absurd (omega (arith, long))
same_list d (x ∷ xs) [] long same = absurd (omega (arith, long))
same_list d (x ∷ xs) (y ∷ ys) long same =
    let first : x ≡ y = same 0 (omega arith) in
    let rest = same_list d xs ys (omega (arith, long)) (λ i lt. same (suc i) (omega (arith, lt))) in
    (λ j. first j ∷ rest j)

-- a test of two parts
pub and_right : (a b : Bool) → (a && b) ≡ true → b ≡ true
and_right true b e = e
and_right false b e = absurd (cc)

pub and_left : (a b : Bool) → (a && b) ≡ true → a ≡ true
and_left true b e = refl
and_left false b e = absurd (cc)
