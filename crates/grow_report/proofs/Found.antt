-- What holds of the steps of turns holds of their lines.
use Rattle.std.proofs.Common.{◌≡◌, ℕ, ◌*◌, List, [], ◌∷◌, ◌++◌, map, ap, arith}
use Rattle.std.specs.List.{All, flat_map}
use Rattle.std.proofs.lemmas.List.Elements.{All-nil, All-cons, All-head, All-tail}
use Rattle.run_report.specs.declared.line.Line.{Line}
use Rattle.run_report.specs.Legal.{EachPair, Follows, IsInTime, IsAlone}
use Rattle.grow_report.specs.Turns.{LineAndSplit, line_of}
use Rattle.grow_report.proofs.Steps.{line_step, split_steps, turn_steps}

-- what holds behind others holds
all_behind : (P : Line → Type 0) (xs ys : List Line) → All P (xs ++ ys) → All P ys
all_behind P [] ys h = h
all_behind P (x ∷ xs) ys h = all_behind P xs ys (All-tail P x (xs ++ ys) h)

pub all_lines : (P Q : Line → Type 0) → ((line : Line) → P (line_step line) → Q line) → (turns : List LineAndSplit) → All P (flat_map turn_steps turns)
    → All Q (map line_of turns)
all_lines P Q to [] h = All-nil Q
all_lines P Q to (turn ∷ turns) h =
    let behind = All-tail P (line_step turn.line) (split_steps turn.line turn.split ++ flat_map turn_steps turns) h in
    All-cons Q turn.line (map line_of turns)
    (to turn.line (All-head P (line_step turn.line) (split_steps turn.line turn.split ++ flat_map turn_steps turns) h))
    (all_lines P Q to turns (all_behind P (split_steps turn.line turn.split) (flat_map turn_steps turns) behind))

-- what holds of each two steps
pairs_lines : (H R : Line → Line → Type 0) → ((a b : Line) → H (line_step a) (line_step b) → R a b) → (turns : List LineAndSplit)
    → EachPair H (flat_map turn_steps turns) → EachPair R (map line_of turns)
pairs_lines H R to turns h =
    all_lines (λ a. All (H a) (flat_map turn_steps turns)) (λ a. All (R a) (map line_of turns))
    (λ a of_a. all_lines (H (line_step a)) (R a) (λ b of_b. to a b of_b) turns of_a) turns h

pub lines_follow : (base : ℕ) (turns : List LineAndSplit) → All (λ line. Follows base line.place) (flat_map turn_steps turns)
    → All (λ line. Follows base line.place) (map line_of turns)
lines_follow base turns h = all_lines (λ line. Follows base line.place) (λ line. Follows base line.place) (λ line f. f) turns h

pub lines_in_time : (turns : List LineAndSplit) → EachPair IsInTime (flat_map turn_steps turns) → EachPair IsInTime (map line_of turns)
lines_in_time turns h = pairs_lines IsInTime IsInTime (λ a b rises same below. rises same (omega (arith, below))) turns h

pub lines_alone : (turns : List LineAndSplit) → EachPair IsAlone (flat_map turn_steps turns) → EachPair IsAlone (map line_of turns)
lines_alone turns h =
    pairs_lines IsAlone IsAlone
    (λ a b one made_a made_b same.
    let ids = one made_a made_b same in
    let numbers : a.number ≡ b.number = (let twice : 2 * a.number ≡ 2 * b.number = ap (λ (x : ℕ × ℕ). x.1) ids in omega (arith, twice)) in
    λ i. (ap (λ (x : ℕ × ℕ). x.0) ids i, numbers i))
    turns h
