-- In a domain of one seat all that a scan has seen is the seat's own.
use Rattle.std.proofs.Common.{◌≡◌, ℕ, ◌+◌, ◌<◌, if◌then◌else◌, Bool, List, [], ◌∷◌, length, All, refl, ap, subst, arith, eq-eqb}
use Rattle.std.proofs.Props.{props}
use Rattle.std.proofs.Math.Logic.{∥∥₁_elim}
use Rattle.std.proofs.lemmas.List.Elements.{All-head, All-tail}
use Rattle.mv_history.specs.declared.Entry.{Entry}
use Rattle.mv_history.specs.declared.Entry.TheVariants.{Rest, Change}
use Rattle.mv_history.specs.State.{State, Writes, maker_of, commits_of, rests_of}
use Rattle.seat_log.specs.mv_core.declared.view.Knowledge.{Knowledge}
use Rattle.seat_log.specs.mv_core.Known.{Known}

-- a history of one seat is as long as its commits and rests are many
all_own : (n : ℕ) (h : List Entry) → n < 1 → All (λ e. maker_of e < 1) h → length h ≡ length (commits_of n h) + rests_of n h
all_own n [] one all = refl
all_own n (Rest by ∷ es) one all =
    let first = All-head (λ e. maker_of e < 1) (Rest by) es all in
    let rest = all_own n es one (All-tail (λ e. maker_of e < 1) (Rest by) es all) in
    let one_if : Bool → ℕ = λ b. if b then 1 else 0 in
    let is : rests_of n (Rest by ∷ es) ≡ 1 + rests_of n es = ap (λ (b : Bool). one_if b + rests_of n es) (eq-eqb by n (omega arith)) in
    omega arith
all_own n (Change c ∷ es) one all =
    let first = All-head (λ e. maker_of e < 1) (Change c) es all in
    let rest = all_own n es one (All-tail (λ e. maker_of e < 1) (Change c) es all) in
    let is : length (commits_of n (Change c ∷ es)) ≡ length (c ∷ commits_of n es) =
    ap (λ (b : Bool). length (if b then c ∷ commits_of n es else commits_of n es)) (eq-eqb c.seat n (omega arith)) in
    omega arith

pub alone_seen : (starts : State → Type 0) (allows : List ℕ → State → Writes → Type 0) (w : Knowledge) (seats : ℕ) → ∥ Known starts allows w ∥₁
    → w.number < seats
    → All (λ e. maker_of e < seats) w.past.seen → seats ≡ 1 → length w.past.seen ≡ length w.past.mine + w.past.rests
alone_seen starts allows w seats known own makers one =
    let all : All (λ e. maker_of e < 1) w.past.seen = subst (λ (n : ℕ). All (λ e. maker_of e < n) w.past.seen) one makers in
    let sum = all_own w.number w.past.seen (omega arith) all in
    ∥∥₁_elim known (hlevel props) (λ a. let mine : length w.past.mine ≡ length (commits_of w.number w.past.seen) = ap length a.mine in
    let rests = a.rests in omega arith)
