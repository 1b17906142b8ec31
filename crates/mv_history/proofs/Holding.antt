-- What a section reads after a lock or a write.
use Rattle.std.proofs.Common.{◌≡◌, ◌≢◌, ℕ, ◌+◌, ◌≤◌, eq-eqb, Bool, true, false, cond, eqb, not, ◌||◌, List, [], ◌∷◌, ◌++◌}
use Rattle.std.proofs.Common.{length, set, refl, sym, ap, ◌∙◌, arith}
use Rattle.std.proofs.lemmas.List.{set-set, set_comm}
use Rattle.std.proofs.lemmas.Bool.{not-true, and_parts}
use Rattle.std.proofs.lemmas.Bool.Decides.{nat_tests}
use Rattle.mv_history.specs.State.{State, Writes, written, touches, rewritten}
use Rattle.mv_history.specs.Legal.{are_distinct}
use Rattle.mv_history.specs.Meaning.{InSection, Holds, Lacks, snapshot_of, state_of, words_at}
use Rattle.mv_history.specs.Calls.{IsAsBefore, Locks, LocksWith, Rewrites}
use Rattle.mv_history.proofs.Steps.{Continues-Continues}
use Rattle.mv_history.proofs.Writing.{touches-append}
use Rattle.mv_history.proofs.Snapshots.{snapshot_of-later}

-- an object that is not written later may be set after all of them
pub written-set_other : (s : State) (ws : Writes) (o : ℕ) (words : List ℕ) → touches ws o ≡ false → written (set s o words) ws ≡ set (written s ws) o words
written-set_other s [] o words n = refl
written-set_other s (w ∷ ws) o words n =
    let apart : o ≢ w.0 = grind (arith, nat_tests) in
    let later : touches ws o ≡ false = grind (arith, nat_tests) in
    ap (λ u. written u ws) (set_comm s o w.0 words w.1 apart) ∙ written-set_other (set s w.0 w.1) ws o words later

-- an object whose words among the writes are others is set to these
pub written-rewritten : (s : State) (ws : Writes) (o : ℕ) (words : List ℕ) → are_distinct ws ≡ true → touches ws o ≡ true
    → written s (rewritten ws o words) ≡ set (written s ws) o words
written-rewritten s [] o words d t = absurd (cc)
written-rewritten s (w ∷ ws) o words d t = go (eqb w.0 o) refl t (written-rewritten (set s w.0 w.1) ws o words parts.1)
  where
    parts : (not (touches ws w.0) ≡ true) × (are_distinct ws ≡ true)
    parts = and_parts (not (touches ws w.0)) (are_distinct ws) d

    go : (b : Bool) → eqb w.0 o ≡ b → b || touches ws o ≡ true
        → (touches ws o ≡ true → written (set s w.0 w.1) (rewritten ws o words) ≡ set (written (set s w.0 w.1) ws) o words)
        → written s (cond b ((o, words) ∷ ws) (w ∷ rewritten ws o words)) ≡ set (written (set s w.0 w.1) ws) o words
    go false e h r = r h
    go true e h r =
        let same : w.0 ≡ o = grind (arith, nat_tests) in
        let apart : touches ws o ≡ false = ap (touches ws) (sym same) ∙ not-true (touches ws w.0) parts.0 in
        written-set_other s ws o words apart ∙ sym (set-set (written s ws) o w.1 words)
        ∙ ap (λ u. set u o words) (sym (written-set_other s ws o w.1 apart) ∙ ap (λ n. written (set s n w.1) ws) (sym same))

-- the words of the last write are others
pub rewritten-last : (ws : Writes) (o : ℕ) (old words : List ℕ) → touches ws o ≡ false → rewritten (ws ++ (o, old) ∷ []) o words ≡ ws ++ (o, words) ∷ []
rewritten-last [] o old words lacks = ap (λ b. cond b ((o, words) ∷ []) ((o, old) ∷ [])) (eq-eqb o o refl)
rewritten-last (w ∷ ws) o old words lacks =
    let apart : eqb w.0 o ≡ false = grind (arith, nat_tests) in
    let later : touches ws o ≡ false = grind (arith, nat_tests) in
    ap (λ b. cond b ((o, words) ∷ (ws ++ (o, old) ∷ [])) (w ∷ rewritten (ws ++ (o, old) ∷ []) o words)) apart
    ∙ ap (λ u. w ∷ u) (rewritten-last ws o old words later)

-- an object that was locked is held
pub locks-holds : (a b : InSection) (o : ℕ) → (Holds a o → b ≡ a) → (Lacks a o → Locks a b o) → Holds b o
locks-holds a b o again new = go (touches a.own o) refl
  where
    go : (t : Bool) → touches a.own o ≡ t → Holds b o
    go true e = ap (λ (s : InSection). touches s.own o) (again e) ∙ e
    go false e =
        let last : eqb o o ≡ true = eq-eqb o o refl in
        ap (λ u. touches u o) (new e).own ∙ touches-append a.own ((o, words_at (state_of a) o) ∷ []) o
        ∙ ap (λ t. t || (eqb o o || false)) e ∙ ap (λ t. t || false) last

-- a lock, and then a write, is a lock with these words
pub locks-rewrites : (a b c : InSection) (o : ℕ) (words : List ℕ) → Lacks a o → Locks a b o → Rewrites b c o words → LocksWith a c o words
locks-rewrites a b c o words lacks p q = record {
  continues = Continues-Continues p.continues q.seat.continues;
  mine = q.seat.mine ∙ p.mine;
  rests = q.seat.rests ∙ p.rests;
  spare = ap (λ n. n + 1) q.seat.spare ∙ p.spare;
  at = q.at ∙ p.at;
  own = q.own ∙ ap (λ u. rewritten u o words) p.own ∙ rewritten-last a.own o (words_at (state_of a) o) words lacks;
}

-- a section that is as before reads what it read
pub state_of-as_before : (a b : InSection) → a.at ≤ length a.seat.seen → IsAsBefore a b → state_of b ≡ state_of a
state_of-as_before a b l p =
    ap (written (snapshot_of b)) p.own ∙ ap (λ u. written u a.own) (snapshot_of-later a b p.seat.continues p.at l)

-- a write sets the words of its object alone
pub state_of-rewrites : (a b : InSection) (o : ℕ) (words : List ℕ) → a.at ≤ length a.seat.seen → are_distinct a.own ≡ true → Holds a o
    → Rewrites a b o words → state_of b ≡ set (state_of a) o words
state_of-rewrites a b o words l d h p =
    ap (written (snapshot_of b)) p.own
    ∙ ap (λ u. written u (rewritten a.own o words)) (snapshot_of-later a b p.seat.continues p.at l)
    ∙ written-rewritten (snapshot_of a) a.own o words d h
