-- That states and writes keep the form of their words.
use Rattle.std.specs.Prelude.{ℕ, eqb, List, [], ◌∷◌, ◌++◌, set, refl}
use Rattle.std.proofs.Common.{append_assoc}
use Rattle.std.proofs.lemmas.Bool.{cond_both}
use Rattle.std.proofs.lemmas.List.Elements.{All-cons, All-head, All-tail, All-set}
use Rattle.mv_history.specs.State.{State, Writes, Entry, Rest, Change, written, rewritten, state_after}
use Rattle.mv_history.specs.Legal.{IsWords, AreWords, AreWrites, IsLegal}

pub AreWrites-rewritten : (ws : Writes) (o : ℕ) (words : List ℕ) → AreWrites ws → IsWords words → AreWrites (rewritten ws o words)
AreWrites-rewritten [] o words h k = h
AreWrites-rewritten (w ∷ ws) o words h k =
    cond_both (eqb w.0 o) ((o, words) ∷ ws) (w ∷ rewritten ws o words) AreWrites
    (λ _. All-cons (λ v. IsWords v.1) (o, words) ws k (All-tail (λ v. IsWords v.1) w ws h))
    (λ _. All-cons (λ v. IsWords v.1) w (rewritten ws o words) (All-head (λ v. IsWords v.1) w ws h)
    (AreWrites-rewritten ws o words (All-tail (λ v. IsWords v.1) w ws h) k))

pub AreWords-written : (s : State) (ws : Writes) → AreWords s → AreWrites ws → AreWords (written s ws)
AreWords-written s [] h k = h
AreWords-written s (w ∷ ws) h k =
    AreWords-written (set s w.0 w.1) ws (All-set IsWords s w.0 w.1 (All-head (λ v. IsWords v.1) w ws k) h) (All-tail (λ v. IsWords v.1) w ws k)

pub AreWords-state_after : (n : ℕ) (front es : List Entry) (s : State) → IsLegal n (front ++ es) → AreWords s → AreWords (state_after s es)
AreWords-state_after n front [] s legal h = h
AreWords-state_after n front (Rest by ∷ es) s legal h =
    AreWords-state_after n (front ++ Rest by ∷ []) es s (rw append_assoc legal) h
AreWords-state_after n front (Change c ∷ es) s legal h =
    AreWords-state_after n (front ++ Change c ∷ []) es (written s c.writes) (rw append_assoc legal)
    (AreWords-written s c.writes h (legal front es c refl).words)
