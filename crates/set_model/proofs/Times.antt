-- What the rules say of each time of a store: its state is lawful, and each commit did what its command does.
use Rattle.std.proofs.Common.{◌≡◌, ℕ, suc, ◌+◌, ◌-◌, List, [], ◌∷◌, ◌++◌, take, drop, sym, ap, ◌∙◌, subst, arith, zero, Some}
use Rattle.std.specs.Prelude.{slice_get}
use Rattle.mv_history.specs.declared.history.Commit.{Commit}
use Rattle.mv_history.specs.declared.history.Entry.{Entry}
use Rattle.mv_history.specs.declared.history.Entry.TheVariants.{Change}
use Rattle.mv_history.specs.State.{State, written, state_after, state_at}
use Rattle.mv_history.specs.Legal.{IsAllowed}
use Rattle.mv_history.specs.Meaning.{Seat, IsSeat}
use Rattle.mv_history.specs.Calls.{IsEntryAt}
use Rattle.mv_history.proofs.Writing.{state_after-append}
use Rattle.mv_history.proofs.Histories.{split_at}
use Rattle.mv_history.proofs.Kept.{keeps_after}
use Rattle.set_model.specs.declared.commands.Command.{Command}
use Rattle.set_model.specs.Lawful.{IsLawful, IsOpening}
use Rattle.set_model.specs.Tags.{command_of}
use Rattle.set_model.specs.Rules.{Makes, MakesSome, IsSetCommit}
use Rattle.set_model.proofs.Opening.{opening_lawful}

-- After an allowed history a state is lawful.
pub lawful_after : (start : State) (history : List Entry) → IsOpening start → IsAllowed IsSetCommit start history → IsLawful (state_after start history)
lawful_after start history o a =
    keeps_after IsSetCommit IsLawful (λ tag s ws makes l. makes.keeps.lawful_after) start history a (opening_lawful start o)

take_next : {X : Type 0} (xs : List X) (i : ℕ) (x : X) → slice_get xs i ≡ Some x → take (suc i) xs ≡ take i xs ++ x ∷ []
take_next [] i x e = absurd (cc)
take_next (y ∷ xs) zero x e = let same : y ≡ x = cc in ap (λ z. z ∷ []) same
take_next (y ∷ xs) (suc i) x e = ap (λ zs. y ∷ zs) (take_next xs i x e)

-- The commit of a time did what its command does, on the state just before that time.
pub commit_makes : (s : Seat) → IsSeat IsOpening IsSetCommit s → (time : ℕ) (c : Commit) (command : Command) → IsEntryAt s time (Change c)
    → command_of c.tag ≡ Some command → Makes command (state_at s.start s.seen (time - (s.base + 1))) (state_at s.start s.seen (time - s.base))
commit_makes s h time c command e tagged =
    let i : ℕ = time - (s.base + 1) in
    let parts : s.seen ≡ take i s.seen ++ Change c ∷ drop (suc i) s.seen = split_at s.seen i (Change c) e.there in
    let made : IsSetCommit c.tag (state_after s.start (take i s.seen)) c.writes = h.allowed (take i s.seen) (drop (suc i) s.seen) c parts in
    let one : time - s.base ≡ suc (time - (s.base + 1)) = omega (arith, e.later) in
    let front : take (suc i) s.seen ≡ take i s.seen ++ Change c ∷ [] = take_next s.seen i (Change c) e.there in
    let after : state_at s.start s.seen (time - s.base) ≡ written (state_after s.start (take i s.seen)) c.writes =
    ap (state_at s.start s.seen) one ∙ ap (state_after s.start) front ∙ state_after-append s.start (take i s.seen) (Change c ∷ []) in
    subst (λ u. Makes command (state_at s.start s.seen (time - (s.base + 1))) u) (sym after)
    (subst (λ m. MakesSome m (state_after s.start (take i s.seen)) (written (state_after s.start (take i s.seen)) c.writes)) tagged made.makes)
