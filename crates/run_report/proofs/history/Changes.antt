-- What the entries of a history do to its states: a commit does what its command does, and without commits a state stays.
use Rattle.std.proofs.Common.{◌≡◌, ℕ, zero, suc, ◌<◌, ◌≤◌, Bool, true, false, not, ◌&&◌, if◌then◌else◌, List, [], ◌∷◌, take, drop, Some, refl, ap, subst, arith}
use Rattle.std.specs.List.{slice_get}
use Rattle.mv_history.specs.declared.history.Commit.{Commit}
use Rattle.mv_history.specs.declared.history.Entry.{Entry}
use Rattle.mv_history.specs.declared.history.Entry.TheVariants.{Rest, Change}
use Rattle.mv_history.specs.State.{State, written, writes_of, state_after, state_at}
use Rattle.mv_history.specs.Legal.{IsAllowed}
use Rattle.mv_history.proofs.Histories.{split_at}
use Rattle.set_model.specs.CatalogueOf.{catalogue_of}
use Rattle.set_model.specs.Replies.{applies, overflows, changes}
use Rattle.set_model.specs.Rules.{capacity, Makes, MakesSome, IsSetCommit}
use Rattle.set_model.specs.Tags.{tag_of, command_of}
use Rattle.set_model.specs.declared.commands.Command.{Command}
use Rattle.set_model.specs.declared.commands.Command.TheVariants.{Add, Put, Del, Has, Get, Move, Pair, Size, Next}
use Rattle.set_model.specs.declared.commands.Reply.TheVariants.{Yes, No, Full, Worn}

-- an entry makes the next state by its writes
pub state_next : (start : State) (es : List Entry) (i : ℕ) (e : Entry) → slice_get es i ≡ Some e
    → state_after start (take (suc i) es) ≡ written (state_after start (take i es)) (writes_of e)
state_next start [] i e is = absurd (cc)
state_next start (f ∷ es) zero e is = let same : f ≡ e = cc in ap (λ g. written start (writes_of g)) same
state_next start (f ∷ es) (suc i) e is = state_next (written start (writes_of f)) es i e is

-- no commit is among the entries from this one up to that one
abbrev pub IsQuiet : List Entry → ℕ → ℕ → Type 0
IsQuiet es t u = (i : ℕ) (c : Commit) → t ≤ i → i < u → slice_get es i ≡ Some (Change c) → ⊥

-- meanwhile the state stays
pub quiet_same : (start : State) (es : List Entry) (t u : ℕ) → t ≤ u → IsQuiet es t u → state_at start es u ≡ state_at start es t
quiet_same start es zero zero le quiet = refl
quiet_same start [] zero (suc u) le quiet = refl
quiet_same start (Rest by ∷ es) zero (suc u) le quiet =
    quiet_same start es zero u (omega arith) (λ i c low high is. quiet (suc i) c (omega arith) (omega (arith, high)) is)
quiet_same start (Change c ∷ es) zero (suc u) le quiet = absurd (quiet 0 c (omega arith) (omega arith) refl)
quiet_same start es (suc t) zero le quiet = absurd (omega (arith, le))
quiet_same start [] (suc t) (suc u) le quiet = refl
quiet_same start (e ∷ es) (suc t) (suc u) le quiet =
    quiet_same (written start (writes_of e)) es t u (omega (arith, le)) (λ i c low high is. quiet (suc i) c (omega (arith, low)) (omega (arith, high)) is)

-- the tag of a command stands for it, where it stands for one
tag_means : (command : Command) (s t : State) → MakesSome (command_of (tag_of command)) s t → Makes command s t
tag_means (Add name key) s t m = m
tag_means (Put name key value) s t m = m
tag_means (Del name key) s t m = m
tag_means (Has name key) s t m = absurd m
tag_means (Get name key) s t m = absurd m
tag_means (Move source target key) s t m = m
tag_means (Pair first second key) s t m = absurd m
tag_means (Size name) s t m = absurd m
tag_means (Next name key) s t m = absurd m

-- the reply of a change is yes only where there is one
change_yes : (a o : Bool) → (if a then (if o then Full else (if false then Worn else Yes)) else No) ≡ Yes → a && not o && not false ≡ true
change_yes true false e = refl
change_yes true true e = absurd (cc)
change_yes false o e = absurd (cc)

tag_changes : (command : Command) (s t : State) → MakesSome (command_of (tag_of command)) s t → changes command (catalogue_of s) (capacity s) false ≡ true
tag_changes (Add name key) s t m = change_yes (applies (Add name key) (catalogue_of s)) (overflows (Add name key) (catalogue_of s) (capacity s)) m.answer
tag_changes (Put name key value) s t m =
    change_yes (applies (Put name key value) (catalogue_of s)) (overflows (Put name key value) (catalogue_of s) (capacity s)) m.answer
tag_changes (Del name key) s t m = change_yes (applies (Del name key) (catalogue_of s)) (overflows (Del name key) (catalogue_of s) (capacity s)) m.answer
tag_changes (Has name key) s t m = absurd m
tag_changes (Get name key) s t m = absurd m
tag_changes (Move source target key) s t m =
    change_yes (applies (Move source target key) (catalogue_of s)) (overflows (Move source target key) (catalogue_of s) (capacity s)) m.answer
tag_changes (Pair first second key) s t m = absurd m
tag_changes (Size name) s t m = absurd m
tag_changes (Next name key) s t m = absurd m

-- What a commit of a command does: the command has something to change, and changes it.
pub record Does (command : Command) (before after : State) : Type 0 where
  pub makes : Makes command before after
  pub changes_it : changes command (catalogue_of before) (capacity before) false ≡ true

-- an allowed commit with a command's tag does what the command does
pub commit_does : (start : State) (es : List Entry) (i : ℕ) (c : Commit) (command : Command) → IsAllowed IsSetCommit start es
    → slice_get es i ≡ Some (Change c) → c.tag ≡ tag_of command → Does command (state_at start es i) (state_at start es (suc i))
commit_does start es i c command allowed there tagged =
    let made = allowed (take i es) (drop (suc i) es) c (split_at es i (Change c) there) in
    let some = subst (λ tag. MakesSome (command_of tag) (state_at start es i) (written (state_at start es i) c.writes)) tagged made.makes in
    rw (state_next start es i (Change c) there) record {
      makes = tag_means command _ _ some;
      changes_it = tag_changes command _ _ some;
    }
