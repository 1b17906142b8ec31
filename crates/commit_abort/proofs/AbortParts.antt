-- An abort goes on from one of its parts to the next.
use Rattle.std.proofs.Common.{◌≡◌, ◌≢◌, ℕ, zero, suc, ◌+◌, ◌≤◌, List, length, refl, subst, sym, arith, None}
use Rattle.mv_history.specs.State.{State, Writes}
use Rattle.mv_layout.specs.declared.Config.{Config}
use Rattle.seat_log.specs.mv_core.declared.view.Knowledge.{Knowledge}
use Rattle.seat_log.specs.mv_core.declared.view.OwnSection.{OwnSection}
use Rattle.seat_log.specs.mv_core.Known.{Known}
use Rattle.seat_log.specs.mv_core.EnterSteps.{MayClearMark, mark_cleared}
use Rattle.seat_log.specs.declared.version.Note.{Note}
use Rattle.seat_log.specs.Notes.{Noted, held_from, IsNoteAt, aborted_noted}
use Rattle.seat_log.specs.Stands.{Stands}
use Rattle.commit_abort.specs.Aborts.{IsOpen, Unlocks, MayGiveBack, GivesBack, IsAborting, held_number, LoadsDeath, HasGivenUp, Aborts, abort_cost}
use Rattle.commit_abort.proofs.Unlocking.{unlocks_first, may_give, unlocks_more}
use Rattle.commit_abort.proofs.Aborted.{may_end, clear_timed, ended_timed, ended_none}
use mathlib.Core.Logic.{dite}
use native.Mathlib.Decide.{ℕ_discrete}

-- an open section has given nothing back yet
pub abort_begins : (c : Config) (v : Knowledge) (l : Noted) (inside : OwnSection) → IsOpen v inside → Stands c v l → l.built ≡ None → IsAborting c v v l 0
abort_begins c v l inside opened stands unbuilt =
    let at : held_from l ≡ held_from l + 0 = omega arith in record {
      inside = inside;
      opened = opened;
      stands = stands;
      unbuilt = unbuilt;
      unlocks = subst (Unlocks c v v l inside) at (unlocks_first c v l inside stands opened);
    }

module _ (c : Config) (from v : Knowledge) (l : Noted) (given : ℕ) (k : IsAborting c from v l given) where
  -- HEAD of the next object may be given back
  pub next_may : (n : Note) → IsNoteAt l (held_from l + given) n → (starts : State → Type 0) (allows : List ℕ → State → Writes → Type 0)
      → ∥ Known starts allows v ∥₁ → length v.start ≡ c.objects → MayGiveBack c v n (held_number c v l given)
  next_may n at = may_give c from l k.inside k.stands k.opened v (held_from l + given) n at (omega arith) k.unlocks

  -- and was
  pub goes_on : (w : Knowledge) (n : Note) → IsNoteAt l (held_from l + given) n → GivesBack c v w n (held_number c v l given)
      → IsAborting c from w l (given + 1)
  goes_on w n at gives =
      let next : held_from l + given + 1 ≡ held_from l + (given + 1) = omega arith in record {
        inside = k.inside;
        opened = k.opened;
        stands = k.stands;
        unbuilt = k.unbuilt;
        unlocks = subst (Unlocks c from w l k.inside) next
            (unlocks_more c from l k.inside k.stands k.opened v (held_from l + given) n at (omega arith) k.unlocks w gives);
      }

-- HEAD was given back of all
module _ (c : Config) (from v : Knowledge) (l : Noted) (k : IsAborting c from v l l.held) where
  pub given_all : Unlocks c from v l k.inside (length l.live)
  given_all = let few = k.stands.log.held in let all : held_from l + l.held ≡ length l.live = omega arith in subst (Unlocks c from v l k.inside) all k.unlocks

-- and the time of death was found
module _ (c : Config) (from v : Knowledge) (l : Noted) (dead : ℕ) (k : HasGivenUp c from v l dead) where
  abbrev a : IsAborting c from k.before l l.held
  a = k.aborting

  all : Unlocks c from k.before l a.inside (length l.live)
  all = given_all c from k.before l a

  pub end_may : MayClearMark v
  end_may =
      dite (ℕ_discrete l.held 0)
      (λ none. subst MayClearMark (sym (k.death.none none).0) (may_end c from l a.inside a.stands a.unbuilt k.before all))
      (λ some. let t = k.death.some some in clear_timed c from l a.inside a.stands a.unbuilt k.before all v t.word (t.history, t.whole, t.view))

  pub abort_ends : (w : Knowledge) (m : Noted) → w ≡ mark_cleared c v → m ≡ aborted_noted l dead → Aborts from w (abort_cost l.held) × Stands c w m
  abort_ends w m is noted =
      dite (ℕ_discrete l.held 0)
      (λ none.
      ended_none c from l a.inside a.stands a.unbuilt k.before all w m dead none
      (subst (λ (u : Knowledge). w ≡ mark_cleared c u) (k.death.none none).0 is) noted)
      (λ some.
      let t = k.death.some some in
      ended_timed c from l a.inside a.stands a.unbuilt k.before all v w m t.word dead some (t.history, t.whole, t.view) t.dead_is is noted)

-- how many steps an abort has made, at its start, after one version more, and at its end
pub none_cost : (a : ℕ) → a ≤ a + 0
none_cost a = omega arith

pub given_cost : (a b d which : ℕ) → b ≤ a + which → d ≡ b + 1 → d ≤ a + (which + 1)
given_cost a b d which before one = omega arith

pub last_cost : (c : Config) (v w : Knowledge) (held dead a b d e which : ℕ) → which ≡ held → b ≤ a + which → LoadsDeath c v w held dead b d → e ≡ d + 1
    → e ≤ a + abort_cost held
last_cost c v w zero dead a b d e which all before death one = let still = (death.none refl).2 in omega arith
last_cost c v w (suc n) dead a b d e which all before death one =
    let ne : suc n ≢ 0 = omega arith in
    let loaded = (death.some ne).step in
    omega arith
