-- That the rules are propositions, as a `Protocol` asks, and that a commit of a move makes it.
use Rattle.std.proofs.Common.{◌≡◌, ◌≢◌, ℕ, ◌<◌, ◌≤◌, List, length, map, sym, ap, ◌∙◌, arith}
use Rattle.std.specs.Coded.{Coded-set, coded_ℕ, coded_list}
use Rattle.std.proofs.Props.{props}
use Rattle.directory.specs.declared.rules.TheConstants.{OBJECTS, SHELVES}
use Rattle.mv_history.specs.State.{State, Writes, written}
use Rattle.mv_client.specs.Rules.{Writes-set}
use Rattle.mv_client.proofs.Keeping.{written_third}
use Rattle.directory.specs.Layout.{link_of}
use Rattle.directory.specs.Ring.{next_of}
use Rattle.directory.specs.Moves.{IsOpening, before_in, user_in, shelf_in, IsMove, PlansMove}

pub IsOpening-prop : (s : State) → IsProp (IsOpening s)
IsOpening-prop s = Coded-set (coded_list coded_ℕ) (map link_of s) _

pub IsMove-prop : (tag : List ℕ) (before : State) (writes : Writes) → IsProp (IsMove tag before writes)
IsMove-prop tag before writes x y =
    let many_prop : IsProp (length before ≡ OBJECTS) = hlevel props in
    let from_prop : IsProp (before_in tag < OBJECTS) = hlevel props in
    let user_prop : IsProp (SHELVES ≤ user_in tag) = hlevel props in
    let below_prop : IsProp (user_in tag < OBJECTS) = hlevel props in
    let shelf_prop : IsProp (shelf_in tag < SHELVES) = hlevel props in
    let apart_prop : IsProp (before_in tag ≢ shelf_in tag) = hlevel props in
    let other_prop : IsProp (before_in tag ≢ user_in tag) = hlevel props in
    let here_prop : IsProp (next_of before (before_in tag) ≡ user_in tag) = hlevel props in
    λ i. record {
      many = many_prop x.many y.many i;
      from = from_prop x.from y.from i;
      user = user_prop x.user y.user i;
      below = below_prop x.below y.below i;
      shelf = shelf_prop x.shelf y.shelf i;
      apart = apart_prop x.apart y.apart i;
      other = other_prop x.other y.other i;
      here = here_prop x.here y.here i;
      moves = Writes-set writes _ x.moves y.moves i;
    }

-- the shelf leads to the user
pub makes_move : (user shelf : ℕ) (s before : State) (tag : List ℕ) (ws : Writes) → PlansMove user shelf s tag ws → IsMove tag before ws
    → next_of (written before ws) shelf ≡ user
makes_move user shelf s before tag ws p m =
    let apart : user_in tag ≢ shelf_in tag = λ e. omega (arith, e, m.user, m.shelf) in
    ap (next_of (written before ws)) (sym p.shelf_is) ∙ ap (λ (v : Writes). next_of (written before v) (shelf_in tag)) m.moves
    ∙ ap link_of (written_third before _ _ _ _ _ _ m.other m.apart apart (omega (arith, m.many, m.shelf))) ∙ p.user_is
