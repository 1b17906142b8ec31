-- Each user of a directory is on exactly one shelf.
use Rattle.std.proofs.Common.{◌≡◌, ℕ, zero, suc, ◌-◌, ◌<◌, ap, sym, subst, inl, inr, arith}
use Rattle.std.proofs.lemmas.Bool.{cases_eq, cases_lt}
use Rattle.directory.specs.declared.rules.TheConstants.{OBJECTS}
use Rattle.mv_history.specs.State.{State}
use Rattle.mv_client.proofs.Linked.{apart, head_apart, passes, on_head}
use Rattle.directory.specs.Ring.{IsUser, IsOn, IsPlaced, IsDirectory}
use Rattle.directory.specs.Moves.{IsMoving}

pub placed : {s : State} (d : IsDirectory s) (user : ℕ) → IsUser user → user < OBJECTS → IsPlaced s user
placed d user is below =
    let place = d.1 in
    let r = d.2 in
    let a0 = head_apart r 0 user (omega arith) is below in
    let a1 = head_apart r 1 user (omega arith) is below in record {
      on = elim (cases_lt (place user) (place 1)) [
        | inl l ↦ inl (on_head r 0 user (omega arith) below is (omega (arith, a0, r.first))
            (λ o head behind. elim (cases_eq o 0) [
              | inl e ↦ absurd (let z = ap place e in omega (arith, z, behind))
              | inr n ↦ let e : o ≡ 1 = omega (arith, n, head) in subst (λ x. place user < place x) (sym e) l
            ]))
        | inr ge ↦ inr (on_head r 1 user (omega arith) below is (omega (arith, a1, ge))
            (λ o head behind. absurd (elim (cases_eq o 0) [
              | inl e ↦ let z = ap place e in omega (arith, z, behind, r.first)
              | inr n ↦ let e : o ≡ 1 = omega (arith, n, head) in let z = ap place e in omega (arith, z, behind)
            ])))
      ];
      one = λ p q.
          let first = (passes r 0 user p.path (omega arith) is p.items p.leads).2 1 (omega arith) in
          let second = (passes r 1 user q.path (omega arith) is q.items q.leads).1 in
          let heads = apart r 0 1 (omega arith) (omega arith) (λ e. omega (arith, e)) in
          let l = first (omega (arith, heads, r.first)) in omega (arith, l, second);
    }

pub on_other : (s : State) (user : ℕ) → IsPlaced s user → (IsOn s 0 user → ⊥) → IsOn s 1 user
on_other s user p none = elim p.on [ inl on ↦ absurd (none on) | inr on ↦ on ]

-- a user that isn't on the one shelf is on the other
pub there : (s : State) (shelf user : ℕ) → IsDirectory s → IsMoving user shelf → (IsOn s (1 - shelf) user → ⊥) → IsOn s shelf user
there s zero user d m none = elim (placed d user m.user_is m.below).on [ inl on ↦ on | inr on ↦ absurd (none on) ]
there s (suc zero) user d m none = elim (placed d user m.user_is m.below).on [ inl on ↦ absurd (none on) | inr on ↦ on ]
there s (suc (suc shelf)) user d m none = absurd (omega (arith, m.shelf_is))
