use Rattle.std.proofs.Common.{rules, ◌≡◌, ◌+◌, ◌-◌, sym, subst, arith}
use Rattle.seat_log.specs.mv_core.Rings.{index_of}
use Rattle.seat_log.specs.mv_core.Passes.{view, config_of}
use Rattle.seat_log.specs.Notes.{held_from, IsNoteAt}
use Rattle.seat_log.proofs.NotedSlots.{note_there}
use Rattle.commit_abort.specs.Finishes.{above_at, MayTell, TellsOne}
use Rattle.commit_abort.proofs.FinishParts.{next_may, goes_on}
use Rattle.commit_abort.proofs.finishing.finish_step.Goals as goal

pub store_super_below-requires : goal.store_super_below-requires
store_super_below-requires g c κs within =
    let l = c.args.log.now in
    let held = c.held.ensures.held in
    let few = c.held.ensures.few in
    let all = c.live.ensures in
    let lt = c.requires.range in
    let at : c.live.result - c.held.result + c.args.which ≡ held_from l + c.args.which = omega arith in
    let k = c.requires.finishing in (
      search rules,
      (
        search rules,
        (
          search rules,
          (
            omega arith,
            λ n there.
                subst
                (λ i.
                MayTell (config_of c.args.shared.now) (view c.args.pass.now) n c.args.time
                (above_at (view c.args.pass.now) (index_of (config_of c.args.shared.now) (l.freed + i))))
                (sym at)
                (next_may (config_of c.args.shared.now) k.0 (view c.args.pass.now) l c.args.time c.args.which k.1 n
                (subst (λ i. IsNoteAt l i n) at there)),
          ),
        ),
      ),
    )

pub returns-clause-tells : goal.returns-clause-tells
returns-clause-tells g c =
    let l = c.args.log.now in
    let held = c.held.ensures.held in
    let few = c.held.ensures.few in
    let all = c.live.ensures in
    let at : c.live.result - c.held.result + c.args.which ≡ held_from l + c.args.which = omega arith in
    λ n there.
    subst
    (λ i.
    TellsOne (config_of c.args.shared.now) (view c.args.pass.now) (view c.store_super_below.new.pass) n c.args.time c.args.steps.now
    c.store_super_below.new.steps (above_at (view c.args.pass.now) (index_of (config_of c.args.shared.now) (l.freed + i))))
    at
    (c.store_super_below.ensures.tells n (subst (λ i. IsNoteAt l i n) (sym at) there))

pub returns-clause-finishing : goal.returns-clause-finishing
returns-clause-finishing g c = λ from k.
    let l = c.args.log.now in
    let held = c.held.ensures.held in
    let few = c.held.ensures.few in
    let all = c.live.ensures in
    let lt = c.requires.range in
    let n = note_there l.live (held_from l + c.args.which) (omega arith) in
    (goes_on (config_of c.args.shared.now) from (view c.args.pass.now) l c.args.time c.args.which k (view c.store_super_below.new.pass) n.0 _ _ n.1
    (returns-clause-tells g c n.0 n.1)).0

pub returns-clause-cost : goal.returns-clause-cost
returns-clause-cost g c =
    let l = c.args.log.now in
    let held = c.held.ensures.held in
    let few = c.held.ensures.few in
    let all = c.live.ensures in
    let lt = c.requires.range in
    let k = c.requires.finishing in
    let n = note_there l.live (held_from l + c.args.which) (omega arith) in
    (goes_on (config_of c.args.shared.now) k.0 (view c.args.pass.now) l c.args.time c.args.which k.1 (view c.store_super_below.new.pass) n.0 _ _ n.1
    (returns-clause-tells g c n.0 n.1)).1
