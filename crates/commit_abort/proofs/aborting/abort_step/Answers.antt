use Rattle.std.proofs.Common.{rules, ◌≡◌, ◌+◌, ◌-◌, length, sym, ap, ◌∙◌, subst, arith}
use Rattle.mv_layout.specs.declared.Config.{Config}
use Rattle.seat_log.specs.mv_core.Rings.{index_of}
use Rattle.seat_log.specs.mv_core.Passes.{view, config_of}
use Rattle.seat_log.specs.Notes.{held_from, IsNoteAt}
use Rattle.seat_log.proofs.NotedSlots.{note_there}
use Rattle.commit_abort.specs.Aborts.{held_in, MayGiveBack, GivesBack}
use Rattle.commit_abort.proofs.AbortParts.{next_may, goes_on}
use Rattle.commit_abort.proofs.aborting.abort_step.Goals as goal

pub unlock_one-requires : goal.unlock_one-requires
unlock_one-requires g c κs within =
    let l = c.args.log.now in
    let held = c.held.ensures.held in
    let few = c.held.ensures.few in
    let all = c.live.ensures in
    let lt = c.requires.range in
    let at : c.live.result - c.held.result + c.args.which ≡ held_from l + c.args.which = omega arith in
    let objects : length (view c.args.pass.now).start ≡ (config_of c.args.shared.now).objects =
    ap length c.requires.of.3 ∙ c.args.shared.now.opening ∙ ap (λ (d : Config). d.objects) (sym c.args.shared.now.about) in
    let k = c.requires.aborting in (
      search rules,
      (
        search rules,
        (
          search rules,
          (
            omega arith,
            λ n there.
                subst
                (λ i.
                MayGiveBack (config_of c.args.shared.now) (view c.args.pass.now) n
                (held_in (view c.args.pass.now) (index_of (config_of c.args.shared.now) (l.freed + i))))
                (sym at)
                (next_may (config_of c.args.shared.now) k.0 (view c.args.pass.now) l c.args.which k.1 n (subst (λ i. IsNoteAt l i n) at there) _ _
                c.args.pass.now.known objects),
          ),
        ),
      ),
    )

pub returns-clause-gives : goal.returns-clause-gives
returns-clause-gives g c =
    let l = c.args.log.now in
    let held = c.held.ensures.held in
    let few = c.held.ensures.few in
    let all = c.live.ensures in
    let at : c.live.result - c.held.result + c.args.which ≡ held_from l + c.args.which = omega arith in
    λ n there.
    subst
    (λ i.
    GivesBack (config_of c.args.shared.now) (view c.args.pass.now) (view c.unlock_one.new.pass) n
    (held_in (view c.args.pass.now) (index_of (config_of c.args.shared.now) (l.freed + i))))
    at
    (c.unlock_one.ensures.gives n (subst (λ i. IsNoteAt l i n) (sym at) there))

pub returns-clause-aborting : goal.returns-clause-aborting
returns-clause-aborting g c = λ from k.
    let l = c.args.log.now in
    let held = c.held.ensures.held in
    let few = c.held.ensures.few in
    let all = c.live.ensures in
    let lt = c.requires.range in
    let n = note_there l.live (held_from l + c.args.which) (omega arith) in
    goes_on (config_of c.args.shared.now) from (view c.args.pass.now) l c.args.which k (view c.unlock_one.new.pass) n.0 n.1 (returns-clause-gives g c n.0 n.1)
