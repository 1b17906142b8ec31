use Rattle.std.proofs.Common.{◌≡◌, ◌-◌, ◌<◌, List, length, slice_set, refl, sym, ap, ◌∙◌, subst, arith}
use Rattle.seat_log.specs.declared.version.Note.{Note}
use Rattle.seat_log.specs.Notes.{Noted, at_place, IsLive, IsLog, retired}
use Rattle.seat_log.specs.contracts.log.Log.{the_view}
use Rattle.seat_log.proofs.Places.{at_set}
use Rattle.seat_log.proofs.Noting.{renoted_is_log}
use Rattle.seat_log.proofs.notes.retire.Goals as goal

module _ (c : goal.After-log-1) where
  l : Noted
  l = the_view c.log.inside

  -- the note is in its place
  within : c.args.position - c.log.inside.freed < length c.log.inside.live.items
  within = let live : IsLive (the_view c.log.inside) c.args.position =
      subst (λ (m : Noted). IsLive m c.args.position) (sym c.log.view_is) c.requires.live in let low = live.0 in let high = live.1 in omega arith

  items : slice_set c.log.inside.live.items (c.args.position - c.log.inside.freed) (record c.index_mut.result.now { dead = c.args.dead })
      ≡ at_place (λ n. record n { dead = c.args.dead }) (c.args.position - c.log.inside.freed) c.log.inside.live.items
  items =
      ap (λ (n : Note). slice_set c.log.inside.live.items (c.args.position - c.log.inside.freed) (record n { dead = c.args.dead })) c.index_mut.ensures.value
      ∙ at_set (λ n. record n { dead = c.args.dead }) (c.args.position - c.log.inside.freed) c.log.inside.live.items c.index_mut.result.now within

pub invariant_of-log : goal.invariant_of-log
invariant_of-log c =
    let l : Noted = the_view c.log.inside in (
      c.log.invariant.0,
      subst (λ (ns : List Note). IsLog (record l { live = ns })) (sym (items c))
          (renoted_is_log l (λ n. record n { dead = c.args.dead }) (c.args.position - c.log.inside.freed) (λ n. (refl, refl)) c.log.invariant.1),
    )

pub returns : goal.returns
returns c =
    let l : Noted = the_view c.log.inside in
    ap (λ (ns : List Note). record l { live = ns }) (items c) ∙ ap (λ (m : Noted). retired m c.args.position c.args.dead) c.log.view_is
