use Rattle.std.proofs.Common.{rules, sym, subst, length}
use Rattle.grow_seats.specs.Opening.{AreOpened}
use Rattle.mvrlu_c.specs.TableOpening.{grown_of}
use Rattle.mvrlu_c.proofs.table_opening.open_all.Goals as goal

pub returns-in-Ok-give_seats : goal.returns-in-Ok-give_seats
returns-in-Ok-give_seats c =
    let given = c.in-Ok-give_seats.ensures.given in (
      search rules,
      given.0,
      subst (λ seats. AreOpened (grown_of c.args.options.now (length c.args.handles.now)) seats) (sym given.1) (search rules),
    )
