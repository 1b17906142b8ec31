use Rattle.std.proofs.Common.{rules, refl}
use Rattle.seat_log.specs.mv_core.Passes.{view, config_of}
use Rattle.log_reclaim.proofs.looks.CutBacks.{may_cut, has_cut, cut_waits, open_cut, has_lost, open_lost}
use Rattle.log_reclaim.proofs.writing_back.back_cut.Goals as goal

pub cut_head-requires : goal.cut_head-requires
cut_head-requires g c κs within = (
  search rules,
  (
    search rules,
    (
      search rules,
      (
        c.requires.writing.in_range,
        may_cut (config_of c.args.shared.now) (view c.args.pass.now) c.args.back.now c.requires.writing c.requires.stored,
      ),
    ),
  ),
)

pub returns-in-Won-clause-ends : goal.returns-in-Won-clause-ends
returns-in-Won-clause-ends g c =
    has_cut (config_of c.args.shared.now) (view c.args.pass.now) c.args.back.now c.requires.writing (view c.cut_head.new.pass) (c.in-Won.ensures.view.0 refl)

pub returns-in-Won-clause-next : goal.returns-in-Won-clause-next
returns-in-Won-clause-next g c = λ e.
    cut_waits (config_of c.args.shared.now) (view c.args.pass.now) c.args.back.now c.requires.writing (view c.cut_head.new.pass) (c.in-Won.ensures.view.0 refl)

pub returns-in-Won-clause-open : goal.returns-in-Won-clause-open
returns-in-Won-clause-open g c =
    open_cut (config_of c.args.shared.now) (view c.args.pass.now) c.args.back.now c.requires.writing (view c.cut_head.new.pass) (c.in-Won.ensures.view.0 refl)

pub link_seat-requires : goal.link_seat-requires
link_seat-requires g c = (c.in-Found.ensures.link c.in-Found.ensures.swap (c.in-Found.ensures.other c.in-Found.ensures.swap).0).0

pub returns-in-Found-clause-ends : goal.returns-in-Found-clause-ends
returns-in-Found-clause-ends g c =
    has_lost (config_of c.args.shared.now) (view c.args.pass.now) c.args.back.now c.requires.writing (view c.cut_head.new.pass) c.in-Found.link
    c.link_seat.result (c.in-Found.ensures.view.1 c.in-Found.ensures.swap) c.link_seat.ensures c.in-Found.ensures.swap
    (c.in-Found.ensures.link c.in-Found.ensures.swap) (c.in-Found.ensures.other c.in-Found.ensures.swap)
    (c.in-Found.ensures.newer c.in-Found.ensures.swap)

pub returns-in-Found-clause-open : goal.returns-in-Found-clause-open
returns-in-Found-clause-open g c =
    open_lost (config_of c.args.shared.now) (view c.args.pass.now) c.args.back.now c.requires.writing (view c.cut_head.new.pass) c.in-Found.link
    (c.in-Found.ensures.view.1 c.in-Found.ensures.swap)
