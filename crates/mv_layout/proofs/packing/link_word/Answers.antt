use Rattle.std.proofs.Common.{refl}
use Rattle.mv_layout.proofs.Unpacking.{link_packed, link_seat_back, link_position_back}
use Rattle.mv_layout.proofs.packing.link_word.Goals as goal

pub returns-clause-word : goal.returns-clause-word
returns-clause-word c = refl

pub returns-clause-link : goal.returns-clause-link
returns-clause-link c = link_packed c.args.seat c.args.position c.requires.seat c.requires.position

pub returns-clause-seat : goal.returns-clause-seat
returns-clause-seat c = link_seat_back c.args.seat c.args.position c.requires.position

pub returns-clause-position : goal.returns-clause-position
returns-clause-position c = link_position_back c.args.seat c.args.position c.requires.position
