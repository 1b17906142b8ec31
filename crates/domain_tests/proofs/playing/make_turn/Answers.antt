use Rattle.std.proofs.Common.{◌-◌, arith}
use Rattle.mvrlu.specs.Meant.{numbers_of}
use Rattle.mvrlu.proofs.Orders.{falling_set}
use Rattle.domain_tests.specs.Clients.{seat_in}
use Rattle.domain_tests.proofs.Places.{there}
use Rattle.domain_tests.proofs.playing.make_turn.Goals as goal

pub returns-clause-falling : goal.returns-clause-falling
returns-clause-falling c =
    let d = c.args.domain.now in
    let place = c.len-2.result - 1 - c.args.seat in
    let clients = c.args.clients.now.items in
    let old = c.index_mut.result.now in
    let first = c.len.ensures in
    let second = c.len-2.ensures in
    let less = c.if-seat-len.false in
    let long = c.args.clients.now.ok.0 in
    falling_set seat_in d (numbers_of d).seats place clients old c.make.new.client
    (there clients place _ old c.index_mut.ensures.value (omega arith)) c.make.ensures c.requires.falling
