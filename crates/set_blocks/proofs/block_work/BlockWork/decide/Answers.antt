use Rattle.std.proofs.Common.{take, length-take, ap, arith}
use Rattle.set_blocks.proofs.Deciding.{lawful_here, settled_found, change_found}
use Rattle.set_blocks.proofs.block_work.BlockWork.decide.Goals as goal

pub find_block-found-requires-clause-lawful : goal.find_block-found-requires-clause-lawful
find_block-found-requires-clause-lawful g c = rw c.over-overlay.ensures.view (lawful_here _ _ _ c.requires.here.1)

pub returns-in-Settled-clause-found : goal.returns-in-Settled-clause-found
returns-in-Settled-clause-found g c =
    settled_found (g.V.View.state c.over-overlay.result.view) (g.V.View.state c.args.view) c.commands.result.now c.args.self.now
    c.in-Settled.replies (ap g.V.View.state c.over-overlay.ensures.view) c.commands.ensures.commands c.in-Settled.ensures.found

pub returns-in-Open-clause-found : goal.returns-in-Open-clause-found
returns-in-Open-clause-found g c =
    let o = c.find_block-found.new.overlay in
    change_found (g.V.View.state c.over-overlay.result.view) (g.V.View.state c.args.view) c.commands.result.now c.args.self.now (take o.count o.writes)
    _ c.in-Open.reply (ap g.V.View.state c.over-overlay.ensures.view) c.commands.ensures.commands c.into_parts-view.ensures.planned
    c.commands.ensures.block (lawful_here _ _ _ c.requires.here.1)
    (omega (arith, length-take o.count o.writes, c.find_block-found.ensures.count)) c.in-Open.ensures.found
