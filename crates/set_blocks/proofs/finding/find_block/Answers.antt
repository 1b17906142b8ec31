use Rattle.set_blocks.proofs.Terms.{sym, subst, take, ◌∙◌, IsBlockFound}
use Rattle.set_blocks.specs.declared.finding.BlockFinding.{BlockFinding}
use Rattle.set_blocks.proofs.WholeTurns.{plan_found, full_found, alone_found, alone_first}
use Rattle.set_blocks.proofs.finding.find_block.Goals as goal

pub returns-in-Some-clause-found : goal.returns-in-Some-clause-found
returns-in-Some-clause-found g c =
    subst (λ (f : BlockFinding). IsBlockFound c.args.commands.now (g.V.View.state c.args.overlay.now.view)
    (take c.plan_turns.new.overlay.count c.plan_turns.new.overlay.writes) f) (sym c.found.ensures)
    (plan_found _ _ _ c.in-Some.turns c.requires.lawful c.in-Some.ensures.planned)

pub read_alone-reply-requires : goal.read_alone-reply-requires
read_alone-reply-requires g c =
    let first = alone_first c.args.commands.now c.index-commands-0.result c.requires.block (sym c.has_alone.ensures ∙ c.if-has_alone.true) in
    let alone = rw (← c.index-commands-0.is) at first in
    record { lawful = c.requires.lawful; alone = alone.1 }

pub returns-then-has_alone-clause-found : goal.returns-then-has_alone-clause-found
returns-then-has_alone-clause-found g c =
    let first = alone_first c.args.commands.now c.index-commands-0.result c.requires.block (sym c.has_alone.ensures ∙ c.if-has_alone.true) in
    let alone = rw (← c.index-commands-0.is) at first in
    alone_found (g.V.View.state c.args.overlay.now.view) c.args.commands.now c.index-commands-0.result
    (take c.args.overlay.now.count c.args.overlay.now.writes) c.read_alone-reply.result _ alone.0 alone.1 c.read_alone-reply.ensures.reply c.all.ensures

pub plan_turns-requires : goal.plan_turns-requires
plan_turns-requires g c = record {
  lawful = c.requires.lawful;
  none = c.requires.none;
  few = c.requires.block.few;
  apart = sym c.has_alone.ensures ∙ c.if-has_alone.false;
}

pub returns-in-None-clause-found : goal.returns-in-None-clause-found
returns-in-None-clause-found g c =
    full_found (g.V.View.state c.args.overlay.now.view) c.args.commands.now
    (take c.plan_turns.new.overlay.count c.plan_turns.new.overlay.writes) _ c.in-None.ensures.planned c.all-in-None.ensures
