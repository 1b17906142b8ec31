use Rattle.std.proofs.Common.{rules}
use Rattle.script_gen.proofs.Texts.{reads_back, is_short}
use Rattle.script_gen.proofs.script.text.Goals as goal

pub returns-clause-read_back : goal.returns-clause-read_back
returns-clause-read_back c =
    let commands = c.in_ok-commands in
    reads_back c.args.number c.args.seat commands.commands.items c.into_bytes.result.items c.requires
    commands.ensures.drawn commands.ensures.count (search rules)

pub returns-clause-short : goal.returns-clause-short
returns-clause-short c =
    let commands = c.in_ok-commands in
    is_short c.args.number c.args.seat commands.commands.items c.into_bytes.result.items c.requires
    commands.ensures.drawn commands.ensures.count (search rules)
