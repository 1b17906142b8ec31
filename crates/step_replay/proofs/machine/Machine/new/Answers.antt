use Rattle.replay_text.proofs.replay_rules_lemmas.Machines.{shows_opened}
use Rattle.step_replay.proofs.machine.Machine.new.Goals as goal

pub returns-clause-behind : goal.returns-clause-behind
returns-clause-behind c =
    record { each = tt; shows = shows_opened c.args.config.now c.requires.checked c.in_ok-words.words.items c.in_ok-words.ensures }
