use Rattle.std.proofs.lemmas.List.Elements.{All-set}
use Rattle.runtime_tests.specs.Clients.{IsPlayable}
use Rattle.runtime_tests.proofs.playing.make_turn.Goals as goal

pub returns-in_default : goal.returns-in_default
returns-in_default g c =
    record { ready = All-set (IsPlayable c.args.shared.now) c.args.clients.now.items _ c.make_next.new.client c.make_next.ensures.ready c.requires.ready }
