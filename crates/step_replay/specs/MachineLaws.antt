-- What holds of each machine behind any steps.
use Rattle.std.specs.Prelude.{◌≡◌, List}
use Rattle.mv_core.specs.declared.shared.Opening.{Opening}
use Rattle.step_replay.specs.declared.machine.Machine.{Machine}
use Rattle.replay_text.specs.replay_rules.States.{zeros, Made}
use Rattle.replay_text.specs.replay_rules.ReplayLaws.{IsRuled}
use Rattle.step_replay.specs.Machines.{IsBehind}

-- The words of each machine, behind any steps, in a domain of its numbers whose objects were all zeros, are a table of the core's rule.
abbrev pub ReplaysAreRuled : Type 0
ReplaysAreRuled =
    (key : Opening) (machine : Machine) (made : List Made) → key.config ≡ machine.config → key.start.value.items ≡ zeros machine.config
    → IsBehind machine made → IsRuled key machine.config machine.words.items made
