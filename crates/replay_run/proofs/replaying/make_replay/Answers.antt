use Rattle.script_files.specs.replay_rules.Plans.{plan_of}
use Rattle.replay_run.proofs.replaying.make_replay.Goals as goal

pub returns-clause-made : goal.returns-clause-made
returns-clause-made g c =
    record {
      plan = plan_of c.in_ok-plan.plan;
      files = c.in_ok-plan.ensures.stop;
      printed = c.in_ok-replay.ensures.exact;
      ruled = c.in_ok-replay.ensures.ruled;
    }
