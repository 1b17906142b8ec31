-- Each machine behind steps is ruled.
use Rattle.std.proofs.Common.{◌≡◌, sym, ap, ◌∙◌, subst}
use Rattle.mv_core.proofs.Terms.{Checked, Shows}
use Rattle.replay_text.specs.replay_rules.States.{zeros, state_of, AreMade}
use Rattle.replay_text.specs.replay_rules.ReplayLaws.{IsRuled}
use Rattle.replay_text.proofs.replay_rules_lemmas.Ruled.{is_ruled}
use Rattle.step_replay.specs.MachineLaws.{ReplaysAreRuled}

pub replays_ruled : ReplaysAreRuled
replays_ruled key machine made numbers from behind =
    let back = sym numbers in
    subst (λ c. IsRuled key c machine.words.items made) numbers
    (is_ruled key (subst Checked back machine.checked) (from ∙ ap zeros back) made (subst (λ c. AreMade c made) back behind.each) machine.words.items
    (subst (λ c. Shows c machine.words.items (state_of c made).memory) back behind.shows))
