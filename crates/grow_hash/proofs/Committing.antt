-- When a command's commit is one of a growing hash set.
use Rattle.set_model.proofs.Replying.{overflows-fits, Works, works}
use Rattle.set_model.specs.Catalogue.{cost}
use Rattle.std.proofs.Common.{◌≡◌, ◌≤◌}
use Rattle.grow_hash.proofs.Terms.{true, false, length, sym, ap, ◌∙◌, subst, arith, Some, State, Writes, written, words_at, length-written, Command, changed}
use Rattle.grow_hash.proofs.Terms.{applies, overflows, tag_of, grown_catalogue, grown_capacity, makes, growing_of, KeepsGrown, Grows, IsGrowCommit, ℕ}
use Rattle.grow_hash.proofs.GrownStates.{lawful_fits}

-- What a commit leaves that keeps what it must has room in the nodes.
pub commit_room : (levels : ℕ) (command : Command) (s : State) (ws : Writes) → KeepsGrown levels s (written s ws)
    → grown_catalogue levels (written s ws) ≡ changed command (grown_catalogue levels s)
    → overflows command (grown_catalogue levels s) (grown_capacity levels s) ≡ false
commit_room levels command s ws keeps leaves =
    let fits : cost (grown_catalogue levels (written s ws)) ≤ grown_capacity levels (written s ws) = lawful_fits levels (written s ws) keeps.lawful_after in
    let same : length (written s ws) ≡ length s = length-written s ws in
    let q : cost (grown_catalogue levels (written s ws)) ≡ cost (changed command (grown_catalogue levels s)) = ap cost leaves in
    overflows-fits command (grown_catalogue levels s) (grown_capacity levels s) (omega arith)

-- A commit that keeps what it must, keeps the table and leaves the command's catalogue is one.
pub grow_commit : (levels : ℕ) (command : Command) (s : State) (ws : Writes) → growing_of (tag_of command) ≡ Some (makes command)
    → KeepsGrown levels s (written s ws)
    → words_at (written s ws) 0 ≡ words_at s 0 → applies command (grown_catalogue levels s) ≡ true
    → grown_catalogue levels (written s ws) ≡ changed command (grown_catalogue levels s) → IsGrowCommit levels (tag_of command) s ws
grow_commit levels command s ws tagged keeps table does leaves =
    let w : Works command (grown_catalogue levels s) (grown_capacity levels s) =
    works command (grown_catalogue levels s) (grown_capacity levels s) does (commit_room levels command s ws keeps leaves) in
    record {
      keeps = keeps;
      grows = subst (λ u. Grows levels u s (written s ws) ws) (sym tagged) (record { answer = w.answer; leaves = leaves ∙ sym w.leaves; table = table });
    }
