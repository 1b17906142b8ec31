-- What a section of a directory shows, and what its states have.
use Rattle.std.proofs.Common.{◌≡◌, ℕ, ◌+◌, ◌^◌, ◌<◌, length, refl, sym, ap, subst, ◌∙◌, arith}
use Rattle.mv_history.specs.State.{State, state_at}
use Rattle.mv_history.specs.Meaning.{Seat, InSection, IsSeat, IsSection, state_of, words_at}
use Rattle.mv_history.specs.Calls.{Continues, Enters, IsAsBefore, Leaves}
use Rattle.mv_history.proofs.Steps.{Continues-Continues, length-seen, state_at-later}
use Rattle.section_work.proofs.Entering.{reads_snapshot}
use Rattle.mv_history.proofs.Kept.{keeps_at}
use Rattle.directory.specs.declared.rules.TheConstants.{OBJECTS}
use Rattle.directory.specs.declared.layout.DirectoryNode.{DirectoryNode}
use Rattle.directory.specs.declared.reading.Seen.{Seen}
use Rattle.mv_client.proofs.Linked.{next_below}
use Rattle.directory.specs.Layout.{details_of}
use Rattle.directory.specs.Ring.{node_at, next_of, IsUser, IsOn, IsPlaced, IsDirectory}
use Rattle.directory.specs.Moves.{IsOpening, IsMove}
use Rattle.directory.specs.Reads.{IsSeen}
use Rattle.directory.proofs.Keeps.{move_keeps, details_move}
use Rattle.directory.proofs.Opens.{opened}
use Rattle.directory.proofs.Placed.{placed}

pub placed_at : (s : Seat) → IsSeat IsOpening IsMove s → (t user : ℕ) → IsUser user → user < OBJECTS → IsPlaced (state_at s.start s.seen t) user
placed_at s lawful t user is below =
    let d = keeps_at IsMove IsDirectory move_keeps IsOpening s lawful (opened s.start lawful.start) t in placed d user is below

pub details_at : (s : Seat) → IsSeat IsOpening IsMove s → (t o : ℕ) → details_of (words_at (state_at s.start s.seen t) o) ≡ details_of (words_at s.start o)
details_at s lawful t o =
    keeps_at IsMove (λ u. details_of (words_at u o) ≡ details_of (words_at s.start o)) (λ tag u ws m e. details_move m o ∙ e) IsOpening s lawful
    refl t

-- each object of a directory can be read, and says a node
pub readable : {s u : State} {o : ℕ} → IsDirectory s → u ≡ s → o < OBJECTS → (o < length u) × (next_of u o < 2 ^ 32)
readable {o = o} d same below =
    (omega (arith, below, d.0, ap length same), omega (arith, ap (λ (v : State). next_of v o) same, next_below d.2 o below))

-- the link of a node that was read
pub link_read : {s u : State} {n : DirectoryNode} (o : ℕ) → n ≡ node_at u o → u ≡ s → n.next ≡ next_of s o
link_read o read same = ap (λ (n : DirectoryNode). n.next) read ∙ ap (λ (v : State). next_of v o) same

-- what a section showed which then left
pub seen_by : (took : Seat → InSection → Type 0) (old new : Seat) (s t : InSection) (u : State) (user : ℕ) (seen : Seen) → Enters old s → took old s
    → u ≡ state_of s → IsSection IsOpening IsMove s → IsAsBefore s t → Leaves t new → seen.time ≡ s.seat.base + s.at → IsOn u seen.shelf user
    → seen.id ≡ (node_at u user).id → IsSeen took old new user seen
seen_by took old new s t u user seen e taken read h same left time_is on id_is =
    let goes : Continues s.seat new = Continues-Continues same.seat.continues left.continues in
    let there : u ≡ state_at new.start new.seen s.at = read ∙ reads_snapshot s e.own ∙ sym (state_at-later goes s.at h.at) in record {
      entered = s;
      enters = e;
      took_is = taken;
      leaves = goes;
      mine = left.mine ∙ same.seat.mine ∙ e.seat.mine;
      within = omega (arith, h.at, length-seen goes);
      time_is = omega (arith, time_is, goes.base);
      on = subst (λ (v : State). IsOn v seen.shelf user) there on;
      id_is = id_is ∙ ap (λ (v : State). (node_at v user).id) there;
    }
