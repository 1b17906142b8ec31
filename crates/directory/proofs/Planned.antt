-- What a move plans in a section that holds nothing.
use Rattle.std.proofs.Common.{◌≡◌, ◌≢◌, ℕ, ◌-◌, ◌<◌, List, [], ◌∷◌, length, refl, sym, ap, ◌∙◌, subst, arith}
use Rattle.std.proofs.lemmas.Bool.Decides.{nat_tests}
use Rattle.mv_history.specs.State.{State, Writes}
use Rattle.mv_history.specs.Legal.{AreWithin}
use Rattle.mv_history.specs.Drift.{IsFit}
use Rattle.mv_history.specs.Meaning.{InSection, IsSection, state_of}
use Rattle.section_work.specs.Works.{IsPlanned}
use Rattle.section_work.proofs.Entering.{reads_snapshot}
use Rattle.mv_history.proofs.Kept.{keeps_in}
use Rattle.mv_client.proofs.Fits.{fit_by_held}
use Rattle.mv_client.proofs.Keeping.{three_distinct}
use Rattle.directory.specs.declared.moving.Whereabouts.TheVariants.{Away}
use Rattle.directory.specs.declared.layout.DirectoryNode.{DirectoryNode}
use Rattle.directory.specs.Layout.{link_of, words_of, with_link}
use Rattle.directory.specs.Ring.{node_at, IsDirectory, IsBefore}
use Rattle.directory.specs.Moves.{IsOpening, before_in, user_in, shelf_in, IsMove, IsMoving, move_meaning, tag_of_plan}
use Rattle.directory.proofs.Keeps.{move_keeps}
use Rattle.directory.proofs.Opens.{opened}

-- what a section reads that holds nothing is a directory
pub directory_read : (s : InSection) (u : State) → u ≡ state_of s → s.own ≡ [] → IsSection IsOpening IsMove s → IsDirectory u
directory_read s u reads none lawful =
    subst IsDirectory (sym (reads ∙ reads_snapshot s none)) (keeps_in IsMove IsDirectory move_keeps IsOpening s lawful (opened s.seat.start lawful.seat.start))

-- a move depends on the three objects that it writes
move_fit : (tag : List ℕ) (from : State) (ws : Writes) → IsMove tag from ws → IsFit IsMove from tag ws
move_fit tag from ws m = fit_by_held IsMove from tag ws (λ s long held.
    let one = held (before_in tag) (rw m.moves (grind (arith, nat_tests))) in
    let two = held (user_in tag) (rw m.moves (grind (arith, nat_tests))) in
    let three = held (shelf_in tag) (rw m.moves (grind (arith, nat_tests))) in
    record {
      many = long ∙ m.many;
      from = m.from;
      user = m.user;
      below = m.below;
      shelf = m.shelf;
      apart = m.apart;
      other = m.other;
      here = ap link_of one ∙ m.here;
      moves = rw (one, two, three) m.moves;
    })

three_within : (a b c n : ℕ) (x y z : List ℕ) → a < n → b < n → c < n → AreWithin ((a, x) ∷ (b, y) ∷ (c, z) ∷ []) n
three_within a b c n x y z la lb lc o t = grind (arith, nat_tests)

pub planned : (s : State) (before user shelf : ℕ) (source node target : DirectoryNode) (first second third : List ℕ) → IsDirectory s → IsMoving user shelf
    → IsBefore s (1 - shelf) before user → source ≡ node_at s before → node ≡ node_at s user → target ≡ node_at s shelf
    → first ≡ words_of (with_link source node.next) → second ≡ words_of (with_link node target.next) → third ≡ words_of (with_link target user)
    → IsPlanned IsMove (move_meaning user shelf) s (tag_of_plan user shelf ((before, first) ∷ (user, second) ∷ (shelf, third) ∷ []))
    ((before, first) ∷ (user, second) ∷ (shelf, third) ∷ []) Away
planned s before user shelf source node target first second third d m b e1 e2 e3 f1 f2 f3 =
    let apart : before ≢ shelf = b.not_head shelf m.shelf_is (λ e. omega (arith, e, m.shelf_is)) in
    let us : user ≢ shelf = λ e. omega (arith, e, m.user_is, m.shelf_is) in
    let moves : IsMove (before ∷ user ∷ shelf ∷ 0 ∷ []) s ((before, first) ∷ (user, second) ∷ (shelf, third) ∷ []) = record {
      many = d.0;
      from = b.below;
      user = m.user_is;
      below = m.below;
      shelf = m.shelf_is;
      apart = apart;
      other = b.not_item;
      here = b.next_is;
      moves = rw (f1, f2, f3, e1, e2, e3) refl;
    } in record {
      plan = record { user_is = refl; shelf_is = refl; moves = moves };
      some = omega arith;
      few = omega arith;
      distinct = three_distinct before user shelf first second third b.not_item apart us;
      within = three_within before user shelf (length s) first second third (omega (arith, b.below, d.0)) (omega (arith, m.below, d.0))
          (omega (arith, m.shelf_is, d.0));
      fit = move_fit _ s _ moves;
    }
