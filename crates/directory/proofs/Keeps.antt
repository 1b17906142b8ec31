-- Moves keep the directory, and what its objects say beside their links.
use Rattle.std.proofs.Common.{◌≡◌, ◌≢◌, ℕ, List, refl, ap, ◌∙◌, arith}
use Rattle.mv_history.specs.State.{State, Writes, written}
use Rattle.mv_history.specs.Meaning.{words_at}
use Rattle.mv_history.proofs.Writing.{length-written}
use Rattle.mv_client.specs.Invariants.{IsKept}
use Rattle.mv_client.proofs.Keeping.{kept_written, written_first, written_second, written_third, written_none}
use Rattle.mv_client.proofs.LinkedMoves.{moved}
use Rattle.directory.specs.Layout.{link_of, details_of}
use Rattle.directory.specs.Ring.{next_of, IsDirectory}
use Rattle.directory.specs.Moves.{before_in, user_in, shelf_in, move_writes, IsMove}

pub details_move : {tag : List ℕ} {s : State} {ws : Writes} → IsMove tag s ws → (o : ℕ)
    → details_of (words_at (written s ws) o) ≡ details_of (words_at s o)
details_move {tag = tag} {s = s} m o = rw m.moves (kept_written details_of s (move_writes tag s)
    (omega (arith, m.many, m.from), refl, (omega (arith, m.many, m.below), refl, (omega (arith, m.many, m.shelf), refl, tt))) o)

pub move_keeps : IsKept IsMove IsDirectory
move_keeps tag s ws m d =
    let apart : user_in tag ≢ shelf_in tag = λ e. omega (arith, e, m.user, m.shelf) in
    let at : (o : ℕ) → next_of (written s ws) o ≡ next_of (written s (move_writes tag s)) o = λ o.
    ap (λ v. next_of (written s v) o) m.moves in (
      length-written s ws ∙ m.many,
      _,
      moved (next_of (written s ws)) d.2 (before_in tag) (user_in tag) (shelf_in tag) m.from m.below (omega (arith, m.shelf)) m.apart apart
          (λ e. omega (arith, e, m.user)) m.here
          (at (before_in tag) ∙ ap link_of (written_first s _ _ _ _ _ _ m.other m.apart apart (omega (arith, m.many, m.from))))
          (at (user_in tag) ∙ ap link_of (written_second s _ _ _ _ _ _ m.other m.apart apart (omega (arith, m.many, m.below))))
          (at (shelf_in tag) ∙ ap link_of (written_third s _ _ _ _ _ _ m.other m.apart apart (omega (arith, m.many, m.shelf))))
          (λ o a b c. at o ∙ ap link_of (written_none s _ _ _ _ _ _ m.other m.apart apart o a b c)),
    )
