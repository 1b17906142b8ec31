-- What a read of a section's snapshot leaves: a walk to where it reads an object, and the loads of some of its words.
use Rattle.std.proofs.Common.{◌≡◌, ℕ, ◌+◌, ◌-◌, ◌*◌, ◌≤◌, false, length, refl, ap, ◌∙◌, subst}
use Rattle.mv_history.specs.declared.Protocol.{Ghosts}
use Rattle.mv_history.specs.declared.StepKind.{StepKind}
use Rattle.mv_history.specs.Trail.{is_commit_exchange}
use Rattle.mv_history.specs.Meaning.{IsSection, snapshot_of, words_at}
use Rattle.mv_layout.specs.declared.Config.{Config}
use Rattle.object_lock.specs.mv_core.declared.shared.Shared.{Shared}
use Rattle.object_lock.specs.mv_core.declared.shared.Pass.{Pass}
use Rattle.object_lock.specs.mv_core.declared.view.Knowledge.{Knowledge}
use Rattle.object_lock.specs.mv_core.Passes.{view, config_of, IsSame}
use Rattle.object_lock.specs.version_chain.Walks.{Walks, MayWalk, snapshot_length}
use Rattle.object_lock.specs.version_chain.Reads.{ReadsSome, words_in}
use Rattle.object_lock.proofs.seat_log_lemmas.OwnSlots.{same_on}
use Rattle.object_lock.proofs.seat_log_lemmas.PlainSteps.{LeavesLog}
use Rattle.mvrlu.specs.declared.places.SeatState.{SeatState}
use Rattle.mvrlu.specs.Placed.{Placed, placed, section_from, seat_from, Fits, IsBusy}
use Rattle.mvrlu.specs.Standing.{Stays}
use Rattle.mvrlu.specs.Bounds.{MakesAtMost}
use Rattle.mvrlu.proofs.Names.{fits_on}
use Rattle.mvrlu.proofs.Lawful.{section_lawful}
use Rattle.mvrlu.proofs.LockMeant.{snapshot_words}
use Rattle.mvrlu.proofs.ReadMeant.{Looks, walked, looked, look_continues, look_stays, look_busy, look_bound}
use Rattle.mvrlu.proofs.Behind.{Lent}

-- a read of so many words came from the first place of a section to the second, by a walk that ended with this pass
pub record HasReadBelow {P : Type 0} {g : Ghosts P} (s : Shared P) (old new : Placed) (found : Pass P g) (n : ℕ) : Type 0 where
  pub fits : Fits s new
  pub busy : IsBusy g.start g.allowed new
  pub lawful : IsSection g.start g.allowed (section_from new)
  pub words : (object : ℕ) → words_in (config_of s) (view found) object ≡ words_at (snapshot_of (section_from old)) object
  pub stays : Stays (section_from old) (section_from new)
  pub aborts : new.log.aborts ≡ old.log.aborts
  pub bound : MakesAtMost (seat_from old) (seat_from new) (6 + n + 3 * (length new.view.past.seen - (section_from old).at))

module _ {P : Type 0} {g : Ghosts P} {s : Shared P} {old : Placed} {i : SeatState P g} (l : Lent s (IsBusy g.start g.allowed) old i) (x : Pass P g)
    {before after : ℕ} (kept : IsSame i.pass x) (walks : Walks (view i.pass) (view x) before after)
    (few : after ≤ before + (6 + 3 * (length (view x).past.seen - snapshot_length (config_of s) (view i.pass)))) (kind : StepKind) (n : ℕ)
    (other : is_commit_exchange kind ≡ false) (alone : LeavesLog kind) (y : Pass P g) (same : IsSame x y) (may : MayWalk (view y))
    (reads : ReadsSome kind n (view x) (view y)) where
  abbrev p : Placed
  p = placed i.pass i.log

  abbrev q : Placed
  q = placed y i.log

  looks : Looks p.view (view x)
  looks = walked p.view (view x) before after walks

  looks_on : Looks p.view q.view
  looks_on = looked kind n other alone p.view (view x) q.view looks reads

  busy_on : IsBusy g.start g.allowed q
  busy_on = look_busy g.start g.allowed p q (same.2 ∙ kept.2) l.is looks_on y.known may refl

  -- the words of the version where the walk ended, or of the master
  words_are : (object : ℕ) → words_in (config_of s) (view x) object ≡ words_at (snapshot_of (section_from p)) object
  words_are object =
      ap (λ (d : Config). words_in d (view x) object) l.config
      ∙ snapshot_words p (placed x i.log) object kept.2 (ap (λ (u : Knowledge). u.phase) looks.rest)
      (look_continues p (placed x i.log) kept.2 kept.0 looks) (section_lawful g.start g.allowed g.one_start g.one_allowed p l.is).at

  pub read_below : HasReadBelow s old q x n
  read_below =
      subst (λ (z : Placed). HasReadBelow s z q x n) l.view_is (record {
        fits = fits_on s i.pass y i.log i.log (same_on i.pass x y kept same) l.fits;
        busy = busy_on;
        lawful = section_lawful g.start g.allowed g.one_start g.one_allowed q busy_on;
        words = words_are;
        stays = look_stays p q (same.2 ∙ kept.2) (same.0 ∙ kept.0) looks_on;
        aborts = refl;
        bound = look_bound (config_of s) p q (view x) kind n (6 + n) before after l.config walks few reads refl;
      })
