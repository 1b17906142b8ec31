-- A finish goes on from one of its parts to the next.
use Rattle.std.proofs.Common.{◌≡◌, ℕ, ◌+◌, ◌≤◌, Some, true, length, sym, ◌∙◌, subst, arith}
use Rattle.mv_layout.specs.declared.Config.{Config}
use Rattle.mv_layout.specs.Words.{clock_time_of}
use Rattle.seat_log.specs.mv_core.declared.view.Knowledge.{Knowledge}
use Rattle.seat_log.specs.mv_core.declared.view.Phase.TheVariants.{Inside}
use Rattle.seat_log.specs.mv_core.declared.view.Mode.TheVariants.{Named}
use Rattle.seat_log.specs.mv_core.Rings.{set_first}
use Rattle.seat_log.specs.mv_core.EnterSteps.{MayClearMark, mark_cleared}
use Rattle.seat_log.specs.reader_marks.Sections.{section_in}
use Rattle.seat_log.specs.declared.version.Note.{Note}
use Rattle.seat_log.specs.Notes.{Noted, held_from, IsNoteAt, committed_noted}
use Rattle.seat_log.specs.Stands.{Stands}
use Rattle.commit_abort.specs.Finishes.{WonNaming, IsJustNamed, StampsIt, first_named, AreCommitted, MayTell}
use Rattle.commit_abort.specs.Finishes.{TellsOne, Tells, IsFinishing, above_held, Finishes}
use Rattle.commit_abort.proofs.Telling.{tells_first, may_tell, tells_more}
use Rattle.commit_abort.proofs.Finished.{may_tell_below, may_end, ended}

-- there is one note at a place of a log
pub one_note : (l : Noted) (i : ℕ) (a n : Note) → IsNoteAt l i a → IsNoteAt l i n → a ≡ n
one_note l i a n here there = let one : Some a ≡ Some n = sym here ∙ there in cc

-- the stamp was exchanged, and SUPER is stored nowhere yet
pub finish_begins : (c : Config) (from v : Knowledge) (l : Noted) (won : WonNaming) (k : IsJustNamed c from l won) (time first : ℕ)
    → time ≡ clock_time_of won.word + 1 → first ≡ set_first won.before.ring → StampsIt from v first time (section_in from)
    → IsFinishing c from v l time 0
finish_begins c from v l won k time first time_is first_is stamps =
    let committed = (may_tell_below c from l won k time first time_is first_is v stamps).1 in
    let at : held_from l ≡ held_from l + 0 = omega arith in record {
      won = won;
      named = k;
      time_is = time_is;
      first = first;
      first_is = first_is;
      stamped = v;
      stamps = stamps;
      tells = subst (Tells c v v l) at (tells_first c v l time committed);
    }

module _ (c : Config) (from v : Knowledge) (l : Noted) (time told : ℕ) (k : IsFinishing c from v l time told) where
  now_committed : (k.stamped.phase
      ≡ Inside (record (section_in k.stamped) { mode = Named (record { time = time; first = first_named k.stamped; stamped = true }) }))
      × AreCommitted c k.stamped l time
  now_committed = may_tell_below c from l k.won k.named time k.first k.time_is k.first_is k.stamped k.stamps

  -- SUPER may be stored below the next version
  pub next_may : (n : Note) → IsNoteAt l (held_from l + told) n → MayTell c v n time (above_held c v l told)
  next_may n at = may_tell c k.stamped l time now_committed.1 v (held_from l + told) n at (omega arith) k.tells (section_in k.stamped)
      (first_named k.stamped) now_committed.0

  -- and was
  pub goes_on : (w : Knowledge) (n : Note) (before after : ℕ) → IsNoteAt l (held_from l + told) n
      → TellsOne c v w n time before after (above_held c v l told) → IsFinishing c from w l time (told + 1) × (after ≤ before + 1)
  goes_on w n before after at one =
      let more = tells_more c k.stamped l time now_committed.1 v (held_from l + told) n at (omega arith) k.tells w before after one in
      let next : held_from l + told + 1 ≡ held_from l + (told + 1) = omega arith in (
        record {
          won = k.won;
          named = k.named;
          time_is = k.time_is;
          first = k.first;
          first_is = k.first_is;
          stamped = k.stamped;
          stamps = k.stamps;
          tells = subst (Tells c k.stamped w l) next more.0;
        },
        more.1,
      )

-- SUPER was stored below all
module _ (c : Config) (from v : Knowledge) (l : Noted) (time : ℕ) (k : IsFinishing c from v l time l.held) where
  told_all : Tells c k.stamped v l (length l.live)
  told_all = let few = k.named.stands.log.held in let all : held_from l + l.held ≡ length l.live = omega arith in subst (Tells c k.stamped v l) all k.tells

  pub end_may : MayClearMark v
  end_may = may_end c from l k.won k.named time k.first k.time_is k.first_is k.stamped k.stamps v told_all

  pub finish_ends : (w : Knowledge) (m : Noted) → w ≡ mark_cleared c v → m ≡ committed_noted l time → Finishes from w (l.held + 2) × Stands c w m
  finish_ends = ended c from l k.won k.named time k.first k.time_is k.first_is k.stamped k.stamps v told_all

-- how many steps a finish has made, at its start, after one version more, and at its end
pub first_cost : (a b : ℕ) → b ≡ a + 1 → b ≤ a + 1 + 0
first_cost a b one = omega arith

pub next_cost : (a b d which : ℕ) → b ≤ a + 1 + which → d ≤ b + 1 → d ≤ a + 1 + (which + 1)
next_cost a b d which before one = omega arith

pub last_cost : (a b d which held : ℕ) → b ≤ a + 1 + which → d ≡ b + 1 → which ≡ held → d ≤ a + held + 2
last_cost a b d which held before one all = omega arith
