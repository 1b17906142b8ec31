-- A scan, a look at each version, and the frees after it are a round.
use Rattle.std.proofs.Common.{◌≡◌, ℕ, ◌+◌, ◌<◌, ◌≤◌, List, [], ◌++◌, length, drop, All, Bool, sym, ap, ◌∙◌, subst, arith, length-drop, slice_get}
use Rattle.std.proofs.lemmas.List.Elements.{All-append}
use Rattle.mv_history.specs.State.{State, Writes, maker_of}
use Rattle.mv_history.specs.declared.Step.{Step}
use Rattle.mv_layout.specs.declared.Config.{Config}
use Rattle.seat_log.specs.mv_core.declared.view.Knowledge.{Knowledge}
use Rattle.seat_log.specs.mv_core.Known.{Known}
use Rattle.seat_log.specs.mv_core.EnterSteps.{MayLoadLow}
use Rattle.seat_log.specs.reader_marks.declared.scanning.Watermark.{Watermark}
use Rattle.seat_log.specs.reader_marks.Scans.{Scans, IsKnown}
use Rattle.seat_log.specs.declared.version.Note.{Note}
use Rattle.seat_log.specs.Notes.{Noted, IsNoteAt}
use Rattle.seat_log.specs.Stands.{Stands}
use Rattle.seat_log.specs.Frees.{freed_noted}
use Rattle.seat_log.proofs.Places.{get_dropped}
use Rattle.seat_log.proofs.Places.{get_within}
use Rattle.log_reclaim.specs.declared.settling.HeadHolders.{HeadHolders}
use Rattle.log_reclaim.specs.Parts.{IsOtherKind, IsPlainKind, LeavesClock, Reclaims, DiesFrom, Shrinks}
use Rattle.log_reclaim.specs.Untimed.{StaysUntimed, DatedSo}
use Rattle.log_reclaim.specs.Tries.{MaySettle}
use Rattle.log_reclaim.specs.Sweeps.{found_at, HasEntries, Settles, Sweeps}
use Rattle.log_reclaim.specs.Rounds.{FreesAll}
use Rattle.log_reclaim.proofs.Idle.{still_of}
use Rattle.log_reclaim.proofs.Reclaiming.{reclaims_on, reclaims_number, reclaims_base, reclaims_more, reclaims_may}
use Rattle.log_reclaim.proofs.Untimed.{untimed_on, untimed_then, dated_on, dated_then}
use Rattle.log_reclaim.proofs.Needed.{time_seen}
use Rattle.log_reclaim.proofs.causes.ScanCauses.{low_below, low_known}
use Rattle.log_reclaim.proofs.MoreSteps.{scanned_more}
use Rattle.log_reclaim.proofs.ScanParts.{steps_of, scan_clock_is, scan_later, scan_reclaims, scan_rests, scan_leaves, scan_plain, scan_shown}
use Rattle.log_reclaim.proofs.rests.Exchanges.{begins_none, leaves_clock}
use Rattle.log_reclaim.proofs.causes.AloneSeen.{alone_seen}
use Rattle.log_reclaim.proofs.FreedAll.{free_kind}

-- a note that is left was there before, after those that were freed
pub left_at : (m n : Noted) (k i : ℕ) (e : Note) → n ≡ freed_noted m k → IsNoteAt n i e → IsNoteAt m (k + i) e
left_at m n k i e is at = sym (get_dropped k i m.live) ∙ ap (λ (y : Noted). slice_get y.live i) (sym is) ∙ at

module _ (starts : State → Type 0) (allows : List ℕ → State → Writes → Type 0) (c : Config) (v u : Knowledge) (l : Noted) (mark : Watermark)
    (clock before after : ℕ)
    (base : v.base ≡ c.base) (may : MayLoadLow v) (stands : Stands c v l) (known : ∥ Known starts allows v ∥₁)
    (scans : Scans c v u mark clock before after) where
  abbrev steps : List Step
  steps = steps_of c v u mark clock before after scans

  first : Reclaims v u steps
  first = scan_reclaims c v u mark clock before after scans may (still_of starts allows v known may.outside)

  -- no commit of the log is later than the scan
  not_late : (i : ℕ) (n : Note) → IsNoteAt l i n → n.time ≤ clock
  not_late i n at =
      let seen = time_seen c v l i n stands at starts allows known in let later = scan_later c v u mark clock before after scans base in omega arith

  -- each version may be looked at then
  pub may_settle : IsKnown u mark → MaySettle u l mark clock
  may_settle is_known =
      let shown = scan_shown c v u mark clock before after scans in record {
        outside = reclaims_may v u steps first;
        known = is_known;
        low = low_known c v.number steps mark clock shown;
        below = low_below c v.number steps mark clock shown;
        seen = (let e = scan_clock_is c v u mark clock before after scans base in omega arith);
        early = not_late;
      }

  module _ (x w : Knowledge) (m n : Noted) (made more : List Step) (back : Bool) (found : HeadHolders) (top freed : ℕ) (is_known : IsKnown u mark)
      (settles : Settles c u x l m made mark clock back found top (length l.live)) (frees : FreesAll x w m n more mark.time freed) where
    abbrev all : List Step
    all = steps ++ (made ++ more)

    then : Reclaims u w (made ++ more)
    then = reclaims_on u x w made more settles.reclaims frees.makes.reclaims

    then_other : All (λ s. IsOtherKind s.kind) (made ++ more)
    then_other = All-append (λ s. IsOtherKind s.kind) made more settles.kinds frees.makes.kinds

    whole : Reclaims v w all
    whole = reclaims_on v u w steps (made ++ more) first then

    -- a note that is left, as it was before
    was : (i : ℕ) (e : Note) → IsNoteAt n i e → (old : Note) × IsNoteAt l (i + freed) old × DiesFrom old e × DatedSo c w all top back old e
    was i e at =
        let r = settles.notes (freed + i) e (left_at m n freed i e frees.log at) in
        let le : top ≤ top = omega arith in (
          r.0,
          subst (λ (j : ℕ). IsNoteAt l j r.0) (let q : freed + i ≡ i + freed = omega arith in q) r.1,
          r.2,
          dated_then c w steps (made ++ more) top top back r.0 e le (dated_on c x w made more frees.makes.reclaims top top back r.0 e le r.3),
        )

    still_untimed : (i : ℕ) (e : Note) → IsNoteAt n i e → e.dead ≡ 0 → StaysUntimed c w all mark clock back e (found_at found e.position)
    still_untimed i e at alive =
        let there = left_at m n freed i e frees.log at in
        let lt = get_within m.live (freed + i) e there in
        let long = settles.long in
        let low = (may_settle is_known).below in
        let seen = (may_settle is_known).seen in
        let more_seen = reclaims_more u x made settles.reclaims in
        let from = reclaims_base u x made settles.reclaims in
        untimed_then c w steps (made ++ more) mark clock e back (found_at found e.position)
        (untimed_on c x w made more frees.makes.reclaims mark clock e back (found_at found e.position) (omega arith)
        (settles.untimed (freed + i) e there (omega arith) alive))

    fewer : length n.live + freed ≡ length l.live
    fewer =
        let e : length n.live ≡ length (drop freed m.live) = ap (λ (y : Noted). length y.live) frees.log in
        let d = length-drop freed m.live in
        let long = settles.long in
        let few = frees.few in
        omega arith

    shrinks : Shrinks l n freed
    shrinks =
        let is : n ≡ record l { live = drop freed m.live; freed = l.freed + freed; back = m.back } =
        frees.log ∙ ap (λ (y : Noted). record y { live = drop freed m.live; freed = y.freed + freed }) settles.log in
        record {
          few = fewer;
          notes = λ i e at. let r = was i e at in (r.0, r.1, r.2);
          rest = is
              ∙ (λ i. record l {
                live = sym (ap (λ (y : Noted). y.live) is) i;
                freed = l.freed + freed;
                back = sym (ap (λ (y : Noted). y.back) is) i;
                rests = sym (ap (λ (y : Noted). y.rests) is) i;
              });
        }

    entries : HasEntries n found
    entries =
        let table = settles.table.0 in
        let from : n.freed ≡ l.freed + freed = ap (λ (y : Noted). y.freed) shrinks.rest in
        let few = fewer in
        let room = stands.log.room in
        let slots = stands.log.slots in
        (omega arith, omega arith, settles.table.1)

    pub sweeps : ∥ Known starts allows u ∥₁ → v.number < c.seats → All (λ e. maker_of e < c.seats) u.past.seen
        → Sweeps c v w l n all back (record { mark = mark; clock = clock; latest = top }) found freed
    sweeps known_then own makers =
        let start : w.base ≡ u.base = reclaims_base u w (made ++ more) then in
        let later = scan_later c v u mark clock before after scans base in
        let clock_is = scan_clock_is c v u mark clock before after scans base in
        let rest = frees.makes.reclaims in
        let rest_base = reclaims_base x w more rest in
        let rest_more = reclaims_more x w more rest in
        let more_seen = reclaims_more u w (made ++ more) then in
        let within = settles.within in
        let grace = then.grace in record {
          reclaims = whole;
          leaves = All-append (λ s. LeavesClock s.kind) steps (made ++ more) (scan_leaves c v u mark clock before after scans)
              (leaves_clock (made ++ more) then_other);
          plain = λ off. All-append (λ s. IsPlainKind s.kind) steps (made ++ more) (scan_plain c v u mark clock before after scans)
              (All-append (λ s. IsPlainKind s.kind) made more (settles.plain off) (free_kind IsPlainKind tt more frees.kinds));
          rests = frees.makes.rests ∙ settles.rests ∙ scan_rests c v u mark clock before after scans;
          shrinks = shrinks;
          scan = scanned_more [] steps (made ++ more) c v.number mark clock (begins_none (made ++ more) then_other)
              (scan_shown c v u mark clock before after scans);
          known = omega arith;
          after = later;
          before = omega arith;
          early = λ i e at.
              let r = was i e at in
              let same : e.time ≡ r.0.time = ap (λ (y : Note). y.time) r.2.same in
              let late = not_late (i + freed) r.0 r.1 in
              omega arith;
          from = settles.from;
          within = omega arith;
          notes = was;
          untimed = still_untimed;
          kept = frees.kept;
          table = entries;
          alone = λ one.
              let number : u.number ≡ v.number = reclaims_number v u steps first in
              let seen = alone_seen starts allows u c.seats known_then (subst (λ (k : ℕ). k < c.seats) (sym number) own) makers one in
              let mine : length u.past.mine ≡ length v.past.mine = ap length first.mine in
              let rests = scan_rests c v u mark clock before after scans in
              let from : u.base ≡ v.base = reclaims_base v u steps first in
              omega arith;
        }
