-- The log of a new domain stands for its pass.
use Rattle.std.proofs.Common.{◌≡◌, ℕ, zero, suc, ◌+◌, ◌-◌, ◌*◌, ◌<◌, ◌≤◌, Bool, false, cond, count_by, [], length, replicate, refl, sym, ap, ◌∙◌, subst, arith}
use Rattle.std.proofs.lemmas.List.Folds.{sum_by-replicate}
use Rattle.std.proofs.lemmas.List.{length-replicate}
use Rattle.std.proofs.lemmas.List.Elements.{All-replicate}
use Rattle.mv_history.specs.State.{State}
use Rattle.mv_history.specs.declared.Step.{Step}
use Rattle.mv_layout.specs.declared.Config.{Config}
use Rattle.mv_layout.specs.Limits.{Checked}
use Rattle.reader_marks.specs.mv_core.declared.ring.Slot.TheVariants.{Free, Built, Live, Freeing}
use Rattle.reader_marks.specs.mv_core.declared.view.Knowledge.{Knowledge}
use Rattle.reader_marks.specs.mv_core.Rings.{slot_at, is_held, is_spare, empty_ring}
use Rattle.reader_marks.specs.mv_core.Start.{starting_view}
use Rattle.reader_marks.proofs.mv_core_lemmas.kinds.opening.Starting.{all_free}
use Rattle.seat_log.specs.Notes.{nothing_noted}
use Rattle.seat_log.specs.Stands.{is_free, is_won_cut, is_won_lock, is_unlock, writes_in, Stands}
use Rattle.seat_log.proofs.StepCounts.{KeepsLocks, keeps_same, keeps_more}

counted : {X : Type 0} (test : X → Bool) (n : ℕ) (x : X) → count_by test (replicate n x) ≡ n * cond (test x) 1 0
counted test n x = sum_by-replicate (λ y. cond (test y) 1 0) n x

-- nothing is noted, and nothing is there
stands_empty : (c : Config) (v : Knowledge) → Checked c → v.number < c.seats → v.ring ≡ empty_ring c → v.past.mine ≡ [] → v.past.rests ≡ 0
    → count_by is_free v.trail ≡ 0 → count_by is_won_cut v.trail ≡ 0 → KeepsLocks [] v.trail → Stands c v (nothing_noted v.number c.slots)
stands_empty c v checked range ring mine rests frees backs keeps =
    let seats = checked.seats.1 in
    let slots = checked.slots in
    let some_slots = slots.0 in
    let few_slots = slots.1 in
    let free : (k : ℕ) → slot_at v.ring k ≡ Free = λ k. ap (λ r. slot_at r k) ring ∙ all_free c k in record {
      seat = refl;
      slots = refl;
      wide = ap (λ r. length r.slots) ring ∙ length-replicate c.slots Free;
      log = record {
        seat = omega arith;
        slots = few_slots;
        room = omega arith;
        held = omega arith;
        notes = record { position = λ i n e. absurd (cc); first = λ i n e. absurd (cc); run = λ i j n m e. absurd (cc); held = λ i n e. absurd (cc) };
        built = tt;
        positions = omega arith;
        sets = omega arith;
        backs = omega arith;
        rests = omega arith;
      };
      next = ap (λ r. r.next) ring;
      held = ap (λ r. count_by is_held r.slots) ring ∙ counted is_held c.slots Free ∙ (omega arith);
      live = λ i n e. absurd (cc);
      all = λ k x st e. let f : Free ≡ Live x st = sym (free k) ∙ e in absurd (cc);
      none_freeing = λ k p first e. let f : Free ≡ Freeing p first = sym (free k) ∙ e in absurd (cc);
      builds = λ k b e. let f : Free ≡ Built b = sym (free k) ∙ e in absurd (cc);
      built = tt;
      spare = (let n : count_by is_spare v.ring.slots ≡ c.slots * 1 = ap (λ r. count_by is_spare r.slots) ring ∙ counted is_spare c.slots Free in omega arith);
      commits = sym (ap length mine);
      rests = sym rests;
      frees = sym frees;
      backs = sym backs;
      locks = sym keeps.locks;
      aborts = sym keeps.aborts;
      settled = keeps.settled refl;
      cuts = omega arith;
      used = subst (λ cs. writes_in cs + 0 ≤ 0) (sym mine) (omega arith);
      all_used = λ none. sym (ap (λ cs. writes_in cs + 0) mine);
    }

-- the log of a seat of a new domain stands for the view with which that seat begins
pub stands_new : (c : Config) (start : State) (number : ℕ) → Checked c → number < c.seats
    → Stands c (starting_view c start number) (nothing_noted number c.slots)
stands_new c start zero checked range =
    stands_empty c (starting_view c start zero) checked range refl refl refl (counted is_free (c.seats - 1) _ ∙ (omega arith))
    (counted is_won_cut (c.seats - 1) _ ∙ (omega arith))
    (keeps_more [] (starting_view c start zero).trail (starting_view c start zero).trail refl
    (All-replicate (λ (s : Step). is_won_lock s ≡ false) (c.seats - 1) _ refl) (All-replicate (λ (s : Step). is_unlock s ≡ false) (c.seats - 1) _ refl))
stands_new c start (suc number) checked range =
    stands_empty c (starting_view c start (suc number)) checked range refl refl refl refl refl (keeps_same [])
