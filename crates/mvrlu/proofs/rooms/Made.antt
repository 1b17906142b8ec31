-- What making room leaves of a seat, by how many slots of its log were live.
use Rattle.std.proofs.Common.{◌≡◌, ◌≢◌, ℕ, ◌+◌, ◌-◌, ◌<◌, ◌≤◌, List, [], length, refl, sym, ap, ◌∙◌, subst, inl, arith, Some, None}
use Rattle.std.proofs.lemmas.List.{append-nil}
use Rattle.std.specs.Prelude.{slice_index}
use Rattle.mv_history.specs.State.{State, Writes}
use Rattle.mv_history.specs.Meaning.{Seat}
use Rattle.mv_history.specs.Calls.{Prepares}
use Rattle.mv_history.specs.Trail.{commit_exchanges}
use Rattle.mv_history.specs.declared.answers.Holder.{Holder}
use Rattle.mv_history.specs.declared.answers.Holder.TheVariants.{End}
use Rattle.mv_history.specs.declared.answers.Room.{Room}
use Rattle.mv_history.specs.declared.answers.Room.TheVariants.{Enough, Short}
use Rattle.mv_layout.specs.declared.Config.{Config}
use Rattle.mv_layout.specs.Limits.{Checked}
use Rattle.object_lock.specs.mv_core.declared.shared.Shared.{Shared}
use Rattle.object_lock.specs.mv_core.Passes.{config_of}
use Rattle.object_lock.specs.seat_log.Stands.{Stands}
use Rattle.log_reclaim.specs.declared.rounds.Tidy.{Tidy}
use Rattle.log_reclaim.specs.Holders.{TidyHolds, HeldSo}
use Rattle.mvrlu.specs.Placed.{Placed, seat_from, IsIdle, Fits}
use Rattle.mvrlu.specs.Holding.{slots_of, low_of, high_of, steps_between, tidy_steps, IsEarly, HoldsBack, HoldsSeat, Rounds, Tidies, TidiesAlone}
use Rattle.mvrlu.specs.Holding.{MakesRoom}
use Rattle.mvrlu.proofs.Names.{fits_config}
use Rattle.mvrlu.proofs.Trails.{kept, made, few_made}

-- the holder that an answer names
abbrev named : Room → Holder
named Enough = End
named (Short holder) = holder

-- answers that name a holder name the same
pub same_holder : (holder other : Holder) → Short holder ≡ Short other → holder ≡ other
same_holder holder other e = ap named e

-- an answer that there is room names none
pub none_named : (holder : Holder) → Enough ≢ Short holder
none_named holder e = absurd cc

-- where nothing is done the seat is as it was
pub still_prepared : (s : Seat) → Prepares s s
still_prepared s = record {
  continues = record {
    number = refl;
    home = refl;
    write_max = refl;
    start = refl;
    base = refl;
    last = refl;
    seen = kept s.seen s.seen [] (sym (append-nil s.seen));
    trail = kept s.trail s.trail [] (sym (append-nil s.trail));
  };
  mine = refl;
  names_no_commit = ap commit_exchanges (made s.trail s.trail [] (sym (append-nil s.trail)));
}

module _ {P : Type 0} (s : Shared P) (p : Placed) (d : Config) (used : ℕ) (stands : Stands p.config p.view p.log) (fits : Fits s p)
    (same : d ≡ config_of s) (live : used ≡ length p.log.live) where
  -- the seat before the call
  abbrev old : Seat
  old = seat_from p

  numbers : d ≡ p.config
  numbers = same ∙ fits_config s p fits

  checked : Checked d
  checked = subst Checked (sym (same ∙ s.about)) s.checked

  slots_are : d.slots ≡ slots_of old
  slots_are = ap (λ (c : Config). c.slots) numbers

  low_is : d.low ≡ low_of old
  low_is = ap (λ (c : Config). c.low) numbers

  high_is : d.high ≡ high_of old
  high_is = ap (λ (c : Config). c.high) numbers

  most_is : d.write_max ≡ old.write_max
  most_is = ap (λ (c : Config). c.write_max) numbers

  used_is : used + old.spare ≡ slots_of old
  used_is = let all = stands.spare in omega arith

  -- below `low` there is room, and nothing is done
  pub room_left : used < d.low → old.write_max ≤ old.spare
  room_left few =
      let a = used_is in let b = slots_are in let c = most_is in let m = checked.marks.1 in let h = checked.marks.2 in
      let x = checked.slots.0 in let y = checked.writes.1 in omega arith

  pub made_nothing : used < d.low → MakesRoom p p
  made_nothing few =
      let a = used_is in let b = low_is in let c = high_is in let m = checked.marks.1 in record {
        below = λ _. refl;
        by_round = λ many less. absurd (omega arith);
        by_tidy = λ many. absurd (omega arith);
        rests = inl refl;
        steps = few_made p.view.trail p.view.trail [] (tidy_steps old) (sym (append-nil p.view.trail)) (omega arith);
      }

  module _ (q : Placed) (t : Tidy) where
    -- the seat after the call
    abbrev new : Seat
    new = seat_from q

    -- below `high` there is room, and a round is made
    module _ (rounds : Rounds p q t) where
      pub room_after_round : used < d.high → new.write_max ≤ new.spare
      room_after_round few =
          let a = used_is in let b = slots_are in let c = most_is in let h = checked.marks.2 in let x = checked.slots.0 in
          let y = checked.writes.1 in let more = rounds.spare in let e = rounds.prepares.continues.write_max in omega arith

      pub made_round : d.low ≤ used → used < d.high → MakesRoom p q
      made_round many few =
          let a = used_is in let b = low_is in let c = high_is in record {
            below = λ less. absurd (omega arith);
            by_round = λ _ _. (t, rounds);
            by_tidy = λ more. absurd (omega arith);
            rests = inl rounds.rests;
            steps = (let e = rounds.steps in omega arith);
          }

    -- from `high` on it is tidied
    module _ (tidies : Tidies p q t) where
      pub made_tidy : d.low ≤ used → d.high ≤ used → MakesRoom p q
      made_tidy many more =
          let a = used_is in let b = low_is in let c = high_is in record {
            below = λ less. absurd (omega arith);
            by_round = λ _ less. absurd (omega arith);
            by_tidy = λ _. (t, tidies);
            rests = tidies.rests;
            steps = tidies.steps;
          }

      spare_is : t.live + new.spare ≡ d.slots
      spare_is = tidies.room ∙ ap (λ (names : List ℕ). slice_index names 2) tidies.prepares.continues.home ∙ sym slots_are

      most_is_still : new.write_max ≡ d.write_max
      most_is_still = tidies.prepares.continues.write_max ∙ sym most_is

      -- so many slots are live, of all
      pub live_within : t.live ≤ d.slots
      live_within = let a = spare_is in omega arith

      -- there is room where so few are live
      pub room_for : d.write_max ≤ d.slots - t.live → new.write_max ≤ new.spare
      room_for few = let a = spare_is in let b = most_is_still in let x = checked.slots.0 in let y = checked.writes.0 in omega arith

      -- and where none is
      pub room_of_empty : t.held ≡ None → new.write_max ≤ new.spare
      room_of_empty none =
          let empty : length q.log.live ≡ 0 =
          subst (HeldSo (TidyHolds q.config q.view q.log (steps_between p q)) q.log) none tidies.held in
          let is = tidies.live in let x = checked.slots.0 in let y = checked.writes.1 in room_for (omega arith)

      -- there is none where so many are, and one holds them
      pub short_by : (starts : State → Type 0) (allows : List ℕ → State → Writes → Type 0) → IsIdle starts allows p × IsIdle starts allows q
          → (holder other : Holder) → t.held ≡ Some holder → d.slots - t.live < d.write_max → Short holder ≡ Short other
          → (new.spare < new.write_max) × HoldsBack p q other × HoldsSeat starts allows old new other
      short_by starts allows idle holder other held many e =
          let a = spare_is in let b = most_is_still in
          let holds : HoldsBack p q other = record { tidy = t; tidies = tidies; held = held ∙ ap Some (same_holder holder other e) } in (
            omega arith,
            holds,
            record { before = p; after = q; was = refl; is = refl; idle_before = idle.0; idle_after = idle.1; holds = holds },
          )

      -- which is not so in a domain of one seat before the end of time
      pub not_alone : (d.slots - t.live < d.write_max) → TidiesAlone old t → IsEarly old → (holder : Holder) → Short holder ≡ Enough
      not_alone many alone early holder =
          let none = alone.empty early in let x = checked.slots.0 in let y = checked.writes.1 in absurd (omega arith)
