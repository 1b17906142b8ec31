-- What is known of how few nodes are vacant, from call to call.
use Rattle.std.proofs.Common.{◌≡◌, ℕ, ◌+◌, ◌-◌, ◌<◌, ◌≤◌, ◌==◌, ◌&&◌, Bool, true, false, not, if◌then◌else◌, [], length, Some}
use Rattle.std.proofs.Common.{refl, sym, ap, ◌∙◌, subst, arith, eqb-true}
use Rattle.std.proofs.lemmas.Bool.{and_parts, not-true}
use Rattle.std.proofs.lemmas.Option.{slice_get_within}
use Rattle.mv_history.specs.State.{State, state_at}
use Rattle.mv_history.specs.declared.history.Commit.{Commit}
use Rattle.mv_history.specs.declared.history.Entry.TheVariants.{Change}
use Rattle.mv_history.specs.Meaning.{Seat, InSection, IsSeat, state_of, state_of_time}
use Rattle.mv_history.specs.Calls.{IsAsBefore, IsEntryAt}
use Rattle.mv_history.proofs.Snapshots.{length-state_at}
use Rattle.mv_history.proofs.Steps.{length-seen, state_at-later}
use Rattle.set_model.specs.Lawful.{IsLawful, IsOpening}
use Rattle.set_model.specs.Rules.{IsSetCommit}
use Rattle.set_model.specs.Tags.{command_of}
use Rattle.set_model.specs.declared.commands.Command.{Command}
use Rattle.set_model.proofs.Times.{commit_makes}
use Rattle.set_catalog.specs.declared.shortage.Shortage.{Shortage}
use Rattle.set_catalog.specs.declared.shortage.TheConstants.{NO_BOUND}
use Rattle.set_catalog.specs.Picks.{vacant_nodes}
use Rattle.set_catalog.specs.Shortages.{IsKnown, few_at, may_free, followed}
use Rattle.set_catalog.proofs.Costs.{vacant_no_more, vacant_bound}
use Rattle.set_catalog.proofs.LawfulTimes.{lawful_at}
use Rattle.section_work.proofs.Entering.{reads_snapshot}

-- Of each store it is known that fewer nodes are vacant than any store has.
pub known_unknown : (s : Seat) (k : Shortage) → IsLawful (state_of_time s k.time) → k.time ≡ 0 → k.few ≡ NO_BOUND → IsKnown s k
known_unknown s k law t f = record {
  seen = omega (arith, t);
  few = omega (arith, vacant_bound (state_of_time s k.time) law, f);
}

-- In a section that holds nothing, what is known of its time holds of the state that it reads.
pub few_found : (s : InSection) (k : Shortage) (time : ℕ) → IsLawful (state_of s) → s.own ≡ [] → time ≡ s.seat.base + s.at → IsKnown s.seat k
    → vacant_nodes (state_of s) < few_at k time
few_found s k time law none w h = go (k.time == time) refl
  where
    go : (b : Bool) → (k.time == time) ≡ b → vacant_nodes (state_of s) < (if b then k.few else NO_BOUND)
    go true e =
        let t : k.time ≡ time = eqb-true k.time time e in
        let at : k.time - s.seat.base ≡ s.at = omega (arith, t, w) in
        let here : state_of s ≡ state_of_time s.seat k.time =
        reads_snapshot s none ∙ ap (λ (n : ℕ). state_at s.seat.start s.seat.seen n) (sym at) in
        subst (λ (u : State). vacant_nodes u < k.few) (sym here) h.few
    go false e = vacant_bound (state_of s) law

-- What was found of the state that a section reads which holds nothing is known of its time.
pub known_found : (entered found : InSection) (k : Shortage) → entered.own ≡ [] → entered.at ≤ length entered.seat.seen → IsAsBefore entered found
    → k.time ≡ entered.seat.base + entered.at → vacant_nodes (state_of entered) < k.few → IsKnown found.seat k
known_found entered found k none le same e v =
    let goes = same.seat.continues in
    let at : k.time - found.seat.base ≡ entered.at = omega (arith, e, goes.base) in
    let here : state_of entered ≡ state_of_time found.seat k.time =
    reads_snapshot entered none ∙ sym (state_at-later goes entered.at le) ∙ ap (λ (n : ℕ). state_at found.seat.start found.seat.seen n) (sym at) in
    record {
      seen = omega (arith, at, le, length-seen goes);
      few = subst (λ (u : State). vacant_nodes u < k.few) here v;
    }

-- After a commit the same is known of its time, where it follows the known one and frees nothing.
pub known_followed : (s : Seat) (k : Shortage) (time : ℕ) (c : Commit) (command : Command) → IsSeat IsOpening IsSetCommit s → IsEntryAt s time (Change c)
    → command_of c.tag ≡ Some command → IsKnown s k → IsKnown s (followed k command time)
known_followed s k time c command law entry tagged h = go ((k.time == time - 1) && not (may_free command)) refl
  where
    go : (b : Bool) → ((k.time == time - 1) && not (may_free command)) ≡ b → IsKnown s (if b then record { time = time; few = k.few } else k)
    go false e = h
    go true e =
        let both = and_parts (k.time == time - 1) (not (may_free command)) e in
        let t : k.time ≡ time - 1 = eqb-true k.time (time - 1) both.0 in
        let later : s.base < time = entry.later in
        let within : time - (s.base + 1) < length s.seen = slice_get_within s.seen (time - (s.base + 1)) (Change c) entry.there in
        let made = commit_makes s law time c command entry tagged in
        let more : vacant_nodes (state_at s.start s.seen (time - s.base)) ≤ vacant_nodes (state_at s.start s.seen (time - (s.base + 1))) =
        vacant_no_more command _ _ (lawful_at s law (time - (s.base + 1))) (lawful_at s law (time - s.base))
        (length-state_at s.start s.seen (time - s.base) ∙ sym (length-state_at s.start s.seen (time - (s.base + 1))))
        (not-true (may_free command) both.1) made in
        let at : k.time - s.base ≡ time - (s.base + 1) = omega (arith, t) in
        let few : vacant_nodes (state_at s.start s.seen (time - (s.base + 1))) < k.few =
        subst (λ (n : ℕ). vacant_nodes (state_at s.start s.seen n) < k.few) at h.few in
        record { seen = omega (arith, within, later); few = omega (arith, more, few) }
