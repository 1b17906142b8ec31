-- What a block comes to in a state, as a work.
use Rattle.mv_history.proofs.Kept.{keeps_at, keeps_read}
use Rattle.section_work.specs.Works.{IsPlanned, IsHere}
use Rattle.set_model.proofs.Opening.{opening_lawful}
use Rattle.std.proofs.Common.{◌≡◌, ◌*◌, ◌≤◌, ℕ, Bool, true, false, cond, List, [], length, refl, sym, ap, ◌∙◌, subst}
use Rattle.set_blocks.proofs.Terms.{State, Writes, written, state_at, Drifts, Seat, InSection, IsSeat, Command, Reply, catalogue_of, IsLawful}
use Rattle.set_blocks.proofs.Terms.{IsOpening, capacity, IsBlock, replies_in, block_changes_in, IsBlockFound, Settled, Open, MakesBlock, block_meaning}
use Rattle.set_blocks.proofs.Terms.{BlockPlan, after_turns, IsBlockCommit, block_tag}
use Rattle.set_blocks.proofs.Planning.{plan_runs, plan_ran}
use Rattle.set_blocks.proofs.PlannedWrites.{plan_within, plan_writes}
use Rattle.set_blocks.proofs.Stepping.{runs_fit}
use Rattle.set_blocks.proofs.WholeTurns.{none_full, replies_turned, changes_turned, unchanging_any}

-- the state of each time that a seat has seen is lawful
pub lawful_at : (s : Seat) → IsSeat IsOpening IsBlockCommit s → (t : ℕ) → IsLawful (state_at s.start s.seen t)
lawful_at s h t = keeps_at IsBlockCommit IsLawful (λ tag u ws makes l. makes.lawful_after) IsOpening s h (opening_lawful s.start h.start) t

-- so is what a section reads that holds nothing
pub lawful_here : (state : State) (time : ℕ) (s : InSection) → IsHere IsOpening IsBlockCommit state time s → IsLawful state
lawful_here state time s h =
    subst IsLawful (sym h.state_is) (keeps_read IsBlockCommit IsLawful (λ tag u ws makes l. makes.lawful_after) IsOpening s h.lawful h.own
    (opening_lawful s.seat.start h.lawful.seat.start))

-- What is planned for a block makes its change of each state to which others lead.
makes_block : (s : State) (commands : List Command) (ws : Writes) (answers : List Reply) → IsLawful s → BlockPlan s commands ws answers true
    → (before : State) → Drifts IsBlockCommit ws s before → MakesBlock commands before (written before ws) answers
makes_block s commands ws answers l plan before d =
    let ran = plan_ran s commands ws answers true plan l before d in
    let room = none_full s commands ws answers true plan in
    let changing = changes_turned commands before answers true ran.answers_are ran.changing_is room in
    record {
      changing = changing;
      answers_are = replies_turned commands before answers true ran.answers_are ran.changing_is room false refl;
      leaves =
          ran.leaves
          ∙ sym (ap (λ b. cond b (after_turns commands (catalogue_of before) (capacity before)) (catalogue_of before)) changing);
    }

-- What is planned for a block may be locked, and committed.
planned_as : (s : State) (commands : List Command) (ws : Writes) (answers : List Reply) → IsBlock commands → IsLawful s
    → length ws ≤ 5 * length commands → BlockPlan s commands ws answers true
    → IsPlanned IsBlockCommit (block_meaning commands) s (block_tag (length commands)) ws answers
planned_as s commands ws answers block l few plan =
    let runs = plan_runs s commands ws answers true l plan in
    record {
      plan = record { tagged = refl; plan = plan; makes = makes_block s commands ws answers l plan };
      some = plan_writes s commands ws answers true plan refl;
      few = few;
      distinct = runs.distinct;
      within = plan_within s commands ws answers true l plan;
      fit = runs_fit commands s ws answers true runs l block.some block.few;
    }

-- What is found over a view is what the block changes there.
pub change_found : (view s : State) (found commands : List Command) (ws made : Writes) (answers : List Reply) → view ≡ s → found ≡ commands
    → made ≡ ws → IsBlock commands → IsLawful s → length ws ≤ 5 * length found → IsBlockFound found view ws (Open answers)
    → (block_changes_in commands s false ≡ true) × IsPlanned IsBlockCommit (block_meaning commands) s (block_tag (length commands)) made answers
change_found view s found commands ws made answers here same is block l few f =
    let at : IsBlockFound found s ws (Open answers) = subst (λ u. IsBlockFound found u ws (Open answers)) here f in
    let planned = subst (λ w. IsPlanned IsBlockCommit (block_meaning found) s (block_tag (length found)) w answers) (sym is)
    (planned_as s found ws answers (subst IsBlock (sym same) block) l few at.2) in
    subst (λ cs. (block_changes_in cs s false ≡ true) × IsPlanned IsBlockCommit (block_meaning cs) s (block_tag (length cs)) made answers) same
    (at.1, planned)

-- So is what is found to change nothing, at the last time or not.
pub settled_found : (view s : State) (found commands : List Command) (answers : List Reply) → view ≡ s → found ≡ commands
    → IsBlockFound found view [] (Settled answers) → (last : Bool)
    → (answers ≡ replies_in commands s last) × (block_changes_in commands s last ≡ false)
settled_found view s found commands answers here same f last =
    let at : IsBlockFound found s [] (Settled answers) = subst (λ u. IsBlockFound found u [] (Settled answers)) here f in
    let is : IsBlockFound commands s [] (Settled answers) = subst (λ cs. IsBlockFound cs s [] (Settled answers)) same at in
    (is.0 last, unchanging_any commands s last is.1)
