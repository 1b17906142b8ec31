-- What a command comes to in a state, as the block of one.
use Rattle.std.proofs.Common.{◌≡◌, ◌≤◌, Bool, true, false, [], ◌∷◌, length, refl, sym, ap, ◌∙◌, subst, arith}
use Rattle.mv_history.specs.State.{State, Writes, written}
use Rattle.mv_history.specs.Drift.{Drifts}
use Rattle.section_work.specs.Works.{IsPlanned}
use Rattle.set_model.specs.CatalogueOf.{catalogue_of}
use Rattle.set_model.specs.Lawful.{IsLawful}
use Rattle.set_model.specs.Rules.{capacity, IsSetCommit, Makes, MakesSome}
use Rattle.set_model.specs.declared.commands.Command.{Command}
use Rattle.set_model.specs.declared.commands.Reply.{Reply}
use Rattle.set_model.specs.declared.commands.Reply.TheVariants.{Yes, Worn}
use Rattle.set_catalog.specs.CommandLaws.{tag_stands}
use Rattle.set_catalog.specs.Findings.{IsPlanned as IsPlannedFor}
use Rattle.set_catalog.specs.Merges.{WritePlan, writes_in}
use Rattle.set_catalog.specs.Replies.{reply_in, changes_in}
use Rattle.set_catalog.specs.declared.plan.Vacated.{Vacated}
use Rattle.set_catalog.proofs.Deciding.{settled_any, worn_at_last, unchanging_at_last}
use Rattle.set_catalog.proofs.Merging.{merged-none}
use Rattle.set_blocks.specs.Blocks.{IsBlock}
use Rattle.set_blocks.specs.BlockMeaning.{block_meaning, replies_in, block_changes_in}
use Rattle.set_blocks.specs.BlockPlans.{BlockPlan}
use Rattle.set_blocks.specs.BlockPlans.BlockPlan.{nothing_yet, one_more}
use Rattle.set_blocks.specs.BlockPlans.StepPlan.{changing}
use Rattle.set_blocks.specs.BlockRules.{IsBlockCommit, block_tag}
use Rattle.set_blocks.proofs.Deciding.{change_found}
use Rattle.set_blocks.proofs.SingleBlocks.{one_replies, one_changes}

-- one command is a block
one_block : (command : Command) → IsBlock (command ∷ [])
one_block command = record { some = omega arith; few = omega arith; apart = λ lt. absurd (omega (arith, lt)) }

module _ (command : Command) (s : State) where
  -- its replies and whether it changes something are the command's
  pub said_one : (last : Bool) → replies_in (command ∷ []) s last ≡ reply_in command s last ∷ []
  said_one last = one_replies command (catalogue_of s) (capacity s) last

  pub changes_one : (last : Bool) → block_changes_in (command ∷ []) s last ≡ changes_in command s last
  changes_one last = one_changes command (catalogue_of s) (capacity s) last

  -- what changes nothing changes nothing as a block
  pub settled_one : (answer : Reply) → answer ≡ reply_in command s false → changes_in command s false ≡ false → (last : Bool)
      → (answer ∷ [] ≡ replies_in (command ∷ []) s last) × (block_changes_in (command ∷ []) s last ≡ false)
  settled_one answer is none last =
      let same = settled_any command s answer last is none in
      (ap (λ (r : Reply). r ∷ []) same.0 ∙ sym (said_one last), changes_one last ∙ same.1)

  -- at the last time a change comes too late
  pub worn_one : block_changes_in (command ∷ []) s false ≡ true
      → (Worn ∷ [] ≡ replies_in (command ∷ []) s true) × (block_changes_in (command ∷ []) s true ≡ false)
  worn_one does =
      let here : changes_in command s false ≡ true = sym (changes_one false) ∙ does in
      (sym (said_one true ∙ ap (λ (r : Reply). r ∷ []) (worn_at_last command s here)), changes_one true ∙ unchanging_at_last command s)

  -- what is planned for it is allowed in the state itself
  makes_here : (ws : Writes) (gone : Vacated) → IsPlannedFor command s ws gone → Makes command s (written s ws)
  makes_here ws gone p =
      let none : Drifts IsSetCommit ws s s = record { commits = []; are_allowed = tt; avoid = tt; leads = refl } in
      subst (λ m. MakesSome m s (written s ws)) (tag_stands command s ws p.plan) (p.fit s none).makes

  -- and planned as a block
  plan_one : (ws : Writes) (gone : Vacated) → changes_in command s false ≡ true → IsPlannedFor command s ws gone
      → BlockPlan s (command ∷ []) ws (Yes ∷ []) true
  plan_one ws gone c p =
      subst (λ u. BlockPlan s (command ∷ []) u (Yes ∷ []) true) (merged-none ws p.distinct)
      (one_more [] [] [] false command ws Yes true nothing_yet (makes_here ws gone p).in_range (changing ws c p.plan))

  pub change_one : (plan : WritePlan) (gone : Vacated) → IsLawful s → changes_in command s false ≡ true → IsPlannedFor command s (writes_in plan) gone
      → (block_changes_in (command ∷ []) s false ≡ true)
      × IsPlanned IsBlockCommit (block_meaning (command ∷ [])) s (block_tag 1) (writes_in plan) (Yes ∷ [])
  change_one plan gone l c p =
      let ws : Writes = writes_in plan in
      let few : length ws ≤ 5 = p.few in
      let said : Yes ∷ [] ≡ replies_in (command ∷ []) s false =
      sym (said_one false ∙ ap (λ (r : Reply). r ∷ []) (makes_here ws gone p).answer) in
      change_found s s (command ∷ []) (command ∷ []) ws ws (Yes ∷ []) refl refl refl (one_block command) l few
      (said, changes_one false ∙ c, plan_one ws gone c p)
