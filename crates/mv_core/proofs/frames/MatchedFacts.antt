-- All facts that stay where each live version stays what it is to the other seats, and the stamp of its write set too: the frame of a step that changes one
-- log.
use Rattle.std.proofs.Common.{◌≡◌, ◌≢◌, ◌⊎◌, ℕ, ◌+◌, ◌/◌, ◌<◌, ◌≤◌, List, refl, sym, subst, ⊎_elim, inl, inr, Some, None}
use Rattle.mv_core.proofs.Terms.{Entry, State, Writes, Config, Clock, Head, Master, Stamp, Super, Memory, unset_of, Ring, Version, WriteSetStatus, Held}
use Rattle.mv_core.proofs.Terms.{Aborted, Committed, CommitNote, Stand, Lives, Names, latest_at, ViewParts}
use Rattle.mv_core.specs.declared.view.WalkStage.TheVariants.{At}
use Rattle.mv_core.proofs.FactTerms.{stamp_of, WriteSets, BelowIsStamped, UnstampedIsUnfinished, StampedPastHelp, LockFreshness, FoundStamps}
use Rattle.mv_core.proofs.FactTerms.{NamedCommit, OpenSection, HeadIsTop, HeldLink, CommitLink, AbortedLink, PresentMaster, ChainFoot, MayStandAt}
use Rattle.mv_core.proofs.FactTerms.{WalkerPlace, WalkerKnowledge, WalkerFalls, WalkerLate, FreedIsOld, CutIsOld, SuccessorFlag, WriteBacks, Facts}
use Rattle.mv_core.proofs.kinds.walking.Landing.{top_lands}
use Rattle.mv_core.proofs.logs.Slots.{Matches, match_weaker}
use Rattle.mv_core.proofs.frames.Matching.{LivesOn, AlikeOrCut, Alike, SameCut, on_place, same_cuts, committed_back}
use Rattle.mv_core.proofs.kinds.reclaiming.cut_head.Cuts.{SameDeath, SameNotes, Steady, SameDeathFacts, same_death_facts, flags_match}
use Rattle.mv_core.proofs.frames.MatchedSets as set
use Rattle.mv_core.proofs.frames.MatchedStamps as stamped
use Rattle.mv_core.proofs.frames.MatchedWalks as walked

-- the facts that stay where each version lives on, over the logs and the stamps afterwards
pub record LivesOnFacts (c : Config) (start : State) (m : Memory) (h : List Entry) (f : ViewParts) (stamp : ℕ → ℕ → ℕ) (rings : ℕ → Ring) : Type 0 where
  pub write_sets : WriteSets c h rings
  pub past_help : StampedPastHelp c stamp f.section f.clocks rings
  pub fresh : LockFreshness c h f.time rings
  pub aborted_links : AbortedLink rings
  pub places : WalkerPlace c start h (λ o w. m (Master o w)) f.time f.walk rings
  pub feet : ChainFoot c start h (λ o w. m (Master o w)) f.time rings
  pub knowledge : WalkerKnowledge f.section f.time f.clocks f.walk rings
  pub below : BelowIsStamped c stamp rings
  pub falls : WalkerFalls c stamp f.walk rings
  pub late : WalkerLate f.time f.walk rings
  pub found : FoundStamps c (m Clock) stamp f.clocks rings
  pub unfinished : UnstampedIsUnfinished c stamp f.section rings
  pub named : NamedCommit c h stamp f.section rings
  pub freed : FreedIsOld c (m Clock) h f.grace rings
  pub live : (s j : ℕ) (x : Version) (st : WriteSetStatus) → Lives rings s j x st → c.base + x.position / c.slots ≤ f.grace s
  pub commit : (s j : ℕ) (x : Version) (note : CommitNote) → Lives rings s j x (Committed note) → c.base + x.position / c.slots < note.time

-- and those that stay where no version is cut
pub record SameCutFacts (c : Config) (start : State) (m : Memory) (h : List Entry) (f : ViewParts) (rings : ℕ → Ring) : Type 0 where
  pub held_links : HeldLink c h rings
  pub commit_links : CommitLink c h rings
  pub masters : PresentMaster c start h (λ o w. m (Master o w)) f.time rings
  pub cut : CutIsOld f.time rings
  pub backs : WriteBacks c h (λ o w. m (Master o w)) f.section f.time f.clocks f.grace f.back rings

-- and those that stay where a held version is held still
pub record AlikeOrCutFacts (c : Config) (start : State) (m : Memory) (h : List Entry) (f : ViewParts) (stamp : ℕ → ℕ → ℕ) (rings : ℕ → Ring) : Type 0 where
  pub live_on : LivesOnFacts c start m h f stamp rings
  pub open_sections : OpenSection c h f.section rings

-- and where none is cut besides
pub record AlikeFacts (c : Config) (start : State) (m : Memory) (h : List Entry) (f : ViewParts) (stamp : ℕ → ℕ → ℕ) (rings : ℕ → Ring) : Type 0 where
  pub or_cut : AlikeOrCutFacts c start m h f stamp rings
  pub same_cut : SameCutFacts c start m h f rings
  pub heads : HeadIsTop c h (λ o. m (Head o)) rings

-- and those that stay where each version stays, with all that is noted of it
pub record SteadyFacts (c : Config) (start : State) (m : Memory) (h : List Entry) (f : ViewParts) (stamp super : ℕ → ℕ → ℕ) (rings : ℕ → Ring) : Type 0 where
  pub alike : AlikeFacts c start m h f stamp rings
  pub same_death : SameDeathFacts c h f rings
  pub flags : SuccessorFlag super f.section rings

module _ {starts : State → Type 0} {allows : List ℕ → State → Writes → Type 0} {c : Config} {start : State} {m : Memory} {h : List Entry} {f : ViewParts}
    (k : Facts starts allows c start m h f) (rings : ℕ → Ring) where
  abbrev stamp : ℕ → ℕ → ℕ
  stamp s j = m (Stamp s j)

  abbrev master : ℕ → ℕ → ℕ
  master o w = m (Master o w)

  -- a walk may stand at a held version, were it aborted: it leads on to its object's top
  held_place : (s t : ℕ) (stand : Stand) (x : Version) → f.time s ≡ Some t → f.walk s ≡ At stand → Names f.ring stand.link x Held
      → MayStandAt c start h master f.ring t x (Aborted None)
  held_place s t stand x timed at names =
      ⊎_elim
      (λ z. inl z)
      (λ l.
      let right = subst (λ (o : ℕ). (t < l.note.time) ⊎ (l.note.time ≡ latest_at c.base h o t)) (sym l.object_is) l.right in
      inr (l.version, l.note, l.names, l.object_is, right))
      (top_lands k s t x.object x.previous timed (k.held_link names.seat names.slot x names.lives))

  pub same_cut_facts : Matches LivesOn f.ring rings → SameCut f.ring rings → SameCutFacts c start m h f rings
  same_cut_facts on same_cut = record {
    held_links = set.held_link_match c h f.ring rings on same_cut k.held_link;
    commit_links = set.commit_link_match c h f.ring rings on same_cut k.commit_link;
    masters = set.master_match c h f.ring rings on same_cut start master f.time k.present_master;
    cut = set.cut_match c h f.ring rings on same_cut f.time k.cut_is_old;
    backs = stamped.back_match c h f.ring rings on same_cut master f.section f.time f.clocks f.grace f.back k.write_back;
  }

  -- each live version's write set keeps its stamp, and no stamp becomes the unset one of a position that was used
  module _ (stamp' : ℕ → ℕ → ℕ) (same : (s j : ℕ) (x : Version) (st : WriteSetStatus) → Lives f.ring s j x st → stamp_of c stamp' s x ≡ stamp_of c stamp s x)
      (apart : (s j p : ℕ) → p < (f.ring s).next → stamp s j ≢ unset_of p → stamp' s j ≢ unset_of p) where
    pub live_on_facts : Matches LivesOn f.ring rings → LivesOnFacts c start m h f stamp' rings
    live_on_facts on = record {
      write_sets = set.sets_match c h f.ring rings on k.write_sets;
      past_help = stamped.past_help_match c h f.ring rings on stamp stamp' same f.section f.clocks k.stamped_past_help;
      fresh = set.freshness_match c h f.ring rings on f.time k.lock_freshness;
      aborted_links = set.aborted_link_match c h f.ring rings on k.held_link k.aborted_link;
      places = walked.place_match c h f.ring rings on start master f.time f.walk held_place k.walker_place;
      feet = set.foot_match c h f.ring rings on start master f.time k.chain_foot;
      knowledge = walked.knowledge_match c f.ring rings on f.section f.time f.clocks f.walk k.walker_knowledge;
      below = stamped.below_match c h f.ring rings on stamp stamp' same k.below_is_stamped;
      falls = walked.falls_match c f.ring rings on stamp stamp' same f.walk k.walker_falls;
      late = walked.late_match c f.ring rings on f.time f.walk k.walker_late;
      found = stamped.found_match c h f.ring rings on stamp stamp' same (m Clock) f.clocks apart k.found_stamp;
      unfinished = stamped.unfinished_match c h f.ring rings on stamp stamp' same f.section k.unstamped_is_unfinished;
      named = stamped.named_match c h f.ring rings on stamp stamp' same f.section k.named_commit;
      freed = set.freed_match c h f.ring rings on (m Clock) f.grace k.freed_is_old;
      live = λ s j x st lives.
          let b = on.back s j x st lives in
          subst (λ (p : ℕ). c.base + p / c.slots ≤ f.grace s) (sym (on_place b.0 b.1 x st b.3).position) (k.positions_and_grace.live s j b.0 b.1 b.2);
      commit = λ s j x note lives.
          let b = committed_back f.ring rings on s j x note lives in
          subst (λ (t : ℕ). c.base + x.position / c.slots < t) (sym b.2) (k.positions_and_grace.commit s j x b.0 b.1);
    }

    pub alike_or_cut_facts : Matches AlikeOrCut f.ring rings → AlikeOrCutFacts c start m h f stamp' rings
    alike_or_cut_facts alike = record {
      live_on = live_on_facts (match_weaker AlikeOrCut LivesOn f.ring rings (λ x st y su a. a.0) alike);
      open_sections = set.open_match c h f.ring rings alike f.section k.open_section;
    }

    pub alike_facts : Matches Alike f.ring rings → AlikeFacts c start m h f stamp' rings
    alike_facts matches =
        let alike = match_weaker Alike AlikeOrCut f.ring rings (λ x st y su a. a.0) matches in
        let on = match_weaker Alike LivesOn f.ring rings (λ x st y su a. a.0.0) matches in
        let same_cut = same_cuts Alike (λ x st y su a. a.1) f.ring rings matches in record {
          or_cut = alike_or_cut_facts alike;
          same_cut = same_cut_facts on same_cut;
          heads = set.top_match c h f.ring rings alike same_cut (λ o. m (Head o)) k.head_is_top;
        }

  -- where no stamp changes
  pub same_stamp_facts : Matches Alike f.ring rings → AlikeFacts c start m h f stamp rings
  same_stamp_facts = alike_facts stamp (λ s j x st l. refl) (λ s j p used apart. apart)

  pub steady_facts : (stamp' super : ℕ → ℕ → ℕ) → ((s j : ℕ) (x : Version) (st : WriteSetStatus) → Lives f.ring s j x st
      → stamp_of c stamp' s x ≡ stamp_of c stamp s x)
      → ((s j p : ℕ) → p < (f.ring s).next → stamp s j ≢ unset_of p → stamp' s j ≢ unset_of p)
      → ((s j : ℕ) (x : Version) (st : WriteSetStatus) → Lives f.ring s j x st → super s j ≡ m (Super s j)) → Matches Steady f.ring rings
      → SteadyFacts c start m h f stamp' super rings
  steady_facts stamp' super same apart same_super steady = record {
    alike = alike_facts stamp' same apart (match_weaker Steady Alike f.ring rings (λ x st y su a. ((a.0.0.0.0, a.0.1), a.1)) steady);
    same_death = same_death_facts k rings (match_weaker Steady SameDeath f.ring rings (λ x st y su a. a.0.0.0) steady);
    flags = flags_match k rings super same_super (match_weaker Steady SameNotes f.ring rings (λ x st y su a. a.0.0) steady);
  }
