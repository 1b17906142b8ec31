-- The seats of a domain that ran their scripts of blocks have met: their lines and tables are those of one run in the whole history, whose replay gives
-- every reply.
use Rattle.mv_history.specs.declared.history.TheConstants.{LAST}
use Rattle.section_work.specs.declared.place.Place.TheVariants.{Commit as AtCommit}
use Rattle.set_blocks.specs.BlockReplies.{block_replies, block_changes, block_next}
use Rattle.run_report.proofs.Replaying.{some_and}
use Rattle.run_report.proofs.history.Changes.{IsQuiet, quiet_same}
use Rattle.run_report.proofs.history.Weights.{weight}
use Rattle.mv_history.specs.declared.answers.LogTable.{LogTable}
use Rattle.mv_history.specs.declared.history.Entry.TheVariants.{Change}
use Rattle.set_model.proofs.Opening.{opening_empty}
use Rattle.run_report.proofs.Pairs.{pairs_permuted}
use Rattle.run_report.proofs.history.Inserted.{some_order}
use Rattle.run_report.proofs.history.OneRun.{lines_permuted, made_by_seat}
use Rattle.block_domain.proofs.Terms.{◌≡◌, ◌+◌, ◌-◌, ◌*◌, ◌<◌, ◌≤◌, ◌==◌, ◌∷◌, ◌∙◌, ℕ, suc, false, List, [], length, map, refl, sym, ap, subst, arith, All}
use Rattle.block_domain.proofs.Terms.{take_all, All-head, All-tail, Commit, State, state_after, state_at, Maps, catalogue_of, capacity, Command, Place, Read}
use Rattle.block_domain.proofs.Terms.{Line, Follows, is_last, Past, state_of_time, IsLeft, quiet_before, left_by_read, left_by_commit, DoneBlock, BlockPlaceOf}
use Rattle.block_domain.proofs.Terms.{MayBlockStand, ReplaysBlocks, after_block, block_of, head_of, BlockStandsIn, flat_map, IsPermutation, IsPermutation-refl}
use Rattle.block_domain.proofs.Terms.{IsPermutation-sym, IsPermutation-trans, IsPermutation-map, All-permutation, Seat, empty, IsOpening, IsBlockCommit}
use Rattle.block_domain.proofs.Terms.{IsOrdered, EachPair, IsAlone, IsInTime, id_of, ids_of, EachHasOneLine, commit_lines, IsSamePlace, AllContinue}
use Rattle.block_domain.proofs.Terms.{IsOneHistory, lines_of, AllRanBlocks, commands_of, IsInBlockTime, IsOfOneBlock, IsOfOnePlace, LegalBlocks, BlocksRunOf}
use Rattle.block_domain.proofs.Heads.{all_heads, groups_count, heads_commits, heads_flat}
use Rattle.block_domain.proofs.Known.{AllDone, all_done, flat_done, ordered_as}
use Rattle.block_domain.proofs.Lines.{all_ids, all_lines, all_stand, lines_alone, lines_follow, lines_in_time, lines_one_place}
use Rattle.run_report.proofs.history.Groups as groups_of

-- of a head nothing more is known than its place
abbrev pub Any : Line → Type 0
Any line = Unit {0}

module _ (p : Past) (scripts : List (List (List Command))) where
  -- the state of the history after so many entries
  abbrev at_time : ℕ → State
  at_time t = state_at p.start p.entries t

  -- the catalogue at the end of the history
  abbrev end : Maps
  end = catalogue_of (state_after p.start p.entries)

  -- the block replays where the history stands at this time, and the others from where it stands then
  abbrev Steps : ℕ → DoneBlock → Place → List DoneBlock → List Command → Type 0
  Steps t d place blocks block =
      (d.answers ≡ block_replies block (catalogue_of (at_time t)) (capacity p.start) (is_last place))
      × MayBlockStand place block (catalogue_of (at_time t)) (capacity p.start)
      × ReplaysBlocks scripts (capacity p.start) (after_block place block (catalogue_of (at_time t)) (capacity p.start)) blocks end

  step : p.last ≡ LAST → (t : ℕ) (d : DoneBlock) (blocks : List DoneBlock) (block : List Command) (place : Place) (commits : List Commit)
      → d.place ≡ place → IsLeft p Any t (head_of d ∷ map head_of blocks) → BlockPlaceOf p d.seat block place d.answers commits
      → ((u : ℕ) → IsLeft p Any u (map head_of blocks) → ReplaysBlocks scripts (capacity p.start) (catalogue_of (at_time u)) blocks end)
      → Steps t d place blocks block
  step last t d blocks block (Read time) commits at left placed rest =
      let read = placed.1 in
      let u : ℕ = time - p.base in
      let line : Line = head_of d in
      let lines : List Line = map head_of blocks in
      let follows : p.base + t ≤ time = subst (λ q. Follows (p.base + t) q) at (All-head (λ l. Follows (p.base + t) l.place) line lines left.follow) in
      let is : time ≡ p.base + u = omega (arith, read.after) in
      let le : t ≤ u = omega (arith, is, follows) in
      let weighs : weight line ≡ 2 * time + 1 = rw at refl in
      let same = quiet_same p.start p.entries t u le (quiet_before p Any t u line lines left (omega (arith, weighs, is))) in (
        read.answers_are ∙ (λ i. block_replies block (catalogue_of (same i)) (capacity p.start) (time == last i)),
        sym (λ i. block_changes block (catalogue_of (same i)) (capacity p.start) (time == last i)) ∙ read.unchanging,
        subst (λ s. ReplaysBlocks scripts (capacity p.start) (catalogue_of s) blocks end) same
            (rest u (left_by_read p Any t u time line lines left at is le)),
      )
  step last t d blocks block (AtCommit time) commits at left placed rest =
      let made = placed.2 in
      let u : ℕ = time - (p.base + 1) in
      let line : Line = head_of d in
      let lines : List Line = map head_of blocks in
      let follows : p.base + t < time = subst (λ q. Follows (p.base + t) q) at (All-head (λ l. Follows (p.base + t) l.place) line lines left.follow) in
      let is : time ≡ p.base + suc u = omega (arith, made.later) in
      let le : t ≤ u = omega (arith, is, follows) in
      let weighs : weight line ≡ 2 * time + 0 = rw at refl in
      let same = quiet_same p.start p.entries t u le (quiet_before p Any t u line lines left (omega (arith, weighs, is))) in
      let before : time - 1 - p.base ≡ u = omega (arith, is) in
      let now : time - p.base ≡ suc u = omega (arith, is) in
      let here : catalogue_of (state_of_time p (time - 1)) ≡ catalogue_of (at_time t) = ap catalogue_of (ap at_time before ∙ same) in
      let leaves : catalogue_of (at_time (suc u)) ≡ block_next block (catalogue_of (at_time t)) (capacity p.start) false =
      ap (λ n. catalogue_of (at_time n)) (sym now) ∙ made.leaves ∙ (λ i. block_next block (here i) (capacity p.start) false) in (
        made.answers_are ∙ (λ i. block_replies block (here i) (capacity p.start) false),
        sym (λ i. block_changes block (here i) (capacity p.start) false) ∙ made.changing,
        subst (λ m. ReplaysBlocks scripts (capacity p.start) m blocks end) leaves
            (rest (suc u) (left_by_commit p Any t u time placed.0 line lines left at is le made.there)),
      )

  -- the blocks that are left replay to the end of the history
  pub replay : p.last ≡ LAST → (t : ℕ) (blocks : List DoneBlock) → IsLeft p Any t (map head_of blocks) → All (BlockStandsIn p scripts) blocks
      → ReplaysBlocks scripts (capacity p.start) (catalogue_of (at_time t)) blocks end
  replay last t [] left stand =
      let u : ℕ = t + length p.entries in
      let quiet : IsQuiet p.entries t u = λ i c low high there. omega (arith, left.left i c low there) in
      ap catalogue_of (sym (quiet_same p.start p.entries t u (omega arith) quiet) ∙ ap (state_after p.start) (take_all u p.entries (omega arith)))
  replay last t (d ∷ blocks) left stand =
      some_and (block_of scripts d) (λ block. (commits : List Commit) × BlockPlaceOf p d.seat block d.place d.answers commits)
      (λ block. Steps t d d.place blocks block)
      (λ block stands. step last t d blocks block d.place stands.0 refl left stands.1
      (λ u others. replay last u blocks others (All-tail (BlockStandsIn p scripts) d blocks stand)))
      (All-head (BlockStandsIn p scripts) d blocks stand)

-- seats that ran scripts of blocks go on
pub all_continue : (olds news : List Seat) (scripts : List (List (List Command))) (lines : List Line) → AllRanBlocks olds news scripts lines
    → AllContinue olds news
all_continue [] [] [] lines ran = tt
all_continue (o ∷ olds) (n ∷ news) (script ∷ scripts) lines ran = (ran.3.continues, all_continue olds news scripts ran.1 ran.4)
all_continue _ _ _ lines ran = absurd ran

-- The seats of the scripts made one history, and what became of the blocks of all of them is this.
module _ (p : Past) (scripts : List (List (List Command))) (groups : List (List DoneBlock)) (olds news : List Seat) (tables : List LogTable)
    (h : IsOneHistory IsOpening IsBlockCommit p (length scripts) olds news tables) (done : AllDone p 0 scripts groups) where
  -- all blocks, and their heads
  abbrev blocks : List DoneBlock
  blocks = flat_done groups

  abbrev heads : List Line
  heads = map head_of blocks

  one_head : EachHasOneLine p heads
  one_head i c there =
      let few = made_by_seat (length scripts) p.entries i (Change c) h.makers there in
      let count = groups_count p 0 scripts groups done in
      subst (λ ls. commit_lines (p.base + suc i) ls ≡ 1) (heads_flat groups)
      (groups_of.all_one p (length p.start) i c 0 (map (map head_of) groups) h.legal there (omega arith) (omega (arith, few, count))
      (all_heads p 0 scripts groups done))

  follow : All (λ line. Follows p.base line.place) heads
  follow =
      subst (All (λ line. Follows p.base line.place)) (heads_flat groups)
      (groups_of.all_follow p 0 (map (map head_of) groups) (all_heads p 0 scripts groups done))

  in_time : EachPair IsInTime heads
  in_time = subst (EachPair IsInTime) (heads_flat groups) (groups_of.all_in_time p 0 (map (map head_of) groups) (all_heads p 0 scripts groups done))

  same_place : EachPair IsSamePlace heads
  same_place = subst (EachPair IsSamePlace) (heads_flat groups) (groups_of.all_same p 0 (map (map head_of) groups) (all_heads p 0 scripts groups done))

  alone : EachPair IsAlone heads
  alone = subst (EachPair IsAlone) (heads_flat groups) (groups_of.all_alone p 0 (map (map head_of) groups) (all_heads p 0 scripts groups done))

  -- ordered blocks replay from empty maps
  replays : (ordered : List DoneBlock) → IsPermutation blocks ordered → IsOrdered (map head_of ordered)
      → ReplaysBlocks scripts (capacity p.start) empty ordered (catalogue_of (state_after p.start p.entries))
  replays ordered same rising =
      let from : p.base ≡ p.base + 0 = omega arith in
      let as_heads = IsPermutation-map head_of blocks ordered same in
      let left : IsLeft p Any 0 (map head_of ordered) = record {
        ordered = rising;
        stand = λ k d lt. tt;
        follow = All-permutation (λ line. Follows (p.base + 0) line.place) heads (map head_of ordered) as_heads
            (subst (λ t. All (λ line. Follows t line.place) heads) from follow);
        left = λ i c low there. lines_permuted (p.base + suc i) heads (map head_of ordered) as_heads ∙ one_head i c there;
      } in
      subst (λ m. ReplaysBlocks scripts (capacity p.start) m ordered (catalogue_of (state_after p.start p.entries))) (opening_empty p.start h.opening)
      (replay p scripts h.last 0 ordered left (All-permutation (BlockStandsIn p scripts) blocks ordered same (all_stand p scripts groups done)))

  legal_blocks : LegalBlocks scripts (flat_map lines_of blocks) p.base (capacity p.start) (catalogue_of (state_after p.start p.entries))
  legal_blocks =
      let own = all_lines p scripts groups done in
      let sorted = some_order heads in
      let as_blocks = ordered_as head_of blocks sorted.0 sorted.1 in
      record {
        once = subst (IsPermutation (ids_of 0 (map commands_of scripts))) (sym (all_ids p 0 scripts groups done))
            (IsPermutation-refl (ids_of 0 (map commands_of scripts)));
        one_place = lines_one_place scripts blocks own same_place;
        from_base = lines_follow scripts blocks own p.base follow;
        in_time = lines_in_time scripts blocks own in_time;
        alone = lines_alone scripts blocks own alone;
        replayed = (
          blocks,
          as_blocks.0,
          IsPermutation-refl (flat_map lines_of blocks),
          as_blocks.2,
          subst IsOrdered as_blocks.1 sorted.2,
          replays as_blocks.0 as_blocks.2 (subst IsOrdered as_blocks.1 sorted.2),
        );
      }

  -- The lines are those of one run.
  blocks_run_of : (lines : List Line) → lines ≡ flat_map lines_of blocks
      → BlocksRunOf p scripts lines (catalogue_of (state_after p.start p.entries)) tables
  blocks_run_of lines are =
      record {
        opening = h.opening;
        legal = h.legal;
        allowed = h.allowed;
        blocks = blocks;
        lines_are = subst (λ ls. IsPermutation ls (flat_map lines_of blocks)) (sym are) (IsPermutation-refl (flat_map lines_of blocks));
        stand = all_stand p scripts groups done;
        one_block = λ i c there. sym (heads_commits (p.base + suc i) blocks) ∙ one_head i c there;
        end_is = refl;
        table_each = h.table_each;
        table_of = h.table_of;
        run = subst (λ ls. LegalBlocks scripts ls p.base (capacity p.start) (catalogue_of (state_after p.start p.entries))) (sym are) legal_blocks;
      }

-- a run stays one whatever the order of its lines
pub run_permuted : (p : Past) (scripts : List (List (List Command))) (lines others : List Line) (end : Maps) (tables : List LogTable)
    → IsPermutation lines others → BlocksRunOf p scripts lines end tables → BlocksRunOf p scripts others end tables
run_permuted p scripts lines others end tables same run =
    let r = run.run.replayed in
    let back = IsPermutation-sym lines others same in
    record {
      opening = run.opening;
      legal = run.legal;
      allowed = run.allowed;
      blocks = run.blocks;
      lines_are = IsPermutation-trans _ _ _ back run.lines_are;
      stand = run.stand;
      one_block = run.one_block;
      end_is = run.end_is;
      table_each = run.table_each;
      table_of = run.table_of;
      run = record {
        once = IsPermutation-trans _ _ _ run.run.once (IsPermutation-map id_of lines others same);
        one_place = pairs_permuted (IsOfOnePlace scripts) lines others same run.run.one_place;
        from_base = All-permutation (λ line. Follows p.base line.place) lines others same run.run.from_base;
        in_time = pairs_permuted (IsInBlockTime scripts) lines others same run.run.in_time;
        alone = pairs_permuted (IsOfOneBlock scripts) lines others same run.run.alone;
        replayed = (r.0, r.1, IsPermutation-trans _ _ _ back r.2, r.3, r.4, r.5);
      };
    }

-- The lines and tables are those of one run in the whole history.
pub blocks_met : (p : Past) (olds news : List Seat) (scripts : List (List (List Command))) (lines : List Line) (tables : List LogTable)
    → IsOneHistory IsOpening IsBlockCommit p (length scripts) olds news tables → AllRanBlocks olds news scripts lines
    → BlocksRunOf p scripts lines (catalogue_of (state_after p.start p.entries)) tables
blocks_met p olds news scripts lines tables h ran =
    let done = all_done p 0 olds news scripts lines h.known ran in blocks_run_of p scripts done.0 olds news tables h done.2 lines done.1
