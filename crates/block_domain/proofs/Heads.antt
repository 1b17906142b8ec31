-- The blocks of the seats as steps in the history: each stands there by its head.
use Rattle.section_work.specs.declared.place.Place.TheVariants.{Commit as AtCommit}
use Rattle.run_report.proofs.history.Groups.{AllSteps, flat}
use Rattle.block_domain.proofs.Terms.{◌≡◌, ◌+◌, ◌≤◌, ◌∷◌, ◌++◌, ◌∙◌, ℕ, suc, cond, List, [], length, map, refl, sym, ap, arith, All, map-append, All-weaker}
use Rattle.block_domain.proofs.Terms.{sum_by-cons, Commit, commits_of, Command, Place, Read, Reply, Line, time_of, EachPair, Past, commit_lines, is_commit_of}
use Rattle.block_domain.proofs.Terms.{IsPlaced, StepsOf, DoneBlock, BlockPlaceOf, BlocksOf, head_of, commit_blocks}
use Rattle.block_domain.proofs.Known.{all_unmap, AllDone, flat_done}

module _ (p : Past) where
  block_placed : (seat : ℕ) (block : List Command) (place : Place) (answers : List Reply) (commits : List Commit)
      → BlockPlaceOf p seat block place answers commits → IsPlaced p seat place commits
  block_placed seat block (AtCommit time) answers commits h = (h.0, h.1, h.2.later, h.2.there, h.2.seat_is)
  block_placed seat block (Read time) answers commits h = h.0

  -- steps of this number or a later one are steps of an earlier one or a later one
  steps_sooner : (seat early late before : ℕ) (lines : List Line) (commits : List Commit) → early ≤ late → StepsOf p seat late before lines commits
      → StepsOf p seat early before lines commits
  steps_sooner seat early late before [] commits le h = h
  steps_sooner seat early late before (line ∷ lines) commits le h = (
    h.0,
    h.1,
    h.2,
    record { by = h.3.by; from = omega (arith, le, h.3.from); follows = h.3.follows; placed = h.3.placed },
    h.4,
  )

  -- the heads of a seat's blocks are steps
  done_steps : (seat number before : ℕ) (blocks : List (List Command)) (done : List DoneBlock) (commits : List Commit)
      → BlocksOf p seat number before blocks done commits → StepsOf p seat number before (map head_of done) commits
  done_steps seat number before [] [] commits h = h
  done_steps seat number before [] (d ∷ done) commits h = absurd h
  done_steps seat number before (block ∷ blocks) [] commits h = absurd h
  done_steps seat number before (block ∷ blocks) (d ∷ done) commits h =
      let here = h.3 in (
        h.0,
        h.1,
        h.2,
        record {
          by = here.by;
          from = omega (arith, here.numbered);
          follows = here.follows;
          placed = block_placed seat block d.place d.answers h.0 here.place;
        },
        steps_sooner seat (suc d.number) (number + length block) (time_of d.place) (map head_of done) h.1 (omega (arith, here.numbered, here.some))
            (done_steps seat (number + length block) (time_of d.place) blocks done h.1 h.4),
      )

  -- and so are those of all seats
  pub all_heads : (seat : ℕ) (scripts : List (List (List Command))) (groups : List (List DoneBlock)) → AllDone p seat scripts groups
      → AllSteps p seat (map (map head_of) groups)
  all_heads seat [] [] h = tt
  all_heads seat [] (done ∷ groups) h = absurd h
  all_heads seat (script ∷ scripts) [] h = absurd h
  all_heads seat (script ∷ scripts) (done ∷ groups) h =
      (done_steps seat 1 p.base script done (commits_of seat p.entries) h.0, all_heads (suc seat) scripts groups h.1)

  pub groups_count : (seat : ℕ) (scripts : List (List (List Command))) (groups : List (List DoneBlock)) → AllDone p seat scripts groups
      → length (map (map head_of) groups) ≡ length scripts
  groups_count seat [] [] h = refl
  groups_count seat [] (done ∷ groups) h = absurd h
  groups_count seat (script ∷ scripts) [] h = absurd h
  groups_count seat (script ∷ scripts) (done ∷ groups) h = ap (λ n. suc n) (groups_count (suc seat) scripts groups h.1)

-- they are the heads of all blocks
pub heads_flat : (groups : List (List DoneBlock)) → flat (map (map head_of) groups) ≡ map head_of (flat_done groups)
heads_flat [] = refl
heads_flat (done ∷ groups) = ap (λ ls. map head_of done ++ ls) (heads_flat groups) ∙ sym (map-append head_of done (flat_done groups))

-- as many heads as blocks are commits of a time
pub heads_commits : (time : ℕ) (blocks : List DoneBlock) → commit_lines time (map head_of blocks) ≡ commit_blocks time blocks
heads_commits time [] = refl
heads_commits time (d ∷ blocks) =
    sum_by-cons (λ (l : Line). cond (is_commit_of time l.place) 1 0) (head_of d) (map head_of blocks)
    ∙ ap (λ k. cond (is_commit_of time d.place) 1 0 + k) (heads_commits time blocks)
    ∙ sym (sum_by-cons (λ (e : DoneBlock). cond (is_commit_of time e.place) 1 0) d blocks)

-- what holds of each two heads holds at each two blocks
pub pairs_of_heads : (R : Line → Line → Type 0) (blocks : List DoneBlock) → EachPair R (map head_of blocks)
    → All (λ d. All (λ e. R (head_of d) (head_of e)) blocks) blocks
pairs_of_heads R blocks pairs =
    All-weaker (λ d. All (R (head_of d)) (map head_of blocks)) (λ d. All (λ e. R (head_of d) (head_of e)) blocks)
    (λ d h. all_unmap (R (head_of d)) head_of blocks h) blocks (all_unmap (λ a. All (R a) (map head_of blocks)) head_of blocks pairs)
