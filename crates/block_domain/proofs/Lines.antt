-- The lines of the blocks of all seats: their numbers, which block each is of, and what holds of them.
use Rattle.std.proofs.lemmas.Bool.Decides.{nat_tests}
use Rattle.std.specs.Option.{IsSomeAnd}
use Rattle.std.proofs.Math.Seq.{get_or-append_seam}
use Rattle.block_domain.proofs.Terms.{◌≡◌, ◌+◌, ◌<◌, ◌≤◌, ◌==◌, if◌then◌else◌, ◌∷◌, ◌++◌, ◌∙◌, ℕ, suc, nat_lt, Bool, true, false, List, [], length, map, sum_by}
use Rattle.block_domain.proofs.Terms.{Some, refl, ap, arith, All, All-head, All-tail, sum_by-cons, Command, Place, Reply, id_of, ids_from, lines_at, start_from}
use Rattle.block_domain.proofs.Terms.{block_from, IsTrue, get_or, sym, subst, add-one, append_assoc, length-append, flat_map, slice_index_or, map-append}
use Rattle.block_domain.proofs.Terms.{flat_map-append, All-nil, All-cons, All-push, All-append, All-weaker, sum_by_push, Commit, commits_of, Line, time_of}
use Rattle.block_domain.proofs.Terms.{EachPair, Follows, IsInTime, IsAlone, ids_of, is_commit, Past, IsSamePlace, DoneBlock, lines_of, BlockPlaceOf, BlocksOf}
use Rattle.block_domain.proofs.Terms.{place_count, commands_of, start_of, block_of, head_of, IsOfOnePlace, IsInBlockTime, IsOfOneBlock, BlockStandsIn}
use Rattle.block_domain.proofs.Known.{all_unmap, all_flat, AllDone, flat_done}
use Rattle.block_domain.proofs.Heads.{pairs_of_heads}

if_true : {A : Type 0} (b : Bool) (x y : A) → b ≡ true → (if b then x else y) ≡ x
if_true true x y e = refl
if_true false x y e = absurd (cc)

if_false : {A : Type 0} (b : Bool) (x y : A) → b ≡ false → (if b then x else y) ≡ y
if_false true x y e = absurd (cc)
if_false false x y e = refl

below : (a b : ℕ) → a < b → nat_lt a b ≡ true
below a b lt = grind (arith, nat_tests)

not_below : (a b : ℕ) → b ≤ a → nat_lt a b ≡ false
not_below a b le = grind (arith, nat_tests)

itself : (a b : ℕ) → a ≡ b → (a == b) ≡ true
itself a b e = grind (arith, nat_tests)

another : (a b : ℕ) → b < a → (a == b) ≡ false
another a b lt = grind (arith, nat_tests)

-- a number behind those of the blocks before, and within a block, is of that block
pub start_there : (first : ℕ) (front : List (List Command)) (block : List Command) (back : List (List Command)) (number : ℕ)
    → first + sum_by length front ≤ number → number < first + sum_by length front + length block
    → start_from first (front ++ block ∷ back) number ≡ first + sum_by length front
start_there first [] block back number low high =
    let none : first ≡ first + 0 = omega arith in
    let early = below number (first + length block) (omega (arith, high)) in
    if_true (nat_lt number (first + length block)) first (start_from (first + length block) back number) early ∙ none
start_there first (f ∷ front) block back number low high =
    let total : sum_by length (f ∷ front) ≡ length f + sum_by length front = sum_by-cons length f front in
    let rest = start_there (first + length f) front block back number (omega (arith, low, total)) (omega (arith, high, total)) in
    let same : first + length f + sum_by length front ≡ first + sum_by length (f ∷ front) = omega (arith, total) in
    if_false (nat_lt number (first + length f)) first (start_from (first + length f) (front ++ block ∷ back) number)
    (not_below number (first + length f) (omega (arith, low, total)))
    ∙ rest
    ∙ same

-- the block that begins behind those before
pub block_there : (first : ℕ) (front : List (List Command)) (block : List Command) (back : List (List Command)) → All (λ b. 1 ≤ length b) front
    → block_from first (front ++ block ∷ back) (first + sum_by length front) ≡ Some block
block_there first [] block back some =
    let none : first + 0 ≡ first = omega arith in
    if_true (first + 0 == first) (Some block) (block_from (first + length block) back (first + 0)) (itself (first + 0) first none)
block_there first (f ∷ front) block back some =
    let total : sum_by length (f ∷ front) ≡ length f + sum_by length front = sum_by-cons length f front in
    let one : 1 ≤ length f = All-head (λ b. 1 ≤ length b) f front some in
    let same : first + sum_by length (f ∷ front) ≡ first + length f + sum_by length front = omega (arith, total) in
    let at : ℕ = first + sum_by length (f ∷ front) in
    if_false (at == first) (Some f) (block_from (first + length f) (front ++ block ∷ back) at)
    (another (first + sum_by length (f ∷ front)) first (omega (arith, total, one)))
    ∙ ap (block_from (first + length f) (front ++ block ∷ back)) same
    ∙ block_there (first + length f) front block back (All-tail (λ b. 1 ≤ length b) f front some)

-- the numbers of commands and of those behind them
pub ids_append : (seat number : ℕ) (commands others : List Command)
    → ids_from seat number (commands ++ others) ≡ ids_from seat number commands ++ ids_from seat (number + length commands) others
ids_append seat number [] others = let none : number ≡ number + 0 = omega arith in ap (λ n. ids_from seat n others) none
ids_append seat number (command ∷ commands) others =
    let next : suc number + length commands ≡ number + length (command ∷ commands) = omega arith in
    ap (λ (ids : List (ℕ × ℕ)). (seat, number) ∷ ids)
    (ids_append seat (suc number) commands others ∙ ap (λ n. ids_from seat (suc number) commands ++ ids_from seat n others) next)

-- the lines of a block are numbered as its commands are
pub lines_ids : (seat number : ℕ) (place : Place) (answers : List Reply) (block : List Command) → length answers ≡ length block
    → map id_of (lines_at seat number place answers) ≡ ids_from seat number block
lines_ids seat number place [] [] count = refl
lines_ids seat number place [] (command ∷ block) count = absurd (omega (arith, count))
lines_ids seat number place (answer ∷ answers) [] count = absurd (omega (arith, count))
lines_ids seat number place (answer ∷ answers) (command ∷ block) count =
    ap (λ (ids : List (ℕ × ℕ)). (seat, number) ∷ ids) (lines_ids seat (suc number) place answers block (omega (arith, count)))

-- The line is of this block: of its seat, at its place, and with a number of one of its commands.
pub record IsLineOf (scripts : List (List (List Command))) (d : DoneBlock) (line : Line) : Type 0 where
  pub seat : line.seat ≡ d.seat
  pub place : line.place ≡ d.place
  pub start : start_of scripts line ≡ d.number

-- what holds of each line of these numbers
lines_at_all : (P : Line → Type 0) (seat number : ℕ) (place : Place) (answers : List Reply)
    → ((k : ℕ) (answer : Reply) → number ≤ k → k < number + length answers
    → P (record { seat = seat; number = k; place = place; reply = answer }))
    → All P (lines_at seat number place answers)
lines_at_all P seat number place [] each = All-nil P
lines_at_all P seat number place (answer ∷ answers) each =
    All-cons P (record { seat = seat; number = number; place = place; reply = answer }) (lines_at seat (suc number) place answers)
    (each number answer (omega arith) (omega arith))
    (lines_at_all P seat (suc number) place answers (λ k b low high. each k b (omega (arith, low)) (omega (arith, high))))

module _ (p : Past) where
  -- each line of a seat's blocks is of its block, where these blocks are those of the seat's script after others
  seat_lines : (scripts : List (List (List Command))) (seat number before : ℕ) (front script : List (List Command)) (done : List DoneBlock)
      (commits : List Commit) → slice_index_or scripts seat [] ≡ front ++ script → number ≡ 1 + sum_by length front
      → BlocksOf p seat number before script done commits → All (λ d. All (IsLineOf scripts d) (lines_of d)) done
  seat_lines scripts seat number before front [] [] commits full at h = All-nil _
  seat_lines scripts seat number before front [] (d ∷ done) commits full at h = absurd h
  seat_lines scripts seat number before front (block ∷ script) [] commits full at h = absurd h
  seat_lines scripts seat number before front (block ∷ script) (d ∷ done) commits full at h =
      let here = h.3 in
      let count : length d.answers ≡ length block = place_count p seat block d.place d.answers h.0 here.place in
      let next : number + length block ≡ 1 + sum_by length (front ++ block ∷ []) = omega (arith, at, sum_by_push length front block) in
      All-cons (λ e. All (IsLineOf scripts e) (lines_of e)) d done
      (lines_at_all (IsLineOf scripts d) d.seat d.number d.place d.answers (λ k answer low high. record {
        seat = refl;
        place = refl;
        start = ap (λ s. start_from 1 (slice_index_or scripts s []) k) here.by
            ∙ ap (λ sc. start_from 1 sc k) full
            ∙ start_there 1 front block script k (omega (arith, low, here.numbered, at)) (omega (arith, high, count, here.numbered, at))
            ∙ sym (here.numbered ∙ at);
      }))
      (seat_lines scripts seat (number + length block) (time_of d.place) (front ++ block ∷ []) script done h.1
      (full ∙ sym (append_assoc front (block ∷ []) script)) next h.4)

  -- each block of a seat stands in the history, likewise
  seat_stand : (scripts : List (List (List Command))) (seat number before : ℕ) (front script : List (List Command)) (done : List DoneBlock)
      (commits : List Commit) → slice_index_or scripts seat [] ≡ front ++ script → number ≡ 1 + sum_by length front → All (λ b. 1 ≤ length b) front
      → BlocksOf p seat number before script done commits → All (BlockStandsIn p scripts) done
  seat_stand scripts seat number before front [] [] commits full at some h = All-nil _
  seat_stand scripts seat number before front [] (d ∷ done) commits full at some h = absurd h
  seat_stand scripts seat number before front (block ∷ script) [] commits full at some h = absurd h
  seat_stand scripts seat number before front (block ∷ script) (d ∷ done) commits full at some h =
      let here = h.3 in
      let next : number + length block ≡ 1 + sum_by length (front ++ block ∷ []) = omega (arith, at, sum_by_push length front block) in
      let is : block_of scripts d ≡ Some block =
      (λ i. block_from 1 (slice_index_or scripts (here.by i) []) ((here.numbered ∙ at) i))
      ∙ ap (λ sc. block_from 1 sc (1 + sum_by length front)) full
      ∙ block_there 1 front block script some in
      All-cons (BlockStandsIn p scripts) d done
      (subst (λ o. IsSomeAnd o (λ b. (own : List Commit) × BlockPlaceOf p d.seat b d.place d.answers own)) (sym is)
      (h.0, subst (λ s. BlockPlaceOf p s block d.place d.answers h.0) (sym here.by) here.place))
      (seat_stand scripts seat (number + length block) (time_of d.place) (front ++ block ∷ []) script done h.1
      (full ∙ sym (append_assoc front (block ∷ []) script)) next (All-push (λ b. 1 ≤ length b) front block some here.some) h.4)

  -- the lines of a seat's blocks are numbered as its commands are
  seat_ids : (seat number before : ℕ) (script : List (List Command)) (done : List DoneBlock) (commits : List Commit)
      → BlocksOf p seat number before script done commits → map id_of (flat_map lines_of done) ≡ ids_from seat number (commands_of script)
  seat_ids seat number before [] [] commits h = refl
  seat_ids seat number before [] (d ∷ done) commits h = absurd h
  seat_ids seat number before (block ∷ script) [] commits h = absurd h
  seat_ids seat number before (block ∷ script) (d ∷ done) commits h =
      let here = h.3 in
      let count : length d.answers ≡ length block = place_count p seat block d.place d.answers h.0 here.place in
      let own : map id_of (lines_of d) ≡ ids_from seat number block =
      lines_ids d.seat d.number d.place d.answers block count ∙ (λ i. ids_from (here.by i) (here.numbered i) block) in
      let rest = seat_ids seat (number + length block) (time_of d.place) script done h.1 h.4 in
      map-append id_of (lines_of d) (flat_map lines_of done)
      ∙ (λ i. own i ++ rest i)
      ∙ sym (ids_append seat number block (commands_of script))

  -- what holds of the blocks of each seat holds of all
  by_scripts : (P : DoneBlock → Type 0) (scripts : List (List (List Command)))
      → ((seat : ℕ) (script : List (List Command)) (done : List DoneBlock) → slice_index_or scripts seat [] ≡ script
      → BlocksOf p seat 1 p.base script done (commits_of seat p.entries) → All P done)
      → (front back : List (List (List Command))) (groups : List (List DoneBlock)) → scripts ≡ front ++ back → AllDone p (length front) back groups
      → All P (flat_done groups)
  by_scripts P scripts each front [] [] full h = All-nil P
  by_scripts P scripts each front [] (done ∷ groups) full h = absurd h
  by_scripts P scripts each front (script ∷ back) [] full h = absurd h
  by_scripts P scripts each front (script ∷ back) (done ∷ groups) full h =
      let is : slice_index_or scripts (length front) [] ≡ script =
      ap (λ (all : List (List (List Command))). slice_index_or all (length front) []) full ∙ get_or-append_seam front script back [] in
      let long : suc (length front) ≡ length (front ++ script ∷ []) = sym (length-append front (script ∷ []) ∙ add-one (length front)) in
      All-append P done (flat_done groups) (each (length front) script done is h.0)
      (by_scripts P scripts each (front ++ script ∷ []) back groups (full ∙ sym (append_assoc front (script ∷ []) back))
      (subst (λ n. AllDone p n back groups) long h.1))

  pub all_lines : (scripts : List (List (List Command))) (groups : List (List DoneBlock)) → AllDone p 0 scripts groups
      → All (λ d. All (IsLineOf scripts d) (lines_of d)) (flat_done groups)
  all_lines scripts groups h =
      by_scripts (λ d. All (IsLineOf scripts d) (lines_of d)) scripts
      (λ seat script done is ran. seat_lines scripts seat 1 p.base [] script done (commits_of seat p.entries) is refl ran) [] scripts groups refl h

  pub all_stand : (scripts : List (List (List Command))) (groups : List (List DoneBlock)) → AllDone p 0 scripts groups
      → All (BlockStandsIn p scripts) (flat_done groups)
  all_stand scripts groups h =
      by_scripts (BlockStandsIn p scripts) scripts
      (λ seat script done is ran. seat_stand scripts seat 1 p.base [] script done (commits_of seat p.entries) is refl (All-nil (λ b. 1 ≤ length b)) ran)
      [] scripts groups refl h

  -- the lines are those of the commands, in their order
  pub all_ids : (seat : ℕ) (scripts : List (List (List Command))) (groups : List (List DoneBlock)) → AllDone p seat scripts groups
      → map id_of (flat_map lines_of (flat_done groups)) ≡ ids_of seat (map commands_of scripts)
  all_ids seat [] [] h = refl
  all_ids seat [] (done ∷ groups) h = absurd h
  all_ids seat (script ∷ scripts) [] h = absurd h
  all_ids seat (script ∷ scripts) (done ∷ groups) h =
      let own = seat_ids seat 1 p.base script done (commits_of seat p.entries) h.0 in
      let rest = all_ids (suc seat) scripts groups h.1 in
      ap (map id_of) (flat_map-append lines_of done (flat_done groups))
      ∙ map-append id_of (flat_map lines_of done) (flat_map lines_of (flat_done groups))
      ∙ (λ i. own i ++ rest i)

module _ (scripts : List (List (List Command))) (blocks : List DoneBlock) (own : All (λ d. All (IsLineOf scripts d) (lines_of d)) blocks) where
  -- what holds of each two heads and passes on to the lines of their blocks holds of each two lines
  pairs_of_lines : (H R : Line → Line → Type 0)
      → ((d e : DoneBlock) (a b : Line) → IsLineOf scripts d a → IsLineOf scripts e b → H (head_of d) (head_of e) → R a b)
      → EachPair H (map head_of blocks) → EachPair R (flat_map lines_of blocks)
  pairs_of_lines H R to pairs =
      let at = pairs_of_heads H blocks pairs in
      all_flat (λ a. All (R a) (flat_map lines_of blocks)) lines_of blocks
      (λ k d lt. All-weaker (IsLineOf scripts (get_or blocks k d)) (λ a. All (R a) (flat_map lines_of blocks))
      (λ a of_a. all_flat (R a) lines_of blocks
      (λ k' d' lt'. All-weaker (IsLineOf scripts (get_or blocks k' d')) (R a)
      (λ b of_b. to (get_or blocks k d) (get_or blocks k' d') a b of_a of_b (at k d lt k' d' lt')) (lines_of (get_or blocks k' d')) (own k' d' lt')))
      (lines_of (get_or blocks k d)) (own k d lt))

  pub lines_in_time : EachPair IsInTime (map head_of blocks) → EachPair (IsInBlockTime scripts) (flat_map lines_of blocks)
  lines_in_time pairs =
      pairs_of_lines IsInTime (IsInBlockTime scripts)
      (λ d e a b of_a of_b rises same below.
      let follows = rises (sym of_a.seat ∙ same ∙ of_b.seat) (omega (arith, below, of_a.start, of_b.start)) in
      subst (λ q. Follows (time_of q) b.place) (sym of_a.place) (subst (λ q. Follows (time_of d.place) q) (sym of_b.place) follows))
      pairs

  pub lines_one_place : EachPair IsSamePlace (map head_of blocks) → EachPair (IsOfOnePlace scripts) (flat_map lines_of blocks)
  lines_one_place pairs =
      pairs_of_lines IsSamePlace (IsOfOnePlace scripts)
      (λ d e a b of_a of_b one same starts.
      of_a.place ∙ one (sym of_a.seat ∙ same ∙ of_b.seat) (sym of_a.start ∙ starts ∙ of_b.start) ∙ sym of_b.place)
      pairs

  pub lines_alone : EachPair IsAlone (map head_of blocks) → EachPair (IsOfOneBlock scripts) (flat_map lines_of blocks)
  lines_alone pairs =
      pairs_of_lines IsAlone (IsOfOneBlock scripts)
      (λ d e a b of_a of_b one made_a made_b same.
      let ids = one (subst (λ q. IsTrue (is_commit q)) of_a.place made_a) (subst (λ q. IsTrue (is_commit q)) of_b.place made_b)
      (ap time_of (sym of_a.place) ∙ same ∙ ap time_of of_b.place) in (
        of_a.seat ∙ ap (λ (x : ℕ × ℕ). x.0) ids ∙ sym of_b.seat,
        of_a.start ∙ ap (λ (x : ℕ × ℕ). x.1) ids ∙ sym of_b.start,
      ))
      pairs

  pub lines_follow : (base : ℕ) → All (λ line. Follows base line.place) (map head_of blocks)
      → All (λ line. Follows base line.place) (flat_map lines_of blocks)
  lines_follow base follow =
      let at = all_unmap (λ line. Follows base line.place) head_of blocks follow in
      all_flat (λ line. Follows base line.place) lines_of blocks
      (λ k d lt. All-weaker (IsLineOf scripts (get_or blocks k d)) (λ line. Follows base line.place)
      (λ line of_line. subst (λ q. Follows base q) (sym of_line.place) (at k d lt)) (lines_of (get_or blocks k d)) (own k d lt))
