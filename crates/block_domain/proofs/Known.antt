-- What holds of the values at elements, in any order, and what became of the blocks of each seat, in the whole history.
use Rattle.std.specs.Bool.{⊤}
use Rattle.run_report.proofs.history.Grown.{longer, made_in, IsAtOpening, IsKnown, AreKnown}
use Rattle.block_domain.proofs.Terms.{◌≡◌, ◌<◌, ◌∷◌, ◌∙◌, ◌+◌, ◌++◌, ℕ, zero, suc, List, [], length, map, get_or, set, refl, sym, ap, arith, All, flat_map}
use Rattle.block_domain.proofs.Terms.{swap, IsPermutation, map-set, length-map, All-nil, All-cons, All-head, All-tail, All-append, IsPermutation-refl}
use Rattle.block_domain.proofs.Terms.{IsPermutation-trans, IsPermutation-swap, IsPermutation-keeps, flat_map-append, Commit, Entry, commits_of, Seat, Command}
use Rattle.block_domain.proofs.Terms.{Line, time_of, Past, DoneBlock, lines_of, BlocksOf, RanBlocks, AllRanBlocks, block_longer}

-- what holds of the values holds at the elements
pub all_unmap : {X Y : Type 0} (P : Y → Type 0) (f : X → Y) (xs : List X) → All P (map f xs) → All (λ x. P (f x)) xs
all_unmap P f [] h = All-nil (λ x. P (f x))
all_unmap P f (x ∷ xs) h = All-cons (λ x. P (f x)) x xs (All-head P (f x) (map f xs) h) (all_unmap P f xs (All-tail P (f x) (map f xs) h))

-- what holds of each part holds of the whole
pub all_flat : {X Y : Type 0} (P : Y → Type 0) (f : X → List Y) (xs : List X) → All (λ x. All P (f x)) xs → All P (flat_map f xs)
all_flat P f [] h = All-nil P
all_flat P f (x ∷ xs) h =
    All-append P (f x) (flat_map f xs) (All-head (λ x. All P (f x)) x xs h) (all_flat P f xs (All-tail (λ x. All P (f x)) x xs h))

got_mapped : {X Y : Type 0} (f : X → Y) (xs : List X) (i : ℕ) (d : X) → f (get_or xs i d) ≡ get_or (map f xs) i (f d)
got_mapped f [] i d = refl
got_mapped f (x ∷ xs) zero d = refl
got_mapped f (x ∷ xs) (suc i) d = got_mapped f xs i d

swap_mapped : {X Y : Type 0} (f : X → Y) (xs : List X) (i j : ℕ) → swap (map f xs) i j ≡ map f (swap xs i j)
swap_mapped f [] i j = refl
swap_mapped f (d ∷ ys) i j =
    sym (map-set f (set (d ∷ ys) i (get_or (d ∷ ys) j d)) j (get_or (d ∷ ys) i d)
    ∙ ap (λ zs. set zs j (f (get_or (d ∷ ys) i d))) (map-set f (d ∷ ys) i (get_or (d ∷ ys) j d))
    ∙ (λ k. set (set (map f (d ∷ ys)) i (got_mapped f (d ∷ ys) j d k)) j (got_mapped f (d ∷ ys) i d k)))

in_range : {X Y : Type 0} (f : X → Y) (zs : List X) (ls : List Y) (i : ℕ) → ls ≡ map f zs → i < length ls → i < length zs
in_range f zs ls i is below = omega (arith, below, ap length is, length-map zs f)

-- another order of the values is one of the elements
pub ordered_as : {X Y : Type 0} (f : X → Y) (xs : List X) (ys : List Y) → IsPermutation (map f xs) ys
    → (zs : List X) × (ys ≡ map f zs) × IsPermutation xs zs
ordered_as {X} {Y} f xs ys same =
    IsPermutation-keeps (map f xs) (λ (ls : List Y). (zs : List X) × (ls ≡ map f zs) × IsPermutation xs zs) (xs, refl, IsPermutation-refl xs)
    (λ ls i j below within kept. (
      swap kept.0 i j,
      ap (λ us. swap us i j) kept.1 ∙ swap_mapped f kept.0 i j,
      IsPermutation-trans xs kept.0 (swap kept.0 i j) kept.2
          (IsPermutation-swap kept.0 (swap kept.0 i j) i j (in_range f kept.0 ls i kept.1 below) (in_range f kept.0 ls j kept.1 within) refl),
    ))
    ys same

blocks_longer : (p : Past) (more : List Entry) (seat number before : ℕ) (blocks : List (List Command)) (done : List DoneBlock) (commits : List Commit)
    → BlocksOf p seat number before blocks done commits → BlocksOf (longer p more) seat number before blocks done commits
blocks_longer p more seat number before [] [] commits h = h
blocks_longer p more seat number before [] (d ∷ done) commits h = absurd h
blocks_longer p more seat number before (block ∷ blocks) [] commits h = absurd h
blocks_longer p more seat number before (block ∷ blocks) (d ∷ done) commits h =
    let here = h.3 in (
      h.0,
      h.1,
      h.2,
      record {
        some = here.some;
        by = here.by;
        numbered = here.numbered;
        follows = here.follows;
        place = block_longer p more seat block d.place d.answers h.0 here.place;
      },
      blocks_longer p more seat (number + length block) (time_of d.place) blocks done h.1 h.4,
    )

seat_done : (p : Past) (number : ℕ) (o n : Seat) (script : List (List Command)) (lines : List Line) → IsAtOpening p o → IsKnown p number n
    → (ran : RanBlocks o n script lines) → BlocksOf p number 1 p.base script ran.done (commits_of number p.entries)
seat_done p number o n script lines opening known ran =
    made_in (λ q seat before commits. BlocksOf q seat 1 before script ran.done commits)
    (λ q more seat before commits h. blocks_longer q more seat 1 before script ran.done commits h) p number o n ran.commits opening known
    ran.continues ran.mine ran.each

-- Each seat's blocks, the first of them those of this seat, are of its script, from the opening state on, and their commits are all that
-- the seat has in the history.
abbrev pub AllDone : Past → ℕ → List (List (List Command)) → List (List DoneBlock) → Type 0
AllDone p seat [] [] = ⊤
AllDone p seat [] (done ∷ groups) = ⊥
AllDone p seat (script ∷ scripts) [] = ⊥
AllDone p seat (script ∷ scripts) (done ∷ groups) =
    BlocksOf p seat 1 p.base script done (commits_of seat p.entries) × AllDone p (suc seat) scripts groups

-- the blocks of all seats
abbrev pub flat_done : List (List DoneBlock) → List DoneBlock
flat_done groups = flat_map (λ done. done) groups

-- each seat did the blocks of its script, and the lines are theirs
pub all_done : (p : Past) (number : ℕ) (olds news : List Seat) (scripts : List (List (List Command))) (lines : List Line) → AreKnown p number olds news
    → AllRanBlocks olds news scripts lines
    → (groups : List (List DoneBlock)) × (lines ≡ flat_map lines_of (flat_done groups)) × AllDone p number scripts groups
all_done p number [] [] [] lines known ran = ([], ran, tt)
all_done p number (o ∷ olds) (n ∷ news) (script ∷ scripts) lines known ran =
    let own = ran.3 in
    let rest = all_done p (suc number) olds news scripts ran.1 known.2 ran.4 in (
      own.done ∷ rest.0,
      ran.2 ∙ (λ i. own.lines_are i ++ rest.1 i) ∙ sym (flat_map-append lines_of own.done (flat_done rest.0)),
      (seat_done p number o n script ran.0 known.0 known.1 own, rest.2),
    )
all_done p number _ _ _ lines known ran = absurd ran
