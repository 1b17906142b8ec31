-- A chain of links is a run, of commands or of blocks, what all seats did, and the number of their lines.
use Rattle.std.proofs.Common.{length-take-le, sum}
use Rattle.std.proofs.lemmas.List.Elements.{All-nil, All-cons, All-map}
use Rattle.std.proofs.lemmas.List.Sums.{sum_by-cons, sum_by-le, sum-map}
use Rattle.std.proofs.lemmas.Simd.{map-map}
use Rattle.section_work.specs.declared.causes.Cause.{Cause}
use Rattle.script_workers.proofs.Places.{RanTo, linked_ran, follows_earlier, placed_later, block_ran, block_longer, replies_count}
use Rattle.script_workers.proofs.Terms.{◌≡◌, ℕ, suc, ◌+◌, ◌<◌, ◌≤◌, ◌^◌, ◌++◌, ◌∷◌, [], ◌∙◌, List, length, map, take, sum_by, All, Vec, Some, refl, sym, ap}
use Rattle.script_workers.proofs.Terms.{subst, arith, get_or, slice_get, length-append, append_assoc, take_at, drop_at, length-map, append-nil, take_more}
use Rattle.script_workers.proofs.Terms.{get_or_from_slice_get, Continues-Continues, Entry, each_seat, chain_told, chain_length, did_to, entered_fresh, gave_up}
use Rattle.script_workers.proofs.Terms.{under_still, longer, place_longer, flat_map, Global, Seat, IsSeat, Continues, Continues-itself, Commit, Command, Place}
use Rattle.script_workers.proofs.Terms.{Read, Reply, Causes, Line, IsOpening, IsSetCommit, MOST_COMMANDS, Attempted, most_locks, Done, Again, Follows, time_of}
use Rattle.script_workers.proofs.Terms.{Past, past_of, PlaceOf, BySeat, LinesOf, Ran, AllRan, Answer, Chain, DidAll, DidTo, EachDid, HaveNumbers, answered}
use Rattle.script_workers.proofs.Terms.{IsUnder, IsEnteredBetween, items_of, command_count, blocks_of, count_of, line_of, row_of, lines_at, lines_of, done_of}
use Rattle.script_workers.proofs.Terms.{lines_in, row_in, block_row, FitsNumbers, AllFit, Linked, LinkedLine, AllLinked, LinkedBlock, LinkedBlockOf}
use Rattle.script_workers.proofs.Terms.{AllLinkedBlocks, BlockPlaceOf, BlocksOf, RanBlocks, AllRanBlocks}

-- What an attempt leaves under a command that was begun: its link,
pub under_done : (k : Causes) (s t u : Seat) (command : Command) (place : Place) (answer : Reply) → IsUnder most_locks s t → IsSeat IsOpening IsSetCommit u
    → Attempted k t u command (Done answer place) → Linked k s u command (place, answer) × (most_locks ≤ u.write_max)
under_done k s t u command place answer h lawful left =
    let l : Linked k s u command (place, answer) = record { from = t; none = h.none; attempted = left; lawful = lawful } in
    (l, omega (arith, h.may, h.none.continues.write_max, (linked_ran k s u command place answer l).continues.write_max))

-- or that it is still under it
pub under_again : (k : Causes) (s t u : Seat) (command : Command) (cause : Cause) → IsUnder most_locks s t → Attempted k t u command (Again cause)
    → IsUnder most_locks s u
under_again k s t u command cause h g = under_still most_locks s t u h (gave_up k t u g.prepared g.entered g.mine g.prepares g.enters)

-- What was made from a seat on, whose commits grew by exactly those of it.
pub record RanFrom (made : Past → ℕ → List Commit → Type 0) (s t : Seat) : Type 0 where
  pub continues : Continues s t
  pub commits : List Commit
  pub mine : t.mine ≡ s.mine ++ commits
  pub each : made (past_of t) t.number commits

-- A chain whose links have places that stay, and what is made of no item, and of one more with its place.
module _ {I D : Type 0} (link : Seat → Seat → I → D → Type 0) (width : I → ℕ) (place_of : D → Place) (placed : I → D → Past → ℕ → List Commit → Type 0)
    (ran : (s t : Seat) (i : I) (d : D) → link s t i d → RanTo (placed i d) s t (place_of d))
    (stays : (i : I) (d : D) (cs : List Commit) (p : Past) (later : List Entry) (seat : ℕ) → placed i d p seat cs → placed i d (longer p later) seat cs)
    (made : ℕ → ℕ → List I → List (Answer D) → Past → ℕ → List Commit → Type 0)
    (none : (number before : ℕ) (p : Past) (seat : ℕ) → made number before [] [] p seat [])
    (more : (s t : Seat) (number before : ℕ) (i : I) (is : List I) (d : Answer D) (ds : List (Answer D)) (p : Past) (seat : ℕ) (own others : List Commit)
    → link s t i d.done → d.seat ≡ seat → d.number ≡ number → Follows before (place_of d.done) → placed i d.done p seat own
    → made (number + width i) (time_of (place_of d.done)) is ds p seat others → made number before (i ∷ is) (d ∷ ds) p seat (own ++ others)) where
  pub ran_from : (s u : Seat) (number before : ℕ) (is : List I) (ds : List (Answer D)) → before ≤ s.base + length s.seen
      → Chain (answered link) s u is ds → HaveNumbers width s.number number is ds → RanFrom (made number before is ds) s u
  ran_from s u number before [] [] le c n = record {
    continues = subst (Continues s) (sym c) (Continues-itself s);
    commits = [];
    mine = ap (λ (t : Seat). t.mine) c ∙ sym (append-nil s.mine);
    each = none number before (past_of u) u.number;
  }
  ran_from s u number before (i ∷ is) (d ∷ ds) le c n =
      let t : Seat = c.0 in
      let place : Place = place_of d.done in
      let here = ran s t i d.done c.1 in
      let same : t.number ≡ s.number = here.continues.number in
      let rest = ran_from t u (number + width i) (time_of place) is ds here.seen c.2
      (subst (λ (m : ℕ). HaveNumbers width m (number + width i) is ds) (sym same) n.2) in
      record {
        continues = Continues-Continues here.continues rest.continues;
        commits = here.commits ++ rest.commits;
        mine = rest.mine ∙ ap (λ cs. cs ++ rest.commits) here.mine ∙ append_assoc s.mine here.commits rest.commits;
        each = more s t number before i is d ds (past_of u) u.number here.commits rest.commits c.1 (n.0 ∙ sym (rest.continues.number ∙ same)) n.1
            (follows_earlier before (s.base + length s.seen) place le here.follows)
            (placed_later (placed i d.done) t u here.commits rest.continues (stays i d.done here.commits) here.placed) rest.each;
      }
  ran_from s u number before _ _ le c n = absurd c

-- So a chain is a run.
pub chain_ran : (k : Causes) (s u : Seat) (commands : List Command) (ds : List (Answer (Place × Reply)))
    → DidAll (λ (t : Seat). t) (Linked k) (λ (c : Command). 1) s u commands ds → Ran s u commands (map line_of ds)
chain_ran k s u commands ds did =
    let ran = ran_from (Linked k) (λ (c : Command). 1) (λ (d : Place × Reply). d.0) (λ i d p seat cs. PlaceOf p seat i d.0 d.1 cs)
    (λ s t i d l. linked_ran k s t i d.0 d.1 l) (λ i d cs p later seat h. place_longer p later seat i d.0 d.1 cs h)
    (λ number before commands ds p seat cs. LinesOf p seat number before commands (map line_of ds) cs) (λ number before p seat. refl)
    (λ s t number before i is d ds p seat own others l by numbered follows place rest.
    (let next : number + 1 ≡ suc number = omega arith in (
      own,
      others,
      refl,
      record { by = by; numbered = numbered; follows = follows; place = place },
      subst (λ (m : ℕ). LinesOf p seat m (time_of d.done.0) is (map line_of ds) others) next rest,
    )))
    s u 1 (s.base + length s.seen) commands ds (omega arith) did.chain did.numbers in
    record { continues = ran.continues; commits = ran.commits; mine = ran.mine; each = ran.each }

-- The chain of the answers is that of the lines.
pub chain_lines : (k : Causes) (s u : Seat) (commands : List Command) (ds : List (Answer (Place × Reply)))
    → Chain (answered (Linked k)) s u commands ds → Chain (LinkedLine k) s u commands (map line_of ds)
chain_lines k = chain_told (answered (Linked k)) (LinkedLine k) line_of (λ s t i d l. l)

-- No read is older than what its seat had seen when the command began.
pub linked_fresh : (k : Causes) (s t : Seat) (command : Command) (time : ℕ) (answer : Reply) → Linked k s t command (Read time, answer)
    → IsEnteredBetween k s t time
linked_fresh k s t command time answer l =
    let r = l.attempted.1 in entered_fresh k l.from t r.enters.before r.entered time r.enters.comes r.enters.enters r.time_is s l.none

-- the commands of scripts that are short have few numbers
pub few_numbers : (scripts : List (Vec Command Global)) → All (λ (script : Vec Command Global). length script.items ≤ MOST_COMMANDS) scripts
    → All (λ (script : Vec Command Global). 1 + sum_by (λ (c : Command). 1) script.items < 2 ^ 32) scripts
few_numbers scripts short = λ i d lt.
    let most = sum_by-le (λ (c : Command). 1) 1 (get_or scripts i d).items (λ j c within. omega arith) in omega (arith, short i d lt, most)

-- Stores that ran scripts, each from what its runner keeps first.
module _ {T X : Type 0} (first : T → X) (seat_of : X → Seat) (link : X → X → Command → Place × Reply → Type 0) where
  -- a seat has a line for each command of its script
  row_length : (s : X) (n : Seat) (script : List Command) (row : Vec (Answer (Place × Reply)) Global)
      → DidTo seat_of link (λ (c : Command). 1) s n script row.items → length (row_of row) ≡ length script
  row_length s n script row h = length-map row.items line_of ∙ chain_length (answered link) s h.end script row.items h.did.chain

  -- what each seat did with its lines, all did with all lines
  pub by_seat : (seat_in : T → Seat) (did : Seat → Seat → List Command → List Line → Type 0)
      → ((t : T) (n : Seat) (script : List Command) (row : Vec (Answer (Place × Reply)) Global)
      → DidTo seat_of link (λ (c : Command). 1) (first t) n script row.items → did (seat_in t) n script (row_of row))
      → (ts : List T) (ns : List Seat) (scripts : List (List Command)) (rows : List (Vec (Answer (Place × Reply)) Global))
      → EachDid seat_of link (λ (c : Command). 1) (map first ts) ns scripts rows → BySeat did (map seat_in ts) ns scripts (flat_map row_of rows)
  by_seat seat_in did own =
      each_seat first seat_of link (λ (c : Command). 1) (λ ts ns scripts rows. BySeat did (map seat_in ts) ns scripts (flat_map row_of rows)) refl
      (λ t n s r ts ns scripts rows h rest.
      (let len : length (row_of r) ≡ length s = row_length (first t) n s r h in (
        rw (take_at (row_of r) (flat_map row_of rows) (length s) len) (own t n s r h),
        rw (drop_at (row_of r) (flat_map row_of rows) (length s) len) rest,
      )))

  -- there are as many lines as commands
  pub line_counts : (ts : List T) (ns : List Seat) (scripts : List (Vec Command Global)) (rows : List (Vec (Answer (Place × Reply)) Global))
      → EachDid seat_of link (λ (c : Command). 1) (map first ts) ns (map items_of scripts) rows → length (flat_map row_of rows) ≡ sum_by command_count scripts
  line_counts ts ns scripts rows h =
      each_seat first seat_of link (λ (c : Command). 1) (λ ts ns lists rows. length (flat_map row_of rows) ≡ sum (map length lists)) refl
      (λ t n s r ts ns lists rows h rest.
      omega (arith, length-append (row_of r) (flat_map row_of rows), row_length (first t) n s r h, rest, sum_by-cons (λ n. n) (length s) (map length lists)))
      ts ns (map items_of scripts) rows h
      ∙ ap sum (map-map length items_of scripts)
      ∙ sum-map command_count scripts

-- Stores whose runners keep nothing but the seat.
module _ (k : Causes) {T : Type 0} (seat_in : T → Seat) (ts : List T) (ns : List Seat) (scripts : List (List Command))
    (rows : List (Vec (Answer (Place × Reply)) Global))
    (each : EachDid (λ (t : Seat). t) (Linked k) (λ (c : Command). 1) (map seat_in ts) ns scripts rows) where
  -- what all seats ran
  pub all_ran : AllRan (map seat_in ts) ns scripts (flat_map row_of rows)
  all_ran =
      by_seat seat_in (λ (t : Seat). t) (Linked k) seat_in Ran
      (λ t n s r h. chain_ran k (seat_in t) n s r.items (did_to (Linked k) (λ (c : Command). 1) (seat_in t) n s r.items h)) ts ns scripts rows each

  -- and that each went on from where it was
  pub all_linked : AllLinked k (map seat_in ts) ns scripts (flat_map row_of rows)
  all_linked =
      by_seat seat_in (λ (t : Seat). t) (Linked k) seat_in (Chain (LinkedLine k))
      (λ t n s r h.
      chain_lines k (seat_in t) n s r.items (did_to (Linked k) (λ (c : Command). 1) (seat_in t) n s r.items h).chain) ts ns scripts rows each

-- one more line of a block
pub lines_push : (seat number : ℕ) (place : Place) (answers : List Reply) (answer : Reply)
    → lines_at seat number place (answers ++ answer ∷ [])
    ≡ lines_at seat number place answers ++ (record { seat = seat; number = number + length answers; place = place; reply = answer }) ∷ []
lines_push seat number place [] answer =
    let none : number ≡ number + 0 = omega arith in
    ap (λ n. (record { seat = seat; number = n; place = place; reply = answer }) ∷ []) none
lines_push seat number place (a ∷ answers) answer =
    let next : suc number + length answers ≡ number + length (a ∷ answers) = omega arith in
    ap (λ ls. (record { seat = seat; number = number; place = place; reply = a }) ∷ ls)
    (lines_push seat (suc number) place answers answer
    ∙ ap (λ n. lines_at seat (suc number) place answers ++ (record { seat = seat; number = n; place = place; reply = answer }) ∷ []) next)

-- the lines of one more reply
pub lines_next : (seat first i : ℕ) (place : Place) (answers : List Reply) (answer : Reply) → i < length answers → slice_get answers i ≡ Some answer
    → lines_at seat first place (take (i + 1) answers)
    ≡ lines_at seat first place (take i answers) ++ (record { seat = seat; number = first + i; place = place; reply = answer }) ∷ []
lines_next seat first i place answers answer lt is =
    let one : take (i + 1) answers ≡ take i answers ++ answer ∷ [] =
    take_more answers i answer lt ∙ ap (λ a. take i answers ++ a ∷ []) (get_or_from_slice_get answers i answer answer is) in
    let count : length (take i answers) ≡ i = length-take-le i answers (omega (arith, lt)) in
    ap (lines_at seat first place) one
    ∙ lines_push seat first place (take i answers) answer
    ∙ ap (λ n. lines_at seat first place (take i answers) ++ (record { seat = seat; number = first + n; place = place; reply = answer }) ∷ []) count

-- as many lines as replies
pub lines_count : (seat number : ℕ) (place : Place) (answers : List Reply) → length (lines_at seat number place answers) ≡ length answers
lines_count seat number place [] = refl
lines_count seat number place (answer ∷ answers) = ap (λ n. suc n) (lines_count seat (suc number) place answers)

-- The lines of the answers are those of what became of the blocks.
pub done_lines : (ds : List (Answer (Place × List Reply))) → row_in ds ≡ flat_map lines_of (map done_of ds)
done_lines [] = refl
done_lines (d ∷ ds) = ap (λ ls. lines_of (done_of d) ++ ls) (done_lines ds)

-- So a chain of blocks is a run.
pub block_chain_ran : (k : Causes) (s u : Seat) (blocks : List (List Command)) (ds : List (Answer (Place × List Reply)))
    → DidAll (λ (t : Seat). t) (LinkedBlock k) length s u blocks ds → RanBlocks s u blocks (row_in ds)
block_chain_ran k s u blocks ds did =
    let ran = ran_from (LinkedBlock k) length (λ (d : Place × List Reply). d.0) (λ i d p seat cs. BlockPlaceOf p seat i d.0 d.1 cs)
    (λ s t i d l. block_ran k s t i d.0 d.1 l) (λ i d cs p later seat h. block_longer p later seat i d.0 d.1 cs h)
    (λ number before blocks ds p seat cs. BlocksOf p seat number before blocks (map done_of ds) cs) (λ number before p seat. refl)
    (λ s t number before i is d ds p seat own others l by numbered follows place rest.
    (own, others, refl, record { some = l.0; by = by; numbered = numbered; follows = follows; place = place }, rest))
    s u 1 (s.base + length s.seen) blocks ds (omega arith) did.chain did.numbers in
    record { continues = ran.continues; commits = ran.commits; mine = ran.mine; done = map done_of ds; lines_are = done_lines ds; each = ran.each }

-- the blocks of scripts that are short have few numbers
pub few_in_blocks : (scripts : List (Vec (List Command) Global)) → All (λ (script : Vec (List Command) Global). count_of script ≤ MOST_COMMANDS) scripts
    → All (λ (script : Vec (List Command) Global). 1 + sum_by length script.items < 2 ^ 32) scripts
few_in_blocks scripts short = λ i d lt. omega (arith, short i d lt)

module _ (k : Causes) where
  -- there are as many lines as commands, and no number is too great
  counted : (s u : Seat) (seat number : ℕ) (blocks : List (List Command)) (ds : List (Answer (Place × List Reply)))
      → Chain (answered (LinkedBlock k)) s u blocks ds → HaveNumbers length seat number blocks ds
      → (length (row_in ds) ≡ sum_by length blocks) × (number + sum_by length blocks < 2 ^ 32 → All FitsNumbers ds)
  counted s u seat number [] [] c n = (refl, λ few. All-nil FitsNumbers)
  counted s u seat number (b ∷ blocks) (d ∷ ds) c n =
      let sum = sum_by-cons length b blocks in
      let own : length d.done.1 ≡ length b = replies_count k s c.0 b d.done.0 d.done.1 c.1 in
      let lines = lines_count d.seat d.number d.done.0 d.done.1 in
      let both : length (row_in (d ∷ ds)) ≡ length (lines_in d) + length (row_in ds) = length-append (lines_in d) (row_in ds) in
      let others = counted c.0 u seat (number + length b) blocks ds c.2 n.2 in (
        omega (arith, both, lines, own, others.0, sum),
        λ few. All-cons FitsNumbers d ds (omega (arith, few, sum, own, n.1)) (others.1 (omega (arith, few, sum))),
      )
  counted s u seat number _ _ c n = absurd c

module _ (k : Causes) {T : Type 0} (seat_in : T → Seat) (ts : List T) (ns : List Seat) (scripts : List (Vec (List Command) Global))
    (rows : List (Vec (Answer (Place × List Reply)) Global))
    (each : EachDid (λ (t : Seat). t) (LinkedBlock k) length (map seat_in ts) ns (map blocks_of scripts) rows) where
  -- what all seats ran, and that each went on from where it was
  pub all_blocks_ran : AllRanBlocks (map seat_in ts) ns (map blocks_of scripts) (flat_map block_row rows)
      × AllLinkedBlocks k (map seat_in ts) ns (map blocks_of scripts) (flat_map block_row rows)
  all_blocks_ran =
      each_seat seat_in (λ (t : Seat). t) (LinkedBlock k) length
      (λ ts ns scripts rows. AllRanBlocks (map seat_in ts) ns scripts (flat_map block_row rows)
      × AllLinkedBlocks k (map seat_in ts) ns scripts (flat_map block_row rows))
      (refl, refl)
      (λ t n s r ts ns scripts rows h rest.
      (let did = did_to (LinkedBlock k) length (seat_in t) n s r.items h in (
        (block_row r, flat_map block_row rows, refl, block_chain_ran k (seat_in t) n s r.items did, rest.0),
        (
          map done_of r.items,
          flat_map block_row rows,
          ap (λ ls. ls ++ flat_map block_row rows) (done_lines r.items),
          chain_told (answered (LinkedBlock k)) (LinkedBlockOf k) done_of (λ a b c d l. l) (seat_in t) n s r.items did.chain,
          rest.1,
        ),
      )))
      ts ns (map blocks_of scripts) rows each

  -- there are as many lines as commands, and no number is too great
  pub blocks_counted : All (λ (script : Vec (List Command) Global). count_of script ≤ MOST_COMMANDS) scripts
      → (length (flat_map block_row rows) ≡ sum_by count_of scripts) × All AllFit rows
  blocks_counted short =
      let both = each_seat seat_in (λ (t : Seat). t) (LinkedBlock k) length
      (λ ts ns lists rows. (length (flat_map block_row rows) ≡ sum (map (sum_by length) lists))
      × (All (λ (list : List (List Command)). 1 + sum_by length list < 2 ^ 32) lists → All AllFit rows))
      (refl, λ few. All-nil AllFit)
      (λ t n s r ts ns lists rows h rest.
      (let did = did_to (LinkedBlock k) length (seat_in t) n s r.items h in
      let own = counted k (seat_in t) n (seat_in t).number 1 s r.items did.chain did.numbers in
      let more = sum_by-cons (λ (m : ℕ). m) (sum_by length s) (map (sum_by length) lists) in (
        omega (arith, length-append (block_row r) (flat_map block_row rows), own.0, rest.0, more),
        λ few. All-cons AllFit r rows (own.1 (few 0 s (omega arith))) (rest.1 (λ i d lt. few (suc i) d (omega (arith, lt)))),
      )))
      ts ns (map blocks_of scripts) rows each in (
        both.0 ∙ ap sum (map-map (sum_by length) blocks_of scripts) ∙ sum-map count_of scripts,
        both.1 (All-map (λ (list : List (List Command)). 1 + sum_by length list < 2 ^ 32) blocks_of scripts (few_in_blocks scripts short)),
      )

-- No such block is older than what its seat had seen when it began.
pub block_fresh : (k : Causes) (s t : Seat) (block : List Command) (time : ℕ) (answers : List Reply) → LinkedBlock k s t block (Read time, answers)
    → IsEnteredBetween k s t time
block_fresh k s t block time answers l =
    let r = l.1.attempted in entered_fresh k l.1.from t r.enters.before r.entered time r.enters.comes r.enters.enters r.time_is s l.1.none
