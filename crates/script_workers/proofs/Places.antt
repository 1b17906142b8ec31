-- The place of a command or a block: what its attempt says of it, and that it stays as more of the history is seen.
use Rattle.std.proofs.lemmas.Bool.{eqb-true}
use Rattle.std.proofs.lemmas.List.Elements.{All-nil, All-cons, All-get_or}
use Rattle.mv_history.proofs.Writing.{length-state_after}
use Rattle.section_work.specs.Sections.{IsEntered}
use Rattle.set_model.specs.Objects.{first_node}
use Rattle.set_model.specs.Replies.{reply, changes}
use Rattle.set_blocks.specs.BlockAttempts.{BlockAttempted}
use Rattle.set_blocks.specs.BlockReplies.{block_replies, block_changes, block_next}
use Rattle.set_blocks.specs.BlockRules.{IsBlockCommit}
use Rattle.set_blocks.specs.declared.attempt.BlockAttempt.TheVariants as blocks
use Rattle.set_blocks.proofs.SingleBlocks.{length-block_replies}
use Rattle.script_workers.proofs.Terms.{◌≡◌, ℕ, ◌+◌, ◌-◌, ◌<◌, ◌≤◌, ◌==◌, ◌++◌, ◌∷◌, [], ◌∙◌, Bool, true, false, if◌then◌else◌, eqb, List, length, take, drop}
use Rattle.script_workers.proofs.Terms.{All, refl, sym, ap, subst, arith, length-append, append-nil, get_or_push, take-append-drop, slice_get_within, IsEntryAt}
use Rattle.script_workers.proofs.Terms.{Continues-Continues, Entry, seen_grows, entered_continues, entered_within, longer, there_longer, state_longer, Seat}
use Rattle.script_workers.proofs.Terms.{IsSeat, InSection, Continues, Commit, Rest, Change, commits_of, State, Command, Place, AtCommit, Read, Reply, Causes}
use Rattle.script_workers.proofs.Terms.{catalogue_of, IsOpening, IsSetCommit, capacity, Attempted, Done, Follows, time_of, Past, past_of, PlaceOf}
use Rattle.script_workers.proofs.Terms.{state_of_time, CommitsNone, Linked, LinkedBlock, BlockPlaceOf}

-- Something took place there in the history that the seat has seen, behind all that it had seen before, and the seat's commits grew by
-- exactly those of it.
pub record RanTo (placed_in : Past → ℕ → List Commit → Type 0) (old new : Seat) (place : Place) : Type 0 where
  pub continues : Continues old new
  pub commits : List Commit
  pub mine : new.mine ≡ old.mine ++ commits
  pub follows : Follows (old.base + length old.seen) place
  pub seen : time_of place ≤ new.base + length new.seen
  pub placed : placed_in (past_of new) new.number commits

-- the command took place there, with this reply
abbrev pub RanAt : Seat → Seat → Command → Place → Reply → Type 0
RanAt old new command place answer = RanTo (λ p seat commits. PlaceOf p seat command place answer commits) old new place

-- the block took place there, with these replies
abbrev pub RanBlock : Seat → Seat → List Command → Place → List Reply → Type 0
RanBlock old new block place answers = RanTo (λ p seat commits. BlockPlaceOf p seat block place answers commits) old new place

-- one more commit, if it is this seat's
all_by_one : (seat : ℕ) (c : Commit) (cs : List Commit) (is : Bool) → eqb c.seat seat ≡ is → All (λ (d : Commit). d.seat ≡ seat) cs
    → All (λ (d : Commit). d.seat ≡ seat) (if is then c ∷ cs else cs)
all_by_one seat c cs true e all = All-cons (λ (d : Commit). d.seat ≡ seat) c cs (eqb-true c.seat seat e) all
all_by_one seat c cs false e all = all

-- the commits of a seat are by it
all_by : (seat : ℕ) (es : List Entry) → All (λ (d : Commit). d.seat ≡ seat) (commits_of seat es)
all_by seat [] = All-nil (λ (d : Commit). d.seat ≡ seat)
all_by seat (Rest by ∷ es) = all_by seat es
all_by seat (Change c ∷ es) = all_by_one seat c (commits_of seat es) (eqb c.seat seat) refl (all_by seat es)

-- the last commit of a seat is by it
pub last_by : (s : Seat) (cs : List Commit) (c : Commit) → s.mine ≡ commits_of s.number s.seen → s.mine ≡ cs ++ c ∷ [] → c.seat ≡ s.number
last_by s cs c mine is =
    let all : All (λ (d : Commit). d.seat ≡ s.number) (cs ++ c ∷ []) =
    subst (λ ds. All (λ (d : Commit). d.seat ≡ s.number) ds) (sym mine ∙ is) (all_by s.number s.seen) in
    let within : length cs < length (cs ++ c ∷ []) = omega (arith, length-append cs (c ∷ [])) in
    ap (λ (d : Commit). d.seat) (sym (get_or_push cs c c (length cs) refl))
    ∙ All-get_or (λ (d : Commit). d.seat ≡ s.number) (cs ++ c ∷ []) (length cs) c within all

-- each state has as many nodes, which are the objects from a first one on, as the first state
pub same_room : (first : ℕ) (s : Seat) (time : ℕ) → length (state_of_time (past_of s) time) - first ≡ length s.start - first
same_room first s time = ap (λ objects. objects - first) (length-state_after s.start (take (time - s.base) s.seen))

-- what follows a time follows an earlier one
pub follows_earlier : (a b : ℕ) (place : Place) → a ≤ b → Follows b place → Follows a place
follows_earlier a b (AtCommit time) le f = omega (arith, le, f)
follows_earlier a b (Read time) le f = omega (arith, le, f)

-- attempts that were given up, and then one that is done
pub ran_after : (placed_in : Past → ℕ → List Commit → Type 0) (s t u : Seat) (place : Place) → CommitsNone s t → RanTo placed_in t u place
    → RanTo placed_in s u place
ran_after placed_in s t u place none ran = record {
  continues = Continues-Continues none.continues ran.continues;
  commits = ran.commits;
  mine = ran.mine ∙ ap (λ cs. cs ++ ran.commits) none.mine;
  follows = follows_earlier (s.base + length s.seen) (t.base + length t.seen) place (seen_grows s t none.continues) ran.follows;
  seen = ran.seen;
  placed = ran.placed;
}

-- one that is the seat's last commit, at this time
pub ran_commit : (placed_in : Past → ℕ → List Commit → Type 0) (s t : Seat) (c : Commit) (time : ℕ) → t.mine ≡ commits_of t.number t.seen → Continues s t
    → IsEntryAt t time (Change c) → s.base + length s.seen < time → t.mine ≡ s.mine ++ c ∷ []
    → (c.seat ≡ t.number → placed_in (past_of t) t.number (c ∷ [])) → RanTo placed_in s t (AtCommit time)
ran_commit placed_in s t c time own goes entry later mine placed = record {
  continues = goes;
  commits = c ∷ [];
  mine = mine;
  follows = later;
  seen = omega (arith, slice_get_within t.seen (time - (t.base + 1)) (Change c) entry.there, entry.later);
  placed = placed (last_by t s.mine c own mine);
}

-- one that is a read in a section which was entered behind the seat
pub ran_read : (placed_in : Past → ℕ → List Commit → Type 0) (k : Causes) (s t before : Seat) (entered : InSection) (time : ℕ) → Continues s before
    → IsEntered k before entered t → time ≡ entered.seat.base + entered.at → t.mine ≡ s.mine
    → (t.base ≤ time → time ≤ t.base + length t.seen → placed_in (past_of t) t.number []) → RanTo placed_in s t (Read time)
ran_read placed_in k s t before entered time comes enters is mine placed =
    let c = entered_continues k s t before entered time comes enters is in
    let within = entered_within k s t before entered time comes enters is in
    record {
      continues = c;
      commits = [];
      mine = mine ∙ sym (append-nil s.mine);
      follows = within.0;
      seen = within.1;
      placed = placed (omega (arith, within.0, c.base)) within.1;
    }

-- an attempt that is done
pub done_at : (k : Causes) (s t : Seat) (command : Command) (place : Place) (answer : Reply) → IsSeat IsOpening IsSetCommit t
    → Attempted k s t command (Done answer place) → RanAt s t command place answer
done_at k s t command (AtCommit time) answer lawful left =
    let done = left.1.done in
    ran_commit _ s t done.commit time lawful.mine done.continues done.entry done.later done.mine
    (λ by. (
      done.commit,
      refl,
      record {
        later = done.entry.later;
        there = done.entry.there;
        seat_is = by;
        tagged = done.plan.tagged;
        answers = done.makes
            ∙ ap (λ room. reply command (catalogue_of (state_of_time (past_of t) (time - 1))) room false) (same_room first_node t (time - 1));
      },
    ))
done_at k s t command (Read time) answer lawful left =
    let read = left.1 in
    ran_read _ k s t read.enters.before read.entered time read.enters.comes read.enters.enters read.time_is read.mine
    (λ after seen. (
      refl,
      record {
        after = after;
        seen = seen;
        answers = read.settles.answers
            ∙ ap (λ room. reply command (catalogue_of (state_of_time (past_of t) time)) room (time == t.last)) (same_room first_node t time);
        unchanging = sym (ap (λ room. changes command (catalogue_of (state_of_time (past_of t) time)) room (time == t.last)) (same_room first_node t time))
            ∙ read.settles.unchanging;
      },
    ))

-- The command of a link has its place.
pub linked_ran : (k : Causes) (s t : Seat) (command : Command) (place : Place) (answer : Reply) → Linked k s t command (place, answer)
    → RanAt s t command place answer
linked_ran k s t command place answer l =
    ran_after _ s l.from t place l.none (done_at k l.from t command place answer l.lawful l.attempted)

-- what a seat sees later is a longer history
pub past_later : (s t : Seat) → Continues s t → past_of t ≡ longer (past_of s) (drop (length s.seen) t.seen)
past_later s t c =
    let entries : t.seen ≡ s.seen ++ drop (length s.seen) t.seen =
    sym (take-append-drop (length s.seen) t.seen) ∙ ap (λ es. es ++ drop (length s.seen) t.seen) c.seen in
    λ i. record { start = c.start i; base = c.base i; last = c.last i; entries = entries i }

-- What is placed in a history, and in each longer one, is placed in what the seat sees later.
pub placed_later : (placed_in : Past → ℕ → List Commit → Type 0) (s t : Seat) (commits : List Commit) → Continues s t
    → ((p : Past) (more : List Entry) (seat : ℕ) → placed_in p seat commits → placed_in (longer p more) seat commits)
    → placed_in (past_of s) s.number commits → placed_in (past_of t) t.number commits
placed_later placed_in s t commits c stays h =
    subst (λ (m : ℕ). placed_in (past_of t) m commits) (sym c.number)
    (subst (λ q. placed_in q s.number commits) (sym (past_later s t c)) (stays (past_of s) (drop (length s.seen) t.seen) s.number h))

-- an attempt of a block that is done
block_done_at : (k : Causes) (s t : Seat) (block : List Command) (place : Place) (answers : List Reply) → IsSeat IsOpening IsBlockCommit t
    → BlockAttempted k s t block (blocks.Done answers place) → RanBlock s t block place answers
block_done_at k s t block (AtCommit time) answers lawful left =
    let done = left.done in
    let before : State = state_of_time (past_of t) (time - 1) in
    let room = same_room first_node t (time - 1) in
    ran_commit _ s t done.commit time lawful.mine done.continues done.entry done.later done.mine
    (λ by. (
      done.commit,
      refl,
      record {
        later = done.entry.later;
        there = done.entry.there;
        seat_is = by;
        tagged = done.plan.tagged;
        answers_are = done.makes.answers_are ∙ (λ i. block_replies block (catalogue_of before) (room i) false);
        changing = sym (λ i. block_changes block (catalogue_of before) (room i) false) ∙ done.makes.changing;
        leaves = done.makes.leaves ∙ (λ i. block_next block (catalogue_of before) (room i) false);
      },
    ))
block_done_at k s t block (Read time) answers lawful read =
    let now : State = state_of_time (past_of t) time in
    let room = same_room first_node t time in
    ran_read _ k s t read.enters.before read.entered time read.enters.comes read.enters.enters read.time_is read.mine
    (λ after seen. (
      refl,
      record {
        after = after;
        seen = seen;
        answers_are = read.settles.0 ∙ (λ i. block_replies block (catalogue_of now) (room i) (time == t.last));
        unchanging = sym (λ i. block_changes block (catalogue_of now) (room i) (time == t.last)) ∙ read.settles.1;
      },
    ))

-- The block of a link has its place.
pub block_ran : (k : Causes) (s t : Seat) (block : List Command) (place : Place) (answers : List Reply) → LinkedBlock k s t block (place, answers)
    → RanBlock s t block place answers
block_ran k s t block place answers l =
    ran_after _ s l.1.from t place l.1.none (block_done_at k l.1.from t block place answers l.1.lawful l.1.attempted)

-- a block has a reply for each of its commands
pub place_count : (p : Past) (seat : ℕ) (block : List Command) (place : Place) (answers : List Reply) (commits : List Commit)
    → BlockPlaceOf p seat block place answers commits → length answers ≡ length block
place_count p seat block (AtCommit time) answers commits h =
    ap length h.2.answers_are ∙ length-block_replies block (catalogue_of (state_of_time p (time - 1))) (capacity p.start) false
place_count p seat block (Read time) answers commits h =
    ap length h.1.answers_are ∙ length-block_replies block (catalogue_of (state_of_time p time)) (capacity p.start) (time == p.last)

pub replies_count : (k : Causes) (s t : Seat) (block : List Command) (place : Place) (answers : List Reply) → LinkedBlock k s t block (place, answers)
    → length answers ≡ length block
replies_count k s t block place answers l =
    let ran = block_ran k s t block place answers l in place_count (past_of t) t.number block place answers ran.commits ran.placed

-- The place of a block stays its place in a longer history.
pub block_longer : (p : Past) (more : List Entry) (seat : ℕ) (block : List Command) (place : Place) (answers : List Reply) (commits : List Commit)
    → BlockPlaceOf p seat block place answers commits → BlockPlaceOf (longer p more) seat block place answers commits
block_longer p more seat block (AtCommit time) answers commits placed =
    let made = placed.2 in
    let within = slice_get_within p.entries (time - (p.base + 1)) (Change placed.0) made.there in
    let before = state_longer p more (time - 1) (omega (arith, made.later, within)) in
    let now = state_longer p more time (omega (arith, made.later, within)) in (
      placed.0,
      placed.1,
      record {
        later = made.later;
        there = there_longer p.entries more (time - (p.base + 1)) (Change placed.0) made.there;
        seat_is = made.seat_is;
        tagged = made.tagged;
        answers_are = made.answers_are ∙ sym (λ i. block_replies block (catalogue_of (before i)) (capacity p.start) false);
        changing = (λ i. block_changes block (catalogue_of (before i)) (capacity p.start) false) ∙ made.changing;
        leaves = ap catalogue_of now ∙ made.leaves ∙ sym (λ i. block_next block (catalogue_of (before i)) (capacity p.start) false);
      },
    )
block_longer p more seat block (Read time) answers commits placed =
    let read = placed.1 in
    let same = state_longer p more time read.seen in (
      placed.0,
      record {
        after = read.after;
        seen = omega (arith, read.seen, length-append p.entries more);
        answers_are = read.answers_are ∙ sym (λ i. block_replies block (catalogue_of (same i)) (capacity p.start) (time == p.last));
        unchanging = (λ i. block_changes block (catalogue_of (same i)) (capacity p.start) (time == p.last)) ∙ read.unchanging;
      },
    )
