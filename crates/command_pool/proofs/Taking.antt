-- What a worker took, turn by turn, which is a run, and what all workers of a pool did: each command, once.
use Rattle.std.proofs.Common.{Global, leb, cond, length-append}
use Rattle.std.proofs.lemmas.Bool.Decides.{nat_tests}
use Rattle.std.proofs.lemmas.List.Sums.{sum_by-cons, sum_by_push}
use Rattle.std.proofs.lemmas.Option.{slice_get_within}
use Rattle.script_workers.proofs.Runs.{chain_ran, chain_lines}
use Rattle.command_pool.proofs.Terms.{◌≡◌, ◌-◌, ◌<◌, ◌∷◌, ◌++◌, ◌∙◌, ◌+◌, ◌≤◌, ◌==◌, flat_map, ℕ, zero, suc, List, [], length, map, All, Some, refl}
use Rattle.command_pool.proofs.Terms.{ap, subst, arith, Vec, sum_by, sum_by-append, All-nil, All-cons, All-head, All-tail, Seat, Command, Place, Reply}
use Rattle.command_pool.proofs.Terms.{command_at, Answer, Chain, answered, HaveNumbers, line_of, row_of, Linked, Serves, EachServed, IsPassOf, hand, Hand}
use Rattle.command_pool.proofs.Terms.{total_to, last_of, GaveTurn, HasEnded, AreTaken, PoolSource, QueueOf, IsBegun, IsLent, taken_of}
use Rattle.command_pool.proofs.Terms.{lines_from, Took, TookLinked, EachSeat, PoolRan, Causes, Line, slice_get, sym}
use Rattle.command_pool.proofs.Sharing.{last_push}

-- the command of a number, found at the place before it
pub command_found : (commands : List Command) (number : ℕ) (command : Command) → 0 < number → slice_get commands (number - 1) ≡ Some command
    → command_at commands number ≡ Some command
command_found commands zero command some at = absurd (omega (arith, some))
command_found commands (suc before) command some at =
    let e : suc before - 1 ≡ before = omega arith in subst (λ k. slice_get commands k ≡ Some command) e at

-- the command of a place
pub command_there : (commands : List Command) (place : ℕ) → place < length commands → (command : Command) × (slice_get commands place ≡ Some command)
command_there [] place lt = absurd (omega (arith, lt))
command_there (c ∷ commands) zero lt = (c, refl)
command_there (c ∷ commands) (suc place) lt = command_there commands place (omega (arith, lt))

-- a number that has a command is not above their count
command_within : (commands : List Command) (number : ℕ) (command : Command) → command_at commands number ≡ Some command → number ≤ length commands
command_within commands zero command at = absurd (cc)
command_within commands (suc before) command at = omega (arith, slice_get_within commands before command at)

-- 1 at this number, and 0 at others
abbrev is_at : ℕ → ℕ → ℕ
is_at n k = cond (k == n) 1 0

-- 1 at the numbers up to this one, and 0 at those above
abbrev is_low : ℕ → ℕ → ℕ
is_low most k = cond (leb k most) 1 0

-- a number stands once among those up to the last, unless it is above that
to_at : (n done : ℕ) → 1 ≤ n → total_to (is_at n) done ≡ cond (leb n done) 1 0
to_at n zero positive = grind (arith, nat_tests)
to_at n (suc done) positive = let e = to_at n done positive in grind (arith, nat_tests)

-- how many of them are low
to_low : (most done : ℕ) → total_to (is_low most) done ≡ cond (leb done most) done most
to_low most zero = grind (arith, nat_tests)
to_low most (suc done) = let e = to_low most done in grind (arith, nat_tests)

-- the values at the numbers of lines, added up
abbrev total_of : (ℕ → ℕ) → List Line → ℕ
total_of f lines = sum_by (λ (line : Line). f line.number) lines

-- these answers, numbered from this number on
abbrev renumbered : ℕ → List (Answer (Place × Reply)) → List (Answer (Place × Reply))
renumbered number [] = []
renumbered number (d ∷ ds) = record { seat = d.seat; number = number; done = d.done } ∷ renumbered (suc number) ds

lines_renumbered : (number : ℕ) (ds : List (Answer (Place × Reply))) → map line_of (renumbered number ds) ≡ lines_from number (map line_of ds)
lines_renumbered number [] = refl
lines_renumbered number (d ∷ ds) =
    let l : Line = record { seat = d.seat; number = number; place = d.done.0; reply = d.done.1 } in
    ap (λ ls. l ∷ ls) (lines_renumbered (suc number) ds)

-- From one state of its turns to another a worker of this queue did these commands, each in a turn of its own, and then took a number that no
-- command has.
record TurnsDone (k : Causes) {Q A : Type 0} (queue : QueueOf Q A) (commands : List Command) (seat : ℕ) (s : Seat) (a : PoolSource) (t : Seat)
    (b : PoolSource) (ds : List (Answer (Place × Reply))) : Type 0 where
  pub lent : IsLent queue b
  pub mark : ℕ
  pub beyond : length commands < mark
  -- it took the numbers of its lines and the mark
  pub took : (f : ℕ → ℕ) → sum_by f (taken_of b) ≡ sum_by f (taken_of a) + total_of f (map line_of ds) + f mark
  pub low : total_of (is_low (length commands)) (map line_of ds) ≡ length (map line_of ds)
  pub script : List Command
  pub rising : AreTaken commands (last_of (taken_of a)) (map line_of ds) script
  pub by : All (λ (line : Line). line.seat ≡ seat) (map line_of ds)
  pub chain : Chain (answered (Linked k)) s t script ds
  -- and so they are a chain and numbered one by one, where they are numbered from any number on
  pub on : (n : ℕ) → Chain (answered (Linked k)) s t script (renumbered n ds) × HaveNumbers (λ (c : Command). 1) seat n script (renumbered n ds)

module _ (k : Causes) {Q A : Type 0} (queue : QueueOf Q A) (commands : List Command) (seat : ℕ) where
  turns_done : (s : Seat) (a : PoolSource) (t : Seat) (last b : PoolSource) (ds : List (Answer (Place × Reply))) → IsPassOf queue a.pass
      → a.commands.now ≡ commands → Serves (Linked k) GaveTurn seat s a t last ds → HasEnded last b → TurnsDone k queue commands seat s a t b ds
  turns_done s a t last b [] pass are h ended =
      let e : HasEnded a b = subst (λ (c : PoolSource). HasEnded c b) h.1 ended in
      let now : taken_of b ≡ taken_of a ++ e.mark ∷ [] = ap (λ (v : Hand). v.taken) e.took.view_is in
      record {
        lent = record { pass = (e.took.pass.0 ∙ pass.0, e.took.pass.2 ∙ pass.1); view_is = e.took.view_is ∙ ap (λ xs. hand 1 0 xs) (sym now) };
        mark = e.mark;
        beyond = subst (λ cs. length cs < e.mark) are e.beyond;
        took = λ f. omega (arith, ap (λ xs. sum_by f xs) now, sum_by_push f (taken_of a) e.mark);
        low = refl;
        script = [];
        rising = tt;
        by = All-nil (λ (line : Line). line.seat ≡ seat);
        chain = h.0;
        on = λ n. (h.0, tt);
      }
  turns_done s a t last b (d ∷ ds) pass are h ended =
      let c : PoolSource = h.1 in
      let gave = h.2.given in
      let took = gave.took in
      let lines : List Line = map line_of ds in
      let now : taken_of c ≡ taken_of a ++ d.number ∷ [] = ap (λ (v : Hand). v.taken) took.view_is in
      let others = turns_done h.0 c t last b ds (took.pass.0 ∙ pass.0, took.pass.2 ∙ pass.1) (took.commands ∙ are) h.3 ended in
      let newest : last_of (taken_of c) ≡ d.number = ap last_of now ∙ last_push (taken_of a) d.number in
      let there : command_at commands d.number ≡ Some h.2.item = subst (λ cs. command_at cs d.number ≡ Some h.2.item) are gave.there in
      let within : d.number ≤ length commands = command_within commands d.number h.2.item there in
      let one : is_low (length commands) d.number ≡ 1 = grind (arith, nat_tests) in
      record {
        lent = others.lent;
        mark = others.mark;
        beyond = others.beyond;
        took = λ f.
            omega (
              arith,
              others.took f,
              ap (λ xs. sum_by f xs) now,
              sum_by_push f (taken_of a) d.number,
              sum_by-cons (λ (l : Line). f l.number) (line_of d) lines,
            );
        low = omega (arith, sum_by-cons (λ (l : Line). is_low (length commands) l.number) (line_of d) lines, one, others.low);
        script = h.2.item ∷ others.script;
        rising = (gave.later, there, subst (λ n. AreTaken commands n lines others.script) newest others.rising);
        by = All-cons (λ (line : Line). line.seat ≡ seat) (line_of d) lines h.2.by others.by;
        chain = (h.0, h.2.linked, others.chain);
        on = λ n.
            let next : suc n ≡ n + 1 = omega arith in
            let rest = others.on (suc n) in (
              (h.0, h.2.linked, rest.0),
              (h.2.by, refl, subst (λ m. HaveNumbers (λ (c : Command). 1) seat m others.script (renumbered (suc n) ds)) next rest.1),
            );
      }

module _ (k : Causes) {Q A : Type 0} (queue : QueueOf Q A) (commands : List Command) where
  -- a seat that did these commands in a chain took them, one after another
  took_of : (s t : Seat) (a b : PoolSource) (ds : List (Answer (Place × Reply))) → taken_of a ≡ []
      → TurnsDone k queue commands s.number s a t b ds → Took commands s t (map line_of ds) × TookLinked k commands s t (map line_of ds)
  took_of s t a b ds none h =
      let rising = subst (λ n. AreTaken commands n (map line_of ds) h.script) (ap last_of none) h.rising in
      let ran = chain_ran k s t h.script (renumbered 1 ds) (record { chain = (h.on 1).0; numbers = (h.on 1).1 }) in (
        record { script = h.script; rising = rising; ran = rw (← lines_renumbered 1 ds) ran },
        record { script = h.script; rising = rising; by = h.by; chain = chain_lines k s t h.script ds h.chain },
      )

  -- What all workers did, and what their passes took.
  pub record PoolDone (olds news : List Seat) (after : List PoolSource) (lines : List Line) : Type 0 where
    pub lent : All (IsLent queue) after
    pub many : length after ≡ length olds
    -- the numbers of the lines, and others, which no command has, one at least where there was a worker
    pub took : (f : ℕ → ℕ) → ((e : ℕ) → length commands < e → f e ≡ 0) → sum_by f (flat_map taken_of after) ≡ total_of f lines
    pub an_end : 1 ≤ length olds → (e : ℕ) × (length commands < e) × (1 ≤ sum_by (is_at e) (flat_map taken_of after))
    pub low : total_of (is_low (length commands)) lines ≡ length lines
    pub each : EachSeat (Took commands) olds news lines
    pub linked : EachSeat (TookLinked k commands) olds news lines

  pub pool_done : (os : List Seat) (begun : List PoolSource) (ns : List Seat) (after : List PoolSource) (rows : List (Vec (Answer (Place × Reply)) Global))
      → All (IsBegun queue commands) begun → EachServed (λ (u : Seat). u) (Linked k) GaveTurn HasEnded os begun ns after rows
      → PoolDone os ns after (flat_map row_of rows)
  pool_done [] [] [] [] [] all h = record {
    lent = All-nil (IsLent queue);
    many = refl;
    took = λ f high. refl;
    an_end = λ asked. absurd (omega (arith, asked));
    low = refl;
    each = refl;
    linked = refl;
  }
  pool_done (o ∷ os) (a ∷ begun) (n ∷ ns) (b ∷ after) (r ∷ rows) all h =
      let to = h.0 in
      let start = All-head (IsBegun queue commands) a begun all in
      let did = turns_done k queue commands o.number o a to.end to.served.last b r.items start.pass start.commands_are to.served.serves to.served.ended_is in
      let by = took_of o to.end a b r.items start.none_taken did in
      let others = pool_done os begun ns after rows (All-tail (IsBegun queue commands) a begun all) h.1 in
      let lines : List Line = flat_map row_of rows in
      let both : (f : ℕ → ℕ) → sum_by f (taken_of b ++ flat_map taken_of after) ≡ total_of f (row_of r) + f did.mark + sum_by f (flat_map taken_of after) =
      λ f. omega (arith, sum_by-append f (taken_of b) (flat_map taken_of after), did.took f, ap (λ xs. sum_by f xs) start.none_taken) in
      record {
        lent = All-cons (IsLent queue) b after did.lent others.lent;
        many = ap suc others.many;
        took = λ f high.
            omega (arith, both f, high did.mark did.beyond, others.took f high, sum_by-append (λ (line : Line). f line.number) (row_of r) lines);
        an_end = λ asked. let one : is_at did.mark did.mark ≡ 1 = grind (arith, nat_tests) in (did.mark, did.beyond, omega (arith, both (is_at did.mark), one));
        low = omega (
          arith,
          sum_by-append (λ (line : Line). is_low (length commands) line.number) (row_of r) lines,
          length-append (row_of r) lines,
          did.low,
          others.low,
        );
        each = (row_of r, lines, refl, subst (λ (u : Seat). Took commands o u (row_of r)) to.seat_is by.0, others.each);
        linked = (row_of r, lines, refl, subst (λ (u : Seat). TookLinked k commands o u (row_of r)) to.seat_is by.1, others.linked);
      }
  pool_done _ _ _ _ _ all h = absurd h

  -- So the pool did each command once, where its passes took each number up to one.
  pub pool_ran : (os ns : List Seat) (after : List PoolSource) (lines : List Line) (taken : List ℕ) → 1 ≤ length os → PoolDone os ns after lines
      → taken ≡ flat_map taken_of after → (done : ℕ) × ((f : ℕ → ℕ) → sum_by f taken ≡ total_to f done) → PoolRan os ns commands lines
  pool_ran os ns after lines taken some h is all_taken =
      let done : ℕ = all_taken.0 in
      let once : (f : ℕ → ℕ) → sum_by f (flat_map taken_of after) ≡ total_to f done = λ f. ap (λ xs. sum_by f xs) (sym is) ∙ all_taken.1 f in
      -- an end was taken, so all commands before it were
      let an_end = h.an_end some in
      let up_to_end = to_at an_end.0 done (omega (arith, an_end.1)) in
      let at_end = once (is_at an_end.0) in
      let all : length commands < done = grind (arith, nat_tests, an_end.1, an_end.2) in
      record {
        once = λ number positive le.
            let up = to_at number done positive in
            let here = once (is_at number) in
            let told = h.took (is_at number) (λ e lt. grind (arith, nat_tests)) in grind (arith, nat_tests);
        count =
            let up = to_low (length commands) done in
            let here = once (is_low (length commands)) in
            let told = h.took (is_low (length commands)) (λ e lt. grind (arith, nat_tests)) in
            let low = h.low in grind (arith, nat_tests);
        each = h.each;
      }
