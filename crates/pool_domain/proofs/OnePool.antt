-- The seats of a domain that did the commands of a pool have met: their lines and tables are those of one pool in the whole history.
use Rattle.std.specs.List.Sorted.{IsPermutation}
use Rattle.std.proofs.lemmas.List.Sorted.{All-permutation, IsPermutation-sym, IsPermutation-trans, length_permutation, sum_by-IsPermutation}
use Rattle.mv_history.specs.declared.answers.LogTable.{LogTable}
use Rattle.mv_history.specs.declared.history.TheConstants.{LAST}
use Rattle.mv_history.specs.Legal.{IsAllowed}
use Rattle.set_model.proofs.Opening.{opening_empty}
use Rattle.run_report.proofs.history.Grown.{all_worked}
use Rattle.run_report.proofs.history.Inserted.{some_order}
use Rattle.run_report.proofs.history.OneRun.{lines_permuted}
use Rattle.run_report.proofs.history.Replay.{IsLeft, replay}
use Rattle.domain_loan.specs.Met.{AllContinue}
use Rattle.script_domain.proofs.OneRun.{run_met}
use Rattle.script_domain.proofs.Seats.{all_continue}
use Rattle.pool_domain.proofs.Terms.{◌≡◌, ◌+◌, ◌<◌, ◌==◌, ◌∙◌, ℕ, suc, cond, List, length, refl, sym, subst, arith, All, All-weaker, Seat, state_after, Maps}
use Rattle.pool_domain.proofs.Terms.{empty, catalogue_of, IsOpening, capacity, IsSetCommit, Command, Line, IsOrdered, Follows, IsAlone, IsInTime, Replays, Past}
use Rattle.pool_domain.proofs.Terms.{EachHasOneLine, StandsIn, pairs_permuted, PoolRan, IsOneHistory, ReplaysPool, PoolOf, StandsInPool}
use Rattle.pool_domain.proofs.Orders.{as_scripts, stands_as, replays_pool, all_alone, scripts_of, script_lines, all_ran, scripts_length, same_commits}
use Rattle.pool_domain.proofs.Shares.{IsOneOf, are_shares, all_follow, all_stand, all_seats, all_in_time}

-- What holds of the lines of a pool in a history.
pub record IsPooled (p : Past) (seats : ℕ) (commands : List Command) (lines : List Line) : Type 0 where
  pub opening : IsOpening p.start
  pub allowed : IsAllowed IsSetCommit p.start p.entries
  pub last : p.last ≡ LAST
  pub seats_are : All (λ (line : Line). line.seat < seats) lines
  pub stand : All (StandsInPool p commands) lines
  pub follow : All (λ (line : Line). Follows p.base line.place) lines
  pub one_line : EachHasOneLine p lines

-- the ordered lines replay from empty maps
replays : (p : Past) (seats : ℕ) (commands : List Command) (lines ordered : List Line) → IsPooled p seats commands lines → IsPermutation lines ordered
    → IsOrdered ordered → ReplaysPool commands (capacity p.start) empty ordered (catalogue_of (state_after p.start p.entries))
replays p seats commands lines ordered h same rising =
    let from : p.base ≡ p.base + 0 = omega arith in
    let below = All-permutation (λ (line : Line). line.seat < seats) lines ordered same h.seats_are in
    let stands : All (StandsIn p (as_scripts seats commands)) lines =
    λ k d lt. stands_as p seats commands _ (h.seats_are k d lt) (h.stand k d lt) in
    let left : IsLeft p (StandsIn p (as_scripts seats commands)) 0 ordered = record {
      ordered = rising;
      stand = All-permutation (StandsIn p (as_scripts seats commands)) lines ordered same stands;
      follow = All-permutation (λ line. Follows (p.base + 0) line.place) lines ordered same
          (subst (λ t. All (λ line. Follows t line.place) lines) from h.follow);
      left = λ i c low there. lines_permuted (p.base + suc i) lines ordered same ∙ h.one_line i c there;
    } in
    replays_pool seats commands (capacity p.start) empty ordered (catalogue_of (state_after p.start p.entries)) below
    (subst (λ m. Replays (as_scripts seats commands) (capacity p.start) m ordered (catalogue_of (state_after p.start p.entries)))
    (opening_empty p.start h.opening)
    (replay p (as_scripts seats commands) h.allowed h.last 0 ordered left))

-- the seats that did the commands went on
pub all_went_on : (olds news : List Seat) (commands : List Command) (lines : List Line) → PoolRan olds news commands lines → AllContinue olds news
all_went_on olds news commands lines ran =
    all_continue olds news (scripts_of olds news commands lines ran.each) (script_lines olds news commands lines ran.each)
    (all_ran olds news commands lines ran.each)

-- The lines and tables are those of one pool in the whole history.
pub pool_met : (p : Past) (olds news : List Seat) (commands : List Command) (lines : List Line) (tables : List LogTable)
    → IsOneHistory IsOpening IsSetCommit p (length olds) olds news tables → PoolRan olds news commands lines
    → PoolOf p (length olds) commands lines (catalogue_of (state_after p.start p.entries)) tables
pool_met p olds news commands lines tables h ran =
    let scripts = scripts_of olds news commands lines ran.each in
    let told = script_lines olds news commands lines ran.each in
    let each = all_ran olds news commands lines ran.each in
    let many = scripts_length olds news commands lines ran.each in
    let run = run_met p olds news scripts told tables
    (subst (λ n. IsOneHistory IsOpening IsSetCommit p n olds news tables) (sym many) h) each in
    let worked = all_worked p 0 olds news scripts told h.known each in
    let shares = are_shares p 0 olds news commands lines ran.each worked in
    let in_time = all_in_time p commands 0 (length olds) lines shares in
    let stand = all_stand p commands 0 (length olds) lines shares in
    let pooled : IsPooled p (length olds) commands lines = record {
      opening = h.opening;
      allowed = h.allowed;
      last = h.last;
      seats_are = All-weaker (IsOneOf 0 (length olds)) (λ line. line.seat < length olds) (λ line one. omega (arith, one.1))
          lines (all_seats p commands 0 (length olds) lines shares);
      stand = stand;
      follow = all_follow p commands 0 (length olds) lines shares;
      one_line = λ i c there. same_commits (p.base + suc i) olds news commands lines ran.each ∙ run.one_line i c there;
    } in
    let ordered = some_order lines in
    record {
      opening = h.opening;
      legal = h.legal;
      allowed = h.allowed;
      stand = stand;
      one_line = pooled.one_line;
      end_is = refl;
      table_each = h.table_each;
      table_of = h.table_of;
      run = record {
        once = λ number positive le. ran.once number positive le;
        count = ran.count;
        seats_are = pooled.seats_are;
        from_base = pooled.follow;
        in_time = in_time;
        alone = all_alone p commands lines stand in_time;
        replayed = (ordered.0, ordered.1, ordered.2, replays p (length olds) commands lines ordered.0 pooled ordered.1 ordered.2);
      };
    }

-- a pool stays one whatever the order of its lines
pub pool_permuted : (p : Past) (seats : ℕ) (commands : List Command) (lines others : List Line) (end : Maps) (tables : List LogTable)
    → IsPermutation lines others → PoolOf p seats commands lines end tables → PoolOf p seats commands others end tables
pool_permuted p seats commands lines others end tables same pool =
    let r = pool.run.replayed in
    record {
      opening = pool.opening;
      legal = pool.legal;
      allowed = pool.allowed;
      stand = All-permutation (StandsInPool p commands) lines others same pool.stand;
      one_line = λ i c there. lines_permuted (p.base + suc i) lines others same ∙ pool.one_line i c there;
      end_is = pool.end_is;
      table_each = pool.table_each;
      table_of = pool.table_of;
      run = record {
        once = λ number positive le.
            sum_by-IsPermutation (λ (l : Line). cond (l.number == number) 1 0) lines others same ∙ pool.run.once number positive le;
        count = length_permutation lines others same ∙ pool.run.count;
        seats_are = All-permutation (λ line. line.seat < seats) lines others same pool.run.seats_are;
        from_base = All-permutation (λ line. Follows p.base line.place) lines others same pool.run.from_base;
        in_time = pairs_permuted IsInTime lines others same pool.run.in_time;
        alone = pairs_permuted IsAlone lines others same pool.run.alone;
        replayed = (r.0, IsPermutation-trans _ _ _ (IsPermutation-sym lines others same) r.1, r.2, r.3);
      };
    }
