-- What is known of a tidy's steps is known when more steps were made.
use Rattle.std.proofs.Common.{◌≡◌, ℕ, ◌+◌, ◌<◌, ◌≤◌, Bool, true, false, List, [], ◌∷◌, ◌++◌, length, All, Contains, Option, Some, None, refl, sym, ap, ◌∙◌}
use Rattle.std.proofs.Common.{subst, inl, inr, ⊎_elim, arith, append_assoc}
use Rattle.std.proofs.lemmas.List.Elements.{All-append, Contains-append_left}
use Rattle.mv_history.specs.declared.Step.{Step}
use Rattle.mv_history.specs.Trail.{clock_exchanges}
use Rattle.mv_core.proofs.Terms.{Config}
use Rattle.mv_core.specs.declared.view.Knowledge.{Knowledge}
use Rattle.mv_core.specs.Times.{latest, latest_at}
use Rattle.mv_core.proofs.history.Fronts.{begins_by, latest_at-more, latest-more}
use Rattle.reader_marks.specs.declared.scanning.Watermark.{Watermark}
use Rattle.reader_marks.specs.Scans.{scan_step, mark_step}
use Rattle.seat_log.specs.declared.version.Note.{Note}
use Rattle.log_reclaim.specs.Parts.{BeginsNoScan, super_step, FindsNewer, FindsAbove}
use Rattle.log_reclaim.specs.Untimed.{TriedSo, StaysUntimed}
use Rattle.log_reclaim.specs.Holders.{ReadsMark, FindsLast}
use Rattle.log_reclaim.proofs.rests.Exchanges.{none_in_both, one_between}
use Rattle.replay_rules.specs.declared.seats.NotedVersion.{NotedVersion}
use Rattle.replay_rules.specs.declared.seats.Scanned.{Scanned}
use Rattle.replay_rules.specs.SeatNotes.{version_at}
use Rattle.replay_rules.proofs.answers.Tidying.Further.{Further, further_on, further_number, further_base, further_long}
use Rattle.replay_rules.proofs.answers.Tidying.Far.{HasCome, HasMarks, HasBegun, KnowsUntimed, IsScanning, ScanIsWhole, LookedAt, mark_of, note_in}
use Rattle.replay_rules.proofs.answers.Tidying.Far.{DeathsAreSeen, AreUnrested, AreRested, IsOpening, IsSecond}

-- the last time is found among more steps
pub last_found_on : (made more : List Step) → FindsLast made → FindsLast (made ++ more)
last_found_on made more k = record {
  step = k.step;
  there = Contains-append_left made more k.step k.there;
  clock = k.clock;
  word = k.word;
  found = k.found;
  last = k.last;
}

module _ (c : Config) (v w : Knowledge) (made more : List Step) (f : Further v w more) where
  newer_on : (n : Note) (seat : ℕ) (s : Step) → FindsNewer c v n seat s → FindsNewer c w n seat s
  newer_on n seat s k = record {
    top = record {
      finds = k.top.finds;
      view = k.top.view;
      number = k.top.number ∙ sym (further_number v w more f);
      after = k.top.after ++ more;
      trail = f.trail ∙ ap (λ l. l ++ more) k.top.trail ∙ append_assoc k.top.view.trail (s ∷ k.top.after) more;
      names = k.top.names;
    };
    newer = k.newer;
  }

  above_on : (n : Note) (seat : ℕ) → FindsAbove c v made n seat → FindsAbove c w (made ++ more) n seat
  above_on n seat a = record {
    not_own = λ e. a.not_own (e ∙ further_number v w more f);
    in_range = a.in_range;
    before = a.before;
    after = a.after ++ more;
    made_is = ap (λ l. l ++ more) a.made_is ∙ append_assoc a.before (super_step c v.number n ∷ a.after) more
        ∙ ap (λ own. a.before ++ super_step c own n ∷ (a.after ++ more)) (sym (further_number v w more f));
    step = a.step;
    later = Contains-append_left a.after more a.step a.later;
    finds = newer_on n seat a.step a.finds;
  }

  pub tried_on : (mark : Watermark) (clock : ℕ) (n : Note) (above : Option ℕ) → TriedSo c v made mark clock n above
      → TriedSo c w (made ++ more) mark clock n above
  tried_on mark clock n None t =
      let base = further_base v w more f in (
        t.0,
        ⊎_elim inl
            (λ late.
            let later = latest-more v.base w.past.seen v.past.seen n.object f.seen in
            inr (subst (λ (b : ℕ). n.time < latest b w.past.seen n.object) (sym base) (omega (arith, late, later))))
            t.1,
      )
  tried_on mark clock n (Some seat) a = above_on n seat a

  pub stays_on : (mark : Watermark) (clock : ℕ) (n : Note) (back : Bool) (above : Option ℕ) → mark.low ≤ v.base + length v.past.seen
      → StaysUntimed c v made mark clock back n above → StaysUntimed c w (made ++ more) mark clock back n above
  stays_on mark clock n back above seen d = record {
    committed = d.committed;
    super = Contains-append_left made more (super_step c w.number n)
        (subst (λ (own : ℕ). Contains made (super_step c own n)) (sym (further_number v w more f)) d.super);
    unwritten =
        (let old = d.unwritten in
        let same = latest_at-more v.base w.past.seen v.past.seen n.object f.seen mark.low seen in
        subst (λ (b : ℕ). latest_at b w.past.seen n.object mark.low ≤ n.time) (sym (further_base v w more f)) (omega (arith, old, same)));
    tried = λ b. tried_on mark clock n above (d.tried b);
  }

  pub within_on : (t : ℕ) → t ≤ v.base + length v.past.seen → t ≤ w.base + length w.past.seen
  within_on t le =
      let base = further_base v w more f in let long = further_long v w more f in omega (arith, le, base, long)

  pub read_on : (scan : Scanned) → HasMarks c v made scan → HasMarks c w (made ++ more) scan
  read_on scan k = record {
    low = k.low;
    marked = λ lt.
        let m = k.marked lt in
        subst (λ (own : ℕ). ReadsMark c own (made ++ more) scan.seat scan.low) (sym (further_number v w more f))
        (record { not_own = m.not_own; in_range = m.in_range; read = Contains-append_left made more (mark_step c scan.seat (1 + scan.low)) m.read });
    within = within_on scan.clock k.within;
  }

  pub begun_on : (clock : ℕ) → All (λ s. BeginsNoScan s.kind) more → HasBegun c made clock → HasBegun c (made ++ more) clock
  begun_on clock none k = record {
    word = k.word;
    before = k.before;
    after = k.after ++ more;
    made_is = ap (λ l. l ++ more) k.made_is ∙ append_assoc k.before (scan_step c k.word ∷ k.after) more;
    last = All-append (λ (s : Step). BeginsNoScan s.kind) k.after more k.last none;
    clock_is = k.clock_is;
  }

  pub tries_on : (v0 : Knowledge) (log : List NotedVersion) (freed up : ℕ) (first : Scanned) → KnowsUntimed c v0 v made log freed up first
      → KnowsUntimed c v0 w (made ++ more) log freed up first
  tries_on v0 log freed up first k = record {
    read = read_on first k.read;
    known = k.known;
    after = k.after;
    ends = λ i low lt late. last_found_on made more (k.ends i low lt late);
    untimed = λ i low lt before none.
        stays_on (mark_of first) first.clock (note_in log i) true (version_at log i).above
        (let below = k.read.low in let in_time = k.read.within in omega (arith, below, in_time)) (k.untimed i low lt before none);
  }

  pub deaths_on : (log : List NotedVersion) (freed : ℕ) → DeathsAreSeen v log freed → DeathsAreSeen w log freed
  deaths_on log freed k i low lt in_time = within_on (version_at log i).dead (k i low lt in_time)

  pub second_on : (v0 : Knowledge) (log : List NotedVersion) (freed : ℕ) (first : Scanned) → IsSecond c v0 v made log freed first
      → IsSecond c v0 w (made ++ more) log freed first
  second_on v0 log freed first k = record { tried = tries_on v0 log freed (length log) first k.tried; deaths = deaths_on log freed k.deaths }

  pub scan_on : (scan : Scanned) → w.past.rests ≡ v.past.rests → All (λ s. BeginsNoScan s.kind) more → IsScanning c v made scan
      → IsScanning c w (made ++ more) scan
  scan_on scan rests none k = record {
    before = k.before;
    known = k.known;
    number = further_number v w more f ∙ k.number;
    base = further_base v w more f ∙ k.base;
    seen = begins_by w.past.seen v.past.seen k.before.past.seen f.seen k.seen;
    mine = f.mine ∙ k.mine;
    rests = rests ∙ k.rests;
    from = k.from;
    read = read_on scan k.read;
    begun = begun_on scan.clock none k.begun;
  }

  pub scanned_on : (scan : Scanned) (bound : ℕ) → w.past.rests ≡ v.past.rests → All (λ s. BeginsNoScan s.kind) more
      → ScanIsWhole c v made scan bound → ScanIsWhole c w (made ++ more) scan bound
  scanned_on scan bound rests none k = record { scan = scan_on scan rests none k.scan; known = k.known; bound_is = k.bound_is }

  pub looked_on : (log : List NotedVersion) (freed : ℕ) (first : Scanned) (at : ℕ) → first.low ≤ v.base + length v.past.seen
      → LookedAt c v made log freed first at → LookedAt c w (made ++ more) log freed first at
  looked_on log freed first at seen k = record {
    low = k.low;
    live = k.live;
    still = stays_on (mark_of first) first.clock (note_in log at) false None seen k.still;
    before = k.before;
    later = k.later ++ more;
    made_is = ap (λ l. l ++ more) k.made_is ∙ append_assoc k.before (super_step c v.number (note_in log at) ∷ k.later) more
        ∙ ap (λ own. k.before ++ super_step c own (note_in log at) ∷ (k.later ++ more)) (sym (further_number v w more f));
  }

  pub unrested_on : (v0 : Knowledge) → w.past.rests ≡ v.past.rests → clock_exchanges more ≡ [] → AreUnrested v0 v made → AreUnrested v0 w (made ++ more)
  unrested_on v0 rests none k = (rests ∙ k.0, none_in_both made more k.1 none)

  pub rested_on : (v0 : Knowledge) → w.past.rests ≡ v.past.rests → clock_exchanges more ≡ [] → AreRested v0 v made → AreRested v0 w (made ++ more)
  rested_on v0 rests none k = (
    ⊎_elim (λ e. inl (rests ∙ e)) (λ e. inr (rests ∙ e)) k.0,
    one_between [] made more refl k.1 none,
  )

  pub opens_on : (v0 : Knowledge) (old log : List NotedVersion) (latest : ℕ) → w.past.rests ≡ v.past.rests → clock_exchanges more ≡ []
      → IsOpening v0 v made old log latest → IsOpening v0 w (made ++ more) old log latest
  opens_on v0 old log latest rests none k =
      record { log_is = k.log_is; unrested = unrested_on v0 rests none k.unrested; within = within_on latest k.within }

  abbrev pub come_on : (v0 : Knowledge) (log : List NotedVersion) (freed from began : ℕ) → (k : HasCome c v0 v log freed from began) → k.made ≡ made
      → HasCome c v0 w log freed from began
  come_on v0 log freed from began k is = record {
    old = k.old;
    rests = k.rests;
    known = k.known;
    made = k.made ++ more;
    further = further_on v0 v w k.made more k.further f;
    same = k.same;
  }
