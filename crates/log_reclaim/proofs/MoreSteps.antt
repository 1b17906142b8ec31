-- What steps show they show among more steps.
use Rattle.std.proofs.Common.{◌≡◌, ℕ, ◌+◌, List, [], ◌++◌, All, Contains, ap, ◌∙◌, subst, append_assoc, append-nil}
use Rattle.std.proofs.lemmas.List.Elements.{All-nil, All-append, Contains-append_left, Contains-append_right}
use Rattle.mv_history.specs.declared.Step.{Step}
use Rattle.mv_layout.specs.declared.Config.{Config}
use Rattle.seat_log.specs.reader_marks.declared.scanning.Watermark.{Watermark}
use Rattle.seat_log.specs.reader_marks.Scans.{scan_steps, mark_step}
use Rattle.log_reclaim.specs.Parts.{BeginsNoScan, HasScanned, HasScan}
use Rattle.log_reclaim.specs.Holders.{ReadsMark, IsAfterScan, FindsLast}

-- a list that is within a longer one, between what is before it and after it
split_more : (before made after xs ys zs : List Step) → made ≡ xs ++ ys ++ zs → before ++ made ++ after ≡ (before ++ xs) ++ ys ++ (zs ++ after)
split_more before made after xs ys zs is = ap (λ l. before ++ l ++ after) is ∙ simp append_assoc

module _ (before made after : List Step) where
  pub contains_more : (s : Step) → Contains made s → Contains (before ++ made ++ after) s
  contains_more s there = Contains-append_left (before ++ made) after s (Contains-append_right before made s there)

  pub last_found_more : FindsLast made → FindsLast (before ++ made ++ after)
  last_found_more k = record { step = k.step; there = contains_more k.step k.there; clock = k.clock; word = k.word; found = k.found; last = k.last }

  module _ (c : Config) (own : ℕ) where
    pub reads_mark_more : (seat low : ℕ) → ReadsMark c own made seat low → ReadsMark c own (before ++ made ++ after) seat low
    reads_mark_more seat low k = record { not_own = k.not_own; in_range = k.in_range; read = contains_more (mark_step c seat (1 + low)) k.read }

    -- also a scan, if later steps begin one or not
    pub scan_more : (mark : Watermark) (clock : ℕ) → HasScanned c own made mark clock → HasScan c own (before ++ made ++ after) mark clock
    scan_more mark clock k = record {
      word = k.word;
      clock_is = k.clock_is;
      marks = k.marks;
      own_is = k.own_is;
      lowest = k.lowest;
      unmarked = k.unmarked;
      found = k.found;
      time = k.time;
      before = before ++ k.before;
      after = k.after ++ after;
      made_is = split_more before made after k.before (scan_steps c own k.word k.marks mark.low k.found) k.after k.made_is;
    }

    -- and it is the last one where none does
    pub scanned_more : (mark : Watermark) (clock : ℕ) → All (λ s. BeginsNoScan s.kind) after → HasScanned c own made mark clock
        → HasScanned c own (before ++ made ++ after) mark clock
    scanned_more mark clock none k = record {
      word = k.word;
      clock_is = k.clock_is;
      marks = k.marks;
      own_is = k.own_is;
      lowest = k.lowest;
      unmarked = k.unmarked;
      found = k.found;
      time = k.time;
      before = before ++ k.before;
      after = k.after ++ after;
      made_is = split_more before made after k.before (scan_steps c own k.word k.marks mark.low k.found) k.after k.made_is;
      last = All-append (λ (s : Step). BeginsNoScan s.kind) k.after after k.last none;
    }

  -- and a time after the last one
  pub after_scan_more : (c : Config) (time : ℕ) → All (λ s. BeginsNoScan s.kind) after → IsAfterScan c made time → IsAfterScan c (before ++ made ++ after) time
  after_scan_more c time none k = record {
    word = k.word;
    before = before ++ k.before;
    after = k.after ++ after;
    made_is = ap (λ l. before ++ l ++ after) k.made_is ∙ simp append_assoc;
    last = All-append (λ (s : Step). BeginsNoScan s.kind) k.after after k.last none;
    later = k.later;
  }

-- other steps were made before a scan
pub scanned_then : (before made : List Step) (c : Config) (own : ℕ) (mark : Watermark) (clock : ℕ) → HasScanned c own made mark clock
    → HasScanned c own (before ++ made) mark clock
scanned_then before made c own mark clock k =
    subst (λ (l : List Step). HasScanned c own l mark clock) (append-nil (before ++ made))
    (scanned_more before made [] c own mark clock (All-nil (λ s. BeginsNoScan s.kind)) k)
