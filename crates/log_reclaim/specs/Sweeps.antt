-- What a round leaves: looking at each version, and the whole of a round.
use Rattle.std.specs.Prelude.{◌≡◌, ℕ, zero, suc, ◌+◌, ◌-◌, ◌<◌, ◌≤◌, Bool, false, List, length, All}
use Rattle.std.specs.Prelude.{Option, Some, None, slice_index_or, slice_set}
use Rattle.mv_history.specs.declared.Step.{Step}
use Rattle.mv_layout.specs.declared.Config.{Config}
use Rattle.seat_log.specs.mv_core.declared.view.Knowledge.{Knowledge}
use Rattle.seat_log.specs.reader_marks.declared.scanning.Watermark.{Watermark}
use Rattle.seat_log.specs.reader_marks.Scans.{IsKnown}
use Rattle.seat_log.specs.declared.version.Note.{Note}
use Rattle.seat_log.specs.Notes.{Noted, IsNoteAt}
use Rattle.seat_log.specs.Frees.{OldestIsDead}
use Rattle.log_reclaim.specs.declared.settling.HeadHolders.{HeadHolders}
use Rattle.log_reclaim.specs.declared.rounds.RoundScan.{RoundScan}
use Rattle.log_reclaim.specs.Parts.{LeavesClock, IsOtherKind, IsPlain, Reclaims, DiesFrom, Shrinks, HasScanned}
use Rattle.log_reclaim.specs.Untimed.{StaysUntimed, DatedSo}

-- the seat that a byte tells: one more than its number, or 0 for none
abbrev pub seat_of_byte : ℕ → Option ℕ
seat_of_byte zero = None
seat_of_byte (suc seat) = Some seat

-- the byte that tells a seat, or none
abbrev pub byte_of_seat : Option ℕ → ℕ
byte_of_seat None = 0
byte_of_seat (Some seat) = suc seat

-- the other seat whose version the write-back of the version at this position found in HEAD, if any
abbrev pub found_at : HeadHolders → ℕ → Option ℕ
found_at found position = seat_of_byte (slice_index_or found.seats (position - found.base) 0)

-- the table with another entry at a place
abbrev pub found_set : HeadHolders → ℕ → Option ℕ → HeadHolders
found_set found index above = record found { seats = slice_set found.seats index (byte_of_seat above) }

-- there is an entry for each slot of the log, from its oldest position on
abbrev pub IsTableOf : Noted → HeadHolders → Type 0
IsTableOf l found = (found.base ≡ l.freed) × (length found.seats ≡ 4096)

-- there is an entry for each version of the log
abbrev pub HasEntries : Noted → HeadHolders → Type 0
HasEntries l found = (found.base ≤ l.freed) × (length l.live + l.freed ≤ found.base + 4096) × (length found.seats ≡ 4096)

-- A round has looked at the first `done` versions of the log: of each that still has no time of death it is known why; the others
-- are as before. `top` is the greatest time that it found in CLOCK.
pub record Settles (c : Config) (v w : Knowledge) (l m : Noted) (made : List Step) (mark : Watermark) (clock : ℕ) (back : Bool) (found : HeadHolders)
    (top done : ℕ) : Type 0 where
  pub reclaims : Reclaims v w made
  pub rests : w.past.rests ≡ v.past.rests
  pub kinds : All (λ s. IsOtherKind s.kind) made
  pub plain : IsPlain back made
  pub log : m ≡ record l { live = m.live; back = m.back }
  pub long : length m.live ≡ length l.live
  pub notes : (i : ℕ) (n : Note) → IsNoteAt m i n → (old : Note) × IsNoteAt l i old × DiesFrom old n × DatedSo c w made top back old n
  pub left : (i : ℕ) (n : Note) → IsNoteAt m i n → done ≤ i → IsNoteAt l i n
  pub untimed : (i : ℕ) (n : Note) → IsNoteAt m i n → i < done → n.dead ≡ 0 → StaysUntimed c w made mark clock back n (found_at found n.position)
  pub table : IsTableOf l found
  pub from : clock ≤ top
  pub within : top ≤ w.base + length w.past.seen

-- one version was looked at
pub record SettlesOne (c : Config) (v w : Knowledge) (l m : Noted) (made : List Step) (mark : Watermark) (clock : ℕ) (back : Bool) (old found : HeadHolders)
    (index top : ℕ) : Type 0 where
  pub reclaims : Reclaims v w made
  pub rests : w.past.rests ≡ v.past.rests
  pub kinds : All (λ s. IsOtherKind s.kind) made
  pub plain : IsPlain back made
  pub log : m ≡ record l { live = m.live; back = m.back }
  pub long : length m.live ≡ length l.live
  pub others : (i : ℕ) (n : Note) → IsNoteAt m i n → (i ≡ index → ⊥) → IsNoteAt l i n
  pub this : (n : Note) → IsNoteAt m index n → (was : Note) × IsNoteAt l index was × DiesFrom was n × DatedSo c w made top back was n
  pub untimed : (n : Note) → IsNoteAt m index n → n.dead ≡ 0 → StaysUntimed c w made mark clock back n (found_at found n.position)
  pub table : IsTableOf l found
  pub kept : (i : ℕ) → (i ≡ index → ⊥) → found_at found (l.freed + i) ≡ found_at old (l.freed + i)
  pub within : top ≤ w.base + length w.past.seen

-- A round that had to scan: it found this watermark, freed so many slots, looked at each version, and made no exchange on CLOCK.
-- The oldest write set that is left isn't dead by that watermark.
pub record Sweeps (c : Config) (v w : Knowledge) (l m : Noted) (made : List Step) (back : Bool) (scanned : RoundScan) (found : HeadHolders)
    (freed : ℕ) : Type 0 where
  pub reclaims : Reclaims v w made
  pub leaves : All (λ s. LeavesClock s.kind) made
  pub plain : IsPlain back made
  pub rests : w.past.rests ≡ v.past.rests
  pub shrinks : Shrinks l m freed
  pub scan : HasScanned c v.number made scanned.mark scanned.clock
  pub known : IsKnown w scanned.mark
  pub after : v.base + length v.past.seen ≤ scanned.clock
  pub before : scanned.clock ≤ w.base + length w.past.seen
  pub early : (i : ℕ) (n : Note) → IsNoteAt m i n → n.time ≤ scanned.clock
  pub from : scanned.clock ≤ scanned.latest
  pub within : scanned.latest ≤ w.base + length w.past.seen
  pub notes : (i : ℕ) (n : Note) → IsNoteAt m i n → (old : Note) × IsNoteAt l (i + freed) old × DiesFrom old n
      × DatedSo c w made scanned.latest back old n
  pub untimed : (i : ℕ) (n : Note) → IsNoteAt m i n → n.dead ≡ 0 → StaysUntimed c w made scanned.mark scanned.clock back n (found_at found n.position)
  pub kept : 0 < length m.live → OldestIsDead m scanned.mark.time → ⊥
  pub table : HasEntries m found
  pub alone : c.seats ≡ 1 → scanned.clock ≡ v.base + (length v.past.mine + v.past.rests)

-- a round that freed all by the watermark that stood in GRACE, and made no scan and no exchange on CLOCK
pub record SweepsAll (c : Config) (v w : Knowledge) (l m : Noted) (made : List Step) (freed : ℕ) : Type 0 where
  pub reclaims : Reclaims v w made
  pub leaves : All (λ s. LeavesClock s.kind) made
  pub plain : IsPlain false made
  pub rests : w.past.rests ≡ v.past.rests
  pub shrinks : Shrinks l m freed
  pub empty : length m.live ≡ 0

-- what a round answers within: what it found by its scan, unless the log was empty before that
abbrev pub SweepsSo : Config → Knowledge → Knowledge → Noted → Noted → List Step → Bool → HeadHolders → ℕ → Option RoundScan → Type 0
SweepsSo c v w l m made back found freed None = SweepsAll c v w l m made freed
SweepsSo c v w l m made back found freed (Some scanned) = Sweeps c v w l m made back scanned found freed
