-- Writing a version back: what the calls need of the view and of the log, and what they leave.
use Rattle.std.specs.Prelude.{◌≡◌, ◌≢◌, ℕ, ◌+◌, ◌-◌, ◌<◌, ◌≤◌, ◌^◌, false, List, Result, Ok, Err, None, slice_index}
use Rattle.mv_history.specs.declared.Entry.{Entry}
use Rattle.mv_layout.specs.declared.Config.{Config}
use Rattle.mv_layout.specs.Words.{clock_time_of, link_of, link_seat_of}
use Rattle.seat_log.specs.mv_core.declared.ring.Slot.TheVariants.{Live}
use Rattle.seat_log.specs.mv_core.declared.ring.Version.{Version}
use Rattle.seat_log.specs.mv_core.declared.ring.WriteSetStatus.TheVariants.{Committed}
use Rattle.seat_log.specs.mv_core.declared.ring.CommitNote.{CommitNote}
use Rattle.seat_log.specs.mv_core.declared.view.Knowledge.{Knowledge}
use Rattle.seat_log.specs.mv_core.declared.view.Phase.TheVariants.{Inside}
use Rattle.seat_log.specs.mv_core.declared.view.OwnSection.{OwnSection}
use Rattle.seat_log.specs.mv_core.declared.view.Mode.TheVariants.{Open}
use Rattle.seat_log.specs.mv_core.Rings.{slot_at, index_of, HoldsNothing}
use Rattle.seat_log.specs.mv_core.SectionFacts.{IsPastHelp}
use Rattle.seat_log.specs.mv_core.EnterSteps.{IsWhole, mark_cleared}
use Rattle.seat_log.specs.mv_core.WalkSteps.{IsLinkOf, head_loaded}
use Rattle.seat_log.specs.mv_core.LockSteps.{death_loaded}
use Rattle.seat_log.specs.mv_core.Tops.{NamesNewer, IsNewer}
use Rattle.seat_log.specs.mv_core.ReclaimSteps.{GoesToWord, master_stored, head_cut, cut_lost}
use Rattle.seat_log.specs.reader_marks.declared.scanning.Watermark.{Watermark}
use Rattle.seat_log.specs.reader_marks.Sections.{Begins}
use Rattle.seat_log.specs.declared.version.Note.{Note}
use Rattle.seat_log.specs.Notes.{Noted, IsNoteAt, retired, back_noted}
use Rattle.seat_log.specs.Stands.{Stands}
use Rattle.log_reclaim.specs.declared.writing_back.StartedWriteBack.{StartedWriteBack}
use Rattle.log_reclaim.specs.declared.writing_back.NoBack.{NoBack}
use Rattle.log_reclaim.specs.declared.writing_back.NoBack.TheVariants.{Young, Gone, Above}
use Rattle.log_reclaim.specs.declared.writing_back.BackEnd.{BackEnd}
use Rattle.log_reclaim.specs.declared.writing_back.BackEnd.TheVariants as end

-- the log has this note of a committed version at the position
pub record IsCommitted (l : Noted) (position : ℕ) (n : Note) : Type 0 where
  pub from : l.freed ≤ position
  pub at : IsNoteAt l (position - l.freed) n
  pub committed : 0 < n.time

-- The write-back is under way in the view: in an open section past its help that holds nothing, of an own committed version that
-- has no time of death, wasn't cut, and whose time isn't above the pass's watermark; so many of its words were stored, and its
-- exchange of HEAD wasn't tried.
pub record IsWriting (c : Config) (v : Knowledge) (back : StartedWriteBack) : Type 0 where
  pub inside : OwnSection
  pub phase : v.phase ≡ Inside inside
  pub open_is : inside.mode ≡ Open
  pub past_help : IsPastHelp v.clocks inside
  pub nothing : HoldsNothing v.ring
  pub version : Version
  pub note : CommitNote
  pub own : slot_at v.ring (index_of c back.position) ≡ Live version (Committed note)
  pub position_is : version.position ≡ back.position
  pub object_is : version.object ≡ back.object
  pub words_is : version.words ≡ back.words
  pub no_death : note.dead ≡ None
  pub uncut : note.cut ≡ false
  pub known : note.time ≤ v.grace
  pub in_range : back.object < c.objects
  pub small : back.position < 2 ^ 57
  pub few : back.stored ≤ 6
  pub goes : GoesToWord v back.object back.stored back.position version note

-- a section was entered, and HEAD of the object then had this link; where that is of another seat, it names a newer version of the object
pub record HasLooked (c : Config) (v w : Knowledge) (object link : ℕ) : Type 0 where
  pub entered : Knowledge
  pub time : ℕ
  pub begins : Begins c v entered time
  pub looked : w ≡ head_loaded c entered begins.inside object link
  pub link_is : IsLinkOf c link
  pub newer : IsNewer c entered object link

-- HEAD of the object had another link than that of the version of the note, and the section was left
pub record LeavesAt (c : Config) (v w : Knowledge) (n : Note) (link : ℕ) : Type 0 where
  pub other : link ≢ link_of v.number n.position
  pub inside : Knowledge
  pub looked : HasLooked c v inside n.object link
  pub left : w ≡ mark_cleared c inside

-- the log has a later commit of the object than the note's
pub record HasLater (l : Noted) (n : Note) : Type 0 where
  pub index : ℕ
  pub other : Note
  pub at : IsNoteAt l index other
  pub object_is : other.object ≡ n.object
  pub later : n.time < other.time

-- the link names a version of this seat, and where that is the own one, the log has a later commit of the object
pub record NamesSeat (c : Config) (v : Knowledge) (l : Noted) (n : Note) (seat link : ℕ) : Type 0 where
  pub some : link ≢ 0
  pub seat_is : link_seat_of link ≡ seat
  pub in_range : seat < c.seats
  pub own : seat ≡ v.number → HasLater l n

-- what starting a write-back of the version of a note answers
abbrev pub StartsSo : Config → Knowledge → Knowledge → Noted → Note → Watermark → ℕ → ℕ → Result StartedWriteBack NoBack → Type 0
StartsSo c v w l n mark before after (Ok back) =
    (n.time ≤ mark.time) × HasLooked c v w n.object (link_of v.number n.position) × IsWriting c w back
    × (back ≡ record { object = n.object; position = n.position; words = n.words; stored = 0 })
StartsSo c v w l n mark before after (Err Young) = (mark.time < n.time) × (w ≡ v) × (after ≡ before)
StartsSo c v w l n mark before after (Err Gone) = (n.time ≤ mark.time) × LeavesAt c v w n 0
StartsSo c v w l n mark before after (Err (Above seat)) =
    (n.time ≤ mark.time) × (link : ℕ) × LeavesAt c v w n link × NamesSeat c v l n seat link

-- the next word is stored
pub record StoresWord (c : Config) (v w : Knowledge) (b d : StartedWriteBack) : Type 0 where
  pub view : w ≡ master_stored c v b.object b.stored (slice_index b.words b.stored) b.position
  pub back : d ≡ record b { stored = b.stored + 1 }

-- the exchange of HEAD was won: the version is cut
pub record HasCut (c : Config) (v w : Knowledge) (back : StartedWriteBack) : Type 0 where
  pub version : Version
  pub note : CommitNote
  pub own : slot_at v.ring (index_of c back.position) ≡ Live version (Committed note)
  pub view : w ≡ head_cut c v back.object back.position version note

-- it found another link, of another seat, which names a newer version of the object
pub record HasLostTo (c : Config) (v w : Knowledge) (back : StartedWriteBack) (seat : ℕ) : Type 0 where
  pub link : ℕ
  pub some : link ≢ 0
  pub other : link ≢ link_of v.number back.position
  pub seat_is : link_seat_of link ≡ seat
  pub in_range : seat < c.seats
  pub not_own : seat ≢ v.number
  pub newer : NamesNewer c v back.object link
  pub view : w ≡ cut_lost c v back.object back.position link

-- how it went
abbrev pub CutsSo : Config → Knowledge → Knowledge → StartedWriteBack → BackEnd → Type 0
CutsSo c v w back end.Cut = HasCut c v w back
CutsSo c v w back (end.Above seat) = HasLostTo c v w back seat

-- CLOCK was loaded, and had this time
pub record FindsDeath (c : Config) (v w : Knowledge) (time : ℕ) : Type 0 where
  pub word : ℕ
  pub history : List Entry
  pub whole : IsWhole c v word history
  pub view : w ≡ death_loaded c v word history
  pub time_is : time ≡ clock_time_of word

-- The write-back that the view `from` had stored the words of has cut its chain, and found this time in CLOCK since; the log stood for `from`.
pub record HasTimed (c : Config) (from v : Knowledge) (l : Noted) (back : StartedWriteBack) (time : ℕ) : Type 0 where
  pub stands : Stands c from l
  pub writing : IsWriting c from back
  pub cut_view : Knowledge
  pub cut : HasCut c from cut_view back
  pub death : FindsDeath c cut_view v time

-- the exchange was won: the version is cut, and dead from the time after that of the clock, and the section was left
pub record IsCut (c : Config) (v w : Knowledge) (l m : Noted) (back : StartedWriteBack) : Type 0 where
  pub version : Version
  pub note : CommitNote
  pub own : slot_at v.ring (index_of c back.position) ≡ Live version (Committed note)
  pub word : ℕ
  pub history : List Entry
  pub whole : IsWhole c v word history
  pub view : w ≡ mark_cleared c (death_loaded c (head_cut c v back.object back.position version note) word history)
  pub log : m ≡ back_noted (retired l back.position (clock_time_of word + 1))

-- the same, where the clock's time was this
abbrev pub IsCutAt : Config → Knowledge → Knowledge → Noted → Noted → StartedWriteBack → ℕ → Type 0
IsCutAt c v w l m back time = (cut : IsCut c v w l m back) × (clock_time_of cut.word ≡ time)

-- the exchange found another link, of another seat, which names a newer version of the object, and the section was left
pub record IsUncut (c : Config) (v w : Knowledge) (l m : Noted) (back : StartedWriteBack) (seat : ℕ) : Type 0 where
  pub link : ℕ
  pub some : link ≢ 0
  pub other : link ≢ link_of v.number back.position
  pub seat_is : link_seat_of link ≡ seat
  pub in_range : seat < c.seats
  pub not_own : seat ≢ v.number
  pub newer : NamesNewer c v back.object link
  pub view : w ≡ mark_cleared c (cut_lost c v back.object back.position link)
  pub log : m ≡ l

-- how a write-back ends
abbrev pub FinishesSo : Config → Knowledge → Knowledge → Noted → Noted → StartedWriteBack → BackEnd → Type 0
FinishesSo c v w l m back end.Cut = IsCut c v w l m back
FinishesSo c v w l m back (end.Above seat) = IsUncut c v w l m back seat
