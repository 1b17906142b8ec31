-- A step that changes what its seat notes of clock words: the frame of load STAMP named, load CLOCK (check) and the exchange of a stamp. That a section
-- past its help finds every commit up to its time stamped follows from these notes.
use Rattle.std.proofs.Common.{◌≡◌, ◌≢◌, ◌⊎◌, ℕ, ◌<◌, ◌≤◌, true, List, [], ◌∷◌, ◌++◌, sym, ap, ◌∙◌, subst, ⊎_elim, inl, inr, mod-lt, arith, Option, Some, None}
use Rattle.std.specs.Prelude.{Contains}
use Rattle.std.proofs.lemmas.List.Elements.{Contains-append_left, Contains-append_cases}
use Rattle.mv_core.proofs.Terms.{dite, ℕ_discrete, Entry, State, Writes, Config, Clock, Master, Stamp, Checked, Memory, clock_time_of, clock_seat_of}
use Rattle.mv_core.proofs.Terms.{clock_slot_of, unset_of, Ring, Version, Committed, CommitNote, OwnSection, LoadedClocks, FoundStamp, index_of, Lives}
use Rattle.mv_core.proofs.Terms.{ViewParts}
use Rattle.mv_layout.proofs.Unpacking.{time_back, seat_back, slot_back}
use Rattle.mv_core.specs.declared.view.WalkStage.TheVariants.{Nowhere}
use Rattle.mv_core.proofs.FactTerms.{stamp_of, Stamps, Positions, IsPastHelp, StampedPastHelp, WasClock, IsDone, IsNamedCommit, IsFound, HelpedWords}
use Rattle.mv_core.proofs.FactTerms.{LoadedWords, FoundStamps, WriteBacks, Facts}
use Rattle.mv_core.specs.EnterSteps.{helped_too}
use Rattle.mv_core.proofs.frames.KeptRecords.{same_back}
use Rattle.mv_core.proofs.frames.FrameLaw.{set_at_all, unchanged, changed}
use Rattle.mv_core.proofs.frames.SectionBounds.{helped_after, found_anew, loaded_anew}

-- a position's slot is one of the log
pub slot_in : (c : Config) → Checked c → (p : ℕ) → index_of c p < c.slots
slot_in c k p = let s = k.slots.0 in mod-lt p (omega arith)

module _ (c : Config) (clock : ℕ) (stamp : ℕ → ℕ → ℕ) (h : List Entry) (rings : ℕ → Ring) (checked : Checked c) (small : clock_time_of clock ≤ 35184372088831)
    (stamps : Stamps c clock stamp rings) (positions : Positions c h rings) where
  -- a live commit that isn't stamped is the one that the clock names
  pub unstamped_is_named : (s k : ℕ) (x : Version) (note : CommitNote) → Lives rings s k x (Committed note) → stamp_of c stamp s x ≢ note.time
      → (stamp_of c stamp s x ≡ unset_of x.first) × (clock_time_of clock ≡ note.time) × (clock_seat_of clock ≡ s) × (clock_slot_of clock ≡ index_of c x.first)
  unstamped_is_named s k x note lives ne =
      let a : s < 64 = (let w = positions.within s k x (Committed note) lives in let t = checked.seats.1 in omega arith) in
      let b : index_of c x.first ≤ 8191 = (let w = slot_in c checked x.first in let t = checked.slots.1 in omega arith) in
      ⊎_elim (λ e. absurd (ne e))
      (λ t. (
        t.0,
        ap clock_time_of t.1 ∙ time_back note.time s (index_of c x.first) a b,
        ap clock_seat_of t.1 ∙ seat_back note.time s (index_of c x.first) a b,
        ap clock_slot_of t.1 ∙ slot_back note.time s (index_of c x.first) a b,
      ))
      (stamps.live s k x (Committed note) lives)

  -- where a clock word is done, every live commit up to its time is stamped
  pub stamped_by_done : (word : ℕ) → WasClock c clock word → IsDone clock stamp word
      → (s k : ℕ) (x : Version) (note : CommitNote) → Lives rings s k x (Committed note) → note.time ≤ clock_time_of word → stamp_of c stamp s x ≡ note.time
  stamped_by_done word was done s k x note lives le =
      dite (ℕ_discrete (stamp_of c stamp s x) note.time) (λ e. e)
      (λ ne.
      let u = unstamped_is_named s k x note lives ne in
      let past = was.past in
      let time_is = u.1 in
      let same : word ≡ clock = was.same (omega arith) in
      ⊎_elim (λ (other : clock ≢ word). absurd (other (sym same)))
      (⊎_elim
      (λ (none : clock_slot_of word ≡ 8191).
      let at : clock_slot_of word ≡ index_of c x.first = ap clock_slot_of same ∙ u.3 in
      let low = slot_in c checked x.first in
      let few = checked.slots.1 in
      absurd (omega arith))
      (λ (made : stamp (clock_seat_of word) (clock_slot_of word) ≡ clock_time_of word).
      let seat_is : clock_seat_of word ≡ s = ap clock_seat_of same ∙ u.2 in
      let slot_is : clock_slot_of word ≡ index_of c x.first = ap clock_slot_of same ∙ u.3 in
      let unset : stamp (clock_seat_of word) (clock_slot_of word) ≡ unset_of x.first = (λ i. stamp (seat_is i) (slot_is i)) ∙ u.0 in
      absurd (omega arith)))
      done)

  -- so stamped-past-help follows from what sections note of clock words
  pub past_help : (section : ℕ → Option OwnSection) (clocks : ℕ → LoadedClocks) → LoadedWords c clock section clocks → HelpedWords clock stamp clocks
      → StampedPastHelp c stamp section clocks rings
  past_help section clocks words helped s inside at past t k x note lives le =
      stamped_by_done inside.word (words.helped s inside.word past) (helped s inside.word past) t k x note lives le

-- what the facts ask of the clock words that a seat has loaded, after a step that forgets no helped one
pub record ClocksAre (c : Config) (clock : ℕ) (stamp : ℕ → ℕ → ℕ) (rings : ℕ → Ring) (old x : LoadedClocks) : Type 0 where
  pub grows : (word : ℕ) → Contains old.helped word → Contains x.helped word
  pub loaded : (word : ℕ) → Contains x.loaded word → WasClock c clock word
  pub none : (word : ℕ) → Contains x.loaded word → clock_slot_of word ≡ 8191 → Contains x.helped word
  pub helped : (word : ℕ) → Contains x.helped word → WasClock c clock word
  pub done : (word : ℕ) → Contains x.helped word → IsDone clock stamp word
  pub found : (f : FoundStamp) → x.found ≡ Some f → WasClock c clock f.word × (clock_slot_of f.word ≢ 8191)
  pub now : (f : FoundStamp) → x.found ≡ Some f → clock ≡ f.word → IsNamedCommit rings f.word f.unset
  pub checked : (f : FoundStamp) → x.found ≡ Some f → f.checked ≡ true → IsFound c stamp rings f

-- what holds of each of a list and of one more word holds of each of the longer list
pub one_more_word : (P : ℕ → Type 0) (words : List ℕ) (word : ℕ) → ((w : ℕ) → Contains words w → P w) → P word → (w : ℕ) → Contains (words ++ word ∷ []) w → P w
one_more_word P words word all one w has =
    ⊎_elim (λ a. all w a) (λ a. subst P (single a) one) (Contains-append_cases words (word ∷ []) w has)
  where
    single : Contains (word ∷ []) w → word ≡ w
    single a = grind arith

-- and where it has helped one word more, and keeps no unset stamp
pub helped_one : (c : Config) (clock : ℕ) (stamp : ℕ → ℕ → ℕ) (rings : ℕ → Ring) (old : LoadedClocks) (word : ℕ) → ClocksAre c clock stamp rings old old
    → WasClock c clock word → IsDone clock stamp word → ClocksAre c clock stamp rings old (helped_too old word)
helped_one c clock stamp rings old word is was done = record {
  grows = λ w a. Contains-append_left old.helped (word ∷ []) w a;
  loaded = is.loaded;
  none = λ w a e. Contains-append_left old.helped (word ∷ []) w (is.none w a e);
  helped = one_more_word (WasClock c clock) old.helped word is.helped was;
  done = one_more_word (IsDone clock stamp) old.helped word is.done done;
  found = λ f e. let no_stamp : None ≡ Some f = e in absurd (cc);
  now = λ f e. let no_stamp : None ≡ Some f = e in absurd (cc);
  checked = λ f e. let no_stamp : None ≡ Some f = e in absurd (cc);
}

module _ {starts : State → Type 0} {allows : List ℕ → State → Writes → Type 0} {c : Config} {start : State} {m : Memory} {h : List Entry} {f : ViewParts}
    (k : Facts starts allows c start m h f) where
  -- the clock's time is one that a stamp holds
  pub clock_small : clock_time_of (m Clock) ≤ 35184372088831
  clock_small = let long = k.history.long in let low = k.history.in_time in omega arith

  -- the stamp of the commit that the clock names is its time, or is that commit's unset one
  pub named_stamp : clock_slot_of (m Clock) ≢ 8191
      → (m (Stamp (clock_seat_of (m Clock)) (clock_slot_of (m Clock))) ≡ clock_time_of (m Clock))
      ⊎ IsNamedCommit f.ring (m Clock) (m (Stamp (clock_seat_of (m Clock)) (clock_slot_of (m Clock))))
  named_stamp ne =
      let a = k.freed_is_old.named ne in
      let x = a.0 in
      let s = clock_seat_of (m Clock) in
      let at : index_of c x.first ≡ clock_slot_of (m Clock) =
      ap (index_of c) (sym a.3) ∙ (k.positions.live s (clock_slot_of (m Clock)) x (Committed a.1) a.2).0 in
      let here : m (Stamp s (clock_slot_of (m Clock))) ≡ m (Stamp s (index_of c x.first)) = ap (λ i. m (Stamp s i)) (sym at) in
      ⊎_elim (λ e. inl (here ∙ e ∙ a.4))
      (λ t. inr (record { version = x; note = a.1; lives = a.2; first_is = a.3; time_is = a.4; unset_is = here ∙ t.0 }))
      (k.stamps.live s (clock_slot_of (m Clock)) x (Committed a.1) a.2)

  -- what a seat noted of clock words before
  pub clocks_was : (n : ℕ) → ClocksAre c (m Clock) (λ s k. m (Stamp s k)) f.ring (f.clocks n) (f.clocks n)
  clocks_was n = record {
    grows = λ word a. a;
    loaded = k.loaded_words.loaded n;
    none = k.loaded_words.none n;
    helped = k.loaded_words.helped n;
    done = k.helped_words n;
    found = k.loaded_words.found n;
    now = k.found_stamp.now n;
    checked = k.found_stamp.checked n;
  }

  module _ (n : ℕ) (x : LoadedClocks) (is : ClocksAre c (m Clock) (λ s k. m (Stamp s k)) f.ring (f.clocks n) x) where
    abbrev t : ViewParts
    t = changed f n (record unchanged { clocks = Some x })

    words_after : LoadedWords c (m Clock) f.section t.clocks
    words_after = loaded_anew c (m Clock) (λ s k. m (Stamp s k)) f.clocks n f.section f.section x is.found is.loaded is.helped is.none
        k.loaded_words.inside k.loaded_words

    helped_words_after : HelpedWords (m Clock) (λ s k. m (Stamp s k)) t.clocks
    helped_words_after = helped_after c (m Clock) (λ s k. m (Stamp s k)) f.clocks n x is.done k.helped_words

    stamps_after : FoundStamps c (m Clock) (λ s k. m (Stamp s k)) t.clocks f.ring
    stamps_after = found_anew c (m Clock) (λ s k. m (Stamp s k)) f.clocks n f.ring x is.now is.checked k.found_stamp

    -- who was past the help still is
    still_past : (s : ℕ) (inside : OwnSection) → IsPastHelp (f.clocks s) inside → IsPastHelp (t.clocks s) inside
    still_past s inside = set_at_all (λ s u. IsPastHelp (f.clocks s) inside → IsPastHelp u inside) f.clocks n x (is.grows inside.word) (λ s ne a. a) s

    backs_after : WriteBacks c h (λ o w. m (Master o w)) f.section f.time t.clocks f.grace f.back f.ring
    backs_after s b at =
        let o = k.write_back s b at in
        let r = o.2 in
        (o.0, o.1, same_back r r.note (still_past s o.0 r.helped) r.nothing r.lives r.old r.known r.last r.uncut r.words)

    pub clocks_facts : Facts starts allows c start m h t
    clocks_facts =
        let past = past_help c (m Clock) (λ s k. m (Stamp s k)) h f.ring k.checked clock_small k.stamps k.positions f.section t.clocks words_after
        helped_words_after in
        let helped : (s : ℕ) (inside : OwnSection) → f.section s ≡ Some inside → f.walk s ≢ Nowhere → IsPastHelp (t.clocks s) inside =
        λ s inside at walks. still_past s inside (k.walker_knowledge.helped s inside at walks) in
        assumption (helped_words_after, past, helped, stamps_after, words_after, backs_after, k)
