-- compare_exchange STAMP, won and lost.
use Rattle.std.proofs.Common.{◌≡◌, ◌≢◌, ◌⊎◌, ℕ, ◌<◌, ◌==◌, ◌&&◌, ◌||◌, Bool, true, false, List, sym, refl, ap, ◌∙◌, subst, ⊎_elim}
use Rattle.std.proofs.Common.{inl, inr, arith, eqb-true, Some}
use Rattle.std.proofs.Math.Bool.{or-true}
use Rattle.mv_core.proofs.Terms.{dite, ℕ_discrete, Entry, State, Writes, Config, Clock, Stamp, Memory, put, clock_of, clock_time_of, clock_seat_of}
use Rattle.mv_core.proofs.Terms.{clock_slot_of, unset_of, Committed, Knowledge, Phase, Outside, Lowered, Marked, Inside, OwnSection, Mode, Open, Aborting}
use Rattle.mv_core.proofs.Terms.{Checked, FoundStamp, Named, Naming, LoadedClocks, index_of, time_in, section_of, time_of, ViewParts, parts_of, set_at}
use Rattle.mv_core.proofs.FactTerms.{IsWord, stamp_of, WasClock, IsDone, IsNamedCommit, RunsOn, Facts, Swaps, IsKept}
use Rattle.mv_layout.proofs.Unpacking.{seat_back, slot_back}
use Rattle.mv_core.specs.EnterSteps.{stamp_place, helped_too, IsOwnNaming, MayStamp, is_own, stamped_mode, stamped_phase, stamp_swapped}
use Rattle.mv_core.proofs.frames.FrameLaw.{unchanged, changed, settle}
use Rattle.mv_core.proofs.history.SectionWords.{section_is}
use Rattle.mv_core.proofs.frames.ClocksLoaded.{slot_in, helped_one, clocks_was, clocks_facts}
use Rattle.mv_core.proofs.kinds.helping.stamp.Stampable.{IsStampable, stampable, own_unpacks, own_commit}
use Rattle.mv_core.proofs.kinds.helping.stamp.StampStored.{after_here, done_now, stamp_stored}
use Rattle.mv_core.proofs.kinds.helping.stamp.OwnStamp.{own_stamped}

-- the word of a stamp that was found, or of the own commit, names a commit
pub names_commit : (c : Config) (v : Knowledge) (word unset : ℕ) → Checked c → v.number < c.seats
    → ((f : FoundStamp) → v.clocks.found ≡ Some f → clock_slot_of f.word ≢ 8191) → MayStamp c v word unset → clock_slot_of word ≢ 8191
names_commit c v word unset checked range found =
    ⊎_elim
    (λ is. found (record { word = word; unset = unset; checked = true }) is)
    (λ own e.
    let n : Naming = own.1 in
    let i : ℕ = index_of c n.first in
    let low = slot_in c checked n.first in
    let few = checked.slots.1 in
    let seats = checked.seats.1 in
    let slot_is : clock_slot_of word ≡ i = ap clock_slot_of own.4 ∙ slot_back n.time v.number i (omega arith) (omega arith) in
    omega arith)

-- and it is a packed clock word of the domain
pub is_packed : (c : Config) (v : Knowledge) (word unset : ℕ) → Checked c → v.number < c.seats
    → ((f : FoundStamp) → v.clocks.found ≡ Some f → IsWord c f.word) → MayStamp c v word unset → IsWord c word
is_packed c v word unset checked range found =
    ⊎_elim
    (λ is. found (record { word = word; unset = unset; checked = true }) is)
    (λ own ne.
    let n : Naming = own.1 in
    let i : ℕ = index_of c n.first in
    let low = slot_in c checked n.first in
    let few = checked.slots.1 in
    let seats = checked.seats.1 in
    let slot_is : clock_slot_of word ≡ i = ap clock_slot_of own.4 ∙ slot_back n.time v.number i (omega arith) (omega arith) in
    let seat_is : clock_seat_of word ≡ v.number = ap clock_seat_of own.4 ∙ seat_back n.time v.number i (omega arith) (omega arith) in
    (omega arith, omega arith))

-- the section after the own exchange
abbrev pub own_made : OwnSection → Naming → OwnSection
own_made inside naming = record inside { mode = Named (record naming { stamped = true }) }

module _ (c : Config) (seat word unset : ℕ) where
  -- the section's own exchange: the phase changes
  pub record IsOwn (p : Phase) : Type 0 where
    pub inside : OwnSection
    pub naming : Naming
    pub phase_is : p ≡ Inside inside
    pub mode_is : inside.mode ≡ Named naming
    pub own : is_own c seat naming word unset ≡ true
    pub after_is : stamped_phase c seat p word unset ≡ Inside (own_made inside naming)

  -- the phase stays, but where the exchange is the own one
  pub phase_after : (p : Phase) → (stamped_phase c seat p word unset ≡ p) ⊎ IsOwn p
  phase_after Outside = inl refl
  phase_after (Lowered low) = inl refl
  phase_after (Marked low) = inl refl
  phase_after (Inside s) = go s.mode refl
    where
      with_mode : (d : Mode) → s.mode ≡ d → stamped_mode c seat d word unset ≡ d → stamped_phase c seat (Inside s) word unset ≡ Inside s
      with_mode d e same = ap (λ (x : Mode). Inside (record s { mode = x })) (ap (λ (x : Mode). stamped_mode c seat x word unset) e ∙ same ∙ sym e)

      by_own : (n : Naming) → s.mode ≡ Named n → (b : Bool) → is_own c seat n word unset ≡ b
          → (stamped_phase c seat (Inside s) word unset ≡ Inside s) ⊎ IsOwn (Inside s)
      by_own n e true own = inr (record {
        inside = s;
        naming = n;
        phase_is = refl;
        mode_is = e;
        own = own;
        after_is = ap (λ (x : Mode). Inside (record s { mode = x }))
            (ap (λ (x : Mode). stamped_mode c seat x word unset) e
            ∙ ap (λ (b : Bool). Named (record n { stamped = b })) (ap (λ (b : Bool). n.stamped || b) own ∙ or-true n.stamped));
      })
      by_own n e false other =
          inl (with_mode (Named n) e (ap (λ (b : Bool). Named (record n { stamped = b })) (ap (λ (b : Bool). n.stamped || b) other ∙ or_false n.stamped)))
        where
          or_false : (b : Bool) → (b || false) ≡ b
          or_false true = refl
          or_false false = refl

      go : (d : Mode) → s.mode ≡ d → (stamped_phase c seat (Inside s) word unset ≡ Inside s) ⊎ IsOwn (Inside s)
      go Open e = inl (with_mode Open e refl)
      go Aborting e = inl (with_mode Aborting e refl)
      go (Named n) e = by_own n e (is_own c seat n word unset) refl

  -- what the test of the own exchange says
  pub own_says : (n : Naming) → is_own c seat n word unset ≡ true → (word ≡ clock_of n.time seat (index_of c n.first)) × (unset ≡ unset_of n.first)
  own_says n own =
      let b = both (word == clock_of n.time seat (index_of c n.first)) (unset == unset_of n.first) own in
      (eqb-true word (clock_of n.time seat (index_of c n.first)) b.0, eqb-true unset (unset_of n.first) b.1)
    where
      both : (x y : Bool) → (x && y) ≡ true → (x ≡ true) × (y ≡ true)
      both true true e = (refl, refl)
      both true false e = absurd (cc)
      both false y e = absurd (cc)

module _ (starts : State → Type 0) (allows : List ℕ → State → Writes → Type 0) (c : Config) (start : State) (v : Knowledge) (word unset : ℕ)
    (h : List Entry) (seats : ℕ → Knowledge) (is : seats v.number ≡ v) where
  abbrev f : ViewParts
  f = parts_of seats

  -- that the word is helped, and that the own exchange was made, is noted over the memory after the exchange
  noted : (m : Memory) → (k : Facts starts allows c start m h f) → WasClock c (m Clock) word → IsDone (m Clock) (λ s i. m (Stamp s i)) word
      → ((inside : OwnSection) (n : Naming) → v.phase ≡ Inside inside → inside.mode ≡ Named n → is_own c v.number n word unset ≡ true
      → m (Stamp v.number (index_of c n.first)) ≡ n.time)
      → (found : ℕ) → Facts starts allows c start m h (parts_of (set_at seats v.number (stamp_swapped c v word unset found)))
      × RunsOn v (stamp_swapped c v word unset found)
  noted m k was done made found = ⊎_elim stays own (phase_after c v.number word unset v.phase)
    where
      w : Knowledge
      w = stamp_swapped c v word unset found

      x : LoadedClocks
      x = helped_too (seats v.number).clocks word

      x_is : helped_too v.clocks word ≡ x
      x_is = ap (λ (u : Knowledge). helped_too u.clocks word) (sym is)

      helps : Facts starts allows c start m h (changed f v.number (record unchanged { clocks = Some x }))
      helps = clocks_facts k v.number x (helped_one c (m Clock) (λ s i. m (Stamp s i)) f.ring (seats v.number).clocks word (clocks_was k v.number) was done)

      stays : stamped_phase c v.number v.phase word unset ≡ v.phase → Facts starts allows c start m h (parts_of (set_at seats v.number w)) × RunsOn v w
      stays same = (
        settle starts allows c start m h seats v.number v w is (record unchanged { clocks = Some x })
            (refl, same, ap section_of same, ap time_of same, x_is, refl, refl, refl, refl, refl, refl) helps,
        (λ time first a b. ((λ s e. a s (sym same ∙ e)), (λ s e. b s (sym same ∙ e)))),
      )

      own : IsOwn c v.number word unset v.phase → Facts starts allows c start m h (parts_of (set_at seats v.number w)) × RunsOn v w
      own o =
          let inside' : OwnSection = own_made o.inside o.naming in
          let there = section_is seats v o.inside k is o.phase_is in
          let facts = own_stamped helps v.number o.inside o.naming (ap (λ (u : Knowledge). u.phase) is ∙ o.phase_is) there o.mode_is
          (made o.inside o.naming o.phase_is o.mode_is o.own) in (
            settle starts allows c start m h seats v.number v w is
                (record unchanged { phase = Some (Inside inside'); section = Some (Some inside'); clocks = Some x })
                (refl, o.after_is, ap section_of o.after_is, ap time_of o.after_is ∙ ap time_of (sym o.phase_is), x_is, refl, refl, refl, refl, refl, refl)
                facts,
            (λ time first a b. (
              (λ s e. let whole : Inside inside' ≡ Inside s = sym o.after_is ∙ e in let same : inside' ≡ s = cc in a o.inside o.phase_is ∙ ap time_in same),
              (λ s e open_is. let whole : Inside inside' ≡ Inside s = sym o.after_is ∙ e in let same : inside' ≡ s = cc in
                  let none : Named (record o.naming { stamped = true }) ≡ Open = ap (λ (i : OwnSection). i.mode) same ∙ open_is in absurd (cc)),
            )),
          )

  module _ (m : Memory) (k : Facts starts allows c start m h f) (may : MayStamp c v word unset) where
    can : IsStampable c (m Clock) (λ s i. m (Stamp s i)) f.ring word unset
    can = stampable v seats k is word unset may

    -- where the test says so, these are of the own commit
    abbrev own_one : (inside : OwnSection) (n : Naming) → v.phase ≡ Inside inside → inside.mode ≡ Named n → is_own c v.number n word unset ≡ true
        → IsOwnNaming c v word unset
    own_one inside n phase mode own = let s = own_says c v.number word unset n own in (inside, n, phase, mode, s.0, s.1)

    won_facts : m (stamp_place word) ≡ unset
        → Facts starts allows c start (put m (stamp_place word) (clock_time_of word)) h
        (parts_of (set_at seats v.number (stamp_swapped c v word unset unset))) × RunsOn v (stamp_swapped c v word unset unset)
    won_facts won =
        noted (put m (stamp_place word) (clock_time_of word)) (stamp_stored k word unset can won) can.was
        (done_now k word unset can won)
        (λ inside n phase mode own.
        let u = own_unpacks v seats k is word unset (own_one inside n phase mode own) in
        after_here k word unset can won v.number (index_of c n.first) (sym u.1) (sym u.2) ∙ u.0)
        unset

    -- an exchange is lost only where the commit is stamped
    lost_made : IsNamedCommit f.ring word unset → m (stamp_place word) ≢ unset → m (stamp_place word) ≡ clock_time_of word
    lost_made d lost =
        let s = clock_seat_of word in
        let at : index_of c d.version.first ≡ clock_slot_of word =
        ap (index_of c) (sym d.first_is) ∙ (k.positions.live s (clock_slot_of word) d.version (Committed d.note) d.lives).0 in
        let here : m (stamp_place word) ≡ stamp_of c (λ s i. m (Stamp s i)) s d.version = ap (λ i. m (Stamp s i)) (sym at) in
        ⊎_elim (λ e. here ∙ e ∙ d.time_is) (λ t. absurd (lost (here ∙ t.0 ∙ sym d.unset_is)))
        (k.stamps.live s (clock_slot_of word) d.version (Committed d.note) d.lives)

    lost_facts : m (stamp_place word) ≢ unset
        → Facts starts allows c start m h (parts_of (set_at seats v.number (stamp_swapped c v word unset (m (stamp_place word)))))
        × RunsOn v (stamp_swapped c v word unset (m (stamp_place word)))
    lost_facts lost =
        noted m k can.was (dite (ℕ_discrete (m Clock) word) (λ e. inr (inr (lost_made (can.now e) lost))) (λ ne. inl ne))
        (λ inside n phase mode own.
        let o = own_one inside n phase mode own in
        let u = own_unpacks v seats k is word unset o in
        let seat_is = sym u.1 in
        let slot_is = sym u.2 in
        (λ i. m (Stamp (seat_is i) (slot_is i))) ∙ lost_made (own_commit v seats k is word unset o) lost ∙ u.0)
        (m (stamp_place word))

module _ (starts : State → Type 0) (allows : List ℕ → State → Writes → Type 0) (c : Config) (start : State) (v : Knowledge) (word unset : ℕ)
    (may : MayStamp c v word unset) where
  stamp_swaps_to : Swaps starts allows c start v (stamp_place word) unset (clock_time_of word)
      (λ n w. ((w ≡ stamp_swapped c v word unset n) × RunsOn v w) × IsKept v w)
  stamp_swaps_to = (
    (λ m h seats k is own begins won. let r = won_facts starts allows c start v word unset h seats is m k may won in
        (stamp_swapped c v word unset unset, h, r.0, ((refl, r.1), (refl, refl, refl, refl, refl, refl)))),
    (λ m h seats k is own begins lost wide. let r = lost_facts starts allows c start v word unset h seats is m k may lost in
        (stamp_swapped c v word unset (m (stamp_place word)), r.0, ((refl, r.1), (refl, refl, refl, refl, refl, refl)))),
  )

  pub stamp_swaps : (new : ℕ) → new ≡ clock_time_of word
      → Swaps starts allows c start v (stamp_place word) unset new (λ n w. ((w ≡ stamp_swapped c v word unset n) × RunsOn v w) × IsKept v w)
  stamp_swaps new e =
      subst (λ (t : ℕ). Swaps starts allows c start v (stamp_place word) unset t (λ n w. ((w ≡ stamp_swapped c v word unset n) × RunsOn v w) × IsKept v w))
      (sym e) stamp_swaps_to
