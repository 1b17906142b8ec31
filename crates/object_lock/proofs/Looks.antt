-- What was found on top of a chain: by a load of HEAD, and of FIRST and STAMP of the version there.
use Rattle.std.proofs.Common.{◌≡◌, ◌≢◌, ℕ, ◌+◌, ◌<◌, ◌≤◌, ◌^◌, Bool, cond, List, [], ◌∷◌, ◌++◌, length, refl, sym, ap}
use Rattle.std.proofs.Common.{◌∙◌, subst, ⊎_elim, inr, append_assoc, append-nil, length-append, arith, false, Option, Some, None, All}
use Rattle.std.proofs.lemmas.List.Elements.{All-nil, All-cons, All-append}
use Rattle.mv_history.specs.declared.Step.{Step}
use Rattle.mv_history.specs.declared.StepKind.{StepKind}
use Rattle.mv_history.specs.declared.StepKind.TheVariants.{LoadHead, LoadFirst, LoadStamp, LoadData}
use Rattle.mv_history.specs.declared.answers.LockAnswer.TheVariants.{Stale}
use Rattle.mv_layout.specs.declared.Config.{Config}
use Rattle.mv_layout.specs.declared.SharedWord.TheVariants.{Head, First, Stamp}
use Rattle.mv_layout.specs.Places.{place_of}
use Rattle.mv_layout.specs.Words.{IsUnset, link_seat_of}
use Rattle.seat_log.specs.mv_core.declared.ring.Slot.TheVariants.{Live}
use Rattle.seat_log.specs.mv_core.declared.ring.WriteSetStatus.{WriteSetStatus}
use Rattle.seat_log.specs.mv_core.declared.ring.WriteSetStatus.TheVariants.{Committed}
use Rattle.seat_log.specs.mv_core.declared.view.Knowledge.{Knowledge}
use Rattle.seat_log.specs.mv_core.declared.view.OwnSection.{OwnSection}
use Rattle.seat_log.specs.mv_core.declared.view.Phase.TheVariants.{Inside}
use Rattle.seat_log.specs.mv_core.declared.view.Stand.{Stand}
use Rattle.seat_log.specs.mv_core.declared.view.Passed.TheVariants.{Nothing}
use Rattle.seat_log.specs.mv_core.declared.view.WalkStage as core
use Rattle.seat_log.specs.mv_core.declared.view.WalkStage.TheVariants as place
use Rattle.seat_log.specs.mv_core.Rings.{slot_at, index_of}
use Rattle.seat_log.specs.mv_core.WalkSteps.{IsLinkOf, IsPackedOf, IsOwnTop, IsOwnTime, IsWriteOf, StampSays}
use Rattle.seat_log.specs.mv_core.WalkSteps.{slot_named, head_loaded, first_loaded, stamp_loaded}
use Rattle.seat_log.specs.mv_core.LockSteps.{StandsToLock}
use Rattle.seat_log.specs.mv_core.Slots.{IsSlotLinked}
use Rattle.version_chain.specs.Walks.{MayWalk, section_in, stand_of, stand_in, time_at, with_first, StandsAtVersion}
use Rattle.version_chain.specs.Reads.{words_in, Reads}
use Rattle.version_chain.proofs.Standing.{stands_here}
use Rattle.object_lock.specs.Tops.{IsUnheld, StandsOn, Looked, IsLockStep, is_lock_exchange, lock_exchanges, Tries, FoundHeld, IsRefused, most_to_look}
use Rattle.object_lock.proofs.Exchanged.{none_exchanged, exchanged_on}

-- the loads of FIRST and STAMP
pub looked_at : (c : Config) (v w x : Knowledge) (link first found : ℕ) → StandsOn c v link → w ≡ first_loaded c v (stand_in v) first
    → x ≡ stamp_loaded c w (stand_in w) first found x.past.seen
    → StampSays c w (stand_in w) found x.past.seen → IsOwnTime c w link found → Looked c v x found
looked_at c v w x link first found stands firsts stamps says own =
    let at : stand_in w ≡ with_first (stand_in v) first = ap stand_in firsts in
    record {
      first = first;
      view = stamps ∙ (λ i. stamp_loaded c (firsts i) (at i) first found x.past.seen);
      says = subst (λ (p : Knowledge × Stand). StampSays c p.0 p.1 found x.past.seen) (λ i. (firsts i, at i)) says;
      own = subst (λ (l : ℕ). IsOwnTime c (first_loaded c v (stand_in v) first) l found) (sym stands.link_is)
          (subst (λ (u : Knowledge). IsOwnTime c u link found) firsts own);
    }

-- the view z with all that a lock may change as it is in y
abbrev pub rest_of : Knowledge → Knowledge → Knowledge
rest_of y z = record z { past = record z.past { seen = y.past.seen }; walk = y.walk; empty = y.empty; ring = y.ring; trail = y.trail }

-- a step of a lock
abbrev pub IsLocks : Step → Type 0
IsLocks s = IsLockStep s.kind

-- a step that found HEAD of the object to be this link, and stored nothing
abbrev pub head_found : Config → StepKind → ℕ → ℕ → Step
head_found c kind object link = record { kind = kind; word = place_of c (Head object); found = Some link; stored = None }

-- HEAD was found to be a link, in a step of some kind, and then FIRST and STAMP of its version were loaded
module _ (c : Config) (v w x : Knowledge) (kind : StepKind) (object link found : ℕ) (head : w.trail ≡ v.trail ++ head_found c kind object link ∷ [])
    (there : (stand_in w).link ≡ link) (looked : Looked c w x found) where
  abbrev of_head : Step
  of_head = head_found c kind object link

  abbrev of_first : Step
  of_first = record { kind = LoadFirst; word = place_of c (First (link_seat_of link) (slot_named c link)); found = Some looked.first; stored = None }

  abbrev of_stamp : Step
  of_stamp = record { kind = LoadStamp; word = place_of c (Stamp (link_seat_of link) (index_of c looked.first)); found = Some found; stored = None }

  -- the three steps
  pub trail_is : x.trail ≡ v.trail ++ of_head ∷ of_first ∷ of_stamp ∷ []
  trail_is =
      let start : List Step = v.trail ++ of_head ∷ [] in
      ap (λ (u : Knowledge). u.trail) looked.view
      ∙ (λ i. (head i ++ record {
        kind = LoadFirst;
        word = place_of c (First (link_seat_of (there i)) (slot_named c (there i)));
        found = Some looked.first;
        stored = None;
      } ∷ [])
      ++ record { kind = LoadStamp; word = place_of c (Stamp (link_seat_of (there i)) (index_of c looked.first)); found = Some found; stored = None } ∷ [])
      ∙ append_assoc start (of_first ∷ []) (of_stamp ∷ [])
      ∙ append_assoc v.trail (of_head ∷ []) (of_first ∷ of_stamp ∷ [])

  -- where the stamp was unset they found the object held
  pub found_held : link_seat_of link < c.seats → IsUnset found → FoundHeld c object (link_seat_of link) v.trail x.trail
  found_held range unset = record {
    before = [];
    head = of_head;
    first = of_first;
    stamp = of_stamp;
    steps = trail_is ∙ ap (λ (l : List Step). l ++ of_head ∷ of_first ∷ of_stamp ∷ []) (sym (append-nil v.trail));
    link = link;
    seat_is = refl;
    in_range = range;
    on_top = (refl, refl, refl);
    position = looked.first;
    begins = refl;
    word = found;
    of_set = refl;
    unset = unset;
  }

  pub looked_steps : IsLockStep kind → is_lock_exchange kind ≡ false
      → (steps : List Step) × (x.trail ≡ v.trail ++ steps) × (length steps ≡ 3) × All IsLocks steps × (lock_exchanges steps ≡ [])
  looked_steps is none = (
    of_head ∷ of_first ∷ of_stamp ∷ [],
    trail_is,
    refl,
    All-cons IsLocks of_head (of_first ∷ of_stamp ∷ []) is
        (All-cons IsLocks of_first (of_stamp ∷ []) tt (All-cons IsLocks of_stamp [] tt (All-nil IsLocks))),
    ap (λ (b : Bool). cond b (of_head ∷ []) []) none,
  )

-- no step was made
pub none_tried : (v : Knowledge) (before : ℕ) → Tries v v before before []
none_tried v before = record {
  seen = ([], sym (append-nil v.past.seen));
  trail = ([], sym (append-nil v.trail), (omega arith), All-nil IsLocks);
  exchanges = refl;
  rest = refl;
}

-- HEAD was loaded, and no more
pub head_tries : (c : Config) (v w : Knowledge) (object link : ℕ) (inside : OwnSection) → w ≡ head_loaded c v inside object link → (before : ℕ)
    → Tries v w before (before + 1) []
head_tries c v w object link inside head before =
    let step : Step = head_found c LoadHead object link in
    record {
      seen = ([], ap (λ (u : Knowledge). u.past.seen) head ∙ sym (append-nil v.past.seen));
      trail = (step ∷ [], ap (λ (u : Knowledge). u.trail) head, refl, All-cons IsLocks step [] tt (All-nil IsLocks));
      exchanges = refl;
      rest = ap (rest_of w) head;
    }

-- the walk stands at the version that HEAD named
pub stands_top : (c : Config) (v w : Knowledge) (object link : ℕ) (inside : OwnSection) → link ≢ 0 → w ≡ head_loaded c v inside object link
    → IsLinkOf c link → StandsOn c w link
stands_top c v w object link inside some head packed =
    let at = stands_here w object link Nothing some (ap (λ (u : Knowledge). u.walk) head) in
    let stand = ap stand_of at in
    record { stands = at ∙ ap place.At (sym stand); link_is = ap (λ (s : Stand). s.link) stand; packed = packed some }

-- how many steps were made, at the master and at a version, where the words are read and where they are given
pub head_bound : (given : Option (List ℕ)) (a b : ℕ) → b ≡ a + 1 → b ≤ a + most_to_look given
head_bound None a b one = omega arith
head_bound (Some words) a b one = omega arith

pub looked_bound : (given : Option (List ℕ)) (a b d : ℕ) → b ≡ a + 1 → d ≡ b + 2 → d ≤ a + most_to_look given
looked_bound None a b d one two = omega arith
looked_bound (Some words) a b d one two = omega arith

pub master_bound : (given : Option (List ℕ)) (a b d : ℕ) → given ≡ None → b ≡ a + 1 → d ≡ b + 6 → d ≤ a + most_to_look given
master_bound given a b d none one six = let nine = ap most_to_look none in omega arith

pub version_bound : (given : Option (List ℕ)) (a b d e : ℕ) → given ≡ None → b ≡ a + 1 → d ≡ b + 2 → e ≡ d + 6 → e ≤ a + most_to_look given
version_bound given a b d e none one two six = let nine = ap most_to_look none in omega arith

-- HEAD was loaded
module _ (c : Config) (v w x : Knowledge) (object link found : ℕ) (inside : OwnSection) (some : link ≢ 0) (head : w ≡ head_loaded c v inside object link)
    (looked : Looked c w x found) where
  -- where the walk stands
  stand_is : stand_in w ≡ record { object = object; link = link; first = None; stamp = None; passed = Nothing; late = false }
  stand_is = ap stand_of (stands_here w object link Nothing some (ap (λ (u : Knowledge). u.walk) head))

  link_there : (stand_in w).link ≡ link
  link_there = ap (λ (s : Stand). s.link) stand_is

  -- what these steps leave
  pub looked_tries : (before : ℕ) → Tries v x before (before + 3) []
  looked_tries before =
      let s = looked_steps c v w x LoadHead object link found (ap (λ (u : Knowledge). u.trail) head) link_there looked tt refl in
      record {
        seen = let more = looked.says.sees.more in (more.0, more.1 ∙ ap (λ (u : Knowledge). u.past.seen ++ more.0) head);
        trail = (s.0, s.1, (let long = s.2 in omega arith), s.3);
        exchanges = s.4;
        rest = ap (rest_of x) looked.view ∙ ap (rest_of x) head;
      }

  -- an unset stamp is of a version of another seat, which was found on top
  pub held_elsewhere : IsUnheld v object → MayWalk v → IsOwnTop c v object link → IsLinkOf c link → IsUnset found
      → (link_seat_of link ≢ v.number) × FoundHeld c object (link_seat_of link) v.trail x.trail
  held_elsewhere unheld may own packed unset = (
    λ seat.
        let top = own some seat in
        ⊎_elim
        (λ held. unheld (slot_named c link) top.0 (subst (λ (st : WriteSetStatus). slot_at v.ring (slot_named c link) ≡ Live top.0 st) held top.2) top.3)
        (λ made.
        let committed : slot_at v.ring (slot_named c link) ≡ Live top.0 (Committed made.0) =
        subst (λ (st : WriteSetStatus). slot_at v.ring (slot_named c link) ≡ Live top.0 st) made.1 top.2 in
        let there : slot_at w.ring (slot_named c link) ≡ Live top.0 (Committed made.0) =
        ap (λ (u : Knowledge). slot_at u.ring (slot_named c link)) head ∙ committed in
        let phase : w.phase ≡ Inside (section_in v) = ap (λ (u : Knowledge). u.phase) head ∙ may.phase in
        let time : IsOwnTime c (first_loaded c w (stand_in w) looked.first) link found =
        subst (λ (l : ℕ). IsOwnTime c (first_loaded c w (stand_in w) looked.first) l found) link_there looked.own in
        let low : found < 2 ^ 63 = time (seat ∙ sym (ap (λ (u : Knowledge). u.number) head)) top.0 made.0 there (section_in v) phase may.open_is in
        omega arith)
        top.4,
    found_held c v w x LoadHead object link found (ap (λ (u : Knowledge). u.trail) head) link_there looked (packed some).1 unset,
  )

  -- a stamp that is a time above the section's is that of a later commit
  pub later_commit : (time : ℕ) → time ≡ time_at x → time < found → found < 2 ^ 63 → IsRefused c v x object (Stale found)
  later_commit time time_is above low =
      let same : time_at x ≡ time_at v = ap time_at looked.view ∙ ap time_at head in
      ((omega arith), subst (λ (o : ℕ). IsWriteOf c x.past.seen o found) (ap (λ (s : Stand). s.object) stand_is) (looked.says.write low))

  -- where the walk stands then
  at_top : x.walk ≡ place.At (record { object = object; link = link; first = Some looked.first; stamp = Some found; passed = Nothing; late = false })
  at_top = ap (λ (u : Knowledge). u.walk) looked.view ∙ ap (λ (s : Stand). place.At (record s { first = Some looked.first; stamp = Some found })) stand_is

  -- the words read there are the object's
  pub words_there : (y : Knowledge) → Reads LoadData x y → words_in c x (stand_in x).object ≡ words_in c y object
  words_there y reads = ap (λ (k : core.WalkStage). words_in c x (stand_of k).object) at_top ∙ sym (ap (λ (u : Knowledge). words_in c u object) reads.rest)

  -- a stamp that is a time not above the section's: the words of the version may be read
  pub version_there : IsPackedOf c link → (slot : ℕ) → IsSlotLinked c link slot → found ≤ time_at x
      → StandsAtVersion c x (record { link = link; slot = slot })
  version_there packed slot slot_is le =
      let stand : Stand = record { object = object; link = link; first = Some looked.first; stamp = Some found; passed = Nothing; late = false } in
      let here : stand_in x ≡ stand = ap stand_of at_top in
      record {
        stands = at_top ∙ ap place.At (sym here);
        link_is = ap (λ (s : Stand). s.link) here;
        packed = packed;
        slot = slot_is;
        time = found;
        stamp_is = ap (λ (s : Stand). s.stamp) here;
        not_above = le;
      }

  -- and a lock may be put there, also after the words were read
  pub stands_at_lock : (time : ℕ) → time ≡ time_at x → found ≤ time → StandsToLock x (section_in x) object link
  stands_at_lock time time_is le =
      let stand : Stand = record { object = object; link = link; first = Some looked.first; stamp = Some found; passed = Nothing; late = false } in
      inr (stand, found, at_top, refl, refl, refl, (let same = time_is in omega arith))

  pub stands_to_lock : (y : Knowledge) → Reads LoadData x y → (time : ℕ) → time ≡ time_at x → found ≤ time → StandsToLock y (section_in y) object link
  stands_to_lock y reads time time_is le =
      let stand : Stand = record { object = object; link = link; first = Some looked.first; stamp = Some found; passed = Nothing; late = false } in
      inr (
        stand,
        found,
        ap (λ (u : Knowledge). u.walk) reads.rest ∙ at_top,
        refl,
        refl,
        refl,
        (let same : time_at y ≡ time_at x = ap time_at reads.rest in omega arith),
      )

-- reading six words more leaves what a lock leaves
pub tries_read : (kind : StepKind) → IsLockStep kind → is_lock_exchange kind ≡ false → (v x y : Knowledge) (before here : ℕ) → Tries v x before here []
    → Reads kind x y → Tries v y before (here + 6) []
tries_read kind is none v x y before here tries reads =
    let s = tries.trail in
    let t = reads.trail in
    let long = length-append s.0 t.0 in
    let one = s.2 in
    let two = t.2 in
    record {
      seen = (tries.seen.0, ap (λ (u : Knowledge). u.past.seen) reads.rest ∙ tries.seen.1);
      trail = (
        s.0 ++ t.0,
        t.1 ∙ ap (λ (l : List Step). l ++ t.0) s.1 ∙ append_assoc v.trail s.0 t.0,
        (omega arith),
        All-append IsLocks s.0 t.0 s.3 (λ k d lt. subst IsLockStep (sym (t.3 k d lt)) is),
      );
      exchanges = exchanged_on s.0 t.0 tries.exchanges
          (none_exchanged t.0 (λ k d lt. subst (λ (q : StepKind). is_lock_exchange q ≡ false) (sym (t.3 k d lt)) none));
      rest = ap (rest_of y) reads.rest ∙ ap (rest_of y) tries.rest;
    }
