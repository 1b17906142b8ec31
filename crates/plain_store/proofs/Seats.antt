-- Lemmas on the plain store's seat and its section.
use Rattle.std.proofs.Common.{◌≡◌, ℕ, ◌+◌, ◌-◌, ◌<◌, ◌≤◌, true, false, List, [], ◌∷◌, ◌++◌, length, map, refl, sym, ap, ◌∙◌, arith, length-append}
use Rattle.std.proofs.lemmas.List.{length-map, map_push, drop_all, take_at, take_all}
use Rattle.std.proofs.lemmas.List.Elements.{All-push}
use Rattle.mv_history.specs.declared.history.TheConstants.{LAST}
use Rattle.plain_store.specs.declared.history.TheConstants.{WRITE_MAX}
use Rattle.mv_history.specs.declared.history.Commit.{Commit}
use Rattle.mv_history.specs.declared.history.Entry.TheVariants.{Change}
use Rattle.mv_history.specs.State.{State, Writes, written, touches, state_after, rewritten, rests_of}
use Rattle.mv_history.specs.Legal.{are_distinct, AreWithin, IsNext, IsWords, AreWords, AreWrites}
use Rattle.mv_history.specs.WordsLaws.{AreWrites-rewritten}
use Rattle.mv_history.specs.Meaning.{IsSeat, IsSection, state_of, words_at}
use Rattle.mv_history.specs.Calls.{Continues, GoesOn, Rewrites, Locks, Commits, commit_by}
use Rattle.plain_store.specs.Plain.{plain_seat, plain_section}
use Rattle.plain_store.proofs.Held.{AreWithin-push}
use Rattle.mv_history.proofs.Writing.{
  length-state_after,
  length-written,
  words-written_other,
  words-written_same,
  touches_at,
  touches-append,
  written-append,
  state_after-append,
  set-rewritten,
  length-rewritten,
  are_distinct-rewritten,
  touches-rewritten,
  are_distinct-push,
  commits_of-append,
}
use Rattle.mv_history.proofs.Histories.{slice_get_at, IsLegal-push, IsAllowed-push, NoneWrites-nil, NoneBy-nil, no_split}

pub rests_of-map : (cs : List Commit) → rests_of 0 (map (λ c. Change c) cs) ≡ 0
rests_of-map [] = refl
rests_of-map (c ∷ cs) = rests_of-map cs

pub length-current : (start words : State) (commits : List Commit) → words ≡ state_after start (map (λ c. Change c) commits) → length words ≡ length start
length-current start words commits now = ap length now ∙ length-state_after start (map (λ c. Change c) commits)

-- the time after one more commit
pub clock_pushed : (time base : ℕ) (commits : List Commit) (c : Commit) → time ≡ base + length commits → time + 1 ≡ base + length (commits ++ c ∷ [])
clock_pushed time base commits c e = omega (arith, e, length-append commits (c ∷ []))

-- the state after one more commit
pub current_pushed : (start words more : State) (commits : List Commit) (c : Commit) → words ≡ state_after start (map (λ c. Change c) commits)
    → more ≡ written words c.writes → more ≡ state_after start (map (λ c. Change c) (commits ++ c ∷ []))
current_pushed start words more commits c now e =
    e ∙ ap (λ s. written s c.writes) now
    ∙ sym (rw (map_push (λ c. Change c) commits c) (state_after-append start (map (λ c. Change c) commits) (Change c ∷ [])))

module _ (starts : State → Type 0) (allows : List ℕ → State → Writes → Type 0) (start : State) where
  pub opens : (base last : ℕ) → starts start → AreWords start → base ≤ last → last ≤ LAST → IsSeat starts allows (plain_seat start [] base last WRITE_MAX)
  opens base last h w l m = record {
    start = h;
    words = w;
    legal = λ front back c e. absurd (no_split front back (Change c) e);
    allowed = λ front back c e. absurd (no_split front back (Change c) e);
    mine = refl;
    rests = refl;
    time = omega arith;
    last = m;
  }

module _ (starts : State → Type 0) (allows : List ℕ → State → Writes → Type 0) (start : State) (commits : List Commit) (base last : ℕ) where
  -- no law speaks of the free slots
  pub IsSeat-spare : (n m : ℕ) → IsSeat starts allows (plain_seat start commits base last n) → IsSeat starts allows (plain_seat start commits base last m)
  IsSeat-spare n m h =
      record { start = h.start; words = h.words; legal = h.legal; allowed = h.allowed; mine = h.mine; rests = h.rests; time = h.time; last = h.last }

  pub section_is : (own : Writes) (n : ℕ) → IsSeat starts allows (plain_seat start commits base last n) → are_distinct own ≡ true
      → AreWithin own (length start) → AreWrites own → length own ≤ WRITE_MAX → IsSection starts allows (plain_section start commits base last own)
  section_is own n h distinct within words few =
      let none = drop_all (length commits) (map (λ c. Change c) commits) (omega (arith, length-map commits (λ c. Change c))) in
      record {
        seat = IsSeat-spare n (WRITE_MAX - length own) h;
        at = omega (arith, length-map commits (λ c. Change c));
        distinct = distinct;
        within = within;
        words = words;
        held = few;
        unwritten = NoneWrites-nil own _ none;
        in_order = NoneBy-nil 0 _ none;
      }

  pub section_rewritten : (own : Writes) (o : ℕ) (words : List ℕ) → IsWords words → IsSection starts allows (plain_section start commits base last own)
      → IsSection starts allows (plain_section start commits base last (rewritten own o words))
  section_rewritten own o words k h =
      section_is (rewritten own o words) (WRITE_MAX - length own) h.seat
      (are_distinct-rewritten own o words ∙ h.distinct)
      (λ p t. h.within p (sym (touches-rewritten own o words p) ∙ t))
      (AreWrites-rewritten own o words h.words k)
      (rw length-rewritten h.held)

  pub section_pushed : (own : Writes) (o : ℕ) (words : List ℕ) → IsWords words → IsSection starts allows (plain_section start commits base last own)
      → touches own o ≡ false → o < length start → length own < WRITE_MAX
      → IsSection starts allows (plain_section start commits base last (own ++ (o, words) ∷ []))
  section_pushed own o words k h free within few =
      section_is (own ++ (o, words) ∷ []) (WRITE_MAX - length own) h.seat
      (are_distinct-push own o words h.distinct free)
      (AreWithin-push own o words (length start) h.within within)
      (All-push (λ w. IsWords w.1) own (o, words) h.words k)
      (omega (arith, length-append own ((o, words) ∷ [])))

  -- a commit of the section is the next entry
  pub seat_pushed : (tag : List ℕ) (own : Writes) → IsSection starts allows (plain_section start commits base last own) → 0 < length own
      → base + length commits < last → allows tag (state_after start (map (λ c. Change c) commits)) own
      → IsSeat starts allows (plain_seat start (commits ++ commit_by (plain_section start commits base last own) tag ∷ []) base last WRITE_MAX)
  seat_pushed tag own h some time allowed =
      let c : Commit = commit_by (plain_section start commits base last own) tag in
      let more = map_push (λ c. Change c) commits c in
      let none = drop_all (length commits) (map (λ c. Change c) commits) (omega (arith, length-map commits (λ c. Change c))) in
      let next : IsNext (length start) (map (λ c. Change c) commits) c = record {
        some = some;
        distinct = h.distinct;
        within = h.within;
        words = h.words;
        past = omega (arith, length-map commits (λ c. Change c));
        unwritten = NoneWrites-nil own _ none;
        in_order = NoneBy-nil 0 _ none;
        number = ap (λ cs. length cs + 1) h.seat.mine;
      } in
      record {
        start = h.seat.start;
        words = h.seat.words;
        legal = rw more (IsLegal-push (length start) (map (λ c. Change c) commits) c h.seat.legal next);
        allowed = rw more (IsAllowed-push allows start (map (λ c. Change c) commits) c h.seat.allowed allowed);
        mine = ap (λ cs. cs ++ c ∷ []) h.seat.mine ∙ sym (rw more (commits_of-append 0 (map (λ c. Change c) commits) (Change c ∷ [])));
        rests = sym (rests_of-map (commits ++ c ∷ []));
        time = omega (arith, length-map (commits ++ c ∷ []) (λ c. Change c), length-append commits (c ∷ []));
        last = h.seat.last;
      }

module _ (start : State) (commits : List Commit) (base last : ℕ) where
  pub continues : (n m : ℕ) → Continues (plain_seat start commits base last n) (plain_seat start commits base last m)
  continues n m = record {
    number = refl;
    home = refl;
    write_max = refl;
    start = refl;
    base = refl;
    last = refl;
    seen = take_all (length (map (λ c. Change c) commits)) (map (λ c. Change c) commits) (omega arith);
    trail = refl;
  }

  pub goes_on : (own more : Writes) → GoesOn (plain_section start commits base last own) (plain_section start commits base last more)
  goes_on own more = record {
    continues = continues (WRITE_MAX - length own) (WRITE_MAX - length more);
    mine = refl;
    rests = refl;
    at = refl;
    names_no_commit = refl;
  }

  pub rewrites : (own : Writes) (o : ℕ) (words : List ℕ)
      → Rewrites (plain_section start commits base last own) (plain_section start commits base last (rewritten own o words)) o words
  rewrites own o words = record {
    seat = record {
      continues = continues (WRITE_MAX - length own) (WRITE_MAX - length (rewritten own o words));
      mine = refl;
      rests = refl;
      spare = ap (λ n. WRITE_MAX - n) (length-rewritten own o words);
    };
    at = refl;
    own = refl;
  }

  pub locks : (own : Writes) (o : ℕ) (words : List ℕ) → length own < WRITE_MAX → words ≡ words_at (state_of (plain_section start commits base last own)) o
      → Locks (plain_section start commits base last own) (plain_section start commits base last (own ++ (o, words) ∷ [])) o
  locks own o words few e = record {
    continues = continues (WRITE_MAX - length own) (WRITE_MAX - length (own ++ (o, words) ∷ []));
    mine = refl;
    rests = refl;
    spare = omega (arith, length-append own ((o, words) ∷ []));
    at = refl;
    own = ap (λ w. own ++ (o, w) ∷ []) e;
  }

  pub commits_by : (tag : List ℕ) (own : Writes) (time : ℕ) → time ≡ base + length commits + 1 → Commits (plain_section start commits base last own) tag
      (plain_seat start (commits ++ commit_by (plain_section start commits base last own) tag ∷ []) base last WRITE_MAX) time
  commits_by tag own time at =
      let c : Commit = commit_by (plain_section start commits base last own) tag in
      let more = map_push (λ c. Change c) commits c in
      record {
        continues = record {
          number = refl;
          home = refl;
          write_max = refl;
          start = refl;
          base = refl;
          last = refl;
          seen = rw (more, take_at (map (λ c. Change c) commits) (Change c ∷ []) (length (map (λ c. Change c) commits)) refl) refl;
          trail = refl;
        };
        entry = record {
          later = omega arith;
          there = rw more (slice_get_at (map (λ c. Change c) commits) (Change c) (time - (base + 1)) (omega (arith, length-map commits (λ c. Change c))));
        };
        later = omega (arith, length-map commits (λ c. Change c));
        mine = refl;
        rests = refl;
      }

pub ruleset plain = (length-written, words-written_other, words-written_same, touches_at, touches-append, length-rewritten)
