-- Every fact of the rule holds of a new domain: the history and the logs are empty.
use Rattle.std.proofs.Common.{◌≡◌, ◌≢◌, ℕ, zero, suc, ◌+◌, ◌-◌, ◌/◌, ◌%◌, ◌<◌, cond, List, [], length, replicate}
use Rattle.std.proofs.Common.{slice_index, refl, sym, ap, ◌∙◌, subst, inl, inr, ⊎_elim, arith, eqb, Some}
use Rattle.std.specs.Prelude.{slice_index_or}
use Rattle.std.proofs.lemmas.List.{length-replicate}
use Rattle.std.proofs.lemmas.List.Elements.{All-nil}
use Rattle.std.proofs.Math.Seq.{take-nil}
use Rattle.std.proofs.Math.Nat.{add-mod_left, div-eq_of_lt, mod-eq_of_lt}
use Rattle.mv_core.proofs.Terms.{Entry, Change, State, Writes, maker_of, state_after, Config, Checked, clock_of, clock_time_of, clock_slot_of, Ring}
use Rattle.mv_core.proofs.Terms.{Slot, Free, Built, Live, Freeing, Build, Version, WriteSetStatus, Held, Aborted, Committed, Knowledge, slot_at, index_of}
use Rattle.mv_core.proofs.Terms.{empty_ring, Names, NoneUncut, InUse, new_view, parts_of}
use Rattle.mv_history.specs.Meaning.{words_at}
use Rattle.mv_history.specs.Legal.{AreWords}
use Rattle.mv_history.proofs.Histories.{no_split}
use Rattle.mv_layout.proofs.Unpacking.{time_back, slot_back}
use Rattle.mv_core.proofs.FactTerms.{HoldsSlot, next_in, Facts}
use Rattle.mv_core.specs.Start.{opening_memory}
use Rattle.mv_core.proofs.frames.SectionBounds.{none_in}

free_at : (n k : ℕ) → slice_index_or (replicate {A = Slot} n Free) k Free ≡ Free
free_at zero k = refl
free_at (suc n) zero = refl
free_at (suc n) (suc k) = free_at n k

-- every slot of a new log is free
pub all_free : (c : Config) (k : ℕ) → slot_at (empty_ring c) k ≡ Free
all_free c k = free_at c.slots k

-- and so in none of them something is being built
pub none_built : {X : Type 0} (c : Config) (k : ℕ) (b : Build) → slot_at (empty_ring c) k ≡ Built b → X
none_built c k b built = let e : Free ≡ Built b = sym (all_free c k) ∙ built in absurd (cc)

-- and none of them has a version
pub none_lives : {X : Type 0} (c : Config) (k : ℕ) (x : Version) (st : WriteSetStatus) → slot_at (empty_ring c) k ≡ Live x st → X
none_lives c k x st lives = let e : Free ≡ Live x st = sym (all_free c k) ∙ lives in absurd (cc)

-- the seats, of which only the first is made
abbrev pub first_seats : Config → State → ℕ → Knowledge
first_seats c start s = new_view c start s (cond (eqb s 0) 1 0)

abbrev rings : Config → ℕ → Ring
rings c s = empty_ring c

module _ (starts : State → Type 0) (allows : List ℕ → State → Writes → Type 0) (c : Config) (start : State) (k : Checked c) (sized : length start ≡ c.objects)
    (words : AreWords start) (lawful : starts start) where
  abbrev clock : ℕ
  clock = clock_of c.base 0 8191

  time_is : clock_time_of clock ≡ c.base
  time_is = time_back c.base 0 8191 (omega arith) (omega arith)

  names_none : {X : Type 0} → clock_slot_of clock ≢ 8191 → X
  names_none ne = absurd (ne (slot_back c.base 0 8191 (omega arith) (omega arith)))

  no_live : {X : Type 0} (j : ℕ) (x : Version) (st : WriteSetStatus) → slot_at (empty_ring c) j ≡ Live x st → X
  no_live j x st = none_lives c j x st

  no_built : {X : Type 0} (j : ℕ) (b : Build) → slot_at (empty_ring c) j ≡ Built b → X
  no_built j b = none_built c j b

  no_freeing : {X : Type 0} (j p first : ℕ) → slot_at (empty_ring c) j ≡ Freeing p first → X
  no_freeing j p first e = let f : Free ≡ Freeing p first = sym (all_free c j) ∙ e in absurd (cc)

  no_version : {X : Type 0} (link : ℕ) (x : Version) (st : WriteSetStatus) → Names (rings c) link x st → X
  no_version link x st names = no_live names.slot x st names.lives

  none_uncut : (o t : ℕ) → NoneUncut (rings c) o t
  none_uncut o t link x note is = no_version link x (Committed note) is.names

  no_use : {X : Type 0} (s p : ℕ) → InUse (rings c) c s p → X
  no_use s p u = ⊎_elim (λ l. no_live (index_of c p) l.0 l.1 l.2) (λ f. no_freeing (index_of c p) p f.0 f.1) u

  -- the first position of a slot is its own number
  first_round : (j : ℕ) → j < c.slots → next_in c (empty_ring c) j / c.slots ≡ 0
  first_round j lt =
      let none : 0 % c.slots ≡ 0 = mod-eq_of_lt (omega arith) in
      let step : (j + c.slots - 0 % c.slots) % c.slots ≡ j =
      ap (λ (x : ℕ). x % c.slots) (let e : j + c.slots - 0 % c.slots ≡ c.slots + j = omega arith in e) ∙ add-mod_left c.slots j ∙ mod-eq_of_lt lt in
      div-eq_of_lt (let e = step in omega arith)

  pub starting_facts : Facts starts allows c start (opening_memory c start) [] (parts_of (first_seats c start))
  starting_facts = record {
    checked = k;
    history = record {
      opening = lawful;
      sized = sized;
      words = words;
      legal = λ front back e is. absurd (no_split front back (Change e) is);
      allowed = λ front back e is. absurd (no_split front back (Change e) is);
      long = omega (arith, time_is);
      in_time = let b = k.base in omega arith;
      whole = inl refl;
      seats = λ s. record { seen = ([], refl); seen_mine = refl; seen_rests = refl; mine = refl; rests = refl };
      makers = All-nil (λ e. maker_of e < c.seats);
      none_yet = λ _. slot_back c.base 0 8191 (omega arith) (omega arith);
      last = λ before e is. absurd (no_split before [] e is);
    };
    slot_words = λ s j. subst (HoldsSlot 0 0 (λ _. 0)) (sym (all_free c j)) tt;
    stamps = record { live = λ s j x st. no_live j x st; built = λ s j b. no_built j b };
    write_sets = record {
      commit = λ s j x note. no_live j x (Committed note);
      once = λ s j l x y a b lives. no_live j x (Committed a) lives;
      first = λ s j x st. no_live j x st;
      after_first = λ s j x st. no_live j x st;
      between = λ s j x st lives. no_live j x st lives;
      apart = λ s j l x y st note lives. no_live j x st lives;
      held = λ s j x lives. no_live j x Held lives;
    };
    helped_words = λ s word has. none_in word has;
    marks = λ s. refl;
    stamped_past_help = λ s inside e. absurd (cc);
    grace = record {
      views = λ s. (omega (arith, time_is), λ t. tt);
      shared = (omega (arith, time_is), λ t. tt);
      scans = λ s. tt;
    };
    lock_freshness = λ s j x. no_live j x Held;
    successors = record {
      held = λ s j x st. no_live j x st;
      next = λ s j x note. no_live j x (Committed note);
      stamped = λ s j x note lives. no_live j x (Committed note) lives;
      unfinished = λ s j x note lives. no_live j x (Committed note) lives;
      built = λ s j b. no_built j b;
    };
    deaths = record {
      aborted = λ s j dead x. no_live j x (Aborted (Some dead));
      cut = λ s j dead x note lives. no_live j x (Committed note) lives;
      superseded = λ s j dead x note lives. no_live j x (Committed note) lives;
    };
    deaths_seen = λ s j x st lives. no_live j x st lives;
    positions = record {
      wide = λ s. length-replicate c.slots Free;
      within = λ s j x st. no_live j x st;
      live = λ s j x st. no_live j x st;
      freeing = λ s j p first. no_freeing j p first;
      oldest = λ s j p first. no_freeing j p first;
      built = λ s j b. no_built j b;
      no_gap = λ s p q u. no_use s p u;
      bound = λ s. omega arith;
    };
    head_is_top = record { held = λ s j x. no_live j x Held; top = λ o _. inr (refl, none_uncut o _) };
    held_link = λ s j x. no_live j x Held;
    commit_link = λ s j x note. no_live j x (Committed note);
    aborted_link = λ s j x dead. no_live j x (Aborted dead);
    present_master =
        λ o _. (λ i _. ap (λ (es : List Entry). slice_index (words_at (state_after start es) o) i) (sym (take-nil (c.base + 0 - c.base))), λ s. tt);
    chain_foot = λ s j x note lives. no_live j x (Committed note) lives;
    walker_place = λ s t e. absurd (cc);
    walker_before_death = record { here = λ s t stand x st e. absurd (cc); below = λ s t stand x y dead st e. absurd (cc) };
    walker_knowledge = record {
      helped = λ s inside e. absurd (cc);
      first = λ s first stand x st e. absurd (cc);
      stamp = λ s found stand x st e. absurd (cc);
      unset = λ s t found stand x note e. absurd (cc);
    };
    below_is_stamped = λ s j x st lives. no_live j x st lives;
    walker_falls = record { stamped = λ s stand x st e. absurd (cc); found = λ s found stand e. absurd (cc) };
    walker_late = λ s t stand x note e. absurd (cc);
    found_stamp = record { now = λ s f e. absurd (cc); checked = λ s f e. absurd (cc) };
    unstamped_is_unfinished = λ s j x note lives. no_live j x (Committed note) lives;
    named_commit = λ s inside n e. absurd (cc);
    open_section = record {
      own = λ s inside e. absurd (cc);
      held = λ s j x. no_live j x Held;
      one_set = λ s j l x y lives. no_live j x Held lives;
      whole = λ s j x inside lives. no_live j x Held lives;
    };
    successor_flag = λ s j inside n x note e. absurd (cc);
    succeeded_has_super = λ s e has. none_in e has;
    loaded_words = record {
      clock_is = λ ne. names_none ne;
      loaded = λ s word has. none_in word has;
      none = λ s word has. none_in word has;
      helped = λ s word has. none_in word has;
      found = λ s f e. absurd (cc);
      inside = λ s inside e. absurd (cc);
    };
    freed_is_old = record { writes = λ t o e at. absurd (cc); named = λ ne. names_none ne };
    cut_is_old = λ s j x note lives. no_live j x (Committed note) lives;
    death_after_write = λ s j dead x note lives. no_live j x (Committed note) lives;
    write_back = λ s b e. absurd (cc);
    positions_and_grace = record {
      live = λ s j x st. no_live j x st;
      free = λ s j lt _. omega (arith, first_round j lt);
      built = λ s j b. no_built j b;
      freeing = λ s j p first. no_freeing j p first;
      commit = λ s j x note. no_live j x (Committed note);
      dead = λ s j t x note lives. no_live j x (Committed note) lives;
      aborted = λ s j t x. no_live j x (Aborted (Some t));
    };
    phases_and_scan = record {
      scanning = λ s running e. absurd (cc);
      outside = λ s e. (refl, refl);
      seen = λ s t e. absurd (cc);
      within = λ s t e. absurd (cc);
    };
  }
