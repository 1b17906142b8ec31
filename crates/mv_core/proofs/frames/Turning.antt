-- A step over the table, from what its kind shows of the facts, `Loads`, `Stores`, `Swaps` or `Raises` of its place, and that it
-- is a move, `LoadsAs` and so on. Once for all kinds; a kind's own lemmas never speak of the table.
use Rattle.std.proofs.Common.{◌≡◌, ℕ, ◌+◌, ◌<◌, ◌^◌, max, ◌≢◌, eqb, Bool, if◌then◌else◌, eq-eqb, ne_eqb, Some, None}
use Rattle.std.proofs.Common.{false, List, ◌++◌, length, set, slice_index, refl, sym, ap, ◌∙◌, subst, arith, length-append}
use Rattle.std.proofs.lemmas.List.{set-get_or}
use Rattle.std.proofs.Math.Logic.{∥∥₁_elim}
use Rattle.std.proofs.Math.Bool.{Bool-set}
use Rattle.mv_core.proofs.Terms.{some, get_elem?, Entry, State, Writes, Config, SharedWord, Memory, put, Shows, IsPlace, cell_of, Knowledge, parts_of, set_at}
use prog.Atomic.{either}
use Rattle.atomic_table.specs.Table as table
use Rattle.atomic_table.specs.Table.{Me, Act, keeps, Valid, stepped, Allows, carried_after}
use Rattle.atomic_table.proofs.Lists.{exchanged}
use Rattle.mv_history.specs.Legal.{AreWords, IsLegal, IsAllowed}
use Rattle.mv_history.proofs.Histories.{IsLegal-front, IsAllowed-front}
use Rattle.mv_layout.proofs.InCells.{shows_put}
use Rattle.mv_core.specs.declared.shared.Opening.{Opening}
use Rattle.mv_core.specs.Moves as moves
use Rattle.mv_core.specs.Moves.{Moment, MoveKind, act, memory_after, history_after, IsStorable, IsSeat, Move, steps, Moves, moved}
use Rattle.mv_core.specs.Rule.{LoadsAs, StoresAs, SwapsAs, RaisesAs}
use Rattle.mv_core.proofs.FactTerms.{KnowsPast, Known, KnownInDomain, Facts, IsSeated, Ruled, Loads, Stores, Swaps, Raises, IsKept}
use Rattle.mv_core.proofs.moves.LaterHistory.{stays}
use Rattle.mv_core.proofs.frames.FrameLaw.{set_at_here, set_at_all}
use Rattle.mv_core.proofs.points.KnownBounds.{known_low, known_none, known_found, known_in_domain, known_back, known_next, known_named}
use Rattle.mv_core.proofs.points.KnownLogs.{known_idle, known_still, known_commit, known_death}
use Rattle.mv_core.proofs.points.KnownSections.{known_section}
use Rattle.mv_core.proofs.frames.Seating.{old_of, seated_after}

module _ (starts : State → Type 0) (allows : List ℕ → State → Writes → Type 0) where
  pub unspent_of : (v : Knowledge) → ∥ Known starts allows v ∥₁ → v.spent ≡ false
  unspent_of v k = ∥∥₁_elim k (Bool-set v.spent false) (λ a. a.unspent)

  -- the facts tell each seat what its pass knows
  pub known_of : (c : Config) (start : State) (m : Memory) (h : List Entry) (seats : ℕ → Knowledge) (w : Knowledge)
      → Facts starts allows c start m h (parts_of seats)
      → seats w.number ≡ w → w.start ≡ start → w.base ≡ c.base → w.spent ≡ false → Known starts allows w
  known_of c start m h seats w k is begins from unspent =
      let p : KnowsPast h w.number w.past = subst (λ (u : Knowledge). KnowsPast h w.number u.past) is (k.history.seats w.number) in
      let whole : h ≡ w.past.seen ++ p.seen.0 = p.seen.1 in
      let legal : IsLegal (length start) (w.past.seen ++ p.seen.0) = subst (IsLegal (length start)) whole k.history.legal in
      let allowed : IsAllowed allows start (w.past.seen ++ p.seen.0) = subst (IsAllowed allows start) whole k.history.allowed in
      let long : length h ≡ length w.past.seen + length p.seen.0 = ap length whole ∙ length-append w.past.seen p.seen.0 in
      record {
        unspent = unspent;
        opening = subst starts (sym begins) k.history.opening;
        words = subst AreWords (sym begins) k.history.words;
        legal = subst (λ (s : State). IsLegal (length s) w.past.seen) (sym begins) (IsLegal-front (length start) w.past.seen p.seen.0 legal);
        allowed = subst (λ (s : State). IsAllowed allows s w.past.seen) (sym begins) (IsAllowed-front allows start w.past.seen p.seen.0 allowed);
        mine = p.seen_mine;
        rests = p.seen_rests;
        in_time = (let t = k.history.in_time in omega arith);
        lowered = known_low seats w k is;
        none = known_none seats w k is;
        found = known_found seats w k is;
        section = known_section seats w k is begins from;
        idle = known_idle seats w k is begins from;
        still = known_still seats w k is begins from;
        back = known_back seats w k is;
        next = known_next seats w k is;
        named = known_named seats w k is;
        commits = known_commit seats w k is begins from;
        deaths = known_death seats w k is begins from;
      }

  module _ (key : Opening) (slots id : ℕ) (me : Me (List ℕ) Knowledge) (p : SharedWord) (i : ℕ) (hp : IsPlace key.config p) (is : i ≡ cell_of key.config p)
      (unspent : me.0.spent ≡ false) (begins : me.0.start ≡ key.start.value.items) (from : me.0.base ≡ key.config.base)
      (c : Config) (domain : c ≡ key.config) where
    found_is : (s : table.State (List ℕ) Knowledge) (r : Ruled starts allows key s) → slice_index s.words i ≡ r.memory p
    found_is s r = ap (slice_index s.words) is ∙ r.shows.each p hp

    shows_as : (s : table.State (List ℕ) Knowledge) (r : Ruled starts allows key s) (n : ℕ) → Shows key.config (set s.words i n) (put r.memory p n)
    shows_as s r n =
        subst (λ (j : ℕ). Shows key.config (set s.words j n) (put r.memory p n)) (sym is) (shows_put key.config s.words r.memory p n r.facts.checked r.shows hp)

    known_after : (m : Memory) (h : List Entry) (seats : ℕ → Knowledge) (w : Knowledge)
        → Facts starts allows key.config key.start.value.items m h (parts_of (set_at seats me.0.number w)) → IsKept me.0 w
        → Known starts allows w × KnownInDomain c w
    known_after m h seats w k kept =
        let here : set_at seats me.0.number w w.number ≡ w = ap (set_at seats me.0.number w) kept.0 ∙ set_at_here seats me.0.number w in (
          known_of key.config key.start.value.items m h (set_at seats me.0.number w) w k here (kept.1 ∙ begins) (kept.2 ∙ from) (kept.5 ∙ unspent),
          subst (λ (d : Config). KnownInDomain d w) (sym domain) (known_in_domain (set_at seats me.0.number w) w k here),
        )

    -- the state that the rule speaks of
    abbrev moment : (s : table.State (List ℕ) Knowledge) → Ruled starts allows key s → Moment
    moment s r = record { memory = r.memory; history = r.history; seats = r.seats }

    -- a step is a move of its kind
    moves_by : (k : MoveKind) (s t : Moment) → s.seats me.0.number ≡ me.0 → (act allows key.config me.0 k).may
        → IsStorable ((act allows key.config me.0 k).writes (s.memory (act allows key.config me.0 k).place))
        → t ≡ moves.stepped (act allows key.config me.0 k) me.0.number s → IsSeat s me.0.number → Moves allows key.config s t
    moves_by k s t is may fits e seat =
        let By : Knowledge → Type 0 =
        λ u. (act allows key.config u k).may → IsStorable ((act allows key.config u k).writes (s.memory (act allows key.config u k).place))
        → t ≡ moves.stepped (act allows key.config u k) me.0.number s → Move allows key.config me.0.number s t in
        let go : By me.0 = subst By is (λ a b d. steps k a b d) in
        (me.0.number, seat, go may fits e)

    -- the state after it, from its parts
    after_is : (k : MoveKind) (s : Moment) (m : Memory) (h : List Entry) (w : Knowledge)
        → m ≡ memory_after s.memory (act allows key.config me.0 k).place ((act allows key.config me.0 k).writes (s.memory (act allows key.config me.0 k).place))
        → h ≡ history_after s.history ((act allows key.config me.0 k).entry (s.memory (act allows key.config me.0 k).place))
        → w ≡ (act allows key.config me.0 k).view (s.memory (act allows key.config me.0 k).place) s.history
        → record { memory = m; history = h; seats = set_at s.seats me.0.number w } ≡ moves.stepped (act allows key.config me.0 k) me.0.number s
    after_is k s m h w a b d = λ i. record { memory = a i; history = b i; seats = set_at s.seats me.0.number (d i) }

    -- a load, a store, a fetch_max and an exchange that is won or lost are moves
    load_moves : (k : MoveKind) (tells : ℕ → Knowledge → Type 0) → LoadsAs starts allows key.config key.start.value.items me.0 p k tells
        → (s : Moment) → s.seats me.0.number ≡ me.0 → (w : Knowledge)
        → Facts starts allows key.config key.start.value.items s.memory s.history (parts_of (set_at s.seats me.0.number w)) → tells (s.memory p) w
        → IsSeat s me.0.number → Moves allows key.config s (record { memory = s.memory; history = s.history; seats = set_at s.seats me.0.number w })
    load_moves k tells by s is w facts told =
        let a = act allows key.config me.0 k in
        let at : s.memory a.place ≡ s.memory p = ap s.memory by.place in
        moves_by k s (record { memory = s.memory; history = s.history; seats = set_at s.seats me.0.number w }) is by.may
        (subst IsStorable (sym (by.writes (s.memory a.place))) tt)
        (after_is k s s.memory s.history w (ap (memory_after s.memory a.place) (sym (by.writes (s.memory a.place))))
        (ap (history_after s.history) (sym (by.entry (s.memory a.place))))
        (by.view s.memory s.history s.seats w facts told ∙ ap (λ (x : ℕ). a.view x s.history) (sym at)))

    store_moves : (k : MoveKind) (n : ℕ) (tells : Knowledge → Type 0) → StoresAs starts allows key.config key.start.value.items me.0 p k n tells → n < 2 ^ 64
        → (s : Moment) (longer : List Entry) → s.seats me.0.number ≡ me.0 → (w : Knowledge)
        → Facts starts allows key.config key.start.value.items s.memory s.history (parts_of s.seats)
        → Facts starts allows key.config key.start.value.items (put s.memory p n) longer (parts_of (set_at s.seats me.0.number w)) → tells w
        → IsSeat s me.0.number → Moves allows key.config s (record { memory = put s.memory p n; history = longer; seats = set_at s.seats me.0.number w })
    store_moves k n tells by small s longer is w before facts told =
        let a = act allows key.config me.0 k in
        let x : ℕ = s.memory a.place in
        let e : w ≡ a.view x s.history = by.view x s.history w told in
        moves_by k s (record { memory = put s.memory p n; history = longer; seats = set_at s.seats me.0.number w }) is by.may
        (subst IsStorable (sym (by.writes x)) small)
        (after_is k s (put s.memory p n) longer w (ap (λ (q : SharedWord). put s.memory q n) (sym by.place)
        ∙ ap (memory_after s.memory a.place) (sym (by.writes x)))
        (stays s.seats me.0 w is before facts (ap (λ (u : Knowledge). u.past) e ∙ by.past x s.history) ∙ ap (history_after s.history) (sym (by.entry x))) e)

    raise_moves : (k : MoveKind) (n : ℕ) (tells : ℕ → Knowledge → Type 0) → RaisesAs starts allows key.config key.start.value.items me.0 p k n tells
        → (s : Moment) → s.seats me.0.number ≡ me.0 → max (s.memory p) n < 2 ^ 64 → (w : Knowledge) → tells (s.memory p) w
        → IsSeat s me.0.number
        → Moves allows key.config s (record { memory = put s.memory p (max (s.memory p) n); history = s.history; seats = set_at s.seats me.0.number w })
    raise_moves k n tells by s is small w told =
        let a = act allows key.config me.0 k in
        let x : ℕ = s.memory a.place in
        let at : s.memory p ≡ x = ap s.memory (sym by.place) in
        moves_by k s (record { memory = put s.memory p (max (s.memory p) n); history = s.history; seats = set_at s.seats me.0.number w }) is by.may
        (subst IsStorable (ap (λ (y : ℕ). Some (max y n)) at ∙ sym (by.writes x)) small)
        (after_is k s (put s.memory p (max (s.memory p) n)) s.history w
        (ap (λ (q : SharedWord). put s.memory q (max (s.memory q) n)) (sym by.place) ∙ ap (memory_after s.memory a.place) (sym (by.writes x)))
        (ap (history_after s.history) (sym (by.entry x))) (by.view (s.memory p) s.history w told ∙ ap (λ (y : ℕ). a.view y s.history) at))

    won_moves : (k : MoveKind) (old new : ℕ) (tells : ℕ → Knowledge → Type 0) → SwapsAs starts allows key.config key.start.value.items me.0 p k old new tells
        → new < 2 ^ 64
        → (s : Moment) (longer : List Entry) → s.seats me.0.number ≡ me.0 → s.memory p ≡ old → (w : Knowledge)
        → Facts starts allows key.config key.start.value.items s.memory s.history (parts_of s.seats)
        → Facts starts allows key.config key.start.value.items (put s.memory p new) longer (parts_of (set_at s.seats me.0.number w)) → tells old w
        → IsSeat s me.0.number → Moves allows key.config s (record { memory = put s.memory p new; history = longer; seats = set_at s.seats me.0.number w })
    won_moves k old new tells by small s longer is hit w before facts told =
        let a = act allows key.config me.0 k in
        let x : ℕ = s.memory a.place in
        let at : x ≡ old = ap s.memory by.place ∙ hit in
        let writes : a.writes x ≡ Some new = by.writes x ∙ ap (λ (b : Bool). if b then Some new else None) (eq-eqb x old at) in
        let e = by.won s.memory s.history longer s.seats w before is hit facts told in
        moves_by k s (record { memory = put s.memory p new; history = longer; seats = set_at s.seats me.0.number w }) is by.may
        (subst IsStorable (sym writes) small)
        (after_is k s (put s.memory p new) longer w (ap (λ (q : SharedWord). put s.memory q new) (sym by.place)
        ∙ ap (memory_after s.memory a.place) (sym writes))
        (e.1 ∙ ap (λ (y : ℕ). history_after s.history (a.entry y)) (sym at)) (e.0 ∙ ap (λ (y : ℕ). a.view y s.history) (sym at)))

    lost_moves : (k : MoveKind) (old new : ℕ) (tells : ℕ → Knowledge → Type 0) → SwapsAs starts allows key.config key.start.value.items me.0 p k old new tells
        → (s : Moment) → s.seats me.0.number ≡ me.0 → s.memory p ≢ old → (w : Knowledge)
        → Facts starts allows key.config key.start.value.items s.memory s.history (parts_of (set_at s.seats me.0.number w)) → tells (s.memory p) w
        → IsSeat s me.0.number → Moves allows key.config s (record { memory = s.memory; history = s.history; seats = set_at s.seats me.0.number w })
    lost_moves k old new tells by s is miss w facts told =
        let a = act allows key.config me.0 k in
        let x : ℕ = s.memory a.place in
        let at : x ≡ s.memory p = ap s.memory by.place in
        let ne : x ≢ old = λ e. miss (sym at ∙ e) in
        let writes : a.writes x ≡ None = by.writes x ∙ ap (λ (b : Bool). if b then Some new else None) (ne_eqb x old ne) in
        moves_by k s (record { memory = s.memory; history = s.history; seats = set_at s.seats me.0.number w }) is by.may
        (subst IsStorable (sym writes) tt)
        (after_is k s s.memory s.history w (ap (memory_after s.memory a.place) (sym writes)) (ap (history_after s.history) (sym (by.entry x ne)))
        (by.lost s.memory s.history s.seats w miss facts told ∙ ap (λ (y : ℕ). a.view y s.history) (sym at)))

    -- the rule after a step that writes this word, if any
    ruled_after : (s : table.State (List ℕ) Knowledge) (r : Ruled starts allows key s) → get_elem? s.views id ≡ some me.0
        → (n : ℕ) (m : Memory) (h : List Entry) (w : Knowledge) → Shows key.config (set s.words i n) m → IsKept me.0 w
        → Facts starts allows key.config key.start.value.items m h (parts_of (set_at r.seats me.0.number w))
        → (IsSeat (moment s r) me.0.number → Moves allows key.config (moment s r) (record { memory = m; history = h; seats = set_at r.seats me.0.number w }))
        → Ruled starts allows key (stepped s i n id me.1 w keeps)
    ruled_after s r at n m h w shows kept facts move = record {
      memory = m;
      history = h;
      seats = set_at r.seats me.0.number w;
      shows = shows;
      slotless = r.slotless;
      seated = seated_after key.config key.start.value.items s.views r.seats id me.0 w r.seated at unspent kept;
      facts = facts;
      reached = moved (moment s r) (record { memory = m; history = h; seats = set_at r.seats me.0.number w }) r.reached
          (move (record { made = r.active id me.0 at unspent; unspent = ap (λ (u : Knowledge). u.spent) (r.seated.there id me.0 at unspent).0 ∙ unspent }));
      active = λ j x at' un.
          let o = old_of s.views id me.0 w at kept j x at' in
          let made : (set_at r.seats me.0.number w 0).made ≡ (r.seats 0).made = set_at_all (λ t u. u.made ≡ (r.seats t).made) r.seats me.0.number w
          (kept.3 ∙ sym (ap (λ (u : Knowledge). u.made) (r.seated.there id me.0 at unspent).0)) (λ t ne. refl) 0 in
          let lt = r.active j o.0 o.1 (sym o.2.5 ∙ un) in
          let same = o.2.0 in
          omega arith;
    }

    still_shows : (s : table.State (List ℕ) Knowledge) (r : Ruled starts allows key s) → Shows key.config (set s.words i (slice_index s.words i)) r.memory
    still_shows s r = subst (λ (ws : List ℕ). Shows key.config ws r.memory) (sym (set-get_or s.words i 0)) r.shows

    -- the rule tells what `IsSeated` says of an unspent view
    is_seated : (s : table.State (List ℕ) Knowledge) (r : Ruled starts allows key s) → get_elem? s.views id ≡ some me.0 → IsSeated key.config r.seats me.0
    is_seated s r at = record {
      range = (r.seated.there id me.0 at unspent).1;
      noted = λ n has. (r.seated.noted id me.0 n at unspent has, λ same. r.seated.gone id id me.0 me.0 n at at unspent unspent has (sym same));
      once = λ a b m n x y same. (r.seated.once id id a b me.0 me.0 m n at at unspent unspent x y same).1;
    }

    pub load_allows : (kind : MoveKind) (told : ℕ → Knowledge → Type 0) (tells : ℕ → Knowledge → Type 0) → ((x : ℕ) (w : Knowledge) → tells x w → told x w)
        → LoadsAs starts allows key.config key.start.value.items me.0 p kind told
        → Loads starts allows key.config key.start.value.items me.0 p (λ n w. tells n w × IsKept me.0 w)
        → Allows (Ruled starts allows key) slots id me i (λ n. n)
        (λ n m. tells n m.0 × IsKept me.0 m.0 × (Known starts allows m.0 × KnownInDomain c m.0) × (m.1 ≡ me.1))
    load_allows kind told tells weaker by law s r wide at small =
        let found = found_is s r in
        let there = r.seated.there id me.0 at unspent in
        let t = law r.memory r.history r.seats r.facts there.0 (is_seated s r at) begins (subst (λ (n : ℕ). n < 2 ^ 64) found small) in (
          t.0,
          keeps,
          tt,
          ruled_after s r at (slice_index s.words i) r.memory r.history t.0 (still_shows s r) t.2.1 t.1
              (load_moves kind told by (moment s r) there.0 t.0 t.1 (weaker (r.memory p) t.0 t.2.0)),
          (subst (λ (n : ℕ). tells n t.0) (sym found) t.2.0, t.2.1, known_after r.memory r.history r.seats t.0 t.1 t.2.1, refl),
        )

    pub store_allows : (kind : MoveKind) (n : ℕ) (told : Knowledge → Type 0) (tells : Knowledge → Type 0) → ((w : Knowledge) → tells w → told w) → n < 2 ^ 64
        → StoresAs starts allows key.config key.start.value.items me.0 p kind n told
        → Stores starts allows key.config key.start.value.items me.0 p n (λ w. tells w × IsKept me.0 w)
        → Allows (Ruled starts allows key) slots id me i (λ _. n)
        (λ _ m. tells m.0 × IsKept me.0 m.0 × (Known starts allows m.0 × KnownInDomain c m.0) × (m.1 ≡ me.1))
    store_allows kind n told tells weaker fits by law s r wide at small =
        let there = r.seated.there id me.0 at unspent in
        let t = law r.memory r.history r.seats r.facts there.0 there.1 begins in (
          t.0,
          keeps,
          tt,
          ruled_after s r at n (put r.memory p n) t.1 t.0 (shows_as s r n) t.3.1 t.2
              (store_moves kind n told by fits (moment s r) t.1 there.0 t.0 r.facts t.2 (weaker t.0 t.3.0)),
          (t.3.0, t.3.1, known_after (put r.memory p n) t.1 r.seats t.0 t.2 t.3.1, refl),
        )

    pub raise_allows : (kind : MoveKind) (n : ℕ) (told : ℕ → Knowledge → Type 0) (tells : ℕ → Knowledge → Type 0)
        → ((x : ℕ) (w : Knowledge) → tells x w → told x w) → n < 2 ^ 64
        → RaisesAs starts allows key.config key.start.value.items me.0 p kind n told
        → Raises starts allows key.config key.start.value.items me.0 p n (λ x w. tells x w × IsKept me.0 w)
        → Allows (Ruled starts allows key) slots id me i (λ x. max x n)
        (λ x m. tells x m.0 × IsKept me.0 m.0 × (Known starts allows m.0 × KnownInDomain c m.0) × (m.1 ≡ me.1))
    raise_allows kind n told tells weaker fits by law s r wide at small =
        let found = found_is s r in
        let there = r.seated.there id me.0 at unspent in
        let t = law r.memory r.history r.seats r.facts there.0 there.1 begins (subst (λ (x : ℕ). x < 2 ^ 64) found small) in
        let x : ℕ = max (slice_index s.words i) n in
        let shows : Shows key.config (set s.words i x) (put r.memory p (max (r.memory p) n)) =
        subst (λ (y : ℕ). Shows key.config (set s.words i x) (put r.memory p (max y n))) found (shows_as s r x) in (
          t.0,
          keeps,
          tt,
          ruled_after s r at x (put r.memory p (max (r.memory p) n)) r.history t.0 shows t.2.1 t.1
              (raise_moves kind n told by (moment s r) there.0
              (let y : ℕ = r.memory p in let b : y < 2 ^ 64 = subst (λ (z : ℕ). z < 2 ^ 64) found small in omega arith) t.0 (weaker (r.memory p) t.0 t.2.0)),
          (subst (λ (y : ℕ). tells y t.0) (sym found) t.2.0, t.2.1, known_after (put r.memory p (max (r.memory p) n)) r.history r.seats t.0 t.1 t.2.1, refl),
        )

    Goes : (s : table.State (List ℕ) Knowledge) → (ℕ → Knowledge → Type 0) → ℕ → Type 0
    Goes s tells x =
        (w : Knowledge) × (a : Act (List ℕ)) × Valid s.homes me.1 a × Ruled starts allows key (stepped s i x id me.1 w a)
        × (tells (slice_index s.words i) w × IsKept me.0 w × (Known starts allows w × KnownInDomain c w) × (carried_after me.1 a ≡ me.1))

    pub swap_allows : (kind : MoveKind) (old new : ℕ) (told : ℕ → Knowledge → Type 0) (tells : ℕ → Knowledge → Type 0)
        → ((x : ℕ) (w : Knowledge) → tells x w → told x w)
        → new < 2 ^ 64 → SwapsAs starts allows key.config key.start.value.items me.0 p kind old new told
        → Swaps starts allows key.config key.start.value.items me.0 p old new (λ n w. tells n w × IsKept me.0 w)
        → Allows (Ruled starts allows key) slots id me i (λ n. either (eqb n old) new n)
        (λ n m. tells n m.0 × IsKept me.0 m.0 × (Known starts allows m.0 × KnownInDomain c m.0) × (m.1 ≡ me.1))
    unfolding Goes
    swap_allows kind old new told tells weaker fits by law s r wide at small =
        let found = found_is s r in
        let there = r.seated.there id me.0 at unspent in
        exchanged (slice_index s.words i) old new (Goes s tells)
        (λ hit. let t = law.0 r.memory r.history r.seats r.facts there.0 there.1 begins (sym found ∙ hit) in (
          t.0,
          keeps,
          tt,
          ruled_after s r at new (put r.memory p new) t.1 t.0 (shows_as s r new) t.3.1 t.2
              (won_moves kind old new told by fits (moment s r) t.1 there.0 (sym found ∙ hit) t.0 r.facts t.2 (weaker old t.0 t.3.0)),
          (subst (λ (n : ℕ). tells n t.0) (sym hit) t.3.0, t.3.1, known_after (put r.memory p new) t.1 r.seats t.0 t.2 t.3.1, refl),
        ))
        (λ miss. let t = law.1 r.memory r.history r.seats r.facts there.0 there.1 begins (λ e. miss (found ∙ e))
        (subst (λ (n : ℕ). n < 2 ^ 64) found small) in (
          t.0,
          keeps,
          tt,
          ruled_after s r at (slice_index s.words i) r.memory r.history t.0 (still_shows s r) t.2.1 t.1
              (lost_moves kind old new told by (moment s r) there.0 (λ e. miss (found ∙ e)) t.0 t.1 (weaker (r.memory p) t.0 t.2.0)),
          (subst (λ (n : ℕ). tells n t.0) (sym found) t.2.0, t.2.1, known_after r.memory r.history r.seats t.0 t.1 t.2.1, refl),
        ))
