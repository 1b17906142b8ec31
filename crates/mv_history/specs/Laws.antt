-- That the facts which stores and sections keep are propositions.
use Rattle.std.specs.Prelude.{◌≡◌, ℕ, ◌+◌, ◌<◌, ◌≤◌, true, List, length, drop}
use Rattle.std.specs.Coded.{Coded-set, coded_list}
use Rattle.std.proofs.Props.{props}
use Rattle.mv_history.specs.declared.history.TheConstants.{LAST}
use Rattle.mv_history.specs.State.{State, Writes, Commit, Entry, commits_of, rests_of, commit_code}
use Rattle.mv_history.specs.Legal.{are_distinct, AreWithin, NoneWrites, NoneBy, AreWords, AreWrites, IsNext, IsLegal, IsAllowed}
use Rattle.mv_history.specs.Meaning.{Seat, InSection, IsSeat, IsSection}

AreWithin-prop : (ws : Writes) (n : ℕ) → IsProp (AreWithin ws n)
AreWithin-prop ws n = hlevel props

NoneWrites-prop : (ws : Writes) (es : List Entry) → IsProp (NoneWrites ws es)
NoneWrites-prop ws es = hlevel props

NoneBy-prop : (seat : ℕ) (es : List Entry) → IsProp (NoneBy seat es)
NoneBy-prop seat es = hlevel props

AreWords-prop : (s : State) → IsProp (AreWords s)
AreWords-prop s = hlevel props

AreWrites-prop : (ws : Writes) → IsProp (AreWrites ws)
AreWrites-prop ws = hlevel props

IsNext-prop : (objects : ℕ) (before : List Entry) (c : Commit) → IsProp (IsNext objects before c)
IsNext-prop objects before c x y =
    let some_prop : IsProp (0 < length c.writes) = hlevel props in
    let distinct_prop : IsProp (are_distinct c.writes ≡ true) = hlevel props in
    let past_prop : IsProp (c.snapshot ≤ length before) = hlevel props in
    let number_prop : IsProp (c.number ≡ length (commits_of c.seat before) + 1) = hlevel props in
    λ i. record {
      some = some_prop x.some y.some i;
      distinct = distinct_prop x.distinct y.distinct i;
      within = AreWithin-prop c.writes objects x.within y.within i;
      words = AreWrites-prop c.writes x.words y.words i;
      past = past_prop x.past y.past i;
      unwritten = NoneWrites-prop c.writes (drop c.snapshot before) x.unwritten y.unwritten i;
      in_order = NoneBy-prop c.seat (drop c.snapshot before) x.in_order y.in_order i;
      number = number_prop x.number y.number i;
    }

IsLegal-prop : (objects : ℕ) (history : List Entry) → IsProp (IsLegal objects history)
IsLegal-prop objects history = hlevel (props, IsNext-prop)

module _ (starts : State → Type 0) (allows : List ℕ → State → Writes → Type 0) (one_start : (s : State) → IsProp (starts s))
    (one_allowed : (t : List ℕ) (s : State) (w : Writes) → IsProp (allows t s w)) where
  IsAllowed-prop : (start : State) (history : List Entry) → IsProp (IsAllowed allows start history)
  IsAllowed-prop start history = hlevel (props, one_allowed)

  pub IsSeat-prop : (s : Seat) → IsProp (IsSeat starts allows s)
  IsSeat-prop s x y =
      let mine_prop : IsProp (s.mine ≡ commits_of s.number s.seen) =
      Coded-set (coded_list commit_code) s.mine (commits_of s.number s.seen) in
      let rests_prop : IsProp (s.rests ≡ rests_of s.number s.seen) = hlevel props in
      let time_prop : IsProp (s.base + length s.seen ≤ s.last) = hlevel props in
      let last_prop : IsProp (s.last ≤ LAST) = hlevel props in
      λ i. record {
        start = one_start s.start x.start y.start i;
        words = AreWords-prop s.start x.words y.words i;
        legal = IsLegal-prop (length s.start) s.seen x.legal y.legal i;
        allowed = IsAllowed-prop s.start s.seen x.allowed y.allowed i;
        mine = mine_prop x.mine y.mine i;
        rests = rests_prop x.rests y.rests i;
        time = time_prop x.time y.time i;
        last = last_prop x.last y.last i;
      }

  pub IsSection-prop : (s : InSection) → IsProp (IsSection starts allows s)
  IsSection-prop s x y =
      let at_prop : IsProp (s.at ≤ length s.seat.seen) = hlevel props in
      let distinct_prop : IsProp (are_distinct s.own ≡ true) = hlevel props in
      let held_prop : IsProp (length s.own ≤ s.seat.write_max) = hlevel props in
      λ i. record {
        seat = IsSeat-prop s.seat x.seat y.seat i;
        at = at_prop x.at y.at i;
        distinct = distinct_prop x.distinct y.distinct i;
        within = AreWithin-prop s.own (length s.seat.start) x.within y.within i;
        words = AreWrites-prop s.own x.words y.words i;
        held = held_prop x.held y.held i;
        unwritten = NoneWrites-prop s.own (drop s.at s.seat.seen) x.unwritten y.unwritten i;
        in_order = NoneBy-prop s.seat.number (drop s.at s.seat.seen) x.in_order y.in_order i;
      }
