-- What the rule tells a seat of the committed versions and of the noted deaths of its own log.
use Rattle.std.proofs.Common.{◌≡◌, ◌≢◌, ℕ, zero, suc, ◌+◌, ◌-◌, ◌<◌, ◌≤◌, eqb, if◌then◌else◌, Bool, true, false}
use Rattle.std.proofs.Common.{List, [], ◌∷◌, ◌++◌, length, take, drop, sym, ap, ◌∙◌, subst, arith, append-nil, eq-eqb, Some, None}
use Rattle.std.specs.Prelude.{slice_get}
use Rattle.mv_core.proofs.Terms.{dite, dec_le, Entry, Rest, Change, Step, State, Writes, commits_of, Config, First, Prev, Data, Memory, Ring, Live}
use Rattle.mv_core.proofs.Terms.{Version, WriteSetStatus, Held, Committed, CommitNote, Knowledge, Past, JoinedSeat, Outside, slot_at, HoldsNothing, Lives}
use Rattle.mv_core.proofs.Terms.{latest_at, IsEntry, IsNextIn, parts_of, section_of, time_of}
use Rattle.mv_history.specs.declared.Commit.{Commit}
use Rattle.mv_history.proofs.Histories.{split_at}
use Rattle.mv_core.specs.declared.view.WalkStage.TheVariants.{Nowhere}
use Rattle.mv_core.proofs.FactTerms.{KnowsPast, HoldsSlot, death_in, DeathSeen, KnownCommit, Facts}
use Rattle.mv_core.proofs.history.Fronts.{latest_at-more}
use Rattle.mv_core.proofs.history.Latest.{latest_at-own}
use Rattle.mv_core.proofs.history.LongerSeen.{none_more}
use Rattle.mv_core.proofs.kinds.walking.LoadStamp.{entry_seen}
use Rattle.mv_core.proofs.logs.Written.{set_writes}

-- an element of two lists that isn't in the first is in the second
get_past : (xs ys : List Entry) (i : ℕ) → length xs ≤ i → slice_get (xs ++ ys) i ≡ slice_get ys (i - length xs)
get_past [] ys i le = ap (slice_get ys) (let e : i ≡ i - 0 = omega arith in e)
get_past (x ∷ xs) ys zero le = absurd (omega arith)
get_past (x ∷ xs) ys (suc i) le = get_past xs ys i (omega arith) ∙ ap (slice_get ys) (let e : i - length xs ≡ suc i - length (x ∷ xs) = omega arith in e)

-- with one element more or not, a list that has some has some
none_after : (b : Bool) (d : Commit) (ds : List Commit) → ds ≢ [] → (if b then d ∷ ds else ds) ≢ []
none_after true d ds some none = absurd (cc)
none_after false d ds some none = some none

-- a seat that has an entry of a commit has a commit
some_commit : (seat : ℕ) (es : List Entry) (i : ℕ) (d : Commit) → slice_get es i ≡ Some (Change d) → d.seat ≡ seat → commits_of seat es ≢ []
some_commit seat [] i d at by none = absurd (cc)
some_commit seat (Rest s ∷ es) zero d at by none = absurd (cc)
some_commit seat (Rest s ∷ es) (suc i) d at by none = some_commit seat es i d at by none
some_commit seat (Change e ∷ es) zero d at by none =
    let same : e ≡ d = cc in
    let own : (if eqb e.seat seat then e ∷ commits_of seat es else commits_of seat es) ≡ e ∷ commits_of seat es =
    ap (λ b. if b then e ∷ commits_of seat es else commits_of seat es) (eq-eqb e.seat seat (ap (λ (x : Commit). x.seat) same ∙ by)) in
    let clash : e ∷ commits_of seat es ≡ [] = sym own ∙ none in absurd (cc)
some_commit seat (Change e ∷ es) (suc i) d at by none = none_after (eqb e.seat seat) e (commits_of seat es) (some_commit seat es i d at by) none

-- a seat's own commit is in what it has seen
own_seen : (base : ℕ) (h : List Entry) (seat : ℕ) (p : Past) → KnowsPast h seat p → (t : ℕ) (d : Commit) → IsEntry base h t (Change d) → d.seat ≡ seat
    → t ≤ base + length p.seen
own_seen base h seat p knows t d is by =
    dite (dec_le t (base + length p.seen))
    (λ le. le)
    (λ gt.
    let i : ℕ = t - (base + 1) in
    let rest : List Entry = knows.seen.0 in
    let at : slice_get rest (i - length p.seen) ≡ Some (Change d) =
    sym (get_past p.seen rest i (omega arith)) ∙ ap (λ l. slice_get l i) (sym knows.seen.1) ∙ is.1 in
    absurd (some_commit seat rest (i - length p.seen) d at by (none_more h seat p knows h ([], sym (append-nil h)) knows.seen)))

-- what is known of a commit reads neither the trail, nor which seats were made or joined
pub commit_still : (v : Knowledge) (x : Version) (note : CommitNote) (trail : List Step) (made : ℕ) (notes : List JoinedSeat) → KnownCommit v x note
    → KnownCommit (record v { trail = trail; made = made; notes = notes }) x note
commit_still v x note trail made notes k =
    record { in_range = k.in_range; wide = k.wide; after = k.after; seen = k.seen; written = k.written; superseded = k.superseded }

module _ {starts : State → Type 0} {allows : List ℕ → State → Writes → Type 0} {c : Config} {start : State} {m : Memory} {h : List Entry}
    (seats : ℕ → Knowledge)
    (w : Knowledge) (k : Facts starts allows c start m h (parts_of seats)) (is : seats w.number ≡ w) (begins : w.start ≡ start) (from : w.base ≡ c.base) where
  abbrev n : ℕ
  n = w.number

  abbrev rings : ℕ → Ring
  rings s = (seats s).ring

  abbrev seen : List Entry
  seen = w.past.seen

  lives_in : (j : ℕ) (x : Version) (st : WriteSetStatus) → slot_at w.ring j ≡ Live x st → Lives rings n j x st
  lives_in j x st e = ap (λ (u : Knowledge). slot_at u.ring j) is ∙ e

  knows : KnowsPast h n w.past
  knows = subst (λ (u : Knowledge). KnowsPast h n u.past) is (k.history.seats n)

  death_seen : (j : ℕ) (x : Version) (st : WriteSetStatus) → slot_at w.ring j ≡ Live x st → DeathSeen (c.base + length seen) st
  death_seen j x st e = subst (λ (u : Knowledge). DeathSeen (c.base + length u.past.seen) st) is (k.deaths_seen n j x st (lives_in j x st e))

  -- the death of a version that isn't cut is the next write that was seen
  next_seen : (j : ℕ) (x : Version) (note : CommitNote) → slot_at w.ring j ≡ Live x (Committed note) → (dead : ℕ) → note.cut ≡ false → note.dead ≡ Some dead
      → IsNextIn c.base seen x.object note.time dead
  next_seen j x note e dead uncut is_dead =
      let next = k.deaths.superseded n j dead x note (lives_in j x (Committed note) e) uncut is_dead in
      let within = (death_seen j x (Committed note) e dead is_dead).1 uncut in
      let there = entry_seen c.base h seen dead next.entry knows.seen within next.there in
      let none = next.none_between in
      let same = latest_at-more c.base h seen x.object knows.seen (dead - 1) (omega arith) in
      record { later = next.later; within = within; written = latest_at-own c.base seen x.object dead next.entry there next.writes; none_between = omega arith }

  pub known_commit : (j : ℕ) (x : Version) (note : CommitNote) → slot_at w.ring j ≡ Live x (Committed note) → KnownCommit w x note
  known_commit j x note e =
      let lives = lives_in j x (Committed note) e in
      let r = k.write_sets.commit n j x note lives in
      let low = r.entry.0 in
      let place : ℕ = note.time - (c.base + 1) in
      let writes = set_writes c h rings n x note r in
      let in_seen = own_seen c.base h n w.past knows note.time r.commit r.entry r.seat in
      let there = entry_seen c.base h seen note.time (Change r.commit) knows.seen in_seen r.entry in
      let next = k.history.legal (take place h) (drop (suc place) h) r.commit (split_at h place (Change r.commit) r.entry.1) in
      let words = subst (HoldsSlot (m (First n j)) (m (Prev n j)) (λ i. m (Data n j i))) lives (k.slot_words n j) in
      record {
        in_range = subst (λ (s : State). x.object < length s) (sym begins) (next.within x.object writes);
        wide = words.wide;
        after = omega arith;
        seen = omega arith;
        written = subst (λ (b : ℕ). latest_at b seen x.object note.time ≡ note.time) (sym from)
            (latest_at-own c.base seen x.object note.time (Change r.commit) there writes);
        superseded = λ dead uncut is_dead. subst (λ (b : ℕ). IsNextIn b seen x.object note.time dead) (sym from) (next_seen j x note e dead uncut is_dead);
      }

  pub known_death : (j : ℕ) (x : Version) (st : WriteSetStatus) (dead : ℕ) → slot_at w.ring j ≡ Live x st → death_in st ≡ Some dead
      → dead ≤ w.base + length seen + 1
  known_death j x st dead e is_dead = let late = (death_seen j x st e dead is_dead).0 in omega arith

  -- a seat outside a section holds nothing
  pub known_idle : w.phase ≡ Outside → HoldsNothing w.ring
  known_idle out j x e =
      let in_section = k.open_section.held n j x (lives_in j x Held e) in
      let none : section_of (seats n).phase ≡ None = ap (λ (u : Knowledge). section_of u.phase) is ∙ ap section_of out in
      let clash : None ≡ Some in_section.0 = sym none ∙ in_section.1 in
      absurd (cc)

  -- and walks nowhere and writes nothing back
  pub known_still : w.phase ≡ Outside → (w.walk ≡ Nowhere) × (w.back ≡ None)
  known_still out =
      let none : time_of (seats n).phase ≡ None = ap (λ (u : Knowledge). time_of u.phase) is ∙ ap time_of out in
      let none_there = k.phases_and_scan.outside n none in
      (ap (λ (u : Knowledge). u.walk) (sym is) ∙ none_there.0, ap (λ (u : Knowledge). u.back) (sym is) ∙ none_there.1)
