-- What comes of a lock where another came first, and how the parts of a lock come together.
use Rattle.std.proofs.Common.{◌≡◌, ◌≢◌, ℕ, ◌+◌, ◌<◌, ◌^◌, List, [], ◌∷◌, ◌++◌, refl, sym, ap, ◌∙◌, subst, append_assoc, length-append, arith, Some, None, All}
use Rattle.std.proofs.lemmas.List.Elements.{All-nil, All-cons, All-append}
use Rattle.mv_history.specs.declared.Entry.{Entry}
use Rattle.mv_history.specs.declared.Step.{Step}
use Rattle.mv_history.specs.declared.StepKind.TheVariants.{LoadFirst, LoadStamp, LockHead}
use Rattle.mv_history.specs.declared.answers.LockAnswer.{LockAnswer}
use Rattle.mv_history.specs.declared.answers.LockAnswer.TheVariants.{Held, Busy, Stale}
use Rattle.mv_layout.specs.declared.Config.{Config}
use Rattle.mv_layout.specs.declared.SharedWord.TheVariants.{First, Stamp}
use Rattle.mv_layout.specs.Places.{place_of}
use Rattle.mv_layout.specs.Words.{IsUnset, link_seat_of}
use Rattle.seat_log.specs.mv_core.declared.view.Knowledge.{Knowledge}
use Rattle.seat_log.specs.mv_core.Rings.{index_of, own_of, spare_count}
use Rattle.seat_log.specs.mv_core.WalkSteps.{slot_named, IsWriteOf}
use Rattle.seat_log.specs.Notes.{Noted, dropped}
use Rattle.seat_log.specs.Stands.{Stands}
use Rattle.seat_log.proofs.Standing.{stands_dropped}
use Rattle.version_chain.specs.Walks.{MayWalk, section_in, stand_in, time_at}
use Rattle.object_lock.specs.Tops.{Looked, Tries, IsRefused}
use Rattle.object_lock.specs.Locks.{lost_step, CameFirst, LockMakes, Outcome}
use Rattle.object_lock.proofs.Exchanged.{exchanged_on}
use Rattle.object_lock.proofs.Looks.{IsLocks, rest_of, found_held}
use Rattle.object_lock.proofs.LockKinds.{none_won}
use Rattle.object_lock.proofs.Stood.{stands_on}

-- one after another
pub tries_on : (u v w : Knowledge) (first second third : ℕ) {tried more : List Step} → Tries u v first second tried → Tries v w second third more
    → Tries u w first third (tried ++ more)
tries_on u v w first second third a b =
    let s = a.trail in
    let t = b.trail in
    let long = length-append s.0 t.0 in
    let one = s.2 in
    let two = t.2 in record {
      seen = (a.seen.0 ++ b.seen.0, b.seen.1 ∙ ap (λ (l : List Entry). l ++ b.seen.0) a.seen.1 ∙ append_assoc u.past.seen a.seen.0 b.seen.0);
      trail = (s.0 ++ t.0, t.1 ∙ ap (λ (l : List Step). l ++ t.0) s.1 ∙ append_assoc u.trail s.0 t.0, (omega arith), All-append IsLocks s.0 t.0 s.3 t.3);
      exchanges = exchanged_on s.0 t.0 a.exchanges b.exchanges;
      rest = ap (rest_of w) b.rest ∙ ap (rest_of w) a.rest;
    }

-- An exchange was lost, and FIRST and STAMP of the version that came first were loaded.
module _ (c : Config) (v x : Knowledge) (object link found : ℕ) (may : MayWalk v) (first : CameFirst c v object link) (looked : Looked c v x found)
    (start : List Step) (lost : v.trail ≡ start ++ lost_step c object link ∷ []) where
  abbrev of_first : Step
  of_first =
      record {
        kind = LoadFirst;
        word = place_of c (First (link_seat_of (stand_in v).link) (slot_named c (stand_in v).link));
        found = Some looked.first;
        stored = None;
      }

  abbrev of_stamp : Step
  of_stamp =
      record { kind = LoadStamp; word = place_of c (Stamp (link_seat_of (stand_in v).link) (index_of c looked.first)); found = Some found; stored = None }

  two_steps : x.trail ≡ v.trail ++ of_first ∷ of_stamp ∷ []
  two_steps = ap (λ (u : Knowledge). u.trail) looked.view ∙ append_assoc v.trail (of_first ∷ []) (of_stamp ∷ [])

  two_kinds : All IsLocks (of_first ∷ of_stamp ∷ [])
  two_kinds = All-cons IsLocks of_first (of_stamp ∷ []) tt (All-cons IsLocks of_stamp [] tt (All-nil IsLocks))

  -- the view before the exchange, but that the walk stands as after it
  abbrev from : Knowledge
  from = record v { trail = start }

  three_steps : x.trail ≡ start ++ lost_step c object link ∷ of_first ∷ of_stamp ∷ []
  three_steps =
      two_steps ∙ ap (λ (l : List Step). l ++ of_first ∷ of_stamp ∷ []) lost ∙ append_assoc start (lost_step c object link ∷ []) (of_first ∷ of_stamp ∷ [])

  three_kinds : All IsLocks (lost_step c object link ∷ of_first ∷ of_stamp ∷ [])
  three_kinds = All-cons IsLocks (lost_step c object link) (of_first ∷ of_stamp ∷ []) tt two_kinds

  looked_on : (before : ℕ) → Tries from x before (before + 3) (lost_step c object link ∷ [])
  looked_on before = record {
    seen = looked.says.sees.more;
    trail = (lost_step c object link ∷ of_first ∷ of_stamp ∷ [], three_steps, refl, three_kinds);
    exchanges = refl;
    rest = ap (rest_of x) looked.view;
  }

  -- an unset stamp
  pub busy_cause : IsUnset found → IsRefused c from x object (Busy (link_seat_of link))
  busy_cause unset =
      (first.other, found_held c from v x LockHead object link found lost first.stands.link_is looked first.stands.packed.1 unset)

  -- and a time
  pub stale_cause : found < 2 ^ 63 → IsRefused c from x object (Stale found)
  stale_cause low =
      let late = looked.says.late (section_in v) may.phase first.late low in
      let same : time_at x ≡ time_at v = ap time_at looked.view in
      ((omega arith), subst (λ (o : ℕ). IsWriteOf c x.past.seen o found) first.object_is (looked.says.write low))

  pub lost_outcome : (l : Noted) (words : List ℕ) (answer : LockAnswer) (before after : ℕ) → answer ≢ Held → MayWalk x → Stands c v l
      → LockMakes c from x object words answer → after ≡ before + 3
      → Outcome c from x (dropped l) object words answer before after (lost_step c object link ∷ [])
  lost_outcome l words answer before after refused still s makes e =
      let ring : x.ring ≡ v.ring = ap (λ (u : Knowledge). u.ring) looked.view in record {
        may = still;
        stands = stands_dropped c x l
            (stands_on c v x l (of_first ∷ of_stamp ∷ []) (ap (λ (u : Knowledge). u.number) looked.view) ring (ap (λ (u : Knowledge). u.past.mine) looked.view)
            (ap (λ (u : Knowledge). u.past.rests) looked.view) two_steps two_kinds (none_won (of_first ∷ of_stamp ∷ []) refl) s);
        unbuilt = refl;
        makes = makes;
        sees = λ held. absurd (refused held);
        keeps = λ _. (ap (own_of c) ring, ap spare_count ring);
        tries = subst (λ (n : ℕ). Tries from x before n (lost_step c object link ∷ [])) (sym e) (looked_on before);
      }

  -- the answer for another log's notes and counter that are these
  pub lost_busy : (l m : Noted) (words : List ℕ) (seat before after : ℕ) → MayWalk x → Stands c v l → m ≡ dropped l → seat ≡ link_seat_of link → IsUnset found
      → after ≡ before + 3 → Outcome c from x m object words (Busy seat) before after (lost_step c object link ∷ [])
  lost_busy l m words seat before after still s is seat_is unset e =
      subst (λ (k : Noted). Outcome c from x k object words (Busy seat) before after (lost_step c object link ∷ [])) (sym is)
      (subst (λ (q : ℕ). Outcome c from x (dropped l) object words (Busy q) before after (lost_step c object link ∷ [])) (sym seat_is)
      (lost_outcome l words (Busy (link_seat_of link)) before after (λ held. cc) still s (busy_cause unset) e))

  pub lost_stale : (l m : Noted) (words : List ℕ) (before after : ℕ) → MayWalk x → Stands c v l → m ≡ dropped l → found < 2 ^ 63 → after ≡ before + 3
      → Outcome c from x m object words (Stale found) before after (lost_step c object link ∷ [])
  lost_stale l m words before after still s is low e =
      subst (λ (k : Noted). Outcome c from x k object words (Stale found) before after (lost_step c object link ∷ [])) (sym is)
      (lost_outcome l words (Stale found) before after (λ held. cc) still s (stale_cause low) e)
