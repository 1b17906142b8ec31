-- Freeing the oldest write set, one after another.
use Rattle.std.proofs.Common.{◌≡◌, ℕ, zero, suc, ◌+◌, ◌<◌, ◌≤◌, List, [], ◌∷◌, ◌++◌, length, drop, All, refl, sym, ap}
use Rattle.std.proofs.Common.{◌∙◌, subst, ⊎_elim, arith, append-nil, append_assoc, length-append, length-drop, Some, None}
use Rattle.std.proofs.lemmas.List.Elements.{All-nil, All-push, All-append, All-weaker}
use Rattle.mv_history.specs.declared.Step.{Step}
use Rattle.mv_history.specs.declared.StepKind.{StepKind}
use Rattle.mv_history.specs.declared.StepKind.TheVariants.{StoreFree}
use Rattle.mv_layout.specs.declared.Config.{Config}
use Rattle.mv_layout.specs.declared.SharedWord.TheVariants.{Stamp}
use Rattle.mv_layout.specs.Places.{place_of}
use Rattle.seat_log.specs.mv_core.declared.view.Knowledge.{Knowledge}
use Rattle.seat_log.specs.mv_core.declared.view.WalkStage.TheVariants.{Nowhere}
use Rattle.seat_log.specs.mv_core.EnterSteps.{MayLoadLow}
use Rattle.seat_log.specs.mv_core.Rings.{index_of}
use Rattle.seat_log.specs.mv_core.ReclaimSteps.{free_stored}
use Rattle.seat_log.specs.declared.version.Note.{Note}
use Rattle.seat_log.specs.Notes.{Noted, IsLog}
use Rattle.seat_log.specs.Frees.{OldestIsDead, FreesSet, freed_noted, slots_freed}
use Rattle.seat_log.proofs.FreedLogs.{few_freed}
use Rattle.seat_log.proofs.NotedSlots.{note_there}
use Rattle.log_reclaim.specs.Parts.{IsReclaimKind, IsOtherKind}
use Rattle.log_reclaim.specs.Tries.{Makes}
use Rattle.log_reclaim.specs.Rounds.{FreesAll}
use Rattle.log_reclaim.proofs.Reclaiming.{reclaims_outside, makes_none, makes_on, reclaims_may, reclaims_still}

-- one more is dropped after others
drops : (a b : ℕ) (ns : List Note) → drop b (drop a ns) ≡ drop (a + b) ns
drops zero b ns = ap (λ k. drop k ns) (let e : b ≡ 0 + b = omega arith in e)
drops (suc a) zero [] = ap (λ k. drop k []) (let e : suc (a + 0) ≡ suc a + 0 = omega arith in e)
drops (suc a) (suc b) [] = ap (λ k. drop k []) (let e : suc (a + suc b) ≡ suc a + suc b = omega arith in e)
drops (suc a) b (n ∷ ns) = drops a b ns ∙ ap (λ k. drop k (n ∷ ns)) (let e : suc (a + b) ≡ suc a + b = omega arith in e)

-- the frees of one set: of the view nothing changes but the log and the trail, which is longer by these steps
record FreesSlots (v w : Knowledge) (steps : List Step) (count : ℕ) : Type 0 where
  view : w ≡ record v { ring = w.ring; trail = w.trail }
  trail : w.trail ≡ v.trail ++ steps
  kinds : All (λ s. s.kind ≡ StoreFree) steps
  long : length steps ≡ count

slots_view : (c : Config) (v : Knowledge) (p k : ℕ) → (steps : List Step) × FreesSlots v (slots_freed c v p k) steps k
unfolding slots_freed
slots_view c v p zero = ([], record { view = refl; trail = sym (append-nil v.trail); kinds = All-nil (λ s. s.kind ≡ StoreFree); long = refl })
slots_view c v p (suc k) =
    let a = slots_view c v p k in
    let u : Knowledge = slots_freed c v p k in
    let w : Knowledge = free_stored c u (p + k) in
    let step : Step = record { kind = StoreFree; word = place_of c (Stamp u.number (index_of c (p + k))); found = None; stored = Some 0 } in (
      a.0 ++ step ∷ [],
      record {
        view = ap (λ (x : Knowledge). record x { ring = w.ring; trail = w.trail }) a.1.view;
        trail = ap (λ l. l ++ step ∷ []) a.1.trail ∙ append_assoc v.trail a.0 (step ∷ []);
        kinds = All-push (λ (s : Step). s.kind ≡ StoreFree) a.0 step a.1.kinds refl;
        long = (let e = length-append a.0 (step ∷ []) in let few = a.1.long in omega arith);
      },
    )

-- a free of a slot is a step of reclaiming, begins no scan, and is no exchange on CLOCK
pub free_kind : (P : StepKind → Type 0) → P StoreFree → (steps : List Step) → All (λ s. s.kind ≡ StoreFree) steps → All (λ (s : Step). P s.kind) steps
free_kind P p steps = All-weaker (λ (s : Step). s.kind ≡ StoreFree) (λ (s : Step). P s.kind) (λ s e. subst P (sym e) p) steps

frees_makes : (v w : Knowledge) (steps : List Step) (count : ℕ) → MayLoadLow v → (v.walk ≡ Nowhere) × (v.back ≡ None) → FreesSlots v w steps count
    → Makes v w steps
frees_makes v w steps count may still k =
    let e = k.view in record {
      reclaims = reclaims_outside v w steps may still
          (ap (λ (x : Knowledge). record x { past = w.past; clocks = w.clocks; empty = w.empty; ring = w.ring; grace = w.grace; trail = w.trail }) e)
          ([], ap (λ (x : Knowledge). x.past.seen) e ∙ sym (append-nil v.past.seen))
          (ap (λ (x : Knowledge). x.past.mine) e)
          (let same : w.grace ≡ v.grace = ap (λ (x : Knowledge). x.grace) e in omega arith)
          k.trail
          (free_kind IsReclaimKind tt steps k.kinds);
      rests = ap (λ (x : Knowledge). x.past.rests) e;
      kinds = free_kind IsOtherKind tt steps k.kinds;
    }

-- so many slots were freed so far, by one step each
pub record FreesSome (v w : Knowledge) (l m : Noted) (made : List Step) (freed : ℕ) : Type 0 where
  pub makes : Makes v w made
  pub kinds : All (λ s. s.kind ≡ StoreFree) made
  pub long : length made ≡ freed
  pub view : w ≡ record v { ring = w.ring; trail = w.trail }
  pub few : freed ≤ length l.live
  pub log : m ≡ freed_noted l freed

pub frees_none : (v : Knowledge) (l : Noted) → MayLoadLow v → (v.walk ≡ Nowhere) × (v.back ≡ None) → FreesSome v v l l [] 0
frees_none v l may still = record {
  makes = makes_none v may still;
  kinds = All-nil (λ s. s.kind ≡ StoreFree);
  long = refl;
  view = refl;
  few = omega arith;
  log = λ i. record l { freed = (let e : l.freed ≡ l.freed + 0 = omega arith in e) i };
}

module _ (c : Config) (v w : Knowledge) (l m : Noted) (made : List Step) (freed : ℕ) (k : FreesSome v w l m made freed) (t count : ℕ)
    (f : FreesSet m t count) where
  -- there are so many versions fewer
  fewer : length m.live + freed ≡ length l.live
  fewer =
      let e : length m.live ≡ length (drop freed l.live) = ap (λ (n : Noted). length n.live) k.log in
      let d = length-drop freed l.live in let few = k.few in omega arith

  -- one set more
  pub frees_more : (u : Knowledge) (n : Noted) → u ≡ slots_freed c w m.freed count → n ≡ freed_noted m count
      → (more : List Step) × FreesSome v u l n more (freed + count)
  frees_more u n view log =
      let a = slots_view c w m.freed count in
      let one : FreesSlots w u a.0 count = subst (λ (x : Knowledge). FreesSlots w x a.0 count) (sym view) a.1 in
      let makes = frees_makes w u a.0 count (reclaims_may v w made k.makes.reclaims) (reclaims_still v w made k.makes.reclaims) one in
      let all = fewer in
      let some = few_freed m t count f in (
        made ++ a.0,
        record {
          makes = makes_on v w u made a.0 k.makes makes;
          kinds = All-append (λ (s : Step). s.kind ≡ StoreFree) made a.0 k.kinds one.kinds;
          long = (let e = length-append made a.0 in let before = k.long in let more = one.long in omega arith);
          view = one.view ∙ ap (λ (x : Knowledge). record x { ring = u.ring; trail = u.trail }) k.view;
          few = omega arith;
          log = log
              ∙ ap (λ (x : Noted). freed_noted x count) k.log
              ∙ (λ i. record l
              { live = drops freed count l.live i; freed = (let e : l.freed + freed + count ≡ l.freed + (freed + count) = omega arith in e) i });
        },
      )

-- where nothing is freed and the log has a version, the oldest write set isn't dead
none_dead : (m : Noted) (t count : ℕ) → IsLog m → FreesSet m t count → count ≡ 0 → 0 < length m.live → OldestIsDead m t → ⊥
none_dead m t count log f none some dead =
    let r = note_there m.live 0 some in
    let first = log.notes.first 0 r.0 r.1 in
    let low = first.0 in
    let high = first.1 in
    let place = log.notes.position 0 r.0 r.1 in
    ⊎_elim (λ a. a.1.outside 0 r.0 r.1 (omega arith) (let e : r.0.first ≡ m.freed = omega arith in e)) (λ b. b.0 dead) f

-- no set more
pub frees_end : (c : Config) (v w : Knowledge) (l m : Noted) (made : List Step) (freed t count : ℕ) → FreesSome v w l m made freed → IsLog m
    → FreesSet m t count → count ≡ 0 → (u : Knowledge) (n : Noted) → u ≡ slots_freed c w m.freed count → n ≡ freed_noted m count
    → (more : List Step) × FreesAll v u l n more t freed
frees_end c v w l m made freed t count k log f none u n view is =
    let a = frees_more c v w l m made freed k t count f u n view is in
    let all : freed + count ≡ freed = omega arith in
    let same : m ≡ n = (λ i. record m { freed = (let e : m.freed ≡ m.freed + 0 = omega arith in e) i }) ∙ ap (freed_noted m) (sym none) ∙ sym is in
    let fewer = a.1.few in (
      a.0,
      record {
        makes = a.1.makes;
        kinds = a.1.kinds;
        long = a.1.long ∙ all;
        view = a.1.view;
        few = omega arith;
        log = subst (λ (x : ℕ). n ≡ freed_noted l x) all a.1.log;
        kept = subst (λ (x : Noted). 0 < length x.live → OldestIsDead x t → ⊥) same (none_dead m t count log f none);
      },
    )
