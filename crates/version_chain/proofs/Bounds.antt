-- How many steps a walk has made, and that it ends: below a version that it has passed the times fall.
use Rattle.std.proofs.Common.{◌≡◌, ◌⊎◌, ℕ, ◌+◌, ◌-◌, ◌*◌, ◌<◌, ◌≤◌, ◌^◌, ◌==◌, Bool, true, false}
use Rattle.std.proofs.Common.{if◌then◌else◌, length, sym, ap, ◌∙◌, subst, inl, inr, ⊎_elim, le-leb, length-append, arith, Option, Some, None, Ok}
use Rattle.std.proofs.lemmas.Bool.{lt-leb, cases_lt}
use Rattle.mv_layout.specs.declared.Config.{Config}
use Rattle.mv_layout.specs.Words.{IsUnset}
use Rattle.mv_core.specs.declared.view.Knowledge.{Knowledge}
use Rattle.mv_core.specs.declared.view.WalkStage as core
use Rattle.mv_core.specs.declared.view.WalkStage.TheVariants as place
use Rattle.mv_core.specs.declared.view.Passed.{Passed}
use Rattle.mv_core.specs.declared.view.Passed.TheVariants.{Nothing, Unset, Time}
use Rattle.mv_core.specs.WalkFacts.{HasPassed, IsBelowPassed}
use Rattle.mv_core.specs.WalkSteps.{stand_at, passed_unset, passed_too}
use Rattle.mv_core.specs.declared.view.OwnSection.{OwnSection}
use Rattle.mv_core.specs.WalkSteps.{head_loaded}
use Rattle.version_chain.specs.declared.walking.Walk.{Walk}
use Rattle.version_chain.specs.declared.walking.FoundVersion.{FoundVersion}
use Rattle.version_chain.specs.Walks.{time_at, stand_in, StandsAt, GoesOn, Walks, Answers, snapshot_length}
use Rattle.version_chain.proofs.Standing.{stands_here, stand_is}

-- how many steps at most, by what the walk has passed: the snapshot has length `at`, and what was seen has length `long`
abbrev pub PassedWithin : ℕ → ℕ → ℕ → Passed → ℕ → ℕ → Type 0
PassedWithin base at long Nothing before after = after ≤ before + 1
PassedWithin base at long Unset before after = after ≤ before + 4
PassedWithin base at long (Time least) before after = (base + at < least) × (least ≤ base + long) × (after ≤ before + (7 + 3 * (base + long - least)))

-- the same of where the walk stands
abbrev pub WalkedWithin : ℕ → ℕ → ℕ → core.WalkStage → ℕ → ℕ → Type 0
WalkedWithin base at long (place.At stand) before after = PassedWithin base at long stand.passed before after
WalkedWithin base at long _ before after = after ≤ before + (4 + 3 * (long - at))

-- what falls at each version passed: the least time, or above all times two numbers for an unset stamp and for nothing
abbrev pub passed_left : Passed → ℕ
passed_left Nothing = 9223372036854775809
passed_left Unset = 9223372036854775808
passed_left (Time least) = least

-- the same of where the walk stands; at a master nothing is left
abbrev pub walk_left : core.WalkStage → ℕ
walk_left (place.At stand) = 1 + passed_left stand.passed
walk_left _ = 0

passed_few : (base at long : ℕ) (passed : Passed) (before after : ℕ) → PassedWithin base at long passed before after → after ≤ before +
    (4 + 3 * (long - at))
passed_few base at long Nothing before after few = omega arith
passed_few base at long Unset before after few = omega arith
passed_few base at long (Time least) before after few = let a = few.0 in let b = few.1 in let d = few.2 in omega arith

-- wherever it stands, a walk may look at one version more
pub few_steps : (base at long : ℕ) (walk : core.WalkStage) (before after : ℕ) → WalkedWithin base at long walk before after → after ≤ before +
    (4 + 3 * (long - at))
few_steps base at long (place.At stand) before after few = passed_few base at long stand.passed before after few
few_steps base at long (place.Master o) before after few = few
few_steps base at long place.Nowhere before after few = few

-- where a walk goes that found this link, it has made as many steps
pub stands_within : (base at long object link : ℕ) (passed : Passed) (before after : ℕ) → PassedWithin base at long passed before after
    → WalkedWithin base at long (stand_at object link passed false) before after
stands_within base at long object link passed before after few =
    elim (link == 0) as
    (λ b. WalkedWithin base at long
    (if b then place.Master object else place.At (record { object = object; link = link; first = None; stamp = None; passed = passed; late = false }))
    before after) [
      | true ↦ passed_few base at long passed before after few
      | false ↦ few
    ]

left_below : (object link left : ℕ) (passed : Passed) → passed_left passed < left → walk_left (stand_at object link passed false) < 1 + left
left_below object link left passed lt =
    elim (link == 0) as
    (λ b. walk_left
    (if b then place.Master object else place.At (record { object = object; link = link; first = None; stamp = None; passed = passed; late = false })) < 1
    + left) [
      | true ↦ omega arith
      | false ↦ omega arith
    ]

-- one version more was passed
module _ (base at time long longer found before here after : ℕ) (at_is : at ≡ time - base) (steps : after ≡ here + 3) (more : long ≤ longer)
    (seen : found < 2 ^ 63 → (base < found) × (found ≤ base + longer)) where
  -- what holds after it
  abbrev Passes : Passed → Passed → Type 0
  Passes passed next = PassedWithin base at longer next before after × (passed_left next < passed_left passed)

  passes_unset : (passed : Passed) → PassedWithin base at long passed before here → (HasPassed passed → found < 2 ^ 63) → IsUnset found
      → Passes passed (passed_unset passed)
  passes_unset Nothing few falls unset = (omega arith, omega arith)
  passes_unset Unset few falls unset = let low = falls tt in absurd (omega arith)
  passes_unset (Time least) few falls unset = let low = falls tt in absurd (omega arith)

  passes_time : (passed : Passed) → PassedWithin base at long passed before here → (HasPassed passed → (found < 2 ^ 63) × IsBelowPassed found passed)
      → found < 2 ^ 63 → time < found → Passes passed (Time found)
  passes_time Nothing few falls low later = let s = seen low in let a = s.0 in let b = s.1 in ((omega arith, omega arith, omega arith), omega arith)
  passes_time Unset few falls low later = let s = seen low in let a = s.0 in let b = s.1 in ((omega arith, omega arith, omega arith), omega arith)
  passes_time (Time least) few falls low later =
      let s = seen low in
      let a = s.0 in
      let b = s.1 in
      let d = few.0 in
      let e = few.1 in
      let f = few.2 in
      let below = (falls tt).1 in
      ((omega arith, omega arith, omega arith), omega arith)

  passes : (passed : Passed) → PassedWithin base at long passed before here → (HasPassed passed → (found < 2 ^ 63) × IsBelowPassed found passed)
      → IsUnset found ⊎ (time < found) → Passes passed (passed_too passed (Some found))
  passes passed few falls later =
      elim (cases_lt found 9223372036854775808) [
        | inl low ↦ subst (λ (b : Bool). Passes passed (if b then passed_unset passed else Time found)) (sym (lt-leb 9223372036854775808 found low))
            (passes_time passed few falls low (⊎_elim (λ unset. absurd (omega arith)) (λ lt. lt) later))
        | inr unset ↦ subst (λ (b : Bool). Passes passed (if b then passed_unset passed else Time found)) (sym (le-leb 9223372036854775808 found unset))
            (passes_unset passed few (λ has. (falls has).0) unset)
      ]

-- a walk that goes on has made three steps more, and less is left
pub went_on : (c : Config) (v w : Knowledge) (walk on : Walk) (at before here after : ℕ) → StandsAt c v walk → GoesOn c v w walk on → after ≡ here + 3
    → at ≡ snapshot_length c v → WalkedWithin c.base at (length v.past.seen) v.walk before here
    → WalkedWithin c.base at (length w.past.seen) w.walk before after × (walk_left w.walk < walk_left v.walk)
went_on c v w walk on at before here after stands goes steps at_is few =
    let stand = stand_in v in
    let is : v.walk ≡ place.At stand = stand_is v _ (stands_here v walk.object walk.link stand.passed goes.linked stands.stands) in
    let longer : length v.past.seen ≤ length w.past.seen =
    let more = goes.says.sees.more in let l = ap length more.1 ∙ length-append v.past.seen more.0 in omega arith in
    let on_is : w.walk ≡ stand_at stand.object on.link (passed_too stand.passed (Some goes.found)) false = ap (λ (u : Knowledge). u.walk) goes.view in
    let t = passes c.base at (time_at v) (length v.past.seen) (length w.past.seen) goes.found before here after at_is steps longer
    (λ low. ((goes.says.write low).1.0, goes.says.sees.time low))
    stand.passed (subst (λ (k : core.WalkStage). WalkedWithin c.base at (length v.past.seen) k before here) is few) goes.says.falls goes.later in (
      subst (λ (k : core.WalkStage). WalkedWithin c.base at (length w.past.seen) k before after) (sym on_is)
          (stands_within c.base at (length w.past.seen) stand.object on.link (passed_too stand.passed (Some goes.found)) before after t.0),
      subst (λ (k : core.WalkStage). walk_left w.walk < walk_left k) (sym is)
          (subst (λ (k : core.WalkStage). walk_left k < 1 + passed_left stand.passed) (sym on_is)
          (left_below stand.object on.link (passed_left stand.passed) (passed_too stand.passed (Some goes.found)) t.1)),
    )

-- HEAD was loaded
pub started_within : (c : Config) (v w : Knowledge) (inside : OwnSection) (object link at before after : ℕ) → w ≡ head_loaded c v inside object link
    → after ≡ before + 1 → WalkedWithin c.base at (length w.past.seen) w.walk before after
started_within c v w inside object link at before after is one =
    subst (λ (k : core.WalkStage). WalkedWithin c.base at (length w.past.seen) k before after) (sym (ap (λ (u : Knowledge). u.walk) is))
    (stands_within c.base at (length w.past.seen) object link Nothing before after (let le : after ≤ before + 1 = omega arith in le))

-- and where it ends it has made at most two more
pub ends_within : (c : Config) (v w : Knowledge) (walk : Walk) (at before here after : ℕ) (found : Option FoundVersion)
    → WalkedWithin c.base at (length v.past.seen) v.walk before here → Walks v w here after → Answers c v w walk here after (Ok found)
    → after ≤ before + (6 + 3 * (length w.past.seen - at))
ends_within c v w walk at before here after None few walks answers =
    let least = few_steps c.base at (length v.past.seen) v.walk before here few in
    let more = ap length walks.seen.1 ∙ length-append v.past.seen walks.seen.0 in
    let same = answers.2 in
    omega arith
ends_within c v w walk at before here after (Some found) few walks answers =
    let least = few_steps c.base at (length v.past.seen) v.walk before here few in
    let more = ap length walks.seen.1 ∙ length-append v.past.seen walks.seen.0 in
    let two = answers.1 in
    omega arith
