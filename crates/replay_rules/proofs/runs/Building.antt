-- What a lock builds, word by word, in the slot of the next position.
use Rattle.std.proofs.Common.{◌≡◌, ◌≢◌, ℕ, ◌+◌, ◌<◌, ◌^◌, ◌==◌, ◌&&◌, ltb, not, Bool, true, false, List, length, Option}
use Rattle.std.proofs.Common.{Some, None, refl, sym, ap, ◌∙◌, subst, arith, lt-ltb, eq-eqb, eqb-true, if◌then◌else◌}
use Rattle.std.specs.Prelude.{unwrap_or}
use Rattle.mv_layout.specs.Words.{link_of}
use Rattle.mv_core.proofs.Terms.{Config, Checked}
use Rattle.mv_core.specs.declared.ring.Build as core
use Rattle.mv_core.specs.declared.ring.Slot.{Slot}
use Rattle.mv_core.specs.declared.ring.Slot.TheVariants as slots
use Rattle.mv_core.specs.declared.view.Knowledge.{Knowledge}
use Rattle.mv_core.specs.declared.view.OwnSection.{OwnSection}
use Rattle.mv_core.specs.Rings.{slot_at, index_of}
use Rattle.mv_core.specs.Times.{words_of}
use Rattle.mv_core.specs.Views.{time_in}
use Rattle.mv_core.specs.LockSteps.{nothing_built, build_in, built_too, built_stored}
use Rattle.seat_log.specs.declared.version.Note.{Note}
use Rattle.seat_log.specs.Notes.{Noted}
use Rattle.seat_log.specs.Stands.{Stands}
use Rattle.seat_log.specs.Builds.{build_at, stored_next, MayBuild}
use Rattle.seat_log.proofs.BuildsOn.{BuildsOn, builds_first}
use Rattle.seat_log.proofs.Standing.{may_build, stands_on, built_is_log}
use Rattle.replay_rules.specs.declared.seats.NotedVersion.{NotedVersion}
use Rattle.replay_rules.specs.Tasks.{link_to}
use Rattle.replay_rules.proofs.runs.Sections.{Logs, InSection}
use Rattle.replay_rules.proofs.runs.Standing.{HasFields, Builds}
use Rattle.replay_rules.proofs.runs.LogFacts.{noted_long, next_long}
use Rattle.replay_rules.proofs.runs.Known.{and_right}

-- the first of another write set isn't the position that is built
pub other_first : (version : NotedVersion) (at field : ℕ) → ((field == 0) && not (version.first == at)) ≡ true → version.first ≢ at
other_first version at field e same =
    let t = eq-eqb version.first at same in
    let f : not (version.first == at) ≡ false = ap not t in
    let g : ((field == 0) && false) ≡ true = ap (λ x. (field == 0) && x) (sym f) ∙ e in
    let h = and_right (field == 0) false g in absurd (cc)

-- and the first of its own is
pub own_first : (version : NotedVersion) (at field : ℕ) → field + 1 ≡ 1 → ((field == 0) && not (version.first == at)) ≡ false → version.first ≡ at
own_first version at field z e =
    let zero : field ≡ 0 = omega (arith, z) in
    let f : (true && not (version.first == at)) ≡ false = ap (λ x. x && not (version.first == at)) (sym (eq-eqb field 0 zero)) ∙ e in
    eqb-true version.first at (not_not (version.first == at) f)
  where
    not_not : (x : Bool) → (true && not x) ≡ false → x ≡ true
    not_not true f = refl
    not_not false f = absurd (cc)

-- a link to a position that fits one
pub link_is : (n at : ℕ) → n < 64 → at < 2 ^ 57 → link_to n at ≡ link_of n at
link_is n at seat lt =
    ap (λ b. if b && ltb at 144115188075855872 then link_of n at else 0) (lt-ltb n 64 seat)
    ∙ ap (λ b. if b then link_of n at else 0) (lt-ltb at 144115188075855872 (omega (arith, lt)))

-- what a lock builds stays with the section and what was seen
pub builds_stay : (c : Config) (v w : Knowledge) (i : OwnSection) (log : List NotedVersion) (from o : ℕ) (version : NotedVersion) (at : ℕ) → w.start ≡ v.start
    → w.past ≡ v.past
    → Builds c v i log from o version at → Builds c w i log from o version at
builds_stay c v w i log from o version at start past k = record {
  object_is = k.object_is;
  at_is = k.at_is;
  first_is = k.first_is;
  words = k.words ∙ (λ j. words_of c (sym start j) (sym past j).seen (time_in i) o);
  wide = k.wide;
  small = k.small;
  small_link = k.small_link;
  no_time = k.no_time;
  no_death = k.no_death;
}

module _ (c : Config) (k : Checked c) (v : Knowledge) (log : List NotedVersion) (freed from : ℕ) (time : Option ℕ) (at : ℕ)
    (inside : InSection c v log freed from time) (room : length log < freed + c.slots) (at_is : at ≡ length log) where
  abbrev l : Noted
  l = inside.logs.noted

  live_room : length inside.logs.noted.live < inside.logs.noted.slots
  live_room = let long = noted_long c l log freed from inside.logs.is in let slots = inside.logs.stands.slots in omega (arith, long, room, slots)

  at_next : at ≡ v.ring.next
  at_next = at_is ∙ sym (next_long c k v log freed from inside.logs)

  pub may_build_here : MayBuild c v at
  may_build_here = may_build c v l inside.logs.stands at at_next (inside.section, inside.walking.phase, inside.walking.open_is) live_room

  -- the notes stand for the view with one word more in the slot that is built, which is there
  module _ (field x : ℕ) (six : length (built_too (build_at c v at) field x).words ≡ 6) where
    abbrev w : Knowledge
    w = built_stored c v at field x (build_at c v at)

    on : BuildsOn c v (built_stored c v at field x (build_at c v at)) at (built_too (build_at c v at) field x)
    unfolding stored_next
    on = builds_first c v at field x may_build_here.within

    pub build_now : build_at c (built_stored c v at field x (build_at c v at)) at ≡ built_too (build_at c v at) field x
    build_now = ap (λ (z : Slot). unwrap_or (build_in z) nothing_built) on.here

    pub logs_built : Logs c (built_stored c v at field x (build_at c v at)) log freed from
    logs_built =
        let is_log = built_is_log l None (let r = live_room in omega (arith, r)) tt inside.logs.stands.log in
        let so = stands_on c v w l at (built_too (build_at c v at) field x) inside.logs.stands live_room at_next on None is_log six tt in
        record {
          noted = l;
          stands = subst (Stands c w) (ap (λ (o : Option Note). record l { built = o }) (sym inside.logs.is.unbuilt)) so;
          is = inside.logs.is;
        }

  -- the slot that was built whole
  pub built_there : (version : NotedVersion) (field : ℕ) → HasFields (build_at c v at) version at field → 0 < field
      → slot_at v.ring (index_of c at) ≡ slots.Built (build_at c v at)
  built_there version field has some = go (slot_at v.ring (index_of c at)) refl
    where
      go : (z : Slot) → slot_at v.ring (index_of c at) ≡ z → z ≡ slots.Built (build_at c v at)
      go slots.Free e =
          let none : build_at c v at ≡ nothing_built = ap (λ (y : Slot). unwrap_or (build_in y) nothing_built) e in
          let f : None ≡ Some version.first = sym (ap (λ (y : core.Build). y.first) none) ∙ has.first some in
          absurd (cc)
      go (slots.Built b) e = ap slots.Built (sym (ap (λ (y : Slot). unwrap_or (build_in y) nothing_built) e))
      go (slots.Live x st) e =
          let spare = may_build_here.spare in
          let f : None ≡ Some spare.0 = sym (ap build_in e) ∙ spare.1 in
          absurd (cc)
      go (slots.Freeing p f) e =
          let spare = may_build_here.spare in
          let g : None ≡ Some spare.0 = sym (ap build_in e) ∙ spare.1 in
          absurd (cc)
