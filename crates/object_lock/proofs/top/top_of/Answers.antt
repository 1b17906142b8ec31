use Rattle.std.proofs.Common.{ℕ, ◌+◌, ◌<◌, ◌^◌, [], refl, sym, ◌∙◌, subst, arith, ap, inl}
use Rattle.mv_history.specs.declared.StepKind.TheVariants.{LoadData, LoadMaster}
use Rattle.std.specs.Prelude.{unwrap_or}
use Rattle.seat_log.specs.mv_core.Passes.{view, config_of}
use Rattle.version_chain.specs.Walks.{section_in}
use Rattle.object_lock.proofs.Looks.{held_elsewhere, version_there, stands_to_lock, stands_at_lock, words_there}
use Rattle.object_lock.proofs.Looks.{head_tries, looked_tries, tries_read, stands_top}
use Rattle.object_lock.proofs.Looks.{later_commit, head_bound, master_bound, looked_bound, version_bound}
use mathlib.Core.Logic.{dite}
use native.Mathlib.Decide.{dec_lt}
use Rattle.object_lock.specs.Tops.{Tries, FoundHeld}
use Rattle.seat_log.specs.mv_core.declared.view.Knowledge.{Knowledge}
use Rattle.seat_log.specs.mv_core.declared.view.Passed.TheVariants.{Nothing}
use Rattle.version_chain.specs.Reads.{words_in}
use Rattle.seat_log.proofs.OwnSlots.{same_on, of_still}
use Rattle.version_chain.proofs.Going.{may_started}
use Rattle.version_chain.proofs.Looking.{at_master}
use Rattle.object_lock.proofs.top.top_of.Goals as goal

pub returns-then-is_unset-clause-answers : goal.returns-then-is_unset-clause-answers
returns-then-is_unset-clause-answers g c =
    let config = config_of c.args.shared.now in
    let v = view c.args.pass.now in
    let x = view c.stamp_at-stamp.new.pass in
    let r = held_elsewhere config v (view c.load_head-link.new.pass) x c.args.object c.load_head-link.result _ (section_in v) c.if-link-eq0.false
    c.load_head-link.ensures.view c.stamp_at-stamp.ensures.looked c.requires.unheld c.requires.may c.load_head-link.ensures.own
    c.load_head-link.ensures.link (c.if-is_unset.ensures.0 refl) in
    let seat_is = c.link_seat-seat.ensures in
    (λ same. r.0 (sym seat_is ∙ same), subst (λ (s : ℕ). FoundHeld config c.args.object s v.trail x.trail) (sym seat_is) r.1)

pub read_version-requires-clause-stands : goal.read_version-requires-clause-stands
read_version-requires-clause-stands g c =
    let x = view c.stamp_at-stamp.new.pass in
    version_there (config_of c.args.shared.now) (view c.args.pass.now) (view c.load_head-link.new.pass) x c.args.object c.load_head-link.result _
    (section_in (view c.args.pass.now)) c.if-link-eq0.false c.load_head-link.ensures.view c.stamp_at-stamp.ensures.looked
    (c.load_head-link.ensures.link c.if-link-eq0.false) c.slot_linked-slot.result c.slot_linked-slot.ensures
    (let t = c.if-stamp-time.false in let at = c.time.ensures (section_in x) c.stamp_at-stamp.ensures.may.phase in omega arith)

pub returns-clause-answers : goal.returns-clause-answers
returns-clause-answers g c =
    let config = config_of c.args.shared.now in
    let v = view c.args.pass.now in
    let x = view c.stamp_at-stamp.new.pass in
    let y = view c.read_version.new.pass in
    let may = c.stamp_at-stamp.ensures.may in (
      stands_to_lock config v (view c.load_head-link.new.pass) x c.args.object c.load_head-link.result _ (section_in v) c.if-link-eq0.false
          c.load_head-link.ensures.view c.stamp_at-stamp.ensures.looked y c.read_version.ensures.reads c.time.result (c.time.ensures (section_in x) may.phase)
          (let t = c.if-stamp-time.false in omega arith),
      c.read_version.ensures.words ∙ words_there config v (view c.load_head-link.new.pass) x c.args.object c.load_head-link.result _ (section_in v)
          c.if-link-eq0.false c.load_head-link.ensures.view c.stamp_at-stamp.ensures.looked y c.read_version.ensures.reads
          ∙ ap (λ given. unwrap_or given (words_in config y c.args.object)) (sym c.in_default-given.is),
      c.load_head-link.ensures.link,
    )

pub returns-clause-tries : goal.returns-clause-tries
returns-clause-tries g c =
    let config = config_of c.args.shared.now in
    let v = view c.args.pass.now in
    let x = view c.stamp_at-stamp.new.pass in
    let y = view c.read_version.new.pass in
    let t = looked_tries config v (view c.load_head-link.new.pass) x c.args.object c.load_head-link.result _ (section_in v) c.if-link-eq0.false
    c.load_head-link.ensures.view c.stamp_at-stamp.ensures.looked c.args.steps.now in
    subst (λ (n : ℕ). Tries v y c.args.steps.now n [])
    (let a = c.load_head-link.ensures.step in let b = c.stamp_at-stamp.ensures.step in let d = c.read_version.ensures.cost in omega arith)
    (tries_read LoadData tt refl v x y c.args.steps.now (c.args.steps.now + 3) t c.read_version.ensures.reads)

pub returns-then-link-eq0-clause-tries : goal.returns-then-link-eq0-clause-tries
returns-then-link-eq0-clause-tries g c =
    let config = config_of c.args.shared.now in
    let v = view c.args.pass.now in
    let w = view c.load_head-link.new.pass in
    let y = view c.read_master.new.pass in
    subst (λ (n : ℕ). Tries v y c.args.steps.now n [])
    (let a = c.load_head-link.ensures.step in let d = c.read_master.ensures.cost in omega arith)
    (tries_read LoadMaster tt refl v w y c.args.steps.now (c.args.steps.now + 1)
    (head_tries config v w c.args.object c.load_head-link.result (section_in v) c.load_head-link.ensures.view c.args.steps.now) c.read_master.ensures.reads)

pub returns-then-is_unset-clause-tries : goal.returns-then-is_unset-clause-tries
returns-then-is_unset-clause-tries g c =
    let config = config_of c.args.shared.now in
    let v = view c.args.pass.now in
    let x = view c.stamp_at-stamp.new.pass in
    subst (λ (n : ℕ). Tries v x c.args.steps.now n [])
    (let a = c.load_head-link.ensures.step in let b = c.stamp_at-stamp.ensures.step in omega arith)
    (looked_tries config v (view c.load_head-link.new.pass) x c.args.object c.load_head-link.result _ (section_in v) c.if-link-eq0.false
    c.load_head-link.ensures.view c.stamp_at-stamp.ensures.looked c.args.steps.now)

pub returns-then-stamp-time-clause-tries : goal.returns-then-stamp-time-clause-tries
returns-then-stamp-time-clause-tries g c =
    let config = config_of c.args.shared.now in
    let v = view c.args.pass.now in
    let x = view c.stamp_at-stamp.new.pass in
    subst (λ (n : ℕ). Tries v x c.args.steps.now n [])
    (let a = c.load_head-link.ensures.step in let b = c.stamp_at-stamp.ensures.step in omega arith)
    (looked_tries config v (view c.load_head-link.new.pass) x c.args.object c.load_head-link.result _ (section_in v) c.if-link-eq0.false
    c.load_head-link.ensures.view c.stamp_at-stamp.ensures.looked c.args.steps.now)

pub load_head-link-requires : goal.load_head-link-requires
load_head-link-requires g c κs within = (within.0, (within.1, (c.requires.of, (c.requires.range, c.requires.may))))

pub read_master-requires-clause-of : goal.read_master-requires-clause-of
read_master-requires-clause-of g c = of_still c.args.shared.now c.args.pass.now c.load_head-link.new.pass c.load_head-link.ensures.same c.requires.of

pub read_master-requires-clause-may : goal.read_master-requires-clause-may
read_master-requires-clause-may g c =
    may_started (config_of c.args.shared.now) (view c.args.pass.now) (view c.load_head-link.new.pass) c.args.object c.load_head-link.result
    c.load_head-link.ensures.view c.requires.may

pub read_master-requires-clause-stands : goal.read_master-requires-clause-stands
read_master-requires-clause-stands g c =
    at_master (view c.load_head-link.new.pass) c.args.object c.load_head-link.result Nothing c.if-link-eq0.true
    (ap (λ (u : Knowledge). u.walk) c.load_head-link.ensures.view)

pub stamp_at-stamp-requires-clause-of : goal.stamp_at-stamp-requires-clause-of
stamp_at-stamp-requires-clause-of g c = of_still c.args.shared.now c.args.pass.now c.load_head-link.new.pass c.load_head-link.ensures.same c.requires.of

pub stamp_at-stamp-requires-clause-may : goal.stamp_at-stamp-requires-clause-may
stamp_at-stamp-requires-clause-may g c =
    may_started (config_of c.args.shared.now) (view c.args.pass.now) (view c.load_head-link.new.pass) c.args.object c.load_head-link.result
    c.load_head-link.ensures.view c.requires.may

pub stamp_at-stamp-requires-clause-stands : goal.stamp_at-stamp-requires-clause-stands
stamp_at-stamp-requires-clause-stands g c =
    stands_top (config_of c.args.shared.now) (view c.args.pass.now) (view c.load_head-link.new.pass) c.args.object c.load_head-link.result
    (section_in (view c.args.pass.now)) c.if-link-eq0.false c.load_head-link.ensures.view
    c.load_head-link.ensures.link

pub read_version-requires-clause-of : goal.read_version-requires-clause-of
read_version-requires-clause-of g c =
    of_still c.args.shared.now c.args.pass.now c.stamp_at-stamp.new.pass
    (same_on c.args.pass.now c.load_head-link.new.pass c.stamp_at-stamp.new.pass c.load_head-link.ensures.same c.stamp_at-stamp.ensures.same) c.requires.of

pub read_version-requires-clause-may : goal.read_version-requires-clause-may
read_version-requires-clause-may g c = c.stamp_at-stamp.ensures.may

pub returns-then-link-eq0-clause-answers : goal.returns-then-link-eq0-clause-answers
returns-then-link-eq0-clause-answers g c =
    let read = c.read_master.ensures.reads.rest in (
      inl (
        ap (λ (u : Knowledge). u.walk) read ∙ at_master (view c.load_head-link.new.pass) c.args.object c.load_head-link.result Nothing c.if-link-eq0.true
            (ap (λ (u : Knowledge). u.walk) c.load_head-link.ensures.view),
        refl,
      ),
      c.read_master.ensures.words ∙ sym (ap (λ (u : Knowledge). words_in (config_of c.args.shared.now) u c.args.object) read)
          ∙ ap (λ given. unwrap_or given (words_in (config_of c.args.shared.now) (view c.read_master.new.pass) c.args.object)) (sym c.in_default.is),
      λ some. absurd (some refl),
    )

pub returns-then-link-eq0-clause-may : goal.returns-then-link-eq0-clause-may
returns-then-link-eq0-clause-may g c = c.read_master.ensures.may

pub returns-then-link-eq0-clause-ring : goal.returns-then-link-eq0-clause-ring
returns-then-link-eq0-clause-ring g c =
    ap (λ (u : Knowledge). u.ring) c.read_master.ensures.reads.rest ∙ ap (λ (u : Knowledge). u.ring) c.load_head-link.ensures.view

pub returns-then-link-eq0-clause-same : goal.returns-then-link-eq0-clause-same
returns-then-link-eq0-clause-same g c =
    same_on c.args.pass.now c.load_head-link.new.pass c.read_master.new.pass c.load_head-link.ensures.same c.read_master.ensures.same

pub returns-then-link-eq0-clause-bound : goal.returns-then-link-eq0-clause-bound
returns-then-link-eq0-clause-bound g c =
    master_bound c.args.given _ c.load_head-link.new.steps _ c.in_default.is c.load_head-link.ensures.step c.read_master.ensures.cost

pub returns-then-stamp-time-clause-may : goal.returns-then-stamp-time-clause-may
returns-then-stamp-time-clause-may g c = c.stamp_at-stamp.ensures.may

pub returns-then-stamp-time-clause-ring : goal.returns-then-stamp-time-clause-ring
returns-then-stamp-time-clause-ring g c =
    ap (λ (u : Knowledge). u.ring) c.stamp_at-stamp.ensures.looked.view ∙ ap (λ (u : Knowledge). u.ring) c.load_head-link.ensures.view

pub returns-then-stamp-time-clause-same : goal.returns-then-stamp-time-clause-same
returns-then-stamp-time-clause-same g c =
    same_on c.args.pass.now c.load_head-link.new.pass c.stamp_at-stamp.new.pass c.load_head-link.ensures.same c.stamp_at-stamp.ensures.same

pub returns-then-stamp-time-clause-bound : goal.returns-then-stamp-time-clause-bound
returns-then-stamp-time-clause-bound g c = looked_bound c.args.given _ c.load_head-link.new.steps _ c.load_head-link.ensures.step c.stamp_at-stamp.ensures.step

pub returns-clause-may : goal.returns-clause-may
returns-clause-may g c = c.read_version.ensures.may

pub returns-clause-ring : goal.returns-clause-ring
returns-clause-ring g c =
    ap (λ (u : Knowledge). u.ring) c.read_version.ensures.reads.rest ∙ ap (λ (u : Knowledge). u.ring) c.stamp_at-stamp.ensures.looked.view ∙ ap
    (λ (u : Knowledge). u.ring) c.load_head-link.ensures.view

pub returns-clause-same : goal.returns-clause-same
returns-clause-same g c =
    same_on c.args.pass.now c.stamp_at-stamp.new.pass c.read_version.new.pass
    (same_on c.args.pass.now c.load_head-link.new.pass c.stamp_at-stamp.new.pass c.load_head-link.ensures.same c.stamp_at-stamp.ensures.same)
    c.read_version.ensures.same

pub returns-clause-bound : goal.returns-clause-bound
returns-clause-bound g c =
    version_bound c.args.given _ c.load_head-link.new.steps c.stamp_at-stamp.new.steps _ c.in_default-given.is c.load_head-link.ensures.step
    c.stamp_at-stamp.ensures.step c.read_version.ensures.cost

pub returns-then-stamp-time-clause-answers : goal.returns-then-stamp-time-clause-answers
returns-then-stamp-time-clause-answers g c =
    let low : c.stamp_at-stamp.result < 2 ^ 63 =
    dite (dec_lt c.stamp_at-stamp.result 9223372036854775808) (λ lt. lt)
    (λ high. let no_way = c.if-is_unset.ensures.1 (let h = high in omega arith) in absurd (cc)) in
    later_commit (config_of c.args.shared.now) (view c.args.pass.now) (view c.load_head-link.new.pass) (view c.stamp_at-stamp.new.pass) c.args.object
    c.load_head-link.result c.stamp_at-stamp.result (section_in (view c.args.pass.now)) c.if-link-eq0.false c.load_head-link.ensures.view
    c.stamp_at-stamp.ensures.looked c.time.result (c.time.ensures (section_in (view c.stamp_at-stamp.new.pass)) c.stamp_at-stamp.ensures.may.phase)
    c.if-stamp-time.true low

pub returns-in-Some-clause-answers : goal.returns-in-Some-clause-answers
returns-in-Some-clause-answers g c = (
  inl (
    at_master (view c.load_head-link.new.pass) c.args.object c.load_head-link.result Nothing c.if-link-eq0.true
        (ap (λ (u : Knowledge). u.walk) c.load_head-link.ensures.view),
    refl,
  ),
  ap (λ given. unwrap_or given (words_in (config_of c.args.shared.now) (view c.load_head-link.new.pass) c.args.object)) (sym c.in-Some.is),
  λ some. absurd (some refl),
)

pub returns-in-Some-clause-may : goal.returns-in-Some-clause-may
returns-in-Some-clause-may g c =
    may_started (config_of c.args.shared.now) (view c.args.pass.now) (view c.load_head-link.new.pass) c.args.object c.load_head-link.result
    c.load_head-link.ensures.view c.requires.may

pub returns-in-Some-clause-tries : goal.returns-in-Some-clause-tries
returns-in-Some-clause-tries g c =
    let w = view c.load_head-link.new.pass in
    subst (λ (n : ℕ). Tries (view c.args.pass.now) w c.args.steps.now n []) (sym c.load_head-link.ensures.step)
    (head_tries (config_of c.args.shared.now) (view c.args.pass.now) w c.args.object c.load_head-link.result (section_in (view c.args.pass.now))
    c.load_head-link.ensures.view c.args.steps.now)

pub returns-in-Some-clause-bound : goal.returns-in-Some-clause-bound
returns-in-Some-clause-bound g c = head_bound c.args.given _ c.load_head-link.new.steps c.load_head-link.ensures.step

pub returns-in-Some-given-clause-answers : goal.returns-in-Some-given-clause-answers
returns-in-Some-given-clause-answers g c =
    let config = config_of c.args.shared.now in
    let v = view c.args.pass.now in
    let x = view c.stamp_at-stamp.new.pass in
    let may = c.stamp_at-stamp.ensures.may in (
      stands_at_lock config v (view c.load_head-link.new.pass) x c.args.object c.load_head-link.result _ (section_in v) c.if-link-eq0.false
          c.load_head-link.ensures.view c.stamp_at-stamp.ensures.looked c.time.result (c.time.ensures (section_in x) may.phase)
          (let t = c.if-stamp-time.false in omega arith),
      ap (λ given. unwrap_or given (words_in config x c.args.object)) (sym c.in-Some-given.is),
      c.load_head-link.ensures.link,
    )

pub returns-in-Some-given-clause-tries : goal.returns-in-Some-given-clause-tries
returns-in-Some-given-clause-tries g c =
    let config = config_of c.args.shared.now in
    let v = view c.args.pass.now in
    let x = view c.stamp_at-stamp.new.pass in
    subst (λ (n : ℕ). Tries v x c.args.steps.now n [])
    (let a = c.load_head-link.ensures.step in let b = c.stamp_at-stamp.ensures.step in omega arith)
    (looked_tries config v (view c.load_head-link.new.pass) x c.args.object c.load_head-link.result _ (section_in v) c.if-link-eq0.false
    c.load_head-link.ensures.view c.stamp_at-stamp.ensures.looked c.args.steps.now)

pub returns-in-Some-given-clause-bound : goal.returns-in-Some-given-clause-bound
returns-in-Some-given-clause-bound g c =
    looked_bound c.args.given _ c.load_head-link.new.steps _ c.load_head-link.ensures.step c.stamp_at-stamp.ensures.step
