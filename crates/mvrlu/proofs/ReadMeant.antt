-- What reading means.
use Rattle.std.proofs.Common.{◌≡◌, ℕ, ◌+◌, ◌-◌, ◌*◌, ◌≤◌, false, List, [], ◌++◌, length, length-append, arith, All}
use Rattle.std.proofs.Common.{refl, sym, ap, ◌∙◌, subst, append_assoc}
use Rattle.std.proofs.lemmas.List.Elements.{filter-append, All-append, All-weaker}
use Rattle.mv_history.specs.declared.Step.{Step}
use Rattle.mv_history.specs.declared.StepKind.{StepKind}
use Rattle.mv_history.specs.declared.StepKind.TheVariants.{LoadHead, LoadFirst, LoadStamp, LoadPrev}
use Rattle.mv_history.specs.Trail.{is_commit_exchange, commit_exchanges}
use Rattle.mv_history.specs.Calls.{Continues}
use Rattle.mv_layout.specs.declared.Config.{Config}
use Rattle.object_lock.specs.mv_core.declared.view.Knowledge.{Knowledge}
use Rattle.object_lock.specs.mv_core.Views.{time_in}
use Rattle.object_lock.specs.mv_core.Rings.{own_of, spare_count}
use Rattle.object_lock.specs.mv_core.HistoryFacts.{BeginsWith}
use Rattle.mv_history.specs.State.{State, Writes}
use Rattle.object_lock.specs.mv_core.Known.{Known}
use Rattle.object_lock.specs.seat_log.Stands.{Stands}
use Rattle.object_lock.specs.seat_log.Notes.{Noted}
use Rattle.object_lock.proofs.seat_log_lemmas.PlainSteps.{LeavesLog, stands_left}
use Rattle.mvrlu.proofs.Continuing.{continues, busy_on}
use Rattle.object_lock.specs.version_chain.Walks.{Walks, IsWalkStep, inside_of, time_at, snapshot_length, MayWalk}
use Rattle.object_lock.specs.version_chain.Reads.{ReadsSome}
use Rattle.mvrlu.specs.Placed.{Placed, seat_from, section_from, IsBusy}
use Rattle.mvrlu.specs.Bounds.{MakesAtMost}
use Rattle.mvrlu.specs.Standing.{Stays}
use Rattle.mvrlu.proofs.Trails.{made, few_made, none_named}

no_name : (k : StepKind) → IsWalkStep k → is_commit_exchange k ≡ false
no_name LoadHead h = refl
no_name LoadFirst h = refl
no_name LoadStamp h = refl
no_name LoadPrev h = refl
no_name _ h = absurd h

leaves_log : (k : StepKind) → IsWalkStep k → LeavesLog k
leaves_log LoadHead h = (refl, refl)
leaves_log LoadFirst h = (refl, refl)
leaves_log LoadStamp h = (refl, refl)
leaves_log LoadPrev h = (refl, refl)
leaves_log _ h = absurd h

-- what a walk, and a read after it, leave of a view
pub record Looks (v w : Knowledge) : Type 0 where
  pub seen : BeginsWith w.past.seen v.past.seen
  pub steps : List Step
  pub trail : w.trail ≡ v.trail ++ steps
  pub none : commit_exchanges steps ≡ []
  pub leaves : All (λ s. LeavesLog s.kind) steps
  pub rest : w ≡ record v { past = record v.past { seen = w.past.seen }; walk = w.walk; empty = w.empty; trail = w.trail }

pub walked : (v w : Knowledge) (before after : ℕ) → Walks v w before after → Looks v w
walked v w before after k =
    record {
      seen = k.seen;
      steps = k.trail.0;
      trail = k.trail.1;
      none = none_named IsWalkStep no_name k.trail.0 k.trail.3;
      leaves = All-weaker (λ
          (s : Step). IsWalkStep s.kind) (λ s. LeavesLog s.kind) (λ s. leaves_log s.kind) k.trail.0 k.trail.3;
      rest = k.rest;
    }

-- and the load of so many words
pub looked : (kind : StepKind) (n : ℕ) → is_commit_exchange kind ≡ false → LeavesLog kind → (v x w : Knowledge) → Looks v x → ReadsSome kind n x w → Looks v w
looked kind n other alone v x w k r = record {
  seen = subst (λ h. BeginsWith h v.past.seen) (sym (ap (λ (u : Knowledge). u.past.seen) r.rest)) k.seen;
  steps = k.steps ++ r.trail.0;
  trail = r.trail.1 ∙ ap (λ t. t ++ r.trail.0) k.trail ∙ append_assoc v.trail k.steps r.trail.0;
  none = filter-append (λ (s : Step). is_commit_exchange s.kind) k.steps r.trail.0 ∙ ap (λ t. t ++ commit_exchanges r.trail.0) k.none
      ∙ none_named (λ q. q ≡ kind) (λ q e. ap is_commit_exchange e ∙ other) r.trail.0 r.trail.3;
  leaves = All-append (λ (s : Step). LeavesLog s.kind) k.steps r.trail.0 k.leaves (All-weaker (λ (s : Step). s.kind ≡ kind) (λ s. LeavesLog s.kind)
      (λ s e. subst LeavesLog (sym e) alone) r.trail.0 r.trail.3);
  rest = r.rest ∙ (λ i. record (k.rest i) { trail = w.trail }) ∙ (let past : x.past.seen ≡ w.past.seen = sym (ap (λ
      (u : Knowledge). u.past.seen) r.rest) in let walk : x.walk ≡ w.walk = sym (ap (λ (u : Knowledge). u.walk) r.rest) in let empty : x.empty ≡ w.empty = sym
      (ap (λ (u : Knowledge). u.empty) r.rest) in
      (λ i. record v { past = record v.past { seen = past i }; walk = walk i; empty = empty i; trail = w.trail }));
}

module _ (p q : Placed) (config : q.config ≡ p.config) (table : q.table ≡ p.table) (t : Looks p.view q.view) where
  pub look_continues : Continues (seat_from p) (seat_from q)
  look_continues =
      continues p q config table t.steps (ap (λ (u : Knowledge). u.number) t.rest) (ap (λ (u : Knowledge). u.start) t.rest)
      (ap (λ (u : Knowledge). u.base) t.rest)
      t.seen t.trail

  look_at : time_at q.view - q.config.base ≡ time_at p.view - p.config.base
  look_at =
      let phase : q.view.phase ≡ p.view.phase = ap (λ (u : Knowledge). u.phase) t.rest in
      (λ i. time_in (inside_of (phase i)) - (config i).base)

  pub look_stays : Stays (section_from p) (section_from q)
  look_stays = (
    record {
      seat = record {
        continues = look_continues;
        mine = ap (λ (u : Knowledge). u.past.mine) t.rest;
        rests = ap (λ
            (u : Knowledge). u.past.rests) t.rest;
        spare = ap (λ (u : Knowledge). spare_count u.ring) t.rest;
      };
      at = look_at;
      own = ap (λ (d : Config). own_of d q.view.ring) config ∙ ap (λ (u : Knowledge). own_of p.config u.ring) t.rest;
    },
    record {
      continues = look_continues;
      mine = ap (λ (u : Knowledge). u.past.mine) t.rest;
      rests = ap (λ (u : Knowledge). u.past.rests) t.rest;
      at = look_at;
      names_no_commit = ap commit_exchanges (made p.view.trail q.view.trail t.steps t.trail) ∙ t.none;
    },
  )

pub look_busy : (starts : State → Type 0) (allows : List ℕ → State → Writes → Type 0) (p q : Placed) → q.config ≡ p.config → IsBusy starts allows p
    → Looks p.view q.view → ∥ Known starts allows q.view ∥₁ → MayWalk q.view → q.log ≡ p.log → IsBusy starts allows q
look_busy starts allows p q config is t known may log =
    let number : q.view.number ≡ p.view.number = ap (λ (u : Knowledge). u.number) t.rest in
    let stands : Stands p.config q.view p.log = stands_left p.config p.view q.view p.log is.placed.stands number (ap (λ (u : Knowledge). u.ring) t.rest)
    (ap (λ (u : Knowledge). u.past.mine) t.rest) (ap (λ (u : Knowledge). u.past.rests) t.rest) t.steps t.trail t.leaves in
    busy_on starts allows p q config is number (ap (λ (u : Knowledge). u.base) t.rest) (ap (λ (u : Knowledge). u.scan) t.rest) known may
    (subst (λ (d : Config). Stands d q.view q.log) (sym config) (subst (λ (m : Noted). Stands p.config q.view m) (sym log) stands))
    (ap (λ (m : Noted). m.built) log ∙ is.placed.unbuilt)
    (subst (λ (m : Noted). m.held ≤ q.config.write_max) (sym log) (subst (λ (d : Config). p.log.held ≤ d.write_max) (sym config) is.few))

-- it makes as few steps as the walk may, and one for each word
pub look_bound : (c : Config) (p q : Placed) (x : Knowledge) (kind : StepKind) (n most before after : ℕ) → c ≡ p.config → (k : Walks p.view x before after)
    → after ≤ before + (6 + 3 * (length x.past.seen - snapshot_length c p.view)) → ReadsSome kind n x q.view → most ≡ 6 + n
    → MakesAtMost (seat_from p) (seat_from q) (most + 3 * (length q.view.past.seen - (section_from p).at))
look_bound c p q x kind n most before after config k few r is =
    let all = k.trail.2 in
    let words = r.trail.2 in
    let long = length-append k.trail.0 r.trail.0 in
    let seen : length q.view.past.seen ≡ length x.past.seen = ap (λ (u : Knowledge). length u.past.seen) r.rest in
    let at : snapshot_length c p.view ≡ (section_from p).at = ap (λ (d : Config). snapshot_length d p.view) config in
    few_made p.view.trail q.view.trail (k.trail.0 ++ r.trail.0) _
    (r.trail.1 ∙ ap (λ (t : List Step). t ++ r.trail.0) k.trail.1 ∙ append_assoc p.view.trail k.trail.0 r.trail.0) (omega arith)
