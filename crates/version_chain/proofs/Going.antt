-- One walk after another leaves what a walk leaves.
use Rattle.std.proofs.Common.{◌≡◌, ℕ, ◌+◌, ◌<◌, List, [], ◌∷◌, ◌++◌, refl, sym, ap, ◌∙◌, subst, append_assoc}
use Rattle.std.proofs.Common.{length-append, arith}
use Rattle.std.proofs.lemmas.List.Elements.{All-nil, All-cons, All-append}
use Rattle.mv_history.specs.declared.Protocol.{Ghosts}
use Rattle.mv_history.specs.declared.Entry.{Entry}
use Rattle.mv_history.specs.declared.Step.{Step}
use Rattle.mv_layout.specs.declared.Config.{Config}
use Rattle.mv_history.specs.declared.StepKind.{StepKind}
use Rattle.mv_core.specs.declared.view.Knowledge.{Knowledge}
use Rattle.mv_core.specs.declared.view.Phase.TheVariants.{Inside}
use Rattle.mv_core.specs.declared.view.OwnSection.{OwnSection}
use Rattle.mv_core.specs.declared.view.LoadedClocks.{LoadedClocks}
use Rattle.mv_core.specs.declared.shared.Pass.{Pass}
use Rattle.mv_core.specs.declared.shared.Shared.{Shared}
use Rattle.mv_core.specs.Passes.{IsOf, IsSame, config_of}
use Rattle.mv_core.specs.WalkSteps.{head_loaded, first_loaded, stamp_loaded, prev_loaded}
use Rattle.mv_core.specs.SectionFacts.{IsPastHelp}
use Rattle.version_chain.specs.Reads.{ReadsSome}
use Rattle.version_chain.specs.Walks.{inside_of, section_in, stand_in, MayWalk, IsWalkStep, Walks, snapshot_length}

-- a pass that steps stays of its domain
pub same_on : {P : Type 0} {g : Ghosts P} (p q r : Pass P g) → IsSame p q → IsSame q r → IsSame p r
same_on p q r a b = (b.0 ∙ a.0, b.1 ∙ a.1, b.2 ∙ a.2, b.3 ∙ a.3, b.4 ∙ a.4, b.5 ∙ a.5)

pub of_still : {P : Type 0} {g : Ghosts P} (s : Shared P) (p q : Pass P g) → IsSame p q → IsOf s p → IsOf s q
of_still s p q same of =
    (same.0 ∙ of.0, subst (λ (n : ℕ). n < (config_of s).seats) (sym same.1) of.1, same.3 ∙ of.2, same.4 ∙ of.3, same.2 ∙ of.4)

pub walks_on : (u v w : Knowledge) (first second third : ℕ) → Walks u v first second → Walks v w second third → Walks u w first third
walks_on u v w first second third a b = record {
  seen = (a.seen.0 ++ b.seen.0, b.seen.1 ∙ ap (λ (l : List Entry). l ++ b.seen.0) a.seen.1 ∙ append_assoc u.past.seen a.seen.0 b.seen.0);
  trail =
      let s = a.trail in
      let t = b.trail in
      let long = length-append s.0 t.0 in
      let one = s.2 in
      let two = t.2 in (
        s.0 ++ t.0,
        t.1 ∙ ap (λ (l : List Step). l ++ t.0) s.1 ∙ append_assoc u.trail s.0 t.0,
        (omega arith),
        All-append (λ x. IsWalkStep x.kind) s.0 t.0 s.3 t.3,
      );
  rest = b.rest ∙ ap (λ (x : Knowledge). record x { past = record x.past { seen = w.past.seen }; walk = w.walk; empty = w.empty; trail = w.trail }) a.rest;
}

-- One reader after another leaves what a reader of as many words leaves.
pub reads_on : (kind : StepKind) (n m : ℕ) (u v w : Knowledge) → ReadsSome kind n u v → ReadsSome kind m v w → ReadsSome kind (n + m) u w
reads_on kind n m u v w a b = record {
  trail =
      let s = a.trail in
      let t = b.trail in
      let long = length-append s.0 t.0 in
      let one = s.2 in
      let two = t.2 in (
        s.0 ++ t.0,
        t.1 ∙ ap (λ (l : List Step). l ++ t.0) s.1 ∙ append_assoc u.trail s.0 t.0,
        (omega arith),
        All-append (λ x. x.kind ≡ kind) s.0 t.0 s.3 t.3,
      );
  rest = b.rest ∙ ap (λ (x : Knowledge). record x { trail = w.trail }) a.rest;
}

-- two loads that only join the trail, each of one word
pub reads_two : (kind : StepKind) (v w x : Knowledge) (s t : Step) → w ≡ record v { trail = v.trail ++ s ∷ [] } → x ≡ record w
    { trail = w.trail ++ t ∷ [] }
    → s.kind ≡ kind → t.kind ≡ kind → ReadsSome kind 2 v x
reads_two kind v w x s t first second one two =
    reads_on kind 1 1 v w x
    (record {
      trail = (s ∷ [], ap (λ (u : Knowledge). u.trail) first, refl, All-cons (λ y. y.kind ≡ kind) s [] one (All-nil (λ y. y.kind ≡ kind)));
      rest = ap (λ (u : Knowledge). record u { trail = w.trail }) first;
    })
    (record {
      trail = (t ∷ [], ap (λ (u : Knowledge). u.trail) second, refl, All-cons (λ y. y.kind ≡ kind) t [] two (All-nil (λ y. y.kind ≡ kind)));
      rest = ap (λ (u : Knowledge). record u { trail = x.trail }) second;
    })

-- what is read of a view doesn't change with its trail
pub read_still : (of : Knowledge → ℕ) (v w : Knowledge) (steps : List Step) → ((t : List Step) → of (record v { trail = t }) ≡ of v) → w ≡ record v
    { trail = steps }
    → of w ≡ of v
read_still of v w steps still is = ap of is ∙ still steps

-- a section may walk on where its phase, the clock words it loaded and its write-back stay
may_still : (v w : Knowledge) → w.phase ≡ v.phase → w.clocks ≡ v.clocks → w.back ≡ v.back → MayWalk v → MayWalk w
may_still v w phase clocks back may =
    let inside : section_in w ≡ section_in v = ap inside_of phase in record {
      phase = phase ∙ may.phase ∙ sym (ap Inside inside);
      open_is = ap (λ (s : OwnSection). s.mode) inside ∙ may.open_is;
      helped = subst (λ (s : OwnSection). IsPastHelp w.clocks s) (sym inside)
          (subst (λ (h : LoadedClocks). IsPastHelp h (section_in v)) (sym clocks) may.helped);
      no_back = back ∙ may.no_back;
    }

-- so it may after a walk
pub may_walk_on : (v w : Knowledge) (before after : ℕ) → Walks v w before after → MayWalk v → MayWalk w
may_walk_on v w before after walks may =
    may_still v w (ap (λ (u : Knowledge). u.phase) walks.rest) (ap (λ (u : Knowledge). u.clocks) walks.rest) (ap (λ (u : Knowledge). u.back) walks.rest) may

-- and after a reader
pub may_read_on : (kind : StepKind) (n : ℕ) (v w : Knowledge) → ReadsSome kind n v w → MayWalk v → MayWalk w
may_read_on kind n v w reads may =
    may_still v w (ap (λ (u : Knowledge). u.phase) reads.rest) (ap (λ (u : Knowledge). u.clocks) reads.rest) (ap (λ (u : Knowledge). u.back) reads.rest) may

-- and after two loads that only join the trail
pub may_loaded : (v w x : Knowledge) (one two : List Step) → w ≡ record v { trail = one } → x ≡ record w { trail = two } → MayWalk v → MayWalk x
may_loaded v w x one two first second may =
    may_still v x
    (ap (λ (u : Knowledge). u.phase) second ∙ ap (λ (u : Knowledge). u.phase) first)
    (ap (λ (u : Knowledge). u.clocks) second ∙ ap (λ (u : Knowledge). u.clocks) first)
    (ap (λ (u : Knowledge). u.back) second ∙ ap (λ (u : Knowledge). u.back) first)
    may

-- after FIRST and STAMP of a version were loaded
pub may_looked : (c : Config) (v w x : Knowledge) (first found : ℕ) (seen : List Entry) → w ≡ first_loaded c v (stand_in v) first
    → x ≡ stamp_loaded c w (stand_in w) first found seen → MayWalk v → MayWalk x
may_looked c v w x first found seen firsts stamps may =
    may_still v x
    (ap (λ (u : Knowledge). u.phase) stamps ∙ ap (λ (u : Knowledge). u.phase) firsts)
    (ap (λ (u : Knowledge). u.clocks) stamps ∙ ap (λ (u : Knowledge). u.clocks) firsts)
    (ap (λ (u : Knowledge). u.back) stamps ∙ ap (λ (u : Knowledge). u.back) firsts)
    may

-- and after PREV was
pub may_passed : (c : Config) (v w : Knowledge) (link : ℕ) → w ≡ prev_loaded c v (stand_in v) link → MayWalk v → MayWalk w
may_passed c v w link is may = may_still v w (ap (λ (u : Knowledge). u.phase) is) (ap (λ (u : Knowledge). u.clocks) is) (ap (λ (u : Knowledge). u.back) is) may

-- after HEAD was loaded
pub may_started : (c : Config) (v w : Knowledge) (object link : ℕ) → w ≡ head_loaded c v (section_in v) object link → MayWalk v → MayWalk w
may_started c v w object link is may = may_still v w (ap (λ (u : Knowledge). u.phase) is) (ap (λ (u : Knowledge). u.clocks) is)
    (ap (λ (u : Knowledge). u.back) is) may

-- a walk leaves the length of the snapshot
pub same_snapshot : (c : Config) (v w : Knowledge) (before after : ℕ) → Walks v w before after → snapshot_length c w ≡ snapshot_length c v
same_snapshot c v w before after walks = ap (λ (x : Knowledge). snapshot_length c x) walks.rest
