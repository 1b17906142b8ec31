-- A turn makes at most one step.
use Rattle.std.proofs.Common.{◌≡◌, ℕ, List, [], ◌∷◌, ◌++◌, Bool, true, false, Option, Some, None, refl, sym, ap, ◌∙◌, append_assoc, if◌then◌else◌, ◌==◌}
use Rattle.std.proofs.lemmas.List.{append-nil}
use Rattle.mv_layout.specs.declared.config.Config.{Config}
use Rattle.replay_rules.specs.declared.plan.Call.{Call}
use Rattle.replay_rules.specs.declared.plan.CallOf.{CallOf}
use Rattle.replay_rules.specs.declared.seats.NextStep.{NextStep}
use Rattle.replay_rules.specs.declared.seats.Then.{Then}
use Rattle.replay_rules.specs.declared.seats.Then.TheVariants.{Goes, Ends}
use Rattle.replay_rules.specs.Tasks.{place_in_task}
use Rattle.replay_rules.specs.Begins.{may_begin, begun, begin_call}
use Rattle.replay_rules.specs.Lines.{idle_line, skip_line, answer_line}
use Rattle.replay_rules.specs.Runs.{TapeOf, Scene, Looked, is_place, with_line, tape_stepped, tape_after, went, learned, step_made, found_in}
use Rattle.replay_rules.specs.Runs.{begun_so, call_looked, looked_on, one_looked, looked, turn_begun, turned_from, turned}
use Rattle.replay_rules.specs.Sweeps.{then_after}
use Rattle.replay_rules.specs.ReplayLaws.{IsTurn, no_step, one_step}

-- no line, and lines behind lines
pub no_lines : (t : TapeOf) → t ≡ with_line t []
no_lines t = ap (λ text. record t { text = text }) (sym (append-nil t.text))

pub more_lines : (t : TapeOf) (a b : List ℕ) → with_line (with_line t a) b ≡ with_line t (a ++ b)
more_lines t a b = ap (λ text. record t { text = text }) (append_assoc t.text a b)

-- only lines were printed
abbrev pub Prints : TapeOf → TapeOf → Type 0
Prints old new = (lines : List ℕ) × (new ≡ with_line old lines)

pub prints_more : (a b c : TapeOf) → Prints a b → Prints b c → Prints a c
prints_more a b c p q = (p.0 ++ q.0, q.1 ∙ ap (λ t. with_line t q.0) p.1 ∙ more_lines a p.0 q.0)

went_prints : (next : Then) (x : Scene) → Prints x.tape (went next x).tape
went_prints (Goes task) x = ([], no_lines x.tape)
went_prints (Ends answer) x = (answer_line x.seat.state.seat x.seat.state.call answer, refl)

begun_prints : (next : Then) (call : Call) (x : Scene) → Prints x.tape (begun_so next call x).scene.tape
begun_prints (Goes task) call x = ([], no_lines x.tape)
begun_prints (Ends answer) call x = (answer_line x.seat.state.seat call answer, refl)

either_prints : (b : Bool) (t : TapeOf) (p q : Looked) → Prints t p.scene.tape → Prints t q.scene.tape → Prints t (if b then p else q).scene.tape
either_prints true t p q yes_so no_so = yes_so
either_prints false t p q yes_so no_so = no_so

call_prints : (c : Config) (call : Call) (x : Scene) → Prints x.tape (call_looked c call x).scene.tape
call_prints c call x =
    either_prints (may_begin x.seat.log x.seat.state call) x.tape
    (begun_so (begin_call call c x.seat.log (begun x.seat.state call)) call (record x { seat = record x.seat { state = begun x.seat.state call } }))
    (record { scene = record x { tape = with_line x.tape (skip_line x.seat.state.seat call) }; task = None })
    (begun_prints (begin_call call c x.seat.log (begun x.seat.state call)) call (record x { seat = record x.seat { state = begun x.seat.state call } }))
    (skip_line x.seat.state.seat call, refl)

one_prints : (c : Config) (call : CallOf) (x : Scene) → Prints x.tape (one_looked c call x).scene.tape
one_prints c call x =
    either_prints (call.seat == x.seat.state.seat) x.tape (call_looked c call.call x) (record { scene = x; task = None }) (call_prints c call.call x)
    ([], no_lines x.tape)

on_prints : (task : Option NextStep) (t : TapeOf) (this next : Looked) → Prints t this.scene.tape → Prints this.scene.tape next.scene.tape
    → Prints t (looked_on task this next).scene.tape
on_prints (Some task) t this next p q = p
on_prints None t this next p q = prints_more t this.scene.tape next.scene.tape p q

pub looked_prints : (c : Config) (calls : List CallOf) (x : Scene) → Prints x.tape (looked c calls x).scene.tape
looked_prints c [] x = ([], no_lines x.tape)
looked_prints c (call ∷ calls) x =
    let this = one_looked c call (record x { seat = record x.seat { left = calls } }) in
    on_prints this.task x.tape this (looked c calls this.scene) (one_prints c call (record x { seat = record x.seat { left = calls } }))
    (looked_prints c calls this.scene)

-- a step is made of a word of the domain, or none is
after_is : (c : Config) (seat : ℕ) (task : NextStep) (old t new : TapeOf) (b : Bool) → is_place c (place_in_task c seat task) ≡ b → Prints old t
    → Prints (if b then tape_stepped c seat task (place_in_task c seat task) t else t) new → IsTurn c old new
after_is c seat task old t new true there p q =
    one_step seat task p.0 q.0 there (q.1 ∙ ap (λ u. with_line (tape_stepped c seat task (place_in_task c seat task) u) q.0) p.1)
after_is c seat task old t new false there p q = let both = prints_more old t new p q in no_step both.0 both.1

made_is : (c : Config) (task : NextStep) (old : TapeOf) (x : Scene) → Prints old x.tape → IsTurn c old (step_made c task x).tape
made_is c task old x p =
    let found = found_in c x.seat.state.seat task x.tape in
    let seat = learned task found x.seat in
    after_is c x.seat.state.seat task old x.tape (step_made c task x).tape (is_place c (place_in_task c x.seat.state.seat task)) refl p
    (went_prints (then_after task c seat.log seat.state found) (record { seat = seat; tape = tape_after c x.seat.state.seat task x.tape }))

begun_is_turn : (c : Config) (task : Option NextStep) (old : TapeOf) (x : Scene) → Prints old x.tape → IsTurn c old (turn_begun c task x).tape
begun_is_turn c (Some task) old x p = made_is c task old x p
begun_is_turn c None old x p =
    let both = prints_more old x.tape (with_line x.tape (idle_line x.seat.state.seat)) p (idle_line x.seat.state.seat, refl) in no_step both.0 both.1

turn_from : (c : Config) (task : Option NextStep) (x : Scene) → IsTurn c x.tape (turned_from c task x).tape
turn_from c (Some task) x = made_is c task x.tape x ([], no_lines x.tape)
turn_from c None x =
    let l = looked c x.seat.left x in
    begun_is_turn c l.task x.tape l.scene (looked_prints c x.seat.left x)

pub turn_is : (c : Config) (x : Scene) → IsTurn c x.tape (turned c x).tape
turn_is c x = turn_from c x.seat.task x
