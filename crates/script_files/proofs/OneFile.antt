-- The one file of a plan.
use Rattle.std.proofs.Common.{◌≡◌, ℕ, List, [], ◌∷◌, length, slice_get, Option, Ok, Err, Some, Result, MatchResult, sym, ap, ◌∙◌, subst, arith}
use Rattle.std.proofs.lemmas.Option.{slice_get_within}
use Rattle.host_io.specs.Outside.{Faults, Texts}
use Rattle.script_files.specs.declared.stop.Stop.{Stop}
use Rattle.script_files.specs.declared.stop.Stop.TheVariants.{Script, BlockScript, Plan, Bytes, Read, Memory}
use Rattle.script_files.specs.Reading.{AreFirstTexts}
use Rattle.script_files.specs.Scripts.{AllScripts, AnyStop, IsLong, NoScripts, NoText, Reaches, StopsAt, plans}
use Rattle.step_replay.specs.replay_rules.declared.plan.Plan.{Plan as PlanRead}
use Rattle.step_replay.specs.replay_rules.Plans.{PlanOf, plan_of}
use Rattle.step_replay.specs.PlanTexts.{planned}
use Rattle.script_files.proofs.FileTexts.{all_scripts, no_scripts}

module _ (t : Option Texts) (names : List (List ℕ)) (one : length names ≡ 1) where
  -- what holds at the first place holds where a name stands
  at_first : (P : ℕ → Type 0) (place : ℕ) (name : List ℕ) → slice_get names place ≡ Some name → (slice_get names 0 ≡ Some name → P 0) → P place
  at_first P place name at holds =
      let within = slice_get_within names place name at in
      let first : 0 ≡ place = omega (arith, within, one) in
      subst P first (holds (ap (slice_get names) first ∙ at))

  -- where it has no text, reading stops there
  pub only_stops : (f : Stop) (place : ℕ) (faults now : Faults) → NoText f place t names faults now → AnyStop f plans t names faults now
  only_stops (Bytes script) place faults now o =
      at_first (λ k. StopsAt planned t names k IsLong) script o.1.0 (ap (slice_get names) o.0 ∙ o.1.1)
      (λ at. record { reaches = record { name = o.1.0; named = at; before = []; scripts = tt }; says = o.1.2 })
  only_stops (Read script) place faults now o = (
    at_first (Reaches planned t names) script o.1.0 o.1.1.here (λ at. record { name = o.1.0; named = at; before = []; scripts = tt }),
    o.1,
  )
  only_stops Memory place faults now o = tt
  only_stops (Script script line kind) place faults now o = absurd o
  only_stops (BlockScript script line kind) place faults now o = absurd o
  only_stops (Plan script line kind) place faults now o = absurd o

  module _ (bytes : List ℕ) (is : AreFirstTexts t names (bytes ∷ [])) where
    -- where it has a plan, that is what was read
    pub only_plan : (plan : PlanOf) → planned bytes ≡ Ok plan → AllScripts planned t names (plan ∷ [])
    only_plan plan parses = all_scripts planned t names (bytes ∷ []) (plan ∷ []) (sym one) is (parses, tt)

    -- so what is read of it is its plan, or reading stops there
    pub only_read : (r : Result PlanRead Stop) (faults now : Faults)
        → MatchResult r (λ plan. planned bytes ≡ Ok (plan_of plan)) (λ stop. NoScripts stop plans (bytes ∷ []))
        → MatchResult r (λ plan. AllScripts planned t names (plan_of plan ∷ [])) (λ stop. AnyStop stop plans t names faults now)
    only_read (Ok plan) faults now parsed = only_plan (plan_of plan) parsed
    only_read (Err stop) faults now parsed = no_scripts stop plans t names (bytes ∷ []) faults now is parsed
