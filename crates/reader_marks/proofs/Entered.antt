-- The views that the steps of an `enter` leave.
use Rattle.std.proofs.Common.{◌≡◌, ℕ, ◌+◌, List, [], ◌∷◌, ◌++◌, length, take, sym, refl, ap, ◌∙◌, subst, append-nil}
use Rattle.std.proofs.Common.{append_assoc, length-append, arith, Option, Some, None, unwrap_or}
use Rattle.std.proofs.Math.Seq.{take-append_seam}
use Rattle.std.proofs.lemmas.List.Elements.{All-nil, All-cons, All-append, All-weaker}
use Rattle.mv_history.specs.declared.Entry.{Entry}
use Rattle.mv_history.specs.declared.Step.{Step}
use Rattle.mv_history.specs.declared.StepKind.{StepKind}
use Rattle.mv_history.specs.declared.StepKind.TheVariants.{LoadLow, StoreMark, LoadTime}
use Rattle.mv_layout.specs.declared.Config.{Config}
use Rattle.mv_layout.specs.Words.{clock_time_of, clock_slot_of}
use Rattle.commit_clock.specs.mv_core.declared.view.Knowledge.{Knowledge}
use Rattle.commit_clock.specs.mv_core.declared.view.Past.{Past}
use Rattle.commit_clock.specs.mv_core.declared.view.Phase.TheVariants.{Inside}
use Rattle.commit_clock.specs.mv_core.declared.view.OwnSection.{OwnSection}
use Rattle.commit_clock.specs.mv_core.declared.view.Mode.TheVariants.{Open}
use Rattle.commit_clock.specs.mv_core.Rings.{HoldsNothing}
use Rattle.commit_clock.specs.mv_core.HistoryFacts.{BeginsWith}
use Rattle.commit_clock.specs.mv_core.EnterSteps.{IsWhole, low_loaded, mark_stored, time_loaded}
use Rattle.commit_clock.specs.Helps.{IsHelpStep, Helps, FindsClock}
use Rattle.commit_clock.proofs.HelpedPhase.{still_open}
use Rattle.reader_marks.specs.Sections.{IsEnterStep, EntersBy, Begins}

help_enters : (k : StepKind) → IsHelpStep k → IsEnterStep k
help_enters LoadLow x = tt
help_enters StoreMark x = tt
help_enters LoadTime x = tt
help_enters _ x = x

-- the view once the time was taken
abbrev entered : Config → Knowledge → ℕ → ℕ → List Entry → Knowledge
entered c v low word h = time_loaded c (mark_stored c (low_loaded c v low) (clock_time_of low)) word h

module _ (c : Config) (v : Knowledge) (low word : ℕ) (h : List Entry) (w : Knowledge) (last : Option ℕ) (whole : IsWhole c v word h)
    (helps : Helps c (entered c v low word h) w word) (finds : FindsClock c (entered c v low word h) w last)
    (none : clock_slot_of word ≡ 8191 → w ≡ entered c v low word h) where
  abbrev inside : OwnSection
  inside = record { low = clock_time_of low; word = word; mode = Open }

  -- what the help found is no less than the history at the time taken
  seen_go : (o : Option ℕ) → FindsClock c (entered c v low word h) w o → BeginsWith w.past.seen h × (w.past ≡ record v.past { seen = w.past.seen })
  seen_go None f =
      (([], ap (λ (p : Past). p.seen) f ∙ sym (append-nil h)), f ∙ ap (λ (l : List Entry). record v.past { seen = l }) (sym (ap (λ (p : Past). p.seen) f)))
  seen_go (Some x) f =
      let is : w.past.seen ≡ f.0 = ap (λ (p : Past). p.seen) f.2 in
      ((f.1.0.0, is ∙ f.1.0.1), f.2 ∙ ap (λ (l : List Entry). record v.past { seen = l }) (sym is))

  phase_is : w.phase ≡ Inside inside
  phase_is = still_open c (entered c v low word h) w word inside refl refl helps

  entered_by : EntersBy v.trail w.trail word
  entered_by =
      let a : Step = record { kind = LoadLow; word = 0; found = Some low; stored = None } in
      let b : Step = record { kind = StoreMark; word = 2 + v.number; found = None; stored = Some (1 + clock_time_of low) } in
      let d : Step = record { kind = LoadTime; word = 0; found = Some word; stored = None } in
      let first : List Step = a ∷ b ∷ d ∷ [] in
      let t = helps.trail in
      let long : length (first ++ t.0) ≡ 3 + length t.0 = length-append first t.0 in
      let few = t.2 in record {
        steps = first ++ t.0;
        trail = t.1 ∙ ap (λ (l : List Step). l ++ t.0) (append_assoc (v.trail ++ a ∷ []) (b ∷ []) (d ∷ []) ∙ append_assoc v.trail (a ∷ []) (b ∷ d ∷ []))
            ∙ append_assoc v.trail first t.0;
        few = omega arith;
        three = λ e.
            let trail : List Step = (entered c v low word h).trail in
            let same : length trail ≡ length trail + length t.0 = ap (λ (u : Knowledge). length u.trail) (sym (none e)) ∙ ap length t.1
            ∙ length-append trail t.0 in
            omega arith;
        kinds = All-append (λ s. IsEnterStep s.kind) first t.0
            (All-cons (λ s. IsEnterStep s.kind) a (b ∷ d ∷ []) tt
            (All-cons (λ s. IsEnterStep s.kind) b (d ∷ []) tt (All-cons (λ s. IsEnterStep s.kind) d [] tt (All-nil (λ s. IsEnterStep s.kind)))))
            (All-weaker (λ (s : Step). IsHelpStep s.kind) (λ s. IsEnterStep s.kind) (λ s x. help_enters s.kind x) t.0 t.3);
        takes = (2, omega arith, refl);
      }

  begins_go : HoldsNothing v.ring → Begins c v w (clock_time_of word)
  begins_go nothing =
      let seen = seen_go last finds in
      let long : length w.past.seen ≡ length h + length seen.0.0 = ap length seen.0.1 ∙ length-append h seen.0.0 in
      let front : take (length h) w.past.seen ≡ h = ap (take (length h)) seen.0.1 ∙ take-append_seam h seen.0.0 in record {
        inside = inside;
        phase = phase_is;
        open_is = refl;
        past_help = helps.helped;
        nothing = subst (λ (u : Knowledge). HoldsNothing u.ring) (sym helps.rest) nothing;
        no_back = ap (λ (u : Knowledge). u.back) helps.rest;
        at = length h;
        time_is = whole.1;
        word_is = refl;
        within = omega arith;
        snapshot = (whole.0.0, front ∙ whole.0.1);
        entered = entered_by;
        rest = helps.rest ∙ ap (λ (p : Past). record (entered c v low word h) { past = p; phase = w.phase; clocks = w.clocks; trail = w.trail }) seen.1;
      }

-- the time of all that is seen is the greatest that was found
pub last_found : (c : Config) (v w : Knowledge) (word : ℕ) (last : Option ℕ) → clock_time_of word ≡ c.base + length v.past.seen → FindsClock c v w last
    → (x : ℕ) → x ≡ unwrap_or last word → clock_time_of x ≡ c.base + length w.past.seen
last_found c v w word None time finds x is = ap clock_time_of is ∙ time ∙ ap (λ (p : Past). c.base + length p.seen) (sym finds)
last_found c v w word (Some y) time finds x is = ap clock_time_of is ∙ finds.1.1 ∙ ap (λ (p : Past). c.base + length p.seen) (sym finds.2)

-- the section that the four calls of an `enter` begin
pub begins : (c : Config) (v v1 v2 v3 w : Knowledge) (low mark word time : ℕ) (h : List Entry) (last : Option ℕ) → v1 ≡ low_loaded c v low
    → mark ≡ clock_time_of low → v2 ≡ mark_stored c v1 mark → IsWhole c v2 word h → v3 ≡ time_loaded c v2 word h
    → HoldsNothing v3.ring → Helps c v3 w word → FindsClock c v3 w last → (clock_slot_of word ≡ 8191 → w ≡ v3) → time ≡ clock_time_of word → Begins c v w time
begins c v v1 v2 v3 w low mark word time h last is1 marks is2 whole is3 nothing helps finds none times =
    let marked : v2 ≡ mark_stored c (low_loaded c v low) (clock_time_of low) =
    is2 ∙ ap (λ (u : Knowledge). mark_stored c u mark) is1 ∙ ap (mark_stored c (low_loaded c v low)) marks in
    let same : v3 ≡ entered c v low word h = is3 ∙ ap (λ (u : Knowledge). time_loaded c u word h) marked in
    subst (Begins c v w) (sym times)
    (begins_go c v low word h w last (subst (λ (u : Knowledge). IsWhole c u word h) marked whole) (subst (λ (u : Knowledge). Helps c u w word) same helps)
    (subst (λ (u : Knowledge). FindsClock c u w last) same finds) (λ e. none e ∙ same) (subst (λ (u : Knowledge). HoldsNothing u.ring) same nothing))
