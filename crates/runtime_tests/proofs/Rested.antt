-- Where loading the clock outside a section, helping its word and naming a rest leave a client.
use Rattle.std.proofs.Common.{◌≡◌, ℕ, ◌+◌, ◌^◌, ◌<◌, List, [], ◌∷◌, refl, sym, ap, ◌∙◌, subst, Some, None}
use Rattle.mv_history.specs.declared.Entry.{Entry}
use Rattle.mv_history.specs.declared.Step.{Step}
use Rattle.mv_history.specs.declared.StepKind.TheVariants.{LoadCheck}
use Rattle.mv_history.specs.declared.answers.Rival.{Rival}
use Rattle.mv_layout.specs.declared.Config.{Config}
use Rattle.mv_layout.specs.declared.SharedWord.TheVariants.{Clock}
use Rattle.mv_layout.specs.Places.{place_of}
use Rattle.mv_core.specs.declared.view.Knowledge.{Knowledge}
use Rattle.mv_core.specs.declared.view.Past.{Past}
use Rattle.mv_core.specs.EnterSteps.{check_loaded}
use Rattle.commit_clock.specs.Helps.{HasLoaded, IsHelpStep, Helps}
use Rattle.commit_clock.specs.Names.{NamesRest}
use Rattle.commit_clock.specs.declared.naming.Named.TheVariants.{Done, Lost}
use Rattle.seat_log.specs.Notes.{Noted, rest_noted}
use Rattle.seat_log.specs.Stands.{Stands}
use Rattle.seat_log.proofs.Rested.{stands_rested, stands_unrested}
use Rattle.commit_clock.proofs.HelpedPhase.{still_outside}
use Rattle.seat_log.proofs.PlainSteps.{stands_left, kinds_leave, one_leaves, help_leaves}
use Rattle.runtime_tests.specs.Clients.{IsOutside, HasClock, HasHelpedClock}

-- CLOCK was loaded
pub clock_taken : (c : Config) (v w : Knowledge) (l : Noted) (word : ℕ) (h : List Entry) → IsOutside c v l → w ≡ check_loaded c v word h
    → HasLoaded w word → HasClock c w l word
clock_taken c v w l word h o is loaded =
    let s : Step = record { kind = LoadCheck; word = place_of c Clock; found = Some word; stored = None } in
    record {
      outside = record {
        may = record { outside = ap (λ (u : Knowledge). u.phase) is ∙ o.may.outside; no_scan = ap (λ (u : Knowledge). u.scan) is ∙ o.may.no_scan };
        stands = stands_left c v w l o.stands (ap (λ (u : Knowledge). u.number) is) (ap (λ (u : Knowledge). u.ring) is) (ap (λ (u : Knowledge). u.past.mine) is)
            (ap (λ (u : Knowledge). u.past.rests) is) (s ∷ []) (ap (λ (u : Knowledge). u.trail) is) (one_leaves s (refl, refl));
        unbuilt = o.unbuilt;
      };
      loaded = loaded;
    }

-- its word was helped
pub clock_helped : (c : Config) (v w : Knowledge) (l : Noted) (word : ℕ) → HasClock c v l word → Helps c v w word → HasHelpedClock c w l word
clock_helped c v w l word k helps =
    let o = k.outside in
    record {
      outside = record {
        may = record { outside = still_outside c v w word o.may.outside helps; no_scan = ap (λ (u : Knowledge). u.scan) helps.rest ∙ o.may.no_scan };
        stands = stands_left c v w l o.stands (ap (λ (u : Knowledge). u.number) helps.rest) (ap (λ (u : Knowledge). u.ring) helps.rest)
            (ap (λ (p : Past). p.mine) helps.past.2) (ap (λ (p : Past). p.rests) helps.past.2) helps.trail.0 helps.trail.1
            (kinds_leave IsHelpStep help_leaves helps.trail.0 helps.trail.3);
        unbuilt = o.unbuilt;
      };
      loaded = helps.still_loaded word k.loaded;
      helped = helps.helped;
    }

-- a rest was made, and is noted
pub rested : (c : Config) (v w : Knowledge) (l m : Noted) (word time : ℕ) → HasHelpedClock c v l word → NamesRest c v word (Done time) w
    → l.rests + 1 < 2 ^ 63 → m ≡ rest_noted l → IsOutside c w m
rested c v w l m word time k names room noted =
    let o = k.outside in
    let is = names.1.2 in
    record {
      may = record { outside = ap (λ (u : Knowledge). u.phase) is ∙ o.may.outside; no_scan = ap (λ (u : Knowledge). u.scan) is ∙ o.may.no_scan };
      stands = subst (λ (t : Knowledge × Noted). Stands c t.0 t.1) (sym (λ q. (is q, noted q))) (stands_rested c v l word names.1.0 o.stands room);
      unbuilt = ap (λ (n : Noted). n.built) noted ∙ o.unbuilt;
    }

-- or its exchange was lost
pub rest_was_lost : (c : Config) (v w : Knowledge) (l : Noted) (word : ℕ) (rival : Rival) → HasHelpedClock c v l word → NamesRest c v word (Lost rival) w
    → IsOutside c w l
rest_was_lost c v w l word rival k names =
    let o = k.outside in
    let is = names.3 in
    record {
      may = record { outside = ap (λ (u : Knowledge). u.phase) is ∙ o.may.outside; no_scan = ap (λ (u : Knowledge). u.scan) is ∙ o.may.no_scan };
      stands = subst (λ (u : Knowledge). Stands c u l) (sym is) (stands_unrested c v l names.0 names.1 o.stands);
      unbuilt = o.unbuilt;
    }
