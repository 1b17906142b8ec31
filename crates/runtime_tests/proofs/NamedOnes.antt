-- Where naming, finishing and committing leave a client.
use Rattle.std.proofs.Common.{◌≡◌, ℕ, ◌<◌, List, [], ◌∷◌, sym, ap, ◌∙◌, subst, refl, arith, Option, Some, None}
use Rattle.std.specs.Prelude.{Contains, ⊤}
use Rattle.std.proofs.lemmas.List.Elements.{Contains-append_left}
use Rattle.mv_history.specs.declared.Step.{Step}
use Rattle.mv_history.specs.declared.StepKind.TheVariants.{NameCommit}
use Rattle.mv_history.specs.declared.answers.Rival.{Rival}
use Rattle.mv_history.specs.State.{State, Writes}
use Rattle.mv_layout.specs.declared.Config.{Config}
use Rattle.mv_layout.specs.declared.SharedWord.TheVariants.{Clock}
use Rattle.mv_layout.specs.Places.{place_of}
use Rattle.mv_layout.specs.Words.{clock_time_of}
use Rattle.mv_core.specs.declared.view.Knowledge.{Knowledge}
use Rattle.mv_core.specs.Rings.{held_count}
use Rattle.mv_core.specs.EnterSteps.{if_none}
use Rattle.mv_core.specs.NameSteps.{LogTold}
use Rattle.commit_clock.specs.Names.{NamesCommit}
use Rattle.commit_clock.specs.declared.naming.Named.TheVariants.{Done, Lost}
use Rattle.seat_log.specs.Notes.{Noted, committed_noted}
use Rattle.seat_log.specs.Stands.{Stands}
use Rattle.version_chain.specs.Walks.{section_in}
use Rattle.commit_abort.specs.Commits.{Commits, IsKept}
use Rattle.commit_abort.specs.Finishes.{Finishes}
use Rattle.seat_log.proofs.PlainSteps.{stands_left, one_leaves}
use Rattle.runtime_tests.specs.Clients.{IsOutside, IsInside, HasJustNamed}
use Rattle.runtime_tests.proofs.Moved.{walks_in}

-- rules that allow every commit
abbrev pub allows_any : List ℕ → State → Writes → Type 0
allows_any tag before writes = ⊤

some_held : (c : Config) (v : Knowledge) (l : Noted) → Stands c v l → 0 < l.held → 0 < held_count v.ring
some_held c v l k some = let e = k.held in omega arith

pub just_named : (c : Config) (v w : Knowledge) (l : Noted) (word time : ℕ) (tag : List ℕ) → IsInside c v l (Some word) → 0 < l.held
    → clock_time_of word < 35184372088831 → NamesCommit c v (section_in v) tag word (Done time) w → LogTold c v word → HasJustNamed c w l time
just_named c v w l word time tag i some room names log = record {
  won = record { before = v; inside = section_in v; tag = tag; word = word; history = names.1.0 };
  named = record { phase = i.may.phase; some = some_held c v l i.stands some; named = names.1.2; log = log; stands = i.stands; unbuilt = i.unbuilt };
  time_is = names.0;
  within = (let e = names.0 in omega arith);
  no_scan = ap (λ (u : Knowledge). u.scan) names.1.2 ∙ i.no_scan;
}

pub name_lost : (c : Config) (v w : Knowledge) (l : Noted) (word : ℕ) (tag : List ℕ) (rival : Rival) → IsInside c v l (Some word)
    → NamesCommit c v (section_in v) tag word (Lost rival) w → IsInside c w l None
name_lost c v w l word tag rival i names =
    let found = names.0 in
    let is = names.3 in
    let s : Step = record { kind = NameCommit; word = place_of c Clock; found = Some found; stored = None } in
    record {
      may = walks_in w (section_in v) (record {
        phase = ap (λ (u : Knowledge). u.phase) is ∙ i.may.phase;
        open_is = i.may.open_is;
        helped = subst (λ (u : Knowledge). Contains u.clocks.helped (section_in v).word) (sym is)
            (Contains-append_left v.clocks.helped (if_none found) (section_in v).word i.may.helped);
        no_back = ap (λ (u : Knowledge). u.back) is ∙ i.may.no_back;
      });
      no_scan = ap (λ (u : Knowledge). u.scan) is ∙ i.no_scan;
      stands = stands_left c v w l i.stands (ap (λ (u : Knowledge). u.number) is) (ap (λ (u : Knowledge). u.ring) is) (ap (λ (u : Knowledge). u.past.mine) is)
          (ap (λ (u : Knowledge). u.past.rests) is) (s ∷ []) (ap (λ (u : Knowledge). u.trail) is) (one_leaves s (refl, refl));
      unbuilt = i.unbuilt;
      helped = λ x e. absurd cc;
    }

-- outside again, where nothing is being built
pub finished : (c : Config) (v w : Knowledge) (l m : Noted) (time most : ℕ) → HasJustNamed c v l time → Finishes v w most → m ≡ committed_noted l time
    → Stands c w m → IsOutside c w m
finished c v w l m time most named ends noted stands = record {
  may = record { outside = ends.outside; no_scan = ap (λ (u : Knowledge). u.scan) ends.rest ∙ named.no_scan };
  stands = stands;
  unbuilt = ap (λ (k : Noted). k.built) noted ∙ named.named.unbuilt;
}

pub committed : (c : Config) (v w : Knowledge) (l m : Noted) (word : Option ℕ) (tag : List ℕ) (time : ℕ) → IsInside c v l word
    → Commits c v w (section_in v) tag time → m ≡ committed_noted l time → Stands c w m → IsOutside c w m
committed c v w l m word tag time i ends noted stands = record {
  may = record { outside = ends.outside; no_scan = ap (λ (u : Knowledge). u.scan) ends.rest ∙ i.no_scan };
  stands = stands;
  unbuilt = ap (λ (k : Noted). k.built) noted ∙ i.unbuilt;
}

-- still in the section, where no commit was made
pub kept : (c : Config) (v w : Knowledge) (l m : Noted) (word : Option ℕ) → IsInside c v l word → IsKept v w (section_in v) → m ≡ l → Stands c w m
    → IsInside c w m None
kept c v w l m word i is noted stands = record {
  may = walks_in w (section_in v) (record {
    phase = ap (λ (u : Knowledge). u.phase) is.rest ∙ i.may.phase;
    open_is = i.may.open_is;
    helped = is.past_help;
    no_back = ap (λ (u : Knowledge). u.back) is.rest ∙ i.may.no_back;
  });
  no_scan = ap (λ (u : Knowledge). u.scan) is.rest ∙ i.no_scan;
  stands = stands;
  unbuilt = ap (λ (k : Noted). k.built) noted ∙ i.unbuilt;
  helped = λ x e. absurd cc;
}
