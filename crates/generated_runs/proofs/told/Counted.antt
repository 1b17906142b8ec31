-- What is counted of lines without a worn reply is counted of their commands, replayed in the order of the lines.
use Rattle.std.proofs.Common.{◌≡◌, ℕ, ◌+◌, ◌≤◌, ◌==◌, Bool, true, false, not, ◌&&◌, cond, List, [], ◌∷◌, Option, None, Some, refl, sym, ap, ◌∙◌, subst, arith}
use Rattle.std.proofs.Common.{true≢false}
use Rattle.std.specs.Prelude.{count_by}
use Rattle.std.specs.List.{AllByRecursion}
use Rattle.std.specs.Option.{IsSomeAnd}
use Rattle.std.proofs.lemmas.List.Sums.{sum_by-cons}
use Rattle.mv_history.specs.declared.history.TheConstants.{LAST}
use Rattle.set_model.specs.Catalogue.{Maps}
use Rattle.set_model.specs.Replies.{applies, overflows, changed, reply, changes, next}
use Rattle.set_model.specs.declared.commands.Command.{Command}
use Rattle.set_model.specs.declared.commands.Command.TheVariants.{Add, Put, Del, Has, Get, Move, Pair, Size, Next}
use Rattle.section_work.specs.declared.place.Place.{Place}
use Rattle.section_work.specs.declared.place.Place.TheVariants.{Commit, Read}
use Rattle.set_model.specs.declared.commands.Reply.{Reply}
use Rattle.set_model.specs.declared.commands.Reply.TheVariants.{Yes, No, Full, Worn}
use Rattle.run_report.specs.declared.line.Line.{Line}
use Rattle.run_report.specs.Legal.{Replays, MayStand, after, is_commit, is_last, command_of}
use Rattle.run_report.specs.Summary.{says_yes, says_no, says_worn, is_yes, is_no, is_worn, is_made}
use Rattle.script_gen.specs.Script.{IsGenerated}
use Rattle.generated_runs.specs.OneAfterAnother.{Tally, one_if, counted, replayed}
use Rattle.generated_runs.proofs.small.Keeping.{IsSmall, never_full}
use Rattle.generated_runs.proofs.small.Steps.{next_small}
use Rattle.generated_runs.proofs.told.Known.{commands_in, with_some, HasKnown}

pub count_cons : {X : Type 0} (p : X → Bool) (x : X) (xs : List X) → count_by p (x ∷ xs) ≡ one_if (p x) + count_by p xs
count_cons p x xs = sum_by-cons (λ y. cond (p y) 1 0) x xs

-- what a read at the last time says where nothing is worn
abbrev SaysNothing : Command → Maps → ℕ → Type 0
SaysNothing command c capacity = (reply command c capacity true ≡ reply command c capacity false) × (changes command c capacity false ≡ false)

by_last : (a o : Bool) → o ≡ false → says_worn (cond a (cond o Full Worn) No) ≡ false
    → (cond a (cond o Full Worn) No ≡ cond a (cond o Full Yes) No) × (a && not o && true ≡ false)
by_last true true fits worn = absurd (true≢false fits)
by_last true false fits worn = absurd (true≢false worn)
by_last false o fits worn = (refl, refl)

at_last : (seat : ℕ) (command : Command) (c : Maps) (capacity : ℕ) → IsGenerated seat command → overflows command c capacity ≡ false
    → says_worn (reply command c capacity true) ≡ false → SaysNothing command c capacity
at_last seat (Add name key) c capacity own fits worn = by_last (applies (Add name key) c) (overflows (Add name key) c capacity) fits worn
at_last seat (Del name key) c capacity own fits worn = by_last (applies (Del name key) c) (overflows (Del name key) c capacity) fits worn
at_last seat (Has name key) c capacity own fits worn = (refl, refl)
at_last seat (Move source target key) c capacity own fits worn =
    by_last (applies (Move source target key) c) (overflows (Move source target key) c capacity) fits worn
at_last seat (Put name key value) c capacity own fits worn = absurd own
at_last seat (Get name key) c capacity own fits worn = absurd own
at_last seat (Pair first second key) c capacity own fits worn = absurd own
at_last seat (Size name) c capacity own fits worn = absurd own
at_last seat (Next name key) c capacity own fits worn = absurd own

-- A place does what its command does where the time isn't the last.
record Plain (place : Place) (r : Reply) (command : Command) (c : Maps) (capacity : ℕ) : Type 0 where
  pub replies : r ≡ reply command c capacity false
  pub leaves : after place command c capacity ≡ next command c capacity false
  pub makes : is_commit place ≡ changes command c capacity false

plain : (seat : ℕ) (place : Place) (r : Reply) (command : Command) (c : Maps) (capacity : ℕ) → IsGenerated seat command → overflows command c capacity ≡ false
    → r ≡ reply command c capacity (is_last place) → MayStand place command c capacity → says_worn r ≡ false → Plain place r command c capacity
plain seat (Commit time) r command c capacity own fits e stands worn = record { replies = e; leaves = refl; makes = sym stands }
plain seat (Read time) r command c capacity own fits e stands worn = go (time == LAST) e stands
  where
    quiet : r ≡ reply command c capacity false → changes command c capacity false ≡ false → Plain (Read time) r command c capacity
    quiet e none = record { replies = e; leaves = sym (ap (λ (b : Bool). cond b (changed command c) c) none); makes = sym none }

    go : (last : Bool) → r ≡ reply command c capacity last → changes command c capacity last ≡ false → Plain (Read time) r command c capacity
    go false e stands = quiet e stands
    go true e stands =
        let nothing = at_last seat command c capacity own fits (sym (ap says_worn e) ∙ worn) in quiet (e ∙ nothing.0) nothing.1

-- a tally with what lines count, which end in these maps
abbrev pub with_lines : Tally → List Line → Maps → Tally
with_lines t lines end = record {
  maps = end;
  yes = t.yes + count_by is_yes lines;
  no = t.no + count_by is_no lines;
  commits = t.commits + count_by is_made lines;
}

abbrev IsNotWorn : Line → Type 0
IsNotWorn line = is_worn line ≡ false

module _ (capacity : ℕ) (room : 10230 ≤ capacity) (scripts : List (List Command))
    (generated : (line : Line) (x : Command) → command_of scripts line ≡ Some x → IsGenerated line.seat x) where
  with_line : (t : Tally) (line : Line) (lines : List Line) (x : Command) (end : Maps) → Plain line.place line.reply x t.maps capacity
      → with_lines (counted capacity x t) lines end ≡ with_lines t (line ∷ lines) end
  with_line t line lines x end is =
      let yes = ap (λ r. one_if (says_yes r)) is.replies in
      let no = ap (λ r. one_if (says_no r)) is.replies in
      let made = ap one_if is.makes in
      let all_yes : (with_lines (counted capacity x t) lines end).yes ≡ (with_lines t (line ∷ lines) end).yes =
      omega (arith, yes, count_cons is_yes line lines) in
      let all_no : (with_lines (counted capacity x t) lines end).no ≡ (with_lines t (line ∷ lines) end).no =
      omega (arith, no, count_cons is_no line lines) in
      let all_made : (with_lines (counted capacity x t) lines end).commits ≡ (with_lines t (line ∷ lines) end).commits =
      omega (arith, made, count_cons is_made line lines) in
      λ i. record { maps = end; yes = all_yes i; no = all_no i; commits = all_made i }

  pub told : (lines : List Line) (t : Tally) (end : Maps) → Replays scripts capacity t.maps lines end → IsSmall t.maps
      → AllByRecursion IsNotWorn lines → replayed capacity (commands_in scripts lines) t ≡ with_lines t lines end
  told [] t end replays small worn =
      let yes : t.yes ≡ t.yes + 0 = omega arith in
      let no : t.no ≡ t.no + 0 = omega arith in
      let made : t.commits ≡ t.commits + 0 = omega arith in
      λ i. record { maps = replays i; yes = yes i; no = no i; commits = made i }
  told (line ∷ lines) t end replays small worn =
      go (command_of scripts line) refl replays (λ u there tiny. told lines u end there tiny worn.1)
    where
      go : (o : Option Command) → command_of scripts line ≡ o
          → IsSomeAnd o (λ command. (line.reply ≡ reply command t.maps capacity (is_last line.place)) × MayStand line.place command t.maps capacity
          × Replays scripts capacity (after line.place command t.maps capacity) lines end)
          → ((u : Tally) → Replays scripts capacity u.maps lines end → IsSmall u.maps
          → replayed capacity (commands_in scripts lines) u ≡ with_lines u lines end)
          → replayed capacity (with_some o (commands_in scripts lines)) t ≡ with_lines t (line ∷ lines) end
      go None e stands rest = absurd stands
      go (Some x) e stands rest =
          let own = generated line x e in
          let fits = never_full line.seat x t.maps capacity own small room in
          let is = plain line.seat line.place line.reply x t.maps capacity own fits stands.0 stands.1 worn.0 in
          rest (counted capacity x t) (subst (λ m. Replays scripts capacity m lines end) is.leaves stands.2)
          (next_small line.seat x t.maps capacity own small room)
          ∙ with_line t line lines x end is

-- the commands of lines that replay are there, and generated
pub all_there : (capacity : ℕ) (scripts : List (List Command))
    → ((line : Line) (x : Command) → command_of scripts line ≡ Some x → IsGenerated line.seat x)
    → (lines : List Line) (c end : Maps) → Replays scripts capacity c lines end
    → AllByRecursion (HasKnown scripts) lines
all_there capacity scripts generated [] c end replays = tt
all_there capacity scripts generated (line ∷ lines) c end replays =
    go (command_of scripts line) refl replays (λ d there. all_there capacity scripts generated lines d end there)
  where
    go : (o : Option Command) → command_of scripts line ≡ o
        → IsSomeAnd o (λ command. (line.reply ≡ reply command c capacity (is_last line.place)) × MayStand line.place command c capacity
        × Replays scripts capacity (after line.place command c capacity) lines end)
        → ((d : Maps) → Replays scripts capacity d lines end
        → AllByRecursion (HasKnown scripts) lines)
        → IsSomeAnd o (λ x. IsGenerated line.seat x)
        × AllByRecursion (HasKnown scripts) lines
    go None e stands rest = absurd stands
    go (Some x) e stands rest = (generated line x e, rest _ stands.2)
