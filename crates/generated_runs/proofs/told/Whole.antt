-- A legal run of generated scripts, of which no reply is worn, counts and leaves what the scripts do one after another.
use Rattle.std.proofs.Common.{◌≡◌, ◌≢◌, ℕ, ◌≤◌, false, List, [], ◌∷◌, ◌++◌, cond, map, filter, Some, refl, sym, ap, ◌∙◌, arith}
use Rattle.std.specs.Prelude.{codes, count_by, slice_index_or}
use Rattle.std.specs.List.{AllByRecursion}
use Rattle.std.proofs.lemmas.List.Elements.{All-weaker, recursion_from_All}
use Rattle.std.proofs.lemmas.List.Sorted.{All-permutation, IsPermutation-map, IsPermutation-trans, sum_by-IsPermutation}
use Rattle.set_model.specs.Catalogue.{Maps, empty}
use Rattle.set_model.specs.declared.commands.Command.{Command}
use Rattle.set_model.specs.declared.commands.Reply.{Reply}
use Rattle.set_model.specs.declared.commands.Reply.TheVariants.{Yes, No, Full, Worn, Both, Count, Key, NoKey, Value}
use Rattle.run_report.specs.declared.line.Line.{Line}
use Rattle.run_report.specs.Legal.{LegalRun, IsInTime, command_of, id_of, ids_of, ids_from}
use Rattle.run_report.specs.Summary.{says_worn, is_yes, is_no, is_worn, is_made, text_of_count, text_of_sizes, summary}
use Rattle.run_report.proofs.Pairs.{pairs_permuted}
use Rattle.script_gen.specs.Script.{IsGenerated}
use Rattle.script_gen.proofs.Generated.{script_generated}
use Rattle.generated_runs.specs.OneAfterAnother.{Tally, one_if, nothing, replayed, one_after_another, IsTallyOf, NoneIsWorn, text_of_tally}
use Rattle.generated_runs.specs.OneAfterAnother.{AreGenerated, scripts_of}
use Rattle.generated_runs.proofs.small.Keeping.{empty_small}
use Rattle.generated_runs.proofs.sifted.Sifting.{IsKnown, is_own}
use Rattle.generated_runs.proofs.sifted.Parting.{gathered, four_parts}
use Rattle.generated_runs.proofs.told.Known.{commands_in, generated_at, all_known}
use Rattle.generated_runs.proofs.told.Counted.{count_cons, with_lines, told, all_there}
use Rattle.generated_runs.proofs.told.Numbered.{is_id, times, in_order, times_of}
use Rattle.generated_runs.proofs.told.Rising.{rises}
use Rattle.generated_runs.proofs.told.Owned.{own_script}

not_worn : (r : Reply) → r ≢ Worn → says_worn r ≡ false
not_worn Yes n = refl
not_worn No n = refl
not_worn Full n = refl
not_worn Worn n = absurd (n refl)
not_worn (Both first second) n = refl
not_worn (Count count) n = refl
not_worn (Key key) n = refl
not_worn NoKey n = refl
not_worn (Value value) n = refl

all_not_worn : (lines : List Line) → NoneIsWorn lines → AllByRecursion (λ line. is_worn line ≡ false) lines
all_not_worn lines none =
    recursion_from_All (λ line. is_worn line ≡ false) lines
    (All-weaker (λ line. line.reply ≢ Worn) (λ line. is_worn line ≡ false) (λ line n. not_worn line.reply n) lines none)

none_worn : (lines : List Line) → AllByRecursion (λ line. is_worn line ≡ false) lines → count_by is_worn lines ≡ 0
none_worn [] none = refl
none_worn (line ∷ lines) none = omega (arith, count_cons is_worn line lines, ap one_if none.0, none_worn lines none.1)

module _ (scripts : List (List Command)) (lines : List Line) (base capacity : ℕ) (end : Maps) (generated : AreGenerated scripts)
    (room : 10230 ≤ capacity) (legal : LegalRun scripts lines base capacity end) (none : NoneIsWorn lines) where
  -- the lines in their order
  abbrev ordered : List Line
  ordered = legal.replayed.0

  of_seat : (line : Line) (x : Command) → command_of scripts line ≡ Some x → IsGenerated line.seat x
  of_seat line x e = generated_at scripts generated line.seat line.number x e

  same_times : (seat n : ℕ) → times seat n (map id_of ordered) ≡ times seat n (ids_from seat 1 (slice_index_or scripts seat []))
  same_times seat n =
      sum_by-IsPermutation (λ id. cond (is_id seat n id) 1 0) (ids_of 0 scripts) (map id_of ordered)
      (IsPermutation-trans _ _ _ legal.once (IsPermutation-map id_of lines ordered legal.replayed.1))
      ∙ times_of seat 0 seat n scripts (omega arith)

  -- each seat's commands are its script
  script_is : (seat : ℕ) → filter (is_own seat) (commands_in scripts ordered) ≡ slice_index_or scripts seat []
  script_is seat =
      own_script scripts seat ordered (all_there capacity scripts of_seat ordered empty end legal.replayed.3)
      (in_order seat 1 (slice_index_or scripts seat []) (map id_of ordered)
      (rises seat ordered legal.replayed.2 (pairs_permuted IsInTime lines ordered legal.replayed.1 legal.in_time)) (same_times seat))

  -- what the lines count is what is counted of their commands in order
  told_is : with_lines nothing ordered end ≡ replayed capacity (commands_in scripts ordered) nothing
  told_is =
      sym (told capacity room scripts of_seat ordered nothing end legal.replayed.3 empty_small
      (all_not_worn ordered (All-permutation (λ line. line.reply ≢ Worn) lines ordered legal.replayed.1 none)))

  -- and they are all generated
  known_all : AllByRecursion IsKnown (commands_in scripts ordered)
  known_all = all_known scripts ordered (all_there capacity scripts of_seat ordered empty end legal.replayed.3)

  -- the lines' tally is another's where theirs in order is
  tally_of : (t : Tally) → with_lines nothing ordered end ≡ t → IsTallyOf lines end t
  tally_of t is =
      let yes = ap (λ (u : Tally). u.yes) is in
      let no = ap (λ (u : Tally). u.no) is in
      let made = ap (λ (u : Tally). u.commits) is in
      record {
        maps = ap (λ (u : Tally). u.maps) is;
        yes = omega (arith, yes, sum_by-IsPermutation (λ line. cond (is_yes line) 1 0) lines ordered legal.replayed.1);
        no = omega (arith, no, sum_by-IsPermutation (λ line. cond (is_no line) 1 0) lines ordered legal.replayed.1);
        commits = omega (arith, made, sum_by-IsPermutation (λ line. cond (is_made line) 1 0) lines ordered legal.replayed.1);
      }

-- the commands in the order of the lines are replayed as the scripts one after another
scripts_replayed : (scripts : List (List Command)) (xs : List Command) (capacity : ℕ) → 10230 ≤ capacity → AreGenerated scripts
    → AllByRecursion IsKnown xs → ((seat : ℕ) → filter (is_own seat) xs ≡ slice_index_or scripts seat [])
    → replayed capacity xs nothing ≡ one_after_another capacity scripts
scripts_replayed (a ∷ b ∷ c ∷ d ∷ []) xs capacity room generated known is =
    gathered capacity room 0 (a ∷ b ∷ c ∷ d ∷ []) xs nothing known empty_small (four_parts a b c d xs (is 0) (is 1) (is 2) (is 3))
scripts_replayed [] xs capacity room generated known is = absurd generated
scripts_replayed (a ∷ []) xs capacity room generated known is = absurd generated
scripts_replayed (a ∷ b ∷ []) xs capacity room generated known is = absurd generated
scripts_replayed (a ∷ b ∷ c ∷ []) xs capacity room generated known is = absurd generated
scripts_replayed (a ∷ b ∷ c ∷ d ∷ f ∷ more) xs capacity room generated known is = absurd generated

pub counts_as : (scripts : List (List Command)) (lines : List Line) (base capacity : ℕ) (end : Maps) → AreGenerated scripts → 10230 ≤ capacity
    → LegalRun scripts lines base capacity end → NoneIsWorn lines → IsTallyOf lines end (one_after_another capacity scripts)
counts_as scripts lines base capacity end generated room legal none =
    tally_of scripts lines base capacity end generated room legal none (one_after_another capacity scripts)
    (told_is scripts lines base capacity end generated room legal none
    ∙ scripts_replayed scripts (commands_in scripts legal.replayed.0) capacity room generated
    (known_all scripts lines base capacity end generated room legal none) (script_is scripts lines base capacity end generated room legal none))

-- so its summary is that of the scripts one after another
pub summary_as : (scripts : List (List Command)) (lines : List Line) (base capacity : ℕ) (end : Maps) → AreGenerated scripts → 10230 ≤ capacity
    → LegalRun scripts lines base capacity end → NoneIsWorn lines
    → (number : ℕ) → summary number lines end ≡ text_of_tally number (one_after_another capacity scripts)
unfolding summary
summary_as scripts lines base capacity end generated room legal none number =
    let tally = counts_as scripts lines base capacity end generated room legal none in
    let worn = none_worn lines (all_not_worn lines none) in
    λ i. text_of_count (codes "work") number ++ text_of_count (codes "yes") (tally.yes i) ++ text_of_count (codes "no") (tally.no i)
    ++ text_of_count (codes "worn") (worn i) ++ text_of_count (codes "commits") (tally.commits i) ++ text_of_sizes 0 (tally.maps i)

-- the scripts of a number are generated
pub scripts_generated : (number : ℕ) → AreGenerated (scripts_of number)
scripts_generated number = (
  script_generated number 0 (omega arith),
  script_generated number 1 (omega arith),
  script_generated number 2 (omega arith),
  script_generated number 3 (omega arith),
)
