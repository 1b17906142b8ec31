-- No reply of a legal run of generated scripts is full.
use Rattle.std.proofs.Common.{◌≡◌, ◌≢◌, ℕ, ◌≤◌, Bool, true, false, cond, List, [], ◌∷◌, Option, None, Some, refl, sym, ◌∙◌, true≢false}
use Rattle.std.specs.List.{All, AllByRecursion}
use Rattle.std.specs.Option.{IsSomeAnd}
use Rattle.std.proofs.lemmas.List.Elements.{All-from_recursion}
use Rattle.std.proofs.lemmas.List.Sorted.{All-permutation, IsPermutation-sym}
use Rattle.set_model.specs.Catalogue.{Maps, empty, map_of, has_key}
use Rattle.set_model.specs.Replies.{applies, overflows, reply}
use Rattle.set_model.specs.declared.commands.Command.{Command}
use Rattle.set_model.specs.declared.commands.Command.TheVariants.{Add, Put, Del, Has, Get, Move, Pair, Size, Next}
use Rattle.section_work.specs.declared.place.Place.{Place}
use Rattle.section_work.specs.declared.place.Place.TheVariants.{Commit, Read}
use Rattle.set_model.specs.declared.commands.Reply.TheVariants.{Yes, No, Full, Worn}
use Rattle.run_report.specs.declared.line.Line.{Line}
use Rattle.run_report.specs.Legal.{LegalRun, Replays, MayStand, after, is_last, command_of}
use Rattle.script_gen.specs.Script.{IsGenerated}
use Rattle.generated_runs.specs.OneAfterAnother.{AreGenerated}
use Rattle.generated_runs.proofs.small.Keeping.{IsSmall, never_full, empty_small}
use Rattle.generated_runs.proofs.small.Steps.{next_small}
use Rattle.generated_runs.proofs.told.Known.{generated_at}

not_full : (a o last : Bool) → o ≡ false → cond a (cond o Full (cond last Worn Yes)) No ≢ Full
not_full true true last fits is = true≢false fits
not_full true false true fits is = absurd (cc)
not_full true false false fits is = absurd (cc)
not_full false o last fits is = absurd (cc)

has_not_full : (b : Bool) → cond b Yes No ≢ Full
has_not_full true is = absurd (cc)
has_not_full false is = absurd (cc)

reply_not_full : (seat : ℕ) (command : Command) (c : Maps) (capacity : ℕ) (last : Bool) → IsGenerated seat command → overflows command c capacity ≡ false
    → reply command c capacity last ≢ Full
reply_not_full seat (Add name key) c capacity last own fits = not_full (applies (Add name key) c) (overflows (Add name key) c capacity) last fits
reply_not_full seat (Del name key) c capacity last own fits = not_full (applies (Del name key) c) (overflows (Del name key) c capacity) last fits
reply_not_full seat (Has name key) c capacity last own fits = has_not_full (has_key key (map_of name c))
reply_not_full seat (Move source target key) c capacity last own fits =
    not_full (applies (Move source target key) c) (overflows (Move source target key) c capacity) last fits
reply_not_full seat (Put name key value) c capacity last own fits = absurd own
reply_not_full seat (Get name key) c capacity last own fits = absurd own
reply_not_full seat (Pair first second key) c capacity last own fits = absurd own
reply_not_full seat (Size name) c capacity last own fits = absurd own
reply_not_full seat (Next name key) c capacity last own fits = absurd own

after_small : (seat : ℕ) (place : Place) (command : Command) (c : Maps) (capacity : ℕ) → IsGenerated seat command → IsSmall c → 10230 ≤ capacity
    → IsSmall (after place command c capacity)
after_small seat (Commit time) command c capacity own small room = next_small seat command c capacity own small room
after_small seat (Read time) command c capacity own small room = small

roomy : (capacity : ℕ) → 10230 ≤ capacity → (scripts : List (List Command)) → AreGenerated scripts → (lines : List Line) (c end : Maps)
    → Replays scripts capacity c lines end → IsSmall c → AllByRecursion (λ line. line.reply ≢ Full) lines
roomy capacity room scripts generated [] c end replays small = tt
roomy capacity room scripts generated (line ∷ lines) c end replays small =
    go (command_of scripts line) refl replays (λ d there tiny. roomy capacity room scripts generated lines d end there tiny)
  where
    go : (o : Option Command) → command_of scripts line ≡ o
        → IsSomeAnd o (λ command. (line.reply ≡ reply command c capacity (is_last line.place)) × MayStand line.place command c capacity
        × Replays scripts capacity (after line.place command c capacity) lines end)
        → ((d : Maps) → Replays scripts capacity d lines end → IsSmall d → AllByRecursion (λ line. line.reply ≢ Full) lines)
        → (line.reply ≢ Full) × AllByRecursion (λ line. line.reply ≢ Full) lines
    go None e stands rest = absurd stands
    go (Some x) e stands rest =
        let own = generated_at scripts generated line.seat line.number x e in
        let fits = never_full line.seat x c capacity own small room in (
          λ full. reply_not_full line.seat x c capacity (is_last line.place) own fits (sym stands.0 ∙ full),
          rest (after line.place x c capacity) stands.2 (after_small line.seat line.place x c capacity own small room),
        )

pub none_full : (scripts : List (List Command)) (lines : List Line) (base capacity : ℕ) (end : Maps) → AreGenerated scripts → 10230 ≤ capacity
    → LegalRun scripts lines base capacity end → All (λ line. line.reply ≢ Full) lines
none_full scripts lines base capacity end generated room legal =
    let r = legal.replayed in
    All-permutation (λ line. line.reply ≢ Full) r.0 lines (IsPermutation-sym lines r.0 r.1)
    (All-from_recursion (λ line. line.reply ≢ Full) r.0 (roomy capacity room scripts generated r.0 empty end r.3 empty_small))
