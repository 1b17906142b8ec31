-- Legal runs: their lines in any order, and the run of one script, told line by line.
use Rattle.std.proofs.Common.{◌≡◌, ℕ, ◌≤◌, List, [], ◌∷◌, length, take, map, arith}
use Rattle.std.specs.List.{All}
use Rattle.std.specs.List.Sorted.{IsPermutation}
use Rattle.std.proofs.lemmas.List.{append-nil, take_all}
use Rattle.std.proofs.lemmas.List.Sorted.{IsPermutation-refl, IsPermutation-trans, IsPermutation-sym, IsPermutation-map, All-permutation}
use Rattle.set_model.specs.Catalogue.{Maps, empty}
use Rattle.set_model.specs.declared.commands.Command.{Command}
use Rattle.section_work.specs.declared.place.Place.{Place}
use Rattle.section_work.specs.declared.place.Place.TheVariants.{Commit, Read}
use Rattle.run_report.specs.declared.line.Line.{Line}
use Rattle.run_report.specs.Order.{time_of, IsOrdered}
use Rattle.run_report.specs.Legal.{LegalRun, EachPair, Follows, IsInTime, IsAlone, Replays, id_of, ids_from}
use Rattle.run_report.proofs.Pairs.{pairs_permuted}

-- a legal run stays legal whatever the order of its lines
pub legal_permuted : (scripts : List (List Command)) (lines others : List Line) (base capacity : ℕ) (end : Maps)
    → IsPermutation lines others → LegalRun scripts lines base capacity end → LegalRun scripts others base capacity end
legal_permuted scripts lines others base capacity end same legal =
    let r = legal.replayed in
    record {
      once = IsPermutation-trans _ _ _ legal.once (IsPermutation-map id_of lines others same);
      from_base = All-permutation (λ line. Follows base line.place) lines others same legal.from_base;
      in_time = pairs_permuted IsInTime lines others same legal.in_time;
      alone = pairs_permuted IsAlone lines others same legal.alone;
      replayed = (r.0, IsPermutation-trans _ _ _ (IsPermutation-sym lines others same) r.1, r.2, r.3);
    }

-- a line of one of the first commands of script 0, no later than this time
abbrev pub IsEarlier : ℕ → ℕ → Line → Type 0
IsEarlier done time line = (line.seat ≡ 0) × (line.number ≤ done) × (time_of line.place ≤ time)

-- The first commands of the only script have their lines, in order, up to this time and this catalogue.
pub record IsTold (script : List Command) (base capacity done : ℕ) (lines : List Line) (time : ℕ) (c : Maps) : Type 0 where
  pub ids : map id_of lines ≡ ids_from 0 1 (take done script)
  pub from : base ≤ time
  pub earlier : All (IsEarlier done time) lines
  pub from_base : All (λ line. Follows base line.place) lines
  pub in_time : EachPair IsInTime lines
  pub alone : EachPair IsAlone lines
  pub ordered : IsOrdered lines
  pub replays : Replays (script ∷ []) capacity empty lines c

-- what follows a time follows an earlier one
pub follows_earlier : (early late : ℕ) (place : Place) → early ≤ late → Follows late place → Follows early place
follows_earlier early late (Commit time) le f = omega arith
follows_earlier early late (Read time) le f = omega arith

-- all commands have their lines
pub told_all : (script : List Command) (base capacity done : ℕ) (lines : List Line) (time : ℕ) (c : Maps)
    → length script ≤ done → IsTold script base capacity done lines time c → LegalRun (script ∷ []) lines base capacity c
told_all script base capacity done lines time c all told =
    record {
      once = rw (told.ids, take_all done script all, append-nil) (IsPermutation-refl _);
      from_base = told.from_base;
      in_time = told.in_time;
      alone = told.alone;
      replayed = (lines, IsPermutation-refl lines, told.ordered, told.replays);
    }
