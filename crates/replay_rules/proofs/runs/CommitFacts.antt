-- Of a commit: the words of its names, and what nothing is below.
use Rattle.std.proofs.Common.{◌≡◌, ℕ, zero, suc, ◌+◌, ◌<◌, ◌≤◌, ◌&&◌, ltb, leb, List, length, Some, refl, sym, ap, ◌∙◌, subst, arith, lt-ltb, le-leb}
use Rattle.std.proofs.Common.{if◌then◌else◌, ◌-◌}
use Rattle.std.specs.Prelude.{slice_get}
use Rattle.mv_layout.specs.Words.{clock_of, clock_time_of}
use Rattle.mv_core.proofs.Terms.{Config}
use Rattle.mv_core.specs.declared.view.Knowledge.{Knowledge}
use Rattle.seat_log.specs.Notes.{held_from}
use Rattle.commit_abort.proofs.FinishParts as parts
use Rattle.replay_rules.specs.declared.seats.NotedVersion.{NotedVersion}
use Rattle.replay_rules.specs.SeatNotes.{version_at}
use Rattle.replay_rules.specs.Tasks.{slot_at as slot_for, commit_clock}
use Rattle.replay_rules.proofs.runs.Notes.{note_of}
use Rattle.replay_rules.proofs.runs.Standing.{Finishes}
use Rattle.replay_rules.proofs.runs.LogFacts.{noted_from, noted_at}

-- the clock word of the next commit, where the numbers fit one
pub next_word_is : (c : Config) (word n at slot : ℕ) → clock_time_of word < 35184372088831 → n < 64 → slot ≤ 8191 → slot ≡ slot_for c at
    → commit_clock c word n at ≡ clock_of (clock_time_of word + 1) n slot
next_word_is c word n at slot room seat low is =
    ap (λ x. if ltb (clock_time_of word) 35184372088831 && (ltb n 64 && leb x 8191) then clock_of (clock_time_of word + 1) n x else 0) (sym is)
    ∙ ap (λ b. if b && (ltb n 64 && leb slot 8191) then clock_of (clock_time_of word + 1) n slot else 0) (lt-ltb (clock_time_of word) 35184372088831 room)
    ∙ ap (λ b. if b && leb slot 8191 then clock_of (clock_time_of word + 1) n slot else 0) (lt-ltb n 64 seat)
    ∙ ap (λ b. if b then clock_of (clock_time_of word + 1) n slot else 0) (le-leb slot 8191 low)

-- nothing is below some more of the versions, so these count as told
pub told_on : (c : Config) (v : Knowledge) (log : List NotedVersion) (freed from time told more : ℕ) → Finishes c v log freed from time told
    → from + told + more
    ≤ length log
    → ((j : ℕ) → from + told ≤ j → j < from + told + more → (version_at log j).previous ≡ 0) → Finishes c v log freed from time (told + more)
told_on c v log freed from time told zero fin within none = subst (Finishes c v log freed from time) (omega arith) fin
told_on c v log freed from time told (suc more) fin within none =
    let l = fin.noted in
    let at = from + told in
    let n = note_of at (version_at log at) in
    let first = noted_from c l log freed from fin.is fin.finishing.named.stands.log.held in
    let place : at - freed ≡ held_from l + told = omega (arith, first) in
    let there = subst (λ (i : ℕ). slice_get l.live i ≡ Some n) place (noted_at c l log freed from at fin.is (omega (arith, first)) (omega (arith, within))) in
    let nothing : n.previous ≡ 0 = none at (omega arith) (omega arith) in
    let next : Finishes c v log freed from time (told + 1) = record {
      before = fin.before;
      noted = l;
      finishing = (parts.goes_on c fin.before v l time told fin.finishing v n 0 0 there
          (record { none = λ _. (refl, refl); one = λ some. absurd (some nothing) })).0;
      is = fin.is;
      in_time = fin.in_time;
    } in
    subst (Finishes c v log freed from time) (omega arith)
    (told_on c v log freed from time (told + 1) more next (omega (arith, within)) (λ j low high. none j (omega (arith, low)) (omega (arith, high))))
