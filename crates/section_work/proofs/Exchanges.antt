-- How many exchanges on CLOCK for a commit an attempt makes.
use Rattle.mv_history.specs.declared.trail.Step.{Step}
use Rattle.mv_history.specs.declared.trail.StepKind.{StepKind}
use Rattle.mv_history.specs.declared.trail.StepKind.TheVariants.{NameCommit}
use Rattle.section_work.proofs.Terms.{◌≡◌, ◌∷◌, ◌++◌, true, List, [], length, refl, sym, ap, ◌∙◌, arith, nat_tests, true≢false, length-append}
use Rattle.section_work.proofs.Terms.{is_commit_exchange, is_clock_exchange, commit_exchanges, clock_exchanges, Seat, InSection, call_trail, Continues, GoesOn}
use Rattle.section_work.proofs.Terms.{Prepares, Enters, Leaves, NamesNoCommit, TriesOne, Continues-Continues, NamesNoCommit-NamesNoCommit}
use Rattle.section_work.proofs.Terms.{commit_exchanges-call_trail}

commit_is_clock : (k : StepKind) → is_commit_exchange k ≡ true → is_clock_exchange k ≡ true
commit_is_clock NameCommit e = refl
commit_is_clock _ e = absurd (true≢false (sym e))

-- where no exchange on CLOCK is made, none is for a commit
none_for_commit : (steps : List Step) → clock_exchanges steps ≡ [] → commit_exchanges steps ≡ []
none_for_commit [] e = refl
none_for_commit (x ∷ xs) e = grind (arith, nat_tests, commit_is_clock x.kind, none_for_commit xs)

pub leaves_none : (old : InSection) (new : Seat) → Leaves old new → NamesNoCommit old.seat new
leaves_none old new l = none_for_commit (call_trail old.seat new) l.names_nothing

pub none_one : (a b : Seat) → NamesNoCommit a b → TriesOne a b
none_one a b n = let e : length (commit_exchanges (call_trail a b)) ≡ 0 = ap length n in omega arith

pub one_before : {a b c : Seat} → Continues a b → Continues b c → NamesNoCommit a b → TriesOne b c → TriesOne a c
one_before {a} {b} {c} p q n o =
    let e : commit_exchanges (call_trail a c) ≡ commit_exchanges (call_trail b c) =
    commit_exchanges-call_trail p q ∙ ap (λ l. l ++ commit_exchanges (call_trail b c)) n in
    omega (arith, ap length e, o)

pub one_after : {a b c : Seat} → Continues a b → Continues b c → TriesOne a b → NamesNoCommit b c → TriesOne a c
one_after {a} {b} {c} p q o n =
    let e = commit_exchanges-call_trail p q in
    omega (arith, ap length e, length-append (commit_exchanges (call_trail a b)) (commit_exchanges (call_trail b c)), ap length n, o)

-- calls that try none, one after another, and then leave
pub leave_none : (a : Seat) (found : InSection) (new : Seat) → Continues a found.seat → NamesNoCommit a found.seat → Leaves found new → NamesNoCommit a new
leave_none a found new p n l = NamesNoCommit-NamesNoCommit p l.continues n (leaves_none found new l)

-- so they try one at most
pub left_one : {a : Seat} {found : InSection} {new : Seat} → Continues a found.seat → NamesNoCommit a found.seat → Leaves found new → TriesOne a new
left_one {a} {found} {new} p n l = none_one a new (leave_none a found new p n l)

-- room was made, and a section entered and only read
pub looks_in : {old prepared : Seat} {entered found : InSection} → Prepares old prepared → Enters prepared entered → GoesOn entered found
    → Prepares old found.seat
looks_in {old} {prepared} {entered} {found} p e goes =
    let inside : Continues prepared found.seat = Continues-Continues e.seat.continues goes.continues in
    record {
      continues = Continues-Continues p.continues inside;
      mine = goes.mine ∙ e.seat.mine ∙ p.mine;
      names_no_commit = NamesNoCommit-NamesNoCommit p.continues inside p.names_no_commit
          (NamesNoCommit-NamesNoCommit e.seat.continues goes.continues e.names_no_commit goes.names_no_commit);
    }
