-- What several calls do, one after another.
use Rattle.std.proofs.Common.{◌≡◌, ℕ, ◌+◌, ◌≤◌, List, ◌++◌, length, take, drop, sym, ap, ◌∙◌, arith, length-take}
use Rattle.std.proofs.lemmas.List.{take-append-drop, take-take, drop-append-le}
use Rattle.std.proofs.lemmas.List.Elements.{filter-append}
use Rattle.mv_history.specs.State.{state_after, state_at}
use Rattle.mv_history.specs.Trail.{commit_exchanges, is_commit_exchange}
use Rattle.mv_history.specs.Meaning.{Seat, InSection, IsWorn}
use Rattle.mv_history.specs.Calls.{call_trail, Continues, Waits, IsAsBefore, GoesOn, NamesNoCommit}

-- a list that begins a list that begins another
pub front-front : {X : Type 0} (xs ys zs : List X) → take (length xs) ys ≡ xs → take (length ys) zs ≡ ys → take (length xs) zs ≡ xs
front-front xs ys zs a b =
    let short : length xs ≤ length ys = omega (arith, ap length a, length-take (length xs) ys) in
    sym (take-take (length xs) (length ys) zs short) ∙ ap (λ l. take (length xs) l) b ∙ a

pub Continues-Continues : {a b c : Seat} → Continues a b → Continues b c → Continues a c
Continues-Continues {a} {b} {c} p q = record {
  number = q.number ∙ p.number;
  home = q.home ∙ p.home;
  write_max = q.write_max ∙ p.write_max;
  start = q.start ∙ p.start;
  base = q.base ∙ p.base;
  last = q.last ∙ p.last;
  seen = front-front a.seen b.seen c.seen p.seen q.seen;
  trail = front-front a.trail b.trail c.trail p.trail q.trail;
}

-- what was seen grows only
pub length-seen : {a b : Seat} → Continues a b → length a.seen ≤ length b.seen
length-seen {a} {b} p = omega (arith, ap length p.seen, length-take (length a.seen) b.seen)

-- the state of a time that was seen stays
pub state_at-later : {a b : Seat} → Continues a b → (t : ℕ) → t ≤ length a.seen → state_at b.start b.seen t ≡ state_at a.start a.seen t
state_at-later {a} {b} p t l =
    let front : take t b.seen ≡ take t a.seen =
    sym (take-take t (length a.seen) b.seen l) ∙ ap (λ h. take t h) p.seen in
    ap (λ h. state_after b.start h) front ∙ ap (λ s. state_after s (take t a.seen)) p.start

-- where no time is left, none is left later
pub IsWorn-later : {a b : Seat} → Continues a b → IsWorn a → b.base + length b.seen ≤ b.last → IsWorn b
IsWorn-later {a} {b} p w l = omega (arith, w, l, p.base, p.last, length-seen p)

-- a list that begins another, and the rest of that one
front-whole : {X : Type 0} (xs ys : List X) → take (length xs) ys ≡ xs → xs ++ drop (length xs) ys ≡ ys
front-whole xs ys e = ap (λ zs. zs ++ drop (length xs) ys) (sym e) ∙ take-append-drop (length xs) ys

-- the steps of two calls are those of the one and then those of the other
pub call_trail-call_trail : {a b c : Seat} → Continues a b → Continues b c → call_trail a c ≡ call_trail a b ++ call_trail b c
call_trail-call_trail {a} {b} {c} p q =
    let short : length a.trail ≤ length b.trail =
    omega (arith, ap length p.trail, length-take (length a.trail) b.trail) in
    ap (λ l. drop (length a.trail) l) (sym (front-whole b.trail c.trail q.trail))
    ∙ drop-append-le (length a.trail) b.trail (drop (length b.trail) c.trail) short

-- the commit exchanges of two calls are those of the one and then those of the other
pub commit_exchanges-call_trail : {a b c : Seat} → Continues a b → Continues b c
    → commit_exchanges (call_trail a c) ≡ commit_exchanges (call_trail a b) ++ commit_exchanges (call_trail b c)
commit_exchanges-call_trail {a} {b} {c} p q =
    ap commit_exchanges (call_trail-call_trail p q) ∙ filter-append (λ s. is_commit_exchange s.kind) (call_trail a b) (call_trail b c)

pub NamesNoCommit-NamesNoCommit : {a b c : Seat} → Continues a b → Continues b c → NamesNoCommit a b → NamesNoCommit b c → NamesNoCommit a c
NamesNoCommit-NamesNoCommit {a} {b} {c} p q m n =
    commit_exchanges-call_trail p q ∙ ap (λ l. l ++ commit_exchanges (call_trail b c)) m ∙ n

pub Waits-Waits : {a b c : Seat} → Waits a b → Waits b c → Waits a c
Waits-Waits {a} {b} {c} p q = record {
  continues = Continues-Continues p.continues q.continues;
  mine = q.mine ∙ p.mine;
  rests = q.rests ∙ p.rests;
  spare = q.spare ∙ p.spare;
}

pub IsAsBefore-IsAsBefore : {a b c : InSection} → IsAsBefore a b → IsAsBefore b c → IsAsBefore a c
IsAsBefore-IsAsBefore {a} {b} {c} p q = record { seat = Waits-Waits p.seat q.seat; at = q.at ∙ p.at; own = q.own ∙ p.own }

-- calls that stay in their section, one after another
pub GoesOn-GoesOn : {a b c : InSection} → GoesOn a b → GoesOn b c → GoesOn a c
GoesOn-GoesOn {a} {b} {c} p q = record {
  continues = Continues-Continues p.continues q.continues;
  mine = q.mine ∙ p.mine;
  rests = q.rests ∙ p.rests;
  at = q.at ∙ p.at;
  names_no_commit = NamesNoCommit-NamesNoCommit p.continues q.continues p.names_no_commit q.names_no_commit;
}
