-- A write-back and a named commit after a step, of the same version: what the step may change of it is given, and the rest is that of before.
use Rattle.std.specs.Prelude.{◌≡◌, ℕ, ◌<◌, ◌≤◌, true, false, List, Option, slice_index}
use Rattle.mv_core.proofs.Terms.{Entry, Config, Ring, Committed, CommitNote, OwnSection, Naming, LoadedClocks, WriteBack, index_of, HoldsNothing, Lives}
use Rattle.mv_core.proofs.Terms.{NotAboveAny, latest_at, last_own, time_in}
use Rattle.mv_core.proofs.FactTerms.{IsPastHelp, NamedIs, IsWrittenBack}

module _ {c : Config} {h h' : List Entry} {rings rings' : ℕ → Ring} {s : ℕ} {inside : OwnSection} where
  pub same_back : {master master' : ℕ → ℕ → ℕ} {time time' : ℕ → Option ℕ} {clocks clocks' : LoadedClocks} {grace grace' : ℕ} {b : WriteBack}
      → (r : IsWrittenBack c h master time rings s clocks grace b inside) (note : CommitNote)
      → IsPastHelp clocks' inside → HoldsNothing (rings' s) → Lives rings' s (index_of c b.position) r.version (Committed note)
      → NotAboveAny note.time time' → note.time ≤ grace' → latest_at c.base h' b.object (time_in inside) ≡ note.time → (b.tried ≡ false → note.cut ≡ false)
      → (b.tried ≡ false → (i : ℕ) → i < b.stored → master' b.object i ≡ slice_index r.version.words i)
      → IsWrittenBack c h' master' time' rings' s clocks' grace' b inside
  same_back r note helped nothing lives old known last uncut words = record {
    mode = r.mode;
    helped = helped;
    nothing = nothing;
    version = r.version;
    note = note;
    lives = lives;
    position_is = r.position_is;
    object_is = r.object_is;
    old = old;
    known = known;
    last = last;
    some_stored = r.some_stored;
    uncut = uncut;
    words = words;
  }

  pub same_named : {stamp stamp' : ℕ → ℕ → ℕ} {n : Naming} → (r : NamedIs c h stamp rings s inside n) (note : CommitNote)
      → last_own c.base h' s ≡ n.time → HoldsNothing (rings' s) → Lives rings' s (index_of c n.first) r.version (Committed note) → note.time ≡ n.time
      → (n.stamped ≡ true → stamp' s (index_of c n.first) ≡ n.time) → NamedIs c h' stamp' rings' s inside n
  same_named r note last nothing lives time_is stamped = record {
    later = r.later;
    last = last;
    nothing = nothing;
    version = r.version;
    note = note;
    lives = lives;
    position_is = r.position_is;
    first_is = r.first_is;
    time_is = time_is;
    stamped = stamped;
  }
