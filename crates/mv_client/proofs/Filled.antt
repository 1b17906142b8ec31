-- What every update leaves of its seat.
use Rattle.std.proofs.Common.{◌≡◌, ℕ, ◌+◌, ◌<◌, ◌≤◌, List, [], ◌∷◌, ◌++◌, length, refl, sym, ap, ◌∙◌, subst, Ok, Err, Option, Some, length-append, arith}
use Rattle.std.specs.Result.{IsErrAnd}
use Rattle.std.proofs.lemmas.Bool.Decides.{nat_tests}
use Rattle.std.proofs.lemmas.List.{append-nil}
use denote.Ref.{MutBor}
use Rattle.core.specs.Fn.{Shared}
use Rattle.mv_history.specs.Meaning.{Seat, InSection, IsWorn, IsSection, state_of, snapshot_of, words_at, Lacks}
use Rattle.mv_history.specs.Calls.{Continues, Enters, GoesOn, Prepares, IsAsBefore, NamesNoCommit, call_trail, commit_by}
use Rattle.mv_history.specs.Trail.{commit_exchanges}
use Rattle.mv_history.specs.State.{State, Writes, touches}
use Rattle.mv_history.specs.Drift.{IsFit}
use Rattle.mv_history.proofs.Steps.{Continues-Continues, GoesOn-GoesOn, NamesNoCommit-NamesNoCommit, commit_exchanges-call_trail}
use Rattle.mv_history.proofs.Snapshots.{snapshot_of-goes_on}
use Rattle.section_work.proofs.Entering.{reads_snapshot, worn_left}
use Rattle.section_work.proofs.Exchanges.{leaves_none}
use Rattle.section_work.specs.Causes.{Causes}
use Rattle.section_work.specs.declared.causes.Refusal.{Refusal}
use Rattle.section_work.specs.declared.causes.Cause.{Cause}
use Rattle.section_work.specs.declared.causes.Cause.TheVariants.{Lock, Rival, LogFull}
use Rattle.section_work.specs.declared.place.Place.{Place}
use Rattle.section_work.specs.declared.place.Place.TheVariants.{Commit as AtCommit, Read}
use Rattle.section_work.specs.declared.work.Decision.TheVariants.{Change}
use Rattle.mv_client.specs.declared.updating.Outcome.{Outcome}
use Rattle.mv_client.specs.declared.updating.Outcome.TheVariants.{Done, Again, End}
use Rattle.mv_client.proofs.Fits.{fit_by_held}
use Rattle.mv_client.specs.Closures.{Shows}
use Rattle.mv_client.specs.Updates.{Answer, Opened, OnChange, Filled, IsForCommit, IsFilled, commits_in, Exchanged, Updated, UpdatedLast, outcome_of}

-- a section that was entered where there was room is an opened one
pub opened_by : (old prepared : Seat) (state : State) (s : InSection) → Prepares old prepared → prepared.write_max ≤ prepared.spare → Enters prepared s
    → state ≡ snapshot_of s → length state ≡ length prepared.start → Opened old state s
opened_by old prepared state s p room e reads objects = record {
  continues = Continues-Continues p.continues e.seat.continues;
  space = record { own = e.own; spare = omega (arith, room, e.seat.spare, e.seat.continues.write_max); held = omega arith };
  reads = reads;
  objects = objects ∙ ap length p.continues.start;
}

-- who may be shown what a later seat opens may be shown what an earlier one does
pub opened_before : (old later : Seat) (state : State) (s : InSection) → Continues old later → Opened later state s → Opened old state s
opened_before old later state s goes o = record {
  continues = Continues-Continues goes o.continues;
  space = o.space;
  reads = o.reads;
  objects = o.objects ∙ ap length goes.start;
}

exchanges_after : {a b c : Seat} → Continues a b → Continues b c → NamesNoCommit a b
    → commit_exchanges (call_trail a c) ≡ commit_exchanges (call_trail b c)
exchanges_after {a} {b} {c} p q none = commit_exchanges-call_trail p q ∙ ap (λ steps. steps ++ commit_exchanges (call_trail b c)) none

exchanges_before : {a b c : Seat} → Continues a b → Continues b c → NamesNoCommit b c
    → commit_exchanges (call_trail a c) ≡ commit_exchanges (call_trail a b)
exchanges_before {a} {b} {c} p q none =
    commit_exchanges-call_trail p q ∙ ap (λ steps. commit_exchanges (call_trail a b) ++ steps) none ∙ append-nil (commit_exchanges (call_trail a b))

module _ {Open T : Type 0} (k : Causes) (section : Open → InSection) (gives : Open → Answer T → Open → Type 0) (old : Seat) where
  filled_continues : (r : Answer T) (left : Open) → IsFilled k section gives old r left → Continues old (section left).seat
  filled_continues r left f = Continues-Continues f.prepares.continues (Continues-Continues f.enters.seat.continues f.goes_on.continues)

  filled_mine : (r : Answer T) (left : Open) → IsFilled k section gives old r left → (section left).seat.mine ≡ old.mine
  filled_mine r left f = f.goes_on.mine ∙ f.enters.seat.mine ∙ f.prepares.mine

  -- what found something in the way left the seat's own commits
  pub again_mine : (new : Seat) (cause : Cause) → Updated k section gives old new (Again cause) → new.mine ≡ old.mine
  again_mine new (Lock refusal) u = u.leaves.mine ∙ filled_mine _ u.left u.filled
  again_mine new (Rival rival) u = u.1.leaves.mine ∙ u.1.as_before.seat.mine ∙ filled_mine _ u.1.left u.1.filled
  again_mine new (LogFull holder) u = u.prepares.mine

  pub updated_continues : (new : Seat) (a : Outcome T) → Updated k section gives old new a → Continues old new
  updated_continues new (Done reply (AtCommit time)) u = Continues-Continues (filled_continues _ u.left u.filled) u.commits.continues
  updated_continues new (Done reply (Read time)) u = Continues-Continues (filled_continues _ u.left u.filled) u.leaves.continues
  updated_continues new (Again (Lock refusal)) u = Continues-Continues (filled_continues _ u.left u.filled) u.leaves.continues
  updated_continues new (Again (Rival rival)) u =
      Continues-Continues (filled_continues _ u.1.left u.1.filled) (Continues-Continues u.1.as_before.seat.continues u.1.leaves.continues)
  updated_continues new (Again (LogFull holder)) u = u.prepares.continues
  updated_continues new End u =
      Continues-Continues (filled_continues _ u.left u.filled) (Continues-Continues u.as_before.seat.continues u.leaves.continues)

  pub updated_commits : (new : Seat) (a : Outcome T) → Updated k section gives old new a → length new.mine ≡ length old.mine + commits_in a
  updated_commits new (Done reply (AtCommit time)) u =
      ap length u.commits.mine ∙ length-append (section u.left).seat.mine (commit_by (section u.left) u.tag ∷ [])
      ∙ ap (λ (n : ℕ). n + 1) (ap length (filled_mine _ u.left u.filled))
  updated_commits new (Done reply (Read time)) u =
      omega (arith, ap length u.leaves.mine, ap length (filled_mine _ u.left u.filled))
  updated_commits new (Again (Lock refusal)) u =
      omega (arith, ap length u.leaves.mine, ap length (filled_mine _ u.left u.filled))
  updated_commits new (Again (Rival rival)) u =
      omega (arith, ap length u.1.leaves.mine, ap length u.1.as_before.seat.mine, ap length (filled_mine _ u.1.left u.1.filled))
  updated_commits new (Again (LogFull holder)) u = omega (arith, ap length u.prepares.mine)
  updated_commits new End u =
      omega (arith, ap length u.leaves.mine, ap length u.as_before.seat.mine, ap length (filled_mine _ u.left u.filled))

  filled_quiet : (r : Answer T) (left : Open) → IsFilled k section gives old r left → NamesNoCommit old (section left).seat
  filled_quiet r left f =
      NamesNoCommit-NamesNoCommit f.prepares.continues (Continues-Continues f.enters.seat.continues f.goes_on.continues) f.prepares.names_no_commit
      (NamesNoCommit-NamesNoCommit f.enters.seat.continues f.goes_on.continues f.enters.names_no_commit f.goes_on.names_no_commit)

  -- the exchanges of an update are those of its commit
  pub updated_exchanges : (new : Seat) (a : Outcome T) → Updated k section gives old new a → Exchanged k.has_trail old new a
  updated_exchanges new (Done reply (AtCommit time)) u = λ told.
      rw (exchanges_after (filled_continues _ u.left u.filled) u.commits.continues (filled_quiet _ u.left u.filled)) (u.won told)
  updated_exchanges new (Done reply (Read time)) u =
      NamesNoCommit-NamesNoCommit (filled_continues _ u.left u.filled) u.leaves.continues (filled_quiet _ u.left u.filled) (leaves_none _ new u.leaves)
  updated_exchanges new (Again (Lock refusal)) u =
      NamesNoCommit-NamesNoCommit (filled_continues _ u.left u.filled) u.leaves.continues (filled_quiet _ u.left u.filled) (leaves_none _ new u.leaves)
  updated_exchanges new (Again (Rival rival)) u = λ told.
      let first = filled_continues _ u.1.left u.1.filled in
      let tried = u.1.as_before.seat.continues in
      rw (
        exchanges_before (Continues-Continues first tried) u.1.leaves.continues (leaves_none _ new u.1.leaves),
        exchanges_after first tried (filled_quiet _ u.1.left u.1.filled),
      ) (u.1.lost told)
  updated_exchanges new (Again (LogFull holder)) u = u.prepares.names_no_commit
  updated_exchanges new End u = tt

-- an update that came to this
pub updated_as : {Open T : Type 0} (k : Causes) (section : Open → InSection) (gives : Open → Answer T → Open → Type 0) (old new : Seat) (a b : Outcome T)
    → a ≡ b → Updated k section gives old new a → Updated k section gives old new b
updated_as k section gives old new a b e u = subst (λ (x : Outcome _). Updated k section gives old new x) e u

-- an update, after others that found something in the way
pub last_by : {Open T : Type 0} (k : Causes) (section : Open → InSection) (gives : Open → Answer T → Open → Type 0) (old before new : Seat)
    (a : Outcome T) → Continues old before → before.mine ≡ old.mine → Updated k section gives before new a → UpdatedLast k section gives old new a
last_by k section gives old before new a comes mine u = record { before = before; comes = comes; mine = mine; updated = u }

-- where the answer is that no time was left, none is left
pub updated_worn : {Open T : Type 0} (k : Causes) (section : Open → InSection) (gives : Open → Answer T → Open → Type 0) (old new : Seat)
    (a : Outcome T) → new.base + length new.seen ≤ new.last → a ≡ End → Updated k section gives old new a → IsWorn new
updated_worn k section gives old new a most e u =
    let late = updated_as k section gives old new a End e u in
    worn_left (section late.left) (section late.after) new late.as_before late.worn late.leaves most

module _ {Open T : Type 0} (k : Causes) (section : Open → InSection) (gives : Open → Answer T → Open → Type 0) (old new : Seat) (a : Outcome T)
    (last : UpdatedLast k section gives old new a) where
  pub last_continues : Continues old new
  last_continues = Continues-Continues last.comes (updated_continues k section gives last.before new a last.updated)

  pub last_commits : length new.mine ≡ length old.mine + commits_in a
  last_commits = updated_commits k section gives last.before new a last.updated ∙ ap (λ (n : ℕ). n + commits_in a) (ap length last.mine)

  pub last_worn : new.base + length new.seen ≤ new.last → a ≡ End → IsWorn new
  last_worn most e = updated_worn k section gives last.before new a most e last.updated

  pub last_mine : (cause : Cause) → a ≡ Again cause → new.mine ≡ old.mine
  last_mine cause e =
      again_mine k section gives last.before new cause (subst (λ (x : Outcome T). Updated k section gives last.before new x) e last.updated) ∙ last.mine

-- a call of a closure showed this
pub shown_as : {F X R : Type 0} (g : Shared F (MutBor X × Unit {0}) (R × (MutBor X × Unit {0}))) (f : F) (shown left : MutBor X) (r s : R)
    → g.post f (shown, tt) (r, (left, tt)) → r ≡ s → Shows g f shown.now s left.now
shown_as g f shown left r s met e =
    subst (λ z. Shows g f shown.now z left.now) e (record { shown = shown; shows = refl; left = left; met = met; leaves = refl })

-- what was filled for a commit is some, and fit
pub filled_fit : {T : Type 0} (allowed : List ℕ → State → Writes → Type 0) (old new : InSection) (r : Answer T) (tag : List ℕ) (reply : T)
    → r ≡ Ok (Change tag reply) → Filled allowed old new r → (0 < length new.own) × IsFit allowed (snapshot_of new) tag new.own
filled_fit allowed old new r tag reply e f =
    subst (λ z. OnChange z (λ t. (0 < length new.own) × IsFit allowed (snapshot_of new) t new.own)) e f.fit

-- behind a read, a lock that was refused gives the section up
pub filled_refused : {T : Type 0} {allowed : List ℕ → State → Writes → Type 0} {old mid new : InSection} {r : Answer T} (refusal : Refusal)
    → GoesOn old mid → GoesOn mid new → IsErrAnd r (λ e. e ≡ refusal) → Filled allowed old new r × IsForCommit r
filled_refused {r = Ok d} refusal goes more e = absurd e
filled_refused {r = Err e} refusal goes more is = (record { goes_on = GoesOn-GoesOn goes more; fit = tt }, tt)

-- In a section that held nothing one object was read and put, and the writes are allowed wherever the object has the words that were read.
pub filled_put : {T : Type 0} {starts : State → Type 0} {allowed : List ℕ → State → Writes → Type 0} {old mid new : InSection} {u : State}
    {tag : List ℕ} {reply : T} {object : ℕ} {was words : List ℕ} → IsSection starts allowed old → old.own ≡ [] → u ≡ state_of old
    → was ≡ words_at u object → object < length u → IsAsBefore old mid → GoesOn old mid → GoesOn mid new
    → (Lacks mid object → new.own ≡ mid.own ++ (object, words) ∷ [])
    → ((s : State) → object < length s → words_at s object ≡ was → allowed tag s ((object, words) ∷ [])) → Filled allowed old new (Ok (Change tag reply))
filled_put {allowed = allowed} {old = old} {mid = mid} {new = new} {u = u} {tag = tag} {object = object} {words = words}
    lawful none reads is within same goes more put allows =
    let own : new.own ≡ (object, words) ∷ [] =
    put (ap (λ ws. touches ws object) (same.own ∙ none)) ∙ ap (λ ws. ws ++ (object, words) ∷ []) (same.own ∙ none) in
    let all = GoesOn-GoesOn goes more in
    let from : u ≡ snapshot_of new = reads ∙ reads_snapshot old none ∙ sym (snapshot_of-goes_on old new all lawful.at) in
    let fit = fit_by_held allowed (snapshot_of new) tag ((object, words) ∷ []) (λ s long held.
    allows s (omega (arith, long, ap length from, within)) (held object (grind (arith, nat_tests)) ∙ ap (λ v. words_at v object) (sym from) ∙ sym is)) in
    record { goes_on = all; fit = (omega (arith, ap length own), subst (λ ws. IsFit allowed (snapshot_of new) tag ws) (sym own) fit) }

-- A closure that has something to commit each time is done by a commit.
pub done_commits : {Open T : Type 0} (k : Causes) (section : Open → InSection) (gives : Open → Answer T → Open → Type 0) (old new : Seat)
    (r : Option (T × Place)) (done : T × Place) → ((s t : Open) (a : Answer T) → gives s a t → IsForCommit a) → r ≡ Some done
    → UpdatedLast k section gives old new (outcome_of r) → length new.mine ≡ length old.mine + commits_in (outcome_of r)
    → length new.mine ≡ length old.mine + 1
done_commits {Open} {T} k section gives old new r done commits e last made =
    made
    ∙ ap (λ (n : ℕ). length old.mine + n)
    (ap (λ x. commits_in (outcome_of x)) e
    ∙ go done.1 (subst (λ (x : Option (T × Place)). Updated k section gives last.before new (outcome_of x)) e last.updated))
  where
    go : (place : Place) → Updated k section gives last.before new (Done done.0 place) → commits_in {T = T} (Done done.0 place) ≡ 1
    go (AtCommit time) u = refl
    go (Read time) u = absurd (commits _ _ _ u.filled.gives_is)
