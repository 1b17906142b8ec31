-- The laws of the plain store and its section.
use Rattle.std.specs.Prelude.{◌≡◌, List, [], length, map, take}
use Rattle.std.proofs.Common.{sym, ap, ◌∙◌, arith}
use Rattle.std.proofs.lemmas.List.{take_all, length-map}
use Rattle.mv_history.specs.declared.history.Commit.{Commit}
use Rattle.mv_history.specs.declared.history.Entry.TheVariants.{Change}
use Rattle.mv_history.specs.State.{State, written, state_after, state_at}
use Rattle.mv_history.specs.Legal.{AreWords}
use Rattle.mv_history.specs.Meaning.{state_of}
use Rattle.mv_history.specs.WordsLaws.{AreWords-written, AreWords-state_after}
use Rattle.plain_store.specs.Meaning.{commits_in, section_of}
use Rattle.plain_store.specs.declared.store.PlainStore.{PlainStore}
use Rattle.plain_store.specs.declared.section.PlainSection.{PlainSection}

-- the snapshot of the whole history is the state after it
pub state_at-whole : (start : State) (commits : List Commit)
    → state_at start (map (λ c. Change c) commits) (length commits) ≡ state_after start (map (λ c. Change c) commits)
state_at-whole start commits =
    ap (λ h. state_after start h) (take_all (length commits) (map (λ c. Change c) commits) (omega (arith, length-map commits (λ c. Change c))))

-- a plain store's state is the state after its commits
pub plain_state : {P : _} {rules : _} (s : PlainStore P rules)
    → s.words.items ≡ state_at s.start.value.items (map (λ c. Change c) (commits_in s)) (length (commits_in s))
plain_state s = s.current ∙ sym (state_at-whole s.start.value.items (commits_in s))

pub plain_reads : {P : _} {rules : _} (s : PlainSection P rules) → written s.store.words.items (take s.held s.own) ≡ state_of (section_of s)
plain_reads s = ap (λ w. written w (take s.held s.own)) (plain_state s.store)

pub AreWords-plain : {P : _} {rules : _} (s : PlainStore P rules) → AreWords s.words.items
AreWords-plain s =
    rw (s.current)
    (AreWords-state_after (length s.start.value.items) [] (map (λ c. Change c) (commits_in s)) s.start.value.items s.lawful.legal s.lawful.words)

pub plain_words : {P : _} {rules : _} (s : PlainSection P rules) → AreWords (written s.store.words.items (take s.held s.own))
plain_words s = AreWords-written s.store.words.items (take s.held s.own) (AreWords-plain s.store) s.lawful.words
