-- Sections and states under the rules of one object.
use Rattle.std.proofs.Common.{◌≡◌, ℕ, ◌+◌, ◌<◌, ◌≤◌, List, [], ◌∷◌, ◌++◌, length, sym, ap, ◌∙◌, Ok, get_or-set_same}
use Rattle.std.specs.Prelude.{slice_index}
use Rattle.mv_history.specs.State.{State}
use Rattle.mv_history.specs.declared.history.TheConstants.{LAST}
use Rattle.mv_history.specs.Meaning.{InSection, IsSection, state_of, words_at, Lacks}
use Rattle.mv_history.specs.Calls.{GoesOn, IsAsBefore}
use Rattle.section_work.specs.declared.work.Decision.TheVariants.{Change}
use Rattle.mv_client.specs.Updates.{Filled}
use Rattle.mv_client.specs.Invariants.{IsRaised}
use Rattle.mv_client.specs.Rewriting.{Rewrites}
use Rattle.mv_client.proofs.Filled.{filled_put}
use Rattle.mv_client.proofs.Invariants.{raised_read}

-- a word of an object
abbrev pub word_of : ℕ → ℕ → State → ℕ
word_of object place s = slice_index (words_at s object) place

module _ {object : ℕ} {next : List ℕ → List ℕ} where
  -- In a section that held nothing the object was read and got the words that come next.
  pub filled_next : {T : Type 0} {starts : State → Type 0} {old mid new : InSection} {u : State} {tag was : List ℕ} {reply : T}
      → IsSection starts (Rewrites object next) old → old.own ≡ [] → u ≡ state_of old → was ≡ words_at u object → object < length u
      → IsAsBefore old mid → GoesOn old mid → GoesOn mid new → (Lacks mid object → new.own ≡ mid.own ++ (object, next was) ∷ [])
      → Filled (Rewrites object next) old new (Ok (Change tag reply))
  filled_next lawful none reads is within same goes more put =
      filled_put lawful none reads is within same goes more put
      (λ s there held. record { there = there; writes_are = ap (λ w. (object, next w) ∷ []) (sym held) })

  module _ (place : ℕ) (one_more : (words : List ℕ) → slice_index (next words) place ≡ slice_index words place + 1) where
    -- where the next words have one more at this place, each commit adds one there
    pub next_raises : IsRaised (Rewrites object next) (word_of object place)
    next_raises tag s ws w =
        rw w.writes_are (ap (λ v. slice_index v place) (get_or-set_same s object (next (words_at s object)) [] w.there) ∙ one_more (words_at s object))

    -- and what a section reads there is at most as much greater than at the opening as there are times
    pub next_few : {starts : State → Type 0} {s : InSection} {u : State} {words : List ℕ} → IsSection starts (Rewrites object next) s → s.own ≡ []
        → u ≡ state_of s → words ≡ words_at u object → slice_index words place ≤ word_of object place s.seat.start + LAST
    next_few lawful none reads is = rw is (raised_read (Rewrites object next) (word_of object place) next_raises lawful none reads)
