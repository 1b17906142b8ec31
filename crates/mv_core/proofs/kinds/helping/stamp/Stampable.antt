-- What is known where the exchange of a stamp is allowed, whether the unset stamp was found for a clock word or is that of the own commit.
use Rattle.std.proofs.Common.{◌≡◌, ◌≢◌, ℕ, true, sym, refl, ap, ◌∙◌, subst, ⊎_elim, arith, List, Some}
use Rattle.mv_core.proofs.Terms.{Entry, State, Writes, Config, Clock, Stamp, Memory, clock_of, clock_time_of, clock_seat_of, clock_slot_of, unset_of}
use Rattle.mv_core.proofs.Terms.{Ring, Committed, Knowledge, Inside, OwnSection, Named, Naming, index_of, Lives, parts_of}
use Rattle.mv_core.proofs.FactTerms.{WasClock, IsNamedCommit, IsFound, NamedIs, Facts}
use Rattle.mv_core.specs.EnterSteps.{IsOwnNaming, MayStamp}
use Rattle.mv_core.proofs.frames.ClocksLoaded.{slot_in}
use Rattle.mv_core.proofs.history.SectionWords.{section_is}
use Rattle.mv_core.proofs.history.CommitWords.{commit_was, word_unpacks}
use Rattle.mv_core.proofs.kinds.helping.LoadCheck.{named_found}

-- the word was in the clock and names a commit, the unset stamp is what it seems, and is the commit's own while the clock has the word
pub record IsStampable (c : Config) (clock : ℕ) (stamp : ℕ → ℕ → ℕ) (rings : ℕ → Ring) (word unset : ℕ) : Type 0 where
  pub was : WasClock c clock word
  pub names : clock_slot_of word ≢ 8191
  pub found : IsFound c stamp rings (record { word = word; unset = unset; checked = true })
  pub now : clock ≡ word → IsNamedCommit rings word unset

module _ {starts : State → Type 0} {allows : List ℕ → State → Writes → Type 0} {c : Config} {start : State} (v : Knowledge)
    {m : Memory} {h : List Entry} (seats : ℕ → Knowledge) (k : Facts starts allows c start m h (parts_of seats)) (is : seats v.number ≡ v)
    (word unset : ℕ) where
  abbrev stamp : ℕ → ℕ → ℕ
  stamp s i = m (Stamp s i)

  abbrev rings : ℕ → Ring
  rings s = (seats s).ring

  by_found : v.clocks.found ≡ Some (record { word = word; unset = unset; checked = true }) → IsStampable c (m Clock) stamp rings word unset
  by_found e =
      let here : (seats v.number).clocks.found ≡ Some (record { word = word; unset = unset; checked = true }) = ap (λ (u : Knowledge). u.clocks.found) is ∙ e in
      let w = k.loaded_words.found v.number (record { word = word; unset = unset; checked = true }) here in record {
        was = w.0;
        names = w.1;
        found = k.found_stamp.checked v.number (record { word = word; unset = unset; checked = true }) here refl;
        now = k.found_stamp.now v.number (record { word = word; unset = unset; checked = true }) here;
      }

  -- what the section's own commit is
  pub own_is : (inside : OwnSection) (n : Naming) → v.phase ≡ Inside inside → inside.mode ≡ Named n → NamedIs c h stamp rings v.number inside n
  own_is inside n phase mode = k.named_commit v.number inside n (section_is seats v inside k is phase) mode

  module _ (own : IsOwnNaming c v word unset) where
    own_named : NamedIs c h stamp rings v.number own.0 own.1
    own_named = own_is own.0 own.1 own.2 own.3

    own_word : clock_of own_named.note.time v.number (index_of c own_named.version.first) ≡ word
    own_word = let time_is =
        own_named.time_is in let first_is = own_named.first_is in (λ i. clock_of (time_is i) v.number (index_of c (first_is i))) ∙ sym own.4

    -- the own word unpacks
    pub own_unpacks : (clock_time_of word ≡ own.1.time) × (clock_seat_of word ≡ v.number) × (clock_slot_of word ≡ index_of c own.1.first)
    own_unpacks =
        let u = word_unpacks k v.number (index_of c own.1.first) own_named.version own_named.note own_named.lives in (
          ap clock_time_of (sym own_word) ∙ u.0 ∙ own_named.time_is,
          ap clock_seat_of (sym own_word) ∙ u.1,
          ap clock_slot_of (sym own_word) ∙ u.2
              ∙ ap (index_of c) own_named.first_is,
        )

    -- it names the own commit
    pub own_commit : IsNamedCommit rings word unset
    own_commit =
        let seat_is = sym own_unpacks.1 in
        let slot_is = sym own_unpacks.2 in record {
          version = own_named.version;
          note = own_named.note;
          lives = subst (λ (p : ℕ × ℕ). Lives rings p.0 p.1 own_named.version (Committed own_named.note)) (λ i. (seat_is i, slot_is i)) own_named.lives;
          first_is = own_named.position_is ∙ sym own_named.first_is;
          time_is = own_named.time_is ∙ sym own_unpacks.0;
          unset_is = own.5 ∙ ap unset_of (sym own_named.first_is);
        }

    by_own : IsStampable c (m Clock) stamp rings word unset
    by_own = record {
      was = subst (WasClock c (m Clock)) own_word (commit_was k v.number (index_of c own.1.first) own_named.version own_named.note own_named.lives);
      names = λ e. let low = slot_in c k.checked own.1.first in let few = k.checked.slots.1 in let at = own_unpacks.2 in absurd (omega arith);
      found = named_found c h stamp rings (record { word = word; unset = unset; checked = true }) k.positions own_commit;
      now = λ _. own_commit;
    }

  pub stampable : MayStamp c v word unset → IsStampable c (m Clock) stamp rings word unset
  stampable may = ⊎_elim by_found by_own may
