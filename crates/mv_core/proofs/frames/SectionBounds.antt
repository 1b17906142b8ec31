-- What stays of the facts that bound all sections or speak of clock words, where one seat's section or its clock words change.
-- Shared by the steps that begin and end a section.
use Rattle.std.proofs.Common.{◌≡◌, ◌≢◌, ℕ, ◌<◌, ◌==◌, Bool, true, false, [], eq-eqb, ne_eqb, sym, ◌∙◌, subst, arith, Option, Some, None}
use Rattle.std.specs.Prelude.{Contains}
use Rattle.mv_core.proofs.Terms.{dite, ℕ_discrete, Config, clock_slot_of, Ring, OwnSection, LoadedClocks, FoundStamp, NotAbove, NotAboveAny, set_at}
use Rattle.mv_core.specs.SectionFacts.{IsDone, HelpedWords, WasClock, LoadedWords, IsNamedCommit, IsFound, FoundStamps}
use Rattle.mv_core.proofs.frames.FrameLaw.{set_at_all}

-- nothing is in an empty list
pub none_in : {A : Type 0} {B : Type 0} (x : A) → Contains [] x → B
none_in x has = let l : has.0 < 0 = has.1 in absurd (omega arith)

-- by whether a seat is the one that changed: whatever its changed parts are then
pub by_seat : (t n : ℕ) (Q : Bool → Type 0) → (t ≡ n → Q true) → (t ≢ n → Q false) → Q (t == n)
by_seat t n Q here rest =
    dite (ℕ_discrete t n) (λ e. subst Q (sym (eq-eqb t n e)) (here e)) (λ ne. subst Q (sym (ne_eqb t n ne)) (rest ne))

-- a bound on all sections holds after one has changed, if it is one on that
pub any_after : (t : ℕ) (time : ℕ → Option ℕ) (n : ℕ) (x : Option ℕ) → NotAboveAny t time → NotAbove t x → NotAboveAny t (set_at time n x)
any_after t time n x all one = set_at_all (λ _ u. NotAbove t u) time n x one (λ s ne. all s)

module _ (c : Config) (clock : ℕ) (stamp : ℕ → ℕ → ℕ) (clocks : ℕ → LoadedClocks) (n : ℕ) where
  -- the helped words of all are done, where those of one seat are given anew
  pub helped_after : (x : LoadedClocks) → ((word : ℕ) → Contains x.helped word → IsDone clock stamp word) → HelpedWords clock stamp clocks
      → HelpedWords clock stamp (set_at clocks n x)
  helped_after x done k = set_at_all (λ s u. (word : ℕ) → Contains u.helped word → IsDone clock stamp word) clocks n x done (λ s ne. k s)

  -- the stamps found hold, where that of one seat is given anew
  pub found_anew : (rings : ℕ → Ring) (x : LoadedClocks) → ((f : FoundStamp) → x.found ≡ Some f → clock ≡ f.word → IsNamedCommit rings f.word f.unset)
      → ((f : FoundStamp) → x.found ≡ Some f → f.checked ≡ true → IsFound c stamp rings f)
      → FoundStamps c clock stamp clocks rings → FoundStamps c clock stamp (set_at clocks n x) rings
  found_anew rings x now checked k = record {
    now = set_at_all (λ s u. (f : FoundStamp) → u.found ≡ Some f → clock ≡ f.word → IsNamedCommit rings f.word f.unset) clocks n x now (λ s ne. k.now s);
    checked = set_at_all (λ s u. (f : FoundStamp) → u.found ≡ Some f → f.checked ≡ true → IsFound c stamp rings f) clocks n x checked (λ s ne. k.checked s);
  }

  -- and where one seat has none any more
  pub found_after : (rings : ℕ → Ring) (x : LoadedClocks) → x.found ≡ None → FoundStamps c clock stamp clocks rings
      → FoundStamps c clock stamp (set_at clocks n x) rings
  found_after rings x none k =
      found_anew rings x (λ f e. let g : None ≡ Some f = sym none ∙ e in absurd (cc)) (λ f e. let g : None ≡ Some f = sym none ∙ e in absurd (cc)) k

  -- the words of all sections were in the clock, if that of a new one is
  pub inside_after : (section : ℕ → Option OwnSection) (inside : Option OwnSection) → ((i : OwnSection) → inside ≡ Some i → WasClock c clock i.word)
      → LoadedWords c clock section clocks → (s : ℕ) (i : OwnSection) → set_at section n inside s ≡ Some i → WasClock c clock i.word
  inside_after section inside here k = set_at_all (λ s u. (i : OwnSection) → u ≡ Some i → WasClock c clock i.word) section n inside here (λ s ne. k.inside s)

  -- the words of all were in the clock, where those of one seat are given anew
  pub loaded_anew : (before after : ℕ → Option OwnSection) (x : LoadedClocks)
      → ((f : FoundStamp) → x.found ≡ Some f → WasClock c clock f.word × (clock_slot_of f.word ≢ 8191))
      → ((word : ℕ) → Contains x.loaded word → WasClock c clock word) → ((word : ℕ) → Contains x.helped word → WasClock c clock word)
      → ((word : ℕ) → Contains x.loaded word → clock_slot_of word ≡ 8191 → Contains x.helped word)
      → ((s : ℕ) (i : OwnSection) → after s ≡ Some i → WasClock c clock i.word)
      → LoadedWords c clock before clocks → LoadedWords c clock after (set_at clocks n x)
  loaded_anew before after x found loaded helped none inside k = record {
    clock_is = k.clock_is;
    loaded = set_at_all (λ s u. (word : ℕ) → Contains u.loaded word → WasClock c clock word) clocks n x loaded (λ s ne. k.loaded s);
    helped = set_at_all (λ s u. (word : ℕ) → Contains u.helped word → WasClock c clock word) clocks n x helped (λ s ne. k.helped s);
    none = set_at_all (λ s u. (word : ℕ) → Contains u.loaded word → clock_slot_of word ≡ 8191 → Contains u.helped word) clocks n x none
        (λ s ne. k.none s);
    found = set_at_all (λ s u. (f : FoundStamp) → u.found ≡ Some f → WasClock c clock f.word × (clock_slot_of f.word ≢ 8191)) clocks n x found
        (λ s ne. k.found s);
    inside = inside;
  }

  -- and where it has no stamp found
  pub loaded_after : (before after : ℕ → Option OwnSection) (x : LoadedClocks) → x.found ≡ None
      → ((word : ℕ) → Contains x.loaded word → WasClock c clock word) → ((word : ℕ) → Contains x.helped word → WasClock c clock word)
      → ((word : ℕ) → Contains x.loaded word → clock_slot_of word ≡ 8191 → Contains x.helped word)
      → ((s : ℕ) (i : OwnSection) → after s ≡ Some i → WasClock c clock i.word)
      → LoadedWords c clock before clocks → LoadedWords c clock after (set_at clocks n x)
  loaded_after before after x none = loaded_anew before after x (λ f e. let g : None ≡ Some f = sym none ∙ e in absurd (cc))
