-- The words of an object at a time are those of its last write up to then.
use Rattle.std.proofs.Common.{◌≡◌, ℕ, zero, suc, ◌+◌, ◌-◌, ◌<◌, ◌≤◌, Bool, true, false, List, []}
use Rattle.std.proofs.Common.{◌∷◌, ◌++◌, length, take, drop, Some, slice_get, sym, refl, ap, ◌∙◌, subst, arith, take-suc}
use Rattle.std.proofs.lemmas.Option.{slice_get_within, get_or_from_slice_get}
use Rattle.mv_core.proofs.Terms.{Entry, Change, State, written, writes_of, state_after, Config, Ring, Version, CommitNote, one_more, last_that}
use Rattle.mv_core.proofs.Terms.{writes_to, latest_at, IsEntry, words_of}
use Rattle.mv_history.specs.declared.Commit.{Commit}
use Rattle.mv_history.specs.Legal.{IsLegal, IsNext}
use Rattle.mv_history.specs.Meaning.{words_at}
use Rattle.mv_history.proofs.Histories.{split_at}
use Rattle.mv_history.proofs.Writing.{words-written_other, words-written_same, state_after-append, length-state_after}
use Rattle.mv_core.specs.SetFacts.{CommitOf}
use Rattle.mv_core.proofs.history.Latest.{one_more-back, latest_at-le}
use Rattle.mv_core.proofs.logs.Written.{write_touches}

one_more-none : (b : Bool) (n : ℕ) → one_more b n ≡ 0 → (b ≡ false) × (n ≡ 0)
one_more-none b (suc n) e = absurd (omega arith)
one_more-none true zero e = absurd (omega arith)
one_more-none false zero e = (refl, refl)

-- entries of which none writes the object leave its words
words-unwritten : (s : State) (es : List Entry) (o : ℕ) → last_that (writes_to o) es ≡ 0 → words_at (state_after s es) o ≡ words_at s o
words-unwritten s [] o none = refl
words-unwritten s (e ∷ es) o none =
    let parts = one_more-none (writes_to o e) (last_that (writes_to o) es) none in
    words-unwritten (written s (writes_of e)) es o parts.1 ∙ words-written_other s (writes_of e) o parts.0

words-take : (s : State) (h : List Entry) (a b o : ℕ) → a ≤ b → last_that (writes_to o) (take b h) ≤ a
    → words_at (state_after s (take b h)) o ≡ words_at (state_after s (take a h)) o
words-take s h zero b o le within = words-unwritten s (take b h) o (omega arith)
words-take s h (suc a) zero o le within = absurd (omega arith)
words-take s [] (suc a) (suc b) o le within = refl
words-take s (e ∷ es) (suc a) (suc b) o le within =
    words-take (written s (writes_of e)) es a b o (omega arith) (one_more-back (writes_to o e) (last_that (writes_to o) (take b es)) a within)

module _ (c : Config) (start : State) (h : List Entry) where
  -- where no entry between two times writes the object its words are the same
  pub words_of-same : (a b o : ℕ) → a ≤ b → latest_at c.base h o b ≤ a → words_of c start h b o ≡ words_of c start h a o
  words_of-same a b o le within = words-take start h (a - c.base) (b - c.base) o (omega arith) (omega arith)

  pub words_of-latest : (t o : ℕ) → c.base ≤ t → words_of c start h t o ≡ words_of c start h (latest_at c.base h o t) o
  words_of-latest t o low = words_of-same (latest_at c.base h o t) t o (latest_at-le c.base h o t low) (omega arith)

  -- at the time of a commit the words are those that it wrote
  module _ (legal : IsLegal (length start) h) (t : ℕ) (commit : Commit) (is : IsEntry c.base h t (Change commit)) where
    -- it was legal there
    pub next_is : IsNext (length start) (take (t - (c.base + 1)) h) commit
    next_is = legal (take (t - (c.base + 1)) h) (drop (suc (t - (c.base + 1))) h) commit (split_at h (t - (c.base + 1)) (Change commit) is.1)

    state_is : state_after start (take (t - c.base) h) ≡ written (state_after start (take (t - (c.base + 1)) h)) commit.writes
    state_is =
        let j : ℕ = t - (c.base + 1) in
        let low = is.0 in
        let longer : t - c.base ≡ suc j = omega arith in
        let whole : take (suc j) h ≡ take j h ++ Change commit ∷ [] =
        take-suc h j (Change commit) (slice_get_within h j (Change commit) is.1) ∙
        ap (λ e. take j h ++ e ∷ []) (get_or_from_slice_get h j (Change commit) (Change commit) is.1) in
        ap (λ n. state_after start (take n h)) longer ∙ ap (state_after start) whole ∙ state_after-append start (take j h) (Change commit ∷ [])

    pub words_of-written : (i o : ℕ) (words : List ℕ) → slice_get commit.writes i ≡ Some (o, words) → words_of c start h t o ≡ words
    words_of-written i o words at =
        let before : State = state_after start (take (t - (c.base + 1)) h) in
        let there = get_or_from_slice_get commit.writes i (o, words) (o, words) at in
        let range : o < length before = subst (λ n. o < n) (sym (length-state_after start (take (t - (c.base + 1)) h)))
        (next_is.within o (write_touches commit.writes i o words at)) in
        ap (λ s. words_at s o) state_is
        ∙ words-written_same before commit.writes i o (o, words) next_is.distinct (slice_get_within commit.writes i (o, words) at) (ap (λ w. w.0) there) range
        ∙ ap (λ w. w.1) there

  -- a committed version's write set has its commit's writes
  module _ (legal : IsLegal (length start) h) (rings : ℕ → Ring) (s : ℕ) (x : Version) (note : CommitNote) (k : CommitOf c h rings s x note) where
    -- its words are those of its object at that time
    pub version-words : words_of c start h note.time x.object ≡ x.words
    version-words = words_of-written legal note.time k.commit k.entry (x.position - x.first) x.object x.words k.write
