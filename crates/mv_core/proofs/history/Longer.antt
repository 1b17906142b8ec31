-- A history with one more entry, whose time is the next one: the last write of each object, the entries, the next writes and the
-- states. Shared by the exchanges of CLOCK that make an entry.
use Rattle.std.proofs.Common.{◌≡◌, ◌≢◌, ◌⊎◌, ℕ, ◌+◌, ◌-◌, ◌<◌, ◌≤◌, true, false, List, [], ◌∷◌, ◌++◌}
use Rattle.std.proofs.Common.{length, refl, sym, ap, ◌∙◌, inl, inr, ⊎_elim, arith, eq-eqb, ne_eqb, length-append, Some}
use Rattle.std.specs.Prelude.{slice_get}
use Rattle.std.proofs.lemmas.List.{take-append-le}
use Rattle.std.proofs.lemmas.Option.{slice_get_within}
use Rattle.mv_core.proofs.Terms.{dite, dec_lt, Entry, State, maker_of, Config, writes_to, is_by, last_that, latest, latest_at, last_own, IsEntry}
use Rattle.mv_core.proofs.Terms.{IsNextWrite, words_of}
use Rattle.mv_history.proofs.Histories.{slice_get_at}
use Rattle.mv_core.proofs.history.Latest.{last_that-push, last_that-skip, slice_get-take, latest_at-end, entry-within}
use Rattle.mv_core.proofs.history.SectionWords.{words_seen}

module _ (base : ℕ) (h : List Entry) (e : Entry) where
  abbrev pub longer : List Entry
  longer = h ++ e ∷ []

  -- the time of the new entry
  abbrev pub new_time : ℕ
  new_time = base + length h + 1

  pub longer_long : base + length longer ≡ new_time
  longer_long = omega (arith, length-append h (e ∷ []))

  -- up to the end of the history before, an object's last write is as it was
  pub latest_at-longer : (o t : ℕ) → t ≤ base + length h → latest_at base longer o t ≡ latest_at base h o t
  latest_at-longer o t le = ap (λ (l : List Entry). base + last_that (writes_to o) l) (take-append-le (t - base) h (e ∷ []) (omega arith))

  pub latest-written : (o : ℕ) → writes_to o e ≡ true → latest base longer o ≡ new_time
  latest-written o w = omega (arith, last_that-push (writes_to o) h e w)

  pub latest-unwritten : (o : ℕ) → writes_to o e ≡ false → latest base longer o ≡ latest base h o
  latest-unwritten o no_write = ap (λ n. base + n) (last_that-skip (writes_to o) h e no_write)

  -- the seat that made the entry made its last one then, and of the others it is as it was
  pub own-made : (s : ℕ) → maker_of e ≡ s → last_own base longer s ≡ new_time
  own-made s is = omega (arith, last_that-push (is_by s) h e (eq-eqb (maker_of e) s is))

  pub own-else : (s : ℕ) → maker_of e ≢ s → last_own base longer s ≡ last_own base h s
  own-else s ne = ap (λ n. base + n) (last_that-skip (is_by s) h e (ne_eqb (maker_of e) s ne))

  front_at : (i : ℕ) → i < length h → slice_get longer i ≡ slice_get h i
  front_at i lt =
      sym (slice_get-take (length h) longer i lt) ∙ ap (λ (l : List Entry). slice_get l i) (take-append-le (length h) h (e ∷ []) (omega arith))
      ∙ slice_get-take (length h) h i lt

  -- its entries are those of before, and the new one
  pub entry-longer : (t : ℕ) (x : Entry) → IsEntry base h t x → IsEntry base longer t x
  entry-longer t x is = (is.0, front_at (t - (base + 1)) (slice_get_within h (t - (base + 1)) x is.1) ∙ is.1)

  pub entry-new : IsEntry base longer new_time e
  entry-new = (omega arith, slice_get_at h e (new_time - (base + 1)) (omega arith))

  pub entry-was : (t : ℕ) (x : Entry) → IsEntry base longer t x → IsEntry base h t x ⊎ ((t ≡ new_time) × (x ≡ e))
  entry-was t x is =
      let low = is.0 in
      let within = slice_get_within longer (t - (base + 1)) x is.1 in
      dite (dec_lt (t - (base + 1)) (length h))
      (λ lt. inl (low, sym (front_at (t - (base + 1)) lt) ∙ is.1))
      (λ ge.
      let place : t - (base + 1) ≡ length h = omega (arith, length-append h (e ∷ [])) in
      let same : Some e ≡ Some x = sym (slice_get_at h e (t - (base + 1)) place) ∙ is.1 in
      let one : e ≡ x = cc in
      inr (omega arith, sym one))

  -- the next write after a time is that of before, or the new entry
  pub next_write-longer : (o t next : ℕ) → IsNextWrite base h o t next → IsNextWrite base longer o t next
  next_write-longer o t next is =
      let within = entry-within base h o next is.entry is.there in
      let none = is.none_between in
      record {
        later = is.later;
        entry = is.entry;
        there = entry-longer next is.entry is.there;
        writes = is.writes;
        none_between = omega (arith, latest_at-longer o (next - 1) (let le = within.1 in omega arith));
      }

  pub next_write-was : (o t next : ℕ) → IsNextWrite base longer o t next
      → IsNextWrite base h o t next ⊎ ((next ≡ new_time) × (writes_to o e ≡ true) × (latest base h o ≤ t))
  next_write-was o t next is =
      let none = is.none_between in
      ⊎_elim
      (λ old.
      let within = entry-within base h o next is.entry old in
      inl (record {
        later = is.later;
        entry = is.entry;
        there = old;
        writes = is.writes;
        none_between = omega (arith, latest_at-longer o (next - 1) (let le = within.1 in omega arith));
      }))
      (λ new.
      let time = new.0 in
      let end : latest_at base longer o (next - 1) ≡ latest base h o =
      latest_at-longer o (next - 1) (omega arith) ∙ latest_at-end base h o (next - 1) (omega arith) in
      inr (time, ap (writes_to o) (sym new.1) ∙ is.writes, omega arith))
      (entry-was next is.entry is.there)

  -- no write comes after the new entry
  pub none-after : (o t next : ℕ) → new_time ≤ t → ¬ (IsNextWrite base longer o t next)
  none-after o t next le is =
      let within = entry-within base longer o next is.entry is.there in
      let top = within.1 in
      let later = is.later in
      let long = longer_long in
      omega arith

-- up to the end of the history before the words of the objects are as they were
pub words_of-longer : (c : Config) (start : State) (h : List Entry) (e : Entry) (t o : ℕ) → t ≤ c.base + length h
    → words_of c start (h ++ e ∷ []) t o ≡ words_of c start h t o
words_of-longer c start h e t o le = words_seen c start (h ++ e ∷ []) h t o (e ∷ [], refl) le
