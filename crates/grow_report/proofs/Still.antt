-- Splits leave the catalogue: where only splits come between two times, it is the same at both.
use Rattle.std.proofs.Common.{◌≡◌, ℕ, zero, suc, ◌+◌, ◌-◌, ◌≤◌, Bool, true, false, cond, List, [], ◌∷◌, map}
use Rattle.std.proofs.Common.{take, drop, Option, Some, None, refl, sym, ap, ◌∙◌, subst, arith}
use Rattle.std.specs.List.{slice_get}
use Rattle.mv_history.specs.declared.history.Commit.{Commit}
use Rattle.mv_history.specs.declared.history.Entry.{Entry}
use Rattle.mv_history.specs.declared.history.Entry.TheVariants.{Rest, Change}
use Rattle.mv_history.specs.State.{State, Writes, written, state_after, state_at}
use Rattle.mv_history.specs.Legal.{IsAllowed}
use Rattle.mv_history.proofs.Histories.{split_at}
use Rattle.set_model.specs.Catalogue.{Maps}
use Rattle.run_report.proofs.history.Changes.{IsQuiet, state_next}
use Rattle.grow_hash.specs.Grown.{grown_catalogue}
use Rattle.grow_hash.specs.GrowRules.{Growing, makes, splits, growing_of, Grows, IsGrowCommit}
use Rattle.grow_hash.specs.Splits.{is_splitting}
use Rattle.grow_hash.specs.Tables.{grow_levels}

-- an entry, but that a split is as one that writes nothing
abbrev pub plain_entry : Entry → Entry
plain_entry (Rest seat) = Rest seat
plain_entry (Change c) = cond (is_splitting (growing_of c.tag)) (Rest c.seat) (Change c)

-- the entries with their splits as such
abbrev pub plain : List Entry → List Entry
plain es = map plain_entry es

-- a commit that is no split is among them
pub plain_there : (es : List Entry) (i : ℕ) (c : Commit) → is_splitting (growing_of c.tag) ≡ false → slice_get es i ≡ Some (Change c)
    → slice_get (plain es) i ≡ Some (Change c)
plain_there [] i c other is = absurd (cc)
plain_there (e ∷ es) zero c other is =
    let same : e ≡ Change c = cc in
    ap (λ f. Some (plain_entry f)) same ∙ ap (λ b. Some (cond b (Rest c.seat) (Change c))) other
plain_there (e ∷ es) (suc i) c other is = plain_there es i c other is

-- and each that is among them is none
of_plain : (e : Entry) (c : Commit) → plain_entry e ≡ Change c → (e ≡ Change c) × (is_splitting (growing_of c.tag) ≡ false)
of_plain (Rest seat) c is = absurd (cc)
of_plain (Change d) c is = by (is_splitting (growing_of d.tag)) refl is
  where
    by : (b : Bool) → is_splitting (growing_of d.tag) ≡ b → cond b (Rest d.seat) (Change d) ≡ Change c
        → (Change d ≡ Change c) × (is_splitting (growing_of c.tag) ≡ false)
    by true e got = absurd (cc)
    by false e got = let same : d ≡ c = cc in (got, ap (λ (f : Commit). is_splitting (growing_of f.tag)) (sym same) ∙ e)

pub plain_from : (es : List Entry) (i : ℕ) (c : Commit) → slice_get (plain es) i ≡ Some (Change c)
    → (slice_get es i ≡ Some (Change c)) × (is_splitting (growing_of c.tag) ≡ false)
plain_from [] i c is = absurd (cc)
plain_from (e ∷ es) zero c is =
    let got : plain_entry e ≡ Change c = cc in
    let of = of_plain e c got in (ap Some of.0, of.1)
plain_from (e ∷ es) (suc i) c is = plain_from es i c is

-- what is done leaves the catalogue where it is a split
grows_leaves : (growing : Option Growing) (before after : State) (writes : Writes) → is_splitting growing ≡ true → Grows grow_levels growing before after writes
    → grown_catalogue grow_levels after ≡ grown_catalogue grow_levels before
grows_leaves None before after writes is h = absurd h
grows_leaves (Some (makes command)) before after writes is h = absurd (cc)
grows_leaves (Some (splits place)) before after writes is h = h.leaves

take_none : (es : List Entry) (i : ℕ) → slice_get es i ≡ None → take (suc i) es ≡ take i es
take_none [] zero is = refl
take_none [] (suc i) is = refl
take_none (e ∷ es) zero is = absurd (cc)
take_none (e ∷ es) (suc i) is = ap (λ r. e ∷ r) (take_none es i is)

module _ (start : State) (es : List Entry) (allowed : IsAllowed (IsGrowCommit grow_levels) start es) where
  -- the catalogue after so many entries
  abbrev pub catalogue_at : ℕ → Maps
  catalogue_at t = grown_catalogue grow_levels (state_at start es t)

  split_leaves : (i : ℕ) (c : Commit) → slice_get es i ≡ Some (Change c) → is_splitting (growing_of c.tag) ≡ true
      → catalogue_at (suc i) ≡ catalogue_at i
  split_leaves i c there split =
      let made = allowed (take i es) (drop (suc i) es) c (split_at es i (Change c) there) in
      ap (grown_catalogue grow_levels) (state_next start es i (Change c) there)
      ∙ grows_leaves (growing_of c.tag) (state_at start es i) (written (state_at start es i) c.writes) c.writes split made.grows

  -- one entry that is no command
  one_still : (i : ℕ) (e : Option Entry) → slice_get es i ≡ e → ((c : Commit) → slice_get (plain es) i ≡ Some (Change c) → ⊥)
      → catalogue_at (suc i) ≡ catalogue_at i
  one_still i None is quiet = ap (λ r. grown_catalogue grow_levels (state_after start r)) (take_none es i is)
  one_still i (Some (Rest seat)) is quiet = ap (grown_catalogue grow_levels) (state_next start es i (Rest seat) is)
  one_still i (Some (Change c)) is quiet = by (is_splitting (growing_of c.tag)) refl
    where
      by : (b : Bool) → is_splitting (growing_of c.tag) ≡ b → catalogue_at (suc i) ≡ catalogue_at i
      by true split = split_leaves i c is split
      by false other = absurd (quiet c (plain_there es i c other is))

  still_for : (t d : ℕ) → IsQuiet (plain es) t (t + d) → catalogue_at (t + d) ≡ catalogue_at t
  still_for t zero quiet = let same : t + 0 ≡ t = omega arith in ap catalogue_at same
  still_for t (suc d) quiet =
      let next : t + suc d ≡ suc (t + d) = omega arith in
      ap catalogue_at next
      ∙ one_still (t + d) (slice_get es (t + d)) refl (λ c there. quiet (t + d) c (omega arith) (omega arith) there)
      ∙ still_for t d (λ i c low high there. quiet i c low (omega (arith, high)) there)

  -- The catalogue stays where no command comes.
  pub still : (t u : ℕ) → t ≤ u → IsQuiet (plain es) t u → catalogue_at u ≡ catalogue_at t
  still t u le quiet =
      let far : t + (u - t) ≡ u = omega (arith, le) in
      ap catalogue_at (sym far) ∙ still_for t (u - t) (subst (IsQuiet (plain es) t) (sym far) quiet)
