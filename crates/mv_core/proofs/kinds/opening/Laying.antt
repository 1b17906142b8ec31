-- The words of a new domain while its opening state is laid.
use Rattle.std.proofs.Common.{◌≡◌, ℕ, List, slice_index}
use Rattle.std.proofs.Common.{refl, ◌∙◌, inl, ⊎_elim, arith}
use Rattle.mv_core.proofs.Terms.{State, Config, SharedWord, Clock, Grace, Mark, Head, Master, First, Stamp, Prev, Super, Data, Checked}
use Rattle.mv_core.proofs.Terms.{Shows, IsPlace, cell_of}
use Rattle.mv_core.specs.Start.{opening_memory, zero_state, IsBlank, Laid}

module _ (c : Config) (start : State) (k : Checked c) where
  blank_is_zero : (q : SharedWord) → IsBlank q → opening_memory c (zero_state c.objects) q ≡ 0
  blank_is_zero Clock b = absurd b
  blank_is_zero Grace b = absurd b
  blank_is_zero (Master p x) b = absurd b
  blank_is_zero (Mark s) b = refl
  blank_is_zero (Head p) b = refl
  blank_is_zero (First s j) b = refl
  blank_is_zero (Stamp s j) b = refl
  blank_is_zero (Prev s j) b = refl
  blank_is_zero (Super s j) b = refl
  blank_is_zero (Data s j x) b = refl

  -- where all objects' words are 0, nothing is laid yet
  pub laid_first : (words : List ℕ) → Shows c words (opening_memory c (zero_state c.objects)) → Laid c start words 0 0
  laid_first words shown = record {
    wide = shown.wide;
    clock = shown.each Clock tt;
    grace = shown.each Grace tt;
    master = λ p y at in_object done. absurd (⊎_elim (λ lt. omega arith) (λ t. let z = t.1 in omega arith) done);
    blank = λ q at b. shown.each q at ∙ blank_is_zero q b;
  }

  -- all is laid
  pub laid_last : (words : List ℕ) → Laid c start words c.objects 0 → Shows c words (opening_memory c start)
  laid_last words l = record { wide = l.wide; each = each }
    where
      each : (p : SharedWord) → IsPlace c p → slice_index words (cell_of c p) ≡ opening_memory c start p
      each Clock at = l.clock
      each Grace at = l.grace
      each (Master o w) at = l.master o w at.0 at.1 (inl at.0)
      each (Mark s) at = l.blank (Mark s) at tt
      each (Head o) at = l.blank (Head o) at tt
      each (First s j) at = l.blank (First s j) at tt
      each (Stamp s j) at = l.blank (Stamp s j) at tt
      each (Prev s j) at = l.blank (Prev s j) at tt
      each (Super s j) at = l.blank (Super s j) at tt
      each (Data s j w) at = l.blank (Data s j w) at tt
