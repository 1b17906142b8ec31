-- The words that a reader has read so far.
use Rattle.std.proofs.Common.{◌≡◌, ◌≢◌, ℕ, ◌+◌, ◌<◌, List, [], ◌∷◌, ◌++◌, length, set, get_or, sym, ap}
use Rattle.std.proofs.Common.{◌∙◌, subst, arith, below_more, length-set, get_or-set_other, get_or-set_same}
use Rattle.std.proofs.lemmas.List.{ext_get_or}
use Rattle.mv_history.specs.declared.Step.{Step}
use Rattle.mv_history.specs.declared.StepKind.{StepKind}
use Rattle.mv_core.specs.declared.view.Knowledge.{Knowledge}
use Rattle.version_chain.specs.Reads.{Reads}
use Rattle.version_chain.proofs.Trails.{Grows, grows_one}

-- So many of the words were read, by one load each: the view has changed in its trail alone, and those words are these.
pub record HasRead (kind : StepKind) (v w : Knowledge) (these words : List ℕ) (n before after : ℕ) : Type 0 where
  pub wide : length words ≡ 6
  pub these_wide : 0 < n → length these ≡ 6
  pub read : (k : ℕ) → k < n → get_or words k 0 ≡ get_or these k 0
  pub trail : Grows (λ s. s.kind ≡ kind) n v.trail w.trail
  pub rest : w ≡ record v { trail = w.trail }
  pub count : after ≡ before + n

module _ (kind : StepKind) (v : Knowledge) (these : List ℕ) (before : ℕ) where
  -- one word more: what is read of a view doesn't change with its trail
  pub read_one : (w x : Knowledge) (words : List ℕ) (n after later found : ℕ) (s : Step) (read_of : Knowledge → List ℕ)
      → ((t : List Step) → read_of (record v { trail = t }) ≡ these)
      → HasRead kind v w these words n before after → x ≡ record w { trail = w.trail ++ s ∷ [] } → s.kind ≡ kind → found ≡ get_or (read_of w) n 0
      → length (read_of w) ≡ 6 → n < 6 → later ≡ after + 1
      → HasRead kind v x these (set words n found) (n + 1) before later
  read_one w x words n after later found s read_of same so is kind_is found_is wide lt one =
      let these_are : read_of w ≡ these = ap read_of so.rest ∙ same w.trail in
      let all_wide : length these ≡ 6 = sym (ap length these_are) ∙ wide in
      let w_wide = so.wide in
      let in_words : n < length words = omega arith in
      subst (λ (y : Knowledge). HasRead kind v y these (set words n found) (n + 1) before later) (sym is) (record {
        wide = length-set words n found ∙ so.wide;
        these_wide = λ _. all_wide;
        read = below_more _ _
            (λ k below. let ne : k ≢ n = omega arith in get_or-set_other words n k found 0 ne ∙ so.read k below)
            (get_or-set_same words n found 0 in_words ∙ found_is ∙ ap (λ (l : List ℕ). get_or l n 0) these_are);
        trail = grows_one (λ s. s.kind ≡ kind) n v.trail w.trail s kind_is so.trail;
        rest = ap (λ (u : Knowledge). record u { trail = w.trail ++ s ∷ [] }) so.rest;
        count = let c = so.count in omega arith;
      })

  -- all six were read
  pub read_all : (w : Knowledge) (words : List ℕ) (n after : ℕ) → HasRead kind v w these words n before after → n ≡ 6 → (words ≡ these) × Reads kind v w
  read_all w words n after read all =
      let so = subst (λ k. HasRead kind v w these words k before after) all read in
      let wide = so.wide in
      let same = so.these_wide (omega arith) in
      (ext_get_or 0 words these (wide ∙ sym same) (λ i lt. so.read i (subst (λ (l : ℕ). i < l) wide lt)), record { trail = so.trail; rest = so.rest })
