-- load MASTER: the word found is that of the section's time.
use Rattle.std.proofs.Common.{◌≡◌, ℕ, ◌<◌, List, length, slice_index, sym, refl, ap, ◌∙◌, subst}
use Rattle.mv_core.proofs.Terms.{State, Writes, Config, Master, Knowledge, OwnSection, words_of, time_in}
use Rattle.mv_core.specs.declared.view.WalkStage.TheVariants as walk
use Rattle.mv_core.proofs.FactTerms.{StandsRight, RunsOn, Loads, IsKept}
use Rattle.mv_core.specs.WalkSteps.{MayLoadMaster, master_loaded, words_read, word_read}
use Rattle.mv_core.proofs.frames.FrameLaw.{unread}
use Rattle.mv_core.proofs.history.SectionWords.{words_wide, time_is, section_words}

module _ (starts : State → Type 0) (allows : List ℕ → State → Writes → Type 0) (c : Config) (start : State) (v : Knowledge) where
  pub master_loads : (object word : ℕ) (inside : OwnSection) → object < c.objects → MayLoadMaster v object word inside
      → Loads starts allows c start v (Master object word)
      (λ n w. (((w ≡ master_loaded c v object word n) × (n ≡ word_read c v inside object word) × (length (words_read c v inside object) ≡ 6)) × RunsOn v w)
      × IsKept v w)
  master_loads object word inside range may m h seats k is own begins small =
      let w : Knowledge = master_loaded c v object word (m (Master object word)) in
      let place : StandsRight c start h (λ o i. m (Master o i)) (λ s. (seats s).ring) (time_in inside) (walk.Master object) =
      subst (StandsRight c start h (λ o i. m (Master o i)) (λ s. (seats s).ring) (time_in inside)) (ap (λ (u : Knowledge). u.walk) is ∙ may.stands)
      (k.walker_place v.number (time_in inside) (time_is seats v inside k is may.phase)) in
      let read : words_of c start h (time_in inside) object ≡ words_read c v inside object =
      section_words seats v inside k is may.phase object ∙ ap (λ (s : State). words_of c s v.past.seen (time_in inside) object) (sym begins) in
      let found : m (Master object word) ≡ word_read c v inside object word = place.0 word may.in_range ∙ ap (λ (l : List ℕ). slice_index l word) read in
      let wide = words_wide c start h (time_in inside) object k.history.words k.history.legal (subst (λ (n : ℕ). object < n) (sym k.history.sized) range) in (
        w,
        unread starts allows c start m h seats v.number v w is (refl, refl, refl, refl, refl, refl, refl, refl, refl, refl, refl) k,
        (((refl, found, ap length (sym read) ∙ wide), (λ t f a b. (a, b))), (refl, refl, refl, refl, refl, refl)),
      )
