-- What the rules of the blocks say of each time of a store, and what remains while others commit.
use Rattle.mv_history.specs.declared.history.Entry.{Entry}
use Rattle.mv_history.proofs.Kept.{keeps_after}
use Rattle.set_model.proofs.Opening.{opening_lawful}
use Rattle.set_blocks.proofs.Terms.{State, Writes, written, touches, state_after, IsAllowed, words_at, Drifts, length-written}
use Rattle.set_blocks.proofs.Terms.{drift_keeps_apart, key, link, IsLawful, IsOpening, word, IsOfLists, IsBlockCommit, Remains, ◌≡◌, ◌≤◌, ℕ, inl}
use Rattle.set_blocks.proofs.Terms.{inr, true, false, List, refl, sym, ap, ◌∙◌, arith}

-- After an allowed history a state is lawful.
pub lawful_after : (start : State) (history : List Entry) → IsOpening start → IsAllowed IsBlockCommit start history → IsLawful (state_after start history)
lawful_after start history o a =
    keeps_after IsBlockCommit IsLawful (λ tag s ws makes l. makes.lawful_after) start history a (opening_lawful start o)

-- an object is of a list by its own words
pub of_lists-same : (s s' : State) (o : ℕ) → words_at s' o ≡ words_at s o → IsOfLists s o → IsOfLists s' o
of_lists-same s s' o e (inl lt) = inl lt
of_lists-same s s' o e (inr (lo, some, list)) = inr (lo, (λ z. some (sym (ap (word 0) e) ∙ z)), ap (word 1) e ∙ list)

-- All of it remains where nobody commits.
pub remains_itself : (held : Writes) (s : State) → IsLawful s → Remains held s s
remains_itself held s l = record {
  lawful = l;
  len = refl;
  words = λ o t. refl;
  keys = λ o t i lo. refl;
  ends = λ root k leaf r0 r1 t e. e;
}

-- And over a commit that writes nothing of it.
remains_over : (held : Writes) (from u : State) (tag : List ℕ) (ws : Writes) → ((o : ℕ) → touches held o ≡ true → touches ws o ≡ false)
    → ((o : ℕ) → touches held o ≡ true → words_at (written u ws) o ≡ words_at u o) → IsBlockCommit tag u ws → Remains held from u
    → Remains held from (written u ws)
remains_over held from u tag ws apart kept al m = record {
  lawful = al.lawful_after;
  len = length-written u ws ∙ m.len;
  words = λ o t. kept o t ∙ m.words o t;
  keys = λ o t i lo.
      (let e : words_at u o ≡ words_at from o = m.words o t in
      let same : link u o ≡ link from o = ap (word 3) e in
      let there : 180 ≤ link u o = omega (arith, lo) in
      let kept_key : key (written u ws) (link u o) ≡ key u (link u o) = al.keys o (of_lists-same from u o e i) (apart o t) there in
      ap (key (written u ws)) (sym same) ∙ kept_key ∙ ap (key u) same ∙ m.keys o t i lo);
  ends = λ root k leaf r0 r1 t e. al.ends root k leaf r0 r1 (m.ends root k leaf r0 r1 t e) (apart leaf t);
}

-- So whatever others commit.
pub remains_drifts : (held : Writes) (from s : State) → IsLawful from → Drifts IsBlockCommit held from s → Remains held from s
remains_drifts held from s l d =
    drift_keeps_apart IsBlockCommit held from (Remains held from)
    (λ u tag ws m _ al apart kept. remains_over held from u tag ws apart kept al m)
    (remains_itself held from l) s d
