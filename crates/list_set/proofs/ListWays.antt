-- The ways to add, take out and put a key in a list or a bucket.
use Rattle.std.proofs.Common.{List, [], ap, arith, inl, inr, refl, subst, sym, ℕ, ◌<◌, ◌∙◌, ◌∷◌, ◌≡◌, ◌≢◌}
use Rattle.mv_history.specs.Meaning.{words_at}
use Rattle.mv_history.specs.State.{State}
use Rattle.set_model.specs.Lawful.{IsLawful}
use Rattle.set_model.specs.Lists.{FitsHead}
use Rattle.set_model.specs.Objects.{link, list_words, no_words, relink, revalue, value}
use Rattle.set_model.proofs.ObjectWords.{word}
use Rattle.section_work.proofs.Objects.{IsIn, distinct-pair}
use Rattle.set_model.proofs.Ways.{AddWay, DelWay, IsAt, PutWay}
use Rattle.list_set.proofs.ListHalves.{add_half, add_place_stays, del_half, put_half, still_in}
use Rattle.list_set.proofs.Parts.{place_not_vacant}
use Rattle.list_set.proofs.Removing.{removal}
use Rattle.list_set.specs.Places.{IsAddPlace, IsDelPlace, IsPutPlace, add_writes, del_writes, put_writes}

-- An add: it depends on its predecessor alone, and takes a vacant node.
unfoldable pub list_add_way : (head k v previous node : ℕ) → head < 170 → FitsHead head k → AddWay head k v
list_add_way head k v p n lh fit = record {
  Place = λ s. IsAddPlace s head k p;
  objects = p ∷ [];
  fresh = n ∷ [];
  writes = λ s. add_writes s head k v p n;
  names = λ s. refl;
  stays = λ s s' ws keeps out kept a. add_place_stays s s' ws head k p lh keeps (kept p (inl refl)) a;
  same = λ s s' kept. ap (λ (w : List ℕ). (p, relink w n) ∷ (n, list_words head k v (word 3 w)) ∷ []) (kept p (inl refl));
  distinct = λ s l a vac. distinct-pair p n (relink (words_at s p) n) (list_words head k v (link s p))
      (let m = vac n (inl refl) in place_not_vacant s head p n (omega arith) a.within m.0 m.2);
  owned = λ s l a o i. elim i [ inl e ↦ subst (λ u. IsAt s head u) (sym e) a.within | inr e ↦ absurd e ];
  half = λ s l a vac. (let m = vac n (inl refl) in add_half s head k v p n l lh fit a m.0 m.1 m.2);
}

-- A del, of a key with this value: it depends on the predecessor and the node.
unfoldable pub list_del_way : (head k v previous node : ℕ) → head < 170 → DelWay head k v
list_del_way head k v p n lh = record {
  Place = λ s. IsDelPlace s head k p n × (value s n ≡ v);
  objects = p ∷ n ∷ [];
  fresh = [];
  writes = λ s. del_writes s p n;
  names = λ s. refl;
  stays = λ s s' ws keeps out kept a. (stays s s' (kept p (inl refl)) (kept n (inr (inl refl))) a.0, ap (word 5) (kept n (inr (inl refl))) ∙ a.1);
  same = λ s s' kept. same s s' (kept p (inl refl)) (kept n (inr (inl refl)));
  distinct = λ s l a vac. distinct-pair p n (relink (words_at s p) (link s n)) no_words (removal s head k p n l lh a.0).apart;
  owned = λ s l a o i. owned s l a.0 o i;
  half = λ s l a vac. del_half s head k v p n l lh a.0 a.1;
}
  where
    stays : (s s' : State) → words_at s' p ≡ words_at s p → words_at s' n ≡ words_at s n → IsDelPlace s head k p n → IsDelPlace s' head k p n
    stays s s' e f d = record {
      within = still_in s s' head p e d.within;
      behind = ap (word 3) e ∙ d.behind;
      some = d.some;
      has = ap (word 2) f ∙ d.has;
    }

    same : (s s' : State) → words_at s' p ≡ words_at s p → words_at s' n ≡ words_at s n → del_writes s' p n ≡ del_writes s p n
    same s s' e f =
        ap (λ (w : List ℕ). (p, relink w (word 3 (words_at s' n))) ∷ (n, no_words) ∷ []) e
        ∙ ap (λ (w : List ℕ). (p, relink (words_at s p) (word 3 w)) ∷ (n, no_words) ∷ []) f

    owned : (s : State) → IsLawful s → IsDelPlace s head k p n → (o : ℕ) → IsIn o (p ∷ n ∷ []) → IsAt s head o
    owned s l d o (inl e) = subst (λ u. IsAt s head u) (sym e) d.within
    owned s l d o (inr (inl e)) = let m = removal s head k p n l lh d in subst (λ u. IsAt s head u) (sym e) (inr (m.node, m.own))
    owned s l d o (inr (inr e)) = absurd e

-- A put of a key that is there with another value: it depends on the node alone.
unfoldable pub list_put_way : (head k v node : ℕ) → head < 170 → PutWay head k v
list_put_way head k v n lh = record {
  Place = λ s. IsPutPlace s head k n × (value s n ≢ v);
  objects = n ∷ [];
  fresh = [];
  writes = λ s. put_writes s n v;
  names = λ s. refl;
  stays = λ s s' ws keeps out kept a. stays s s' (kept n (inl refl)) a;
  same = λ s s' kept. ap (λ (w : List ℕ). (n, revalue w v) ∷ []) (kept n (inl refl));
  distinct = λ s l a vac. refl;
  owned = λ s l a o i. elim i [ inl e ↦ subst (λ u. IsAt s head u) (sym e) (inr (a.0.is_node, a.0.own)) | inr e ↦ absurd e ];
  half = λ s l a vac. put_half s head k v n l lh a.0 a.1;
}
  where
    stays : (s s' : State) → words_at s' n ≡ words_at s n → IsPutPlace s head k n × (value s n ≢ v) → IsPutPlace s' head k n × (value s' n ≢ v)
    stays s s' e a = (
      record { is_node = a.0.is_node; own = ap (word 0) e ∙ a.0.own; has = ap (word 2) e ∙ a.0.has },
      λ z. a.1 (sym (ap (word 5) e) ∙ z),
    )
