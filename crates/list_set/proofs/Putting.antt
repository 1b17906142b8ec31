-- A put at its place keeps the state lawful, and gives its key another value in the catalogue.
use Rattle.std.proofs.Common.{◌≡◌, ◌≢◌, ℕ, suc, ◌<◌, ◌≤◌, ◌⊎◌, inl, inr, Bool, true, cond, eqb, eq-eqb, ne_eqb, List}
use Rattle.std.proofs.Common.{[], ◌∷◌, length, refl, sym, ap, ◌∙◌, arith, get_or-set_other, get_or-set_same, length-set}
use Rattle.std.proofs.lemmas.Bool.{cases_eq}
use Rattle.mv_history.specs.State.{State, written}
use Rattle.mv_history.specs.Meaning.{words_at}
use Rattle.set_model.specs.Catalogue.{put, map_of, with_key}
use Rattle.set_model.specs.CatalogueOf.{name_of, is_key_of, map_in, catalogue_of}
use Rattle.set_model.specs.Objects.{owner, key, head_words, list_words, revalue}
use Rattle.set_model.specs.Lists.{Nodes, first_of, Links, IsAbove, IsRising, IsList}
use Rattle.set_model.specs.Lawful.{IsLawful}
use Rattle.set_model.proofs.ObjectWords.{word, owned_in_range, owner-revalue, key-revalue}
use Rattle.set_model.proofs.Chains.{IsAmong, is_among-from, only_among}
use Rattle.set_model.proofs.Frames.{IsOf, IsWithin, lawful_by_list}
use Rattle.set_model.proofs.Mapped.{is_key-other, map_in-none, map_of-catalogue_of, catalogue_set}
use Rattle.set_model.proofs.Heads.{name_low, name_bound, at_named, owned_key_at}
use Rattle.set_model.proofs.ListMaps.{key_once}
use Rattle.set_model.proofs.Edits.{is_key-revalue, IsAlone, map_in-put}
use Rattle.list_set.specs.Places.{IsPutPlace, put_writes}

-- the nodes, where that of this object has this value
put_node : ℕ → ℕ → Nodes → Nodes
put_node o v [] = []
put_node o v (n ∷ ns) = record { object = n.object; key = n.key; value = cond (eqb n.object o) v n.value } ∷ put_node o v ns

first_of-put : (o v : ℕ) (ns : Nodes) → first_of (put_node o v ns) ≡ first_of ns
unfolding put_node
first_of-put o v [] = refl
first_of-put o v (n ∷ ns) = refl

IsAbove-put : (o v k : ℕ) (ns : Nodes) → IsAbove k ns → IsAbove k (put_node o v ns)
unfolding put_node
IsAbove-put o v k [] a = tt
IsAbove-put o v k (n ∷ ns) a = (a.0, IsAbove-put o v k ns a.1)

IsRising-put : (o v : ℕ) (ns : Nodes) → IsRising ns → IsRising (put_node o v ns)
unfolding put_node
IsRising-put o v [] r = tt
IsRising-put o v (n ∷ ns) r = (IsAbove-put o v n.key ns r.0, IsRising-put o v ns r.1)

IsAmong-put : (o v u : ℕ) (ns : Nodes) → IsAmong u ns → IsAmong u (put_node o v ns)
unfolding put_node
IsAmong-put o v u [] i = i
IsAmong-put o v u (n ∷ ns) (inl e) = inl e
IsAmong-put o v u (n ∷ ns) (inr i) = inr (IsAmong-put o v u ns i)

-- the node has another value
pub record Revalued (s s' : State) (o v : ℕ) : Type 0 where
  pub here : words_at s' o ≡ revalue (words_at s o) v
  pub others : (u : ℕ) → u ≢ o → words_at s' u ≡ words_at s u

Links-put : (s s' : State) (head o v : ℕ) (ns : Nodes) → Revalued s s' o v → Links s head ns → Links s' head (put_node o v ns)
unfolding put_node
Links-put s s' head o v [] c l = tt
Links-put s s' head o v (n ∷ ns) c l = (l.0, l.1, now (cases_eq n.object o), Links-put s s' head o v ns c l.3)
  where
    now : (n.object ≡ o) ⊎ (n.object ≢ o) → words_at s' n.object ≡ list_words head n.key (cond (eqb n.object o) v n.value) (first_of (put_node o v ns))
    now (inl e) =
        ap (words_at s') e ∙ c.here ∙ ap (λ (u : ℕ). revalue (words_at s u) v) (sym e) ∙ ap (λ (w : List ℕ). revalue w v) l.2
        ∙ ap (λ (b : Bool). list_words head n.key (cond b v n.value) (first_of ns)) (sym (eq-eqb n.object o e))
        ∙ ap (λ (u : ℕ). list_words head n.key (cond (eqb n.object o) v n.value) u) (sym (first_of-put o v ns))
    now (inr e) =
        c.others n.object e ∙ l.2
        ∙ ap (λ (b : Bool). list_words head n.key (cond b v n.value) (first_of ns)) (sym (ne_eqb n.object o e))
        ∙ ap (λ (u : ℕ). list_words head n.key (cond (eqb n.object o) v n.value) u) (sym (first_of-put o v ns))

-- the value that a list node gets
revalued_value : (s : State) (head v : ℕ) (ns : Nodes) → Links s head ns → (o : ℕ) → IsAmong o ns → word 5 (revalue (words_at s o) v) ≡ v
revalued_value s head v [] l o i = absurd i
revalued_value s head v (n ∷ ns) l o (inl e) = ap (λ (u : ℕ). word 5 (revalue (words_at s u) v)) e ∙ ap (λ (w : List ℕ). word 5 (revalue w v)) l.2
revalued_value s head v (n ∷ ns) l o (inr i) = revalued_value s head v ns l.3 o i

pub put_writes_do : (s : State) (o v : ℕ) → o < length s → Revalued s (written s (put_writes s o v)) o v
put_writes_do s o v lt = record {
  here = get_or-set_same s o (revalue (words_at s o) v) [] lt;
  others = λ u n. get_or-set_other s o u (revalue (words_at s o) v) [] n;
}

revalued_owner : (s s' : State) (o v u : ℕ) → Revalued s s' o v → owner s' u ≡ owner s u
revalued_owner s s' o v u c = elim (cases_eq u o) [
  | inl e ↦ ap (owner s') e ∙ ap (word 0) c.here ∙ owner-revalue (words_at s o) v ∙ ap (owner s) (sym e)
  | inr n ↦ ap (word 0) (c.others u n)
]

put_list : (s s' : State) (head o v : ℕ) (ns : Nodes) → head < 180 → 180 ≤ o → Revalued s s' o v → IsList s head ns → IsList s' head (put_node o v ns)
put_list s s' head o v ns lh lo c l = record {
  first = c.others head (omega arith) ∙ l.first ∙ ap head_words (sym (first_of-put o v ns));
  links = Links-put s s' head o v ns c l.links;
  rising = IsRising-put o v ns l.rising;
  only = λ u ge e. is_among-from u (put_node o v ns) (IsAmong-put o v u ns (only_among s head ns l u ge (sym (revalued_owner s s' o v u c) ∙ e)));
}

pub put_within : (s s' : State) (head o v : ℕ) → 180 ≤ o → owner s o ≡ suc head → Revalued s s' o v → IsWithin s s' head
put_within s s' head o v lo own c u = go (cases_eq u o)
  where
    go : (u ≡ o) ⊎ (u ≢ o) → (words_at s' u ≡ words_at s u) ⊎ ((u ≡ head) ⊎ ((180 ≤ u) × IsOf s head u × IsOf s' head u))
    go (inr n) = inl (c.others u n)
    go (inl e) = inr (inr (omega arith, inr (ap (owner s) e ∙ own), inr (revalued_owner s s' o v u c ∙ ap (owner s) e ∙ own)))

pub put_in_range : (s : State) (head k n : ℕ) → IsPutPlace s head k n → n < length s
put_in_range s head k n p = owned_in_range s n head p.own

-- A put at its place leaves a lawful state.
pub put_lawful : (s : State) (head k v n : ℕ) → IsLawful s → head < 170 → IsPutPlace s head k n → IsLawful (written s (put_writes s n v))
put_lawful s head k v n l lh p =
    let m = l.lists head lh in
    let c : Revalued s (written s (put_writes s n v)) n v = put_writes_do s n v (put_in_range s head k n p) in
    lawful_by_list s (written s (put_writes s n v)) head (put_node n v m.0) lh (length-set s n (revalue (words_at s n) v))
    (put_within s (written s (put_writes s n v)) head n v p.is_node p.own c) l
    (put_list s (written s (put_writes s n v)) head n v m.0 (omega arith) p.is_node c m.1)

pub put_catalogue : (s : State) (head k v n : ℕ) → IsLawful s → head < 170 → IsPutPlace s head k n
    → catalogue_of (written s (put_writes s n v)) ≡ with_key (name_of head) k v (catalogue_of s)
put_catalogue s head k v n l lh p =
    catalogue_set s (written s (put_writes s n v)) (name_of head) (put k v (map_of (name_of head) (catalogue_of s))) (name_bound head (omega arith)) others here
  where
    w : List ℕ
    w = revalue (words_at s n) v

    others : (name : ℕ) → name ≢ name_of head → map_in (written s (put_writes s n v)) name ≡ map_in s name
    others name ne =
        map_in-none s name n (revalue (words_at s n) v) p.is_node (is_key-other name head (words_at s n) p.own ne)
        (is_key-other name head (revalue (words_at s n) v) (owner-revalue (words_at s n) v ∙ p.own) ne)

    picked : is_key_of (name_of head) (words_at s n) ≡ true
    picked = at_named head (words_at s n) (owned_key_at s head n l lh p.is_node p.own)

    alone : IsAlone s (name_of head) n
    alone u ge t e = key_once s (name_of head) l (name_low head lh) u n ge p.is_node t picked e

    value_is : word 5 (revalue (words_at s n) v) ≡ v
    value_is = let m = l.lists head lh in revalued_value s head v m.0 m.1.links n (only_among s head m.0 m.1 n p.is_node p.own)

    here : map_in (written s (put_writes s n v)) (name_of head) ≡ put k v (map_of (name_of head) (catalogue_of s))
    here =
        map_in-put s (name_of head) n (revalue (words_at s n) v) p.is_node (put_in_range s head k n p) picked
        (is_key-revalue (name_of head) (words_at s n) v ∙ picked) (key-revalue (words_at s n) v) alone
        ∙ ap (λ (x : ℕ). put (key s n) x (map_in s (name_of head))) value_is ∙ ap (λ (x : ℕ). put x v (map_in s (name_of head))) p.has
        ∙ ap (put k v) (sym (map_of-catalogue_of s (name_of head) (name_bound head (omega arith))))
