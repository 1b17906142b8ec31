-- A del at its place keeps the state lawful, and takes its key out of the catalogue.
use Rattle.std.proofs.Common.{◌≡◌, ◌≢◌, ℕ, suc, ◌<◌, ◌≤◌, ◌⊎◌, inl, inr, true, false, [], ◌∷◌, ◌++◌, length}
use Rattle.std.proofs.Common.{set, refl, sym, ap, ◌∙◌, subst, arith, get_or-set_other, get_or-set_same, length-set}
use Rattle.std.proofs.lemmas.Bool.{cases_eq, false_from_ne_true}
use Rattle.mv_history.specs.State.{State, written}
use Rattle.mv_history.specs.Meaning.{words_at}
use Rattle.set_model.specs.Catalogue.{has_key, take_out, map_of, without_key}
use Rattle.set_model.specs.CatalogueOf.{name_of, is_key_of, is_key_at, map_in, map_at, catalogue_of}
use Rattle.set_model.specs.Objects.{owner, kind, key, link, no_words, relink}
use Rattle.set_model.specs.Lists.{Node, Nodes, first_of, Links, IsList}
use Rattle.set_model.specs.Lawful.{IsLawful}
use Rattle.set_model.proofs.ObjectWords.{word, owned_in_range, key-relink}
use Rattle.set_model.proofs.Chains.{IsAmong, last_of, last_among, Links-right}
use Rattle.set_model.proofs.Frames.{IsOf, IsWithin, lawful_by_list}
use Rattle.set_model.proofs.Mapped.{map_in-holds, is_key-from, is_key-vacant, is_key-other, map_in-none, map_in-less, map_of-catalogue_of, catalogue_set}
use Rattle.set_model.proofs.Heads.{name_low, name_bound, at_named, is_key_at-to}
use Rattle.set_model.proofs.ListMaps.{holds-map_at, key_once}
use Rattle.set_model.proofs.Edits.{is_key-relink, map_in-relink}
use Rattle.list_set.specs.Places.{IsInList, IsDelPlace, del_writes}
use Rattle.list_set.proofs.Changes.{Taken, del_list, front_below}
use Rattle.list_set.proofs.Parts.{part_at, whole_list, in_list_range, relink_owner}

-- the list parted at the node of a del
pub record IsPartedAt (s : State) (head p : ℕ) (x : Node) (fs bs : Nodes) : Type 0 where
  pub list : IsList s head (fs ++ x ∷ bs)
  pub last : last_of head fs ≡ p
  pub leads : link s x.object ≡ first_of bs

part_del : (s : State) (head k p n : ℕ) (ns : Nodes) → IsList s head ns → IsDelPlace s head k p n
    → (fs : Nodes) × (bs : Nodes) × (x : Node) × (x.object ≡ n) × IsPartedAt s head p x fs bs
part_del s head k p n ns l d =
    let r = part_at s head p ns l d.within in go r.0 r.1 (whole_list s head ns (r.0 ++ r.1) r.2.whole l) r.2.last (sym d.behind ∙ r.2.leads)
  where
    go : (fs bs : Nodes) → IsList s head (fs ++ bs) → last_of head fs ≡ p → n ≡ first_of bs
        → (gs : Nodes) × (cs : Nodes) × (x : Node) × (x.object ≡ n) × IsPartedAt s head p x gs cs
    go fs [] m e q = absurd (d.some q)
    go fs (b ∷ bs) m e q =
        let lk : Links s head (b ∷ bs) = Links-right s head fs (b ∷ bs) m.links in
        (fs, bs, b, sym q, record { list = m; last = e; leads = ap (word 3) lk.2 })

del_apart : (s : State) (head p : ℕ) (x : Node) (fs bs : Nodes) → head < 180 → IsPartedAt s head p x fs bs → p ≢ x.object
del_apart s head p x [] bs lh m e =
    let g : 180 ≤ x.object = m.list.links.0 in let q : head ≡ p = m.last in omega arith
del_apart s head p x (y ∷ fs) bs lh m e =
    let low : key s p < x.key =
    front_below s head (y ∷ fs) bs x m.list.links m.list.rising p (subst (λ (u : ℕ). IsAmong u (y ∷ fs)) m.last (last_among y fs)) in
    let lk : Links s head (x ∷ bs) = Links-right s head (y ∷ fs) (x ∷ bs) m.list.links in
    let is : key s x.object ≡ x.key = ap (word 2) lk.2 in
    let z : key s p ≡ key s x.object = ap (key s) e in omega arith

pub del_writes_do : (s : State) (p n : ℕ) → p < length s → n < length s → p ≢ n → Taken s (written s (del_writes s p n)) p n (link s n)
del_writes_do s p n lp ln apart = record {
  before = get_or-set_other (set s p (relink (words_at s p) (link s n))) n p no_words [] apart ∙ get_or-set_same s p (relink (words_at s p) (link s n)) [] lp;
  gone = get_or-set_same (set s p (relink (words_at s p) (link s n))) n no_words [] (omega (arith, length-set s p (relink (words_at s p) (link s n))));
  others = λ o a b. get_or-set_other (set s p (relink (words_at s p) (link s n))) n o no_words [] b
      ∙ get_or-set_other s p o (relink (words_at s p) (link s n)) [] a;
}

pub taken_within : (s s' : State) (head p n next : ℕ) → Taken s s' p n next → IsInList s head p → 180 ≤ n → owner s n ≡ suc head → IsWithin s s' head
taken_within s s' head p n next c i ln own o = go (cases_eq o p) (cases_eq o n) i
  where
    go : (o ≡ p) ⊎ (o ≢ p) → (o ≡ n) ⊎ (o ≢ n) → IsInList s head p
        → (words_at s' o ≡ words_at s o) ⊎ ((o ≡ head) ⊎ ((180 ≤ o) × IsOf s head o × IsOf s' head o))
    go (inr a) (inr b) _ = inl (c.others o a b)
    go (inl e) _ (inl q) = inr (inl (e ∙ q))
    go (inl e) _ (inr g) =
        let b : 180 ≤ p = g.0 in
        inr (inr (omega arith, inr (ap (owner s) e ∙ g.1), inr (ap (owner s') e ∙ relink_owner s s' p next c.before ∙ g.1)))
    go (inr a) (inl e) _ =
        inr (inr (omega arith, inr (ap (owner s) e ∙ own), inl (ap (owner s') e ∙ ap (word 0) c.gone)))

-- What is known at the place of a del: its node is a list node in range, not its predecessor, and without it the list stands.
pub record Removal (s : State) (head k p n : ℕ) : Type 0 where
  pub previous_in : p < length s
  pub node_in : n < length s
  pub node : 180 ≤ n
  pub own : owner s n ≡ suc head
  pub picked : is_key_at head (words_at s n) ≡ true
  pub apart : p ≢ n
  pub lawful : IsLawful (written s (del_writes s p n))

pub removal : (s : State) (head k p n : ℕ) → IsLawful s → head < 170 → IsDelPlace s head k p n → Removal s head k p n
removal s head k p n l lh d =
    let ns = l.lists head lh in
    let r = part_del s head k p n ns.0 ns.1 d in
    let x : Node = r.2 in
    let e : r.2.object ≡ n = r.3 in
    let lk : Links s head (r.2 ∷ r.1) = Links-right s head r.0 (r.2 ∷ r.1) r.4.list.links in
    let own : owner s n ≡ suc head = ap (owner s) (sym e) ∙ ap (word 0) lk.2 in
    let lo : 180 ≤ r.2.object = lk.0 in
    let here : n < length s = owned_in_range s n head own in
    let apart : p ≢ n = λ q. del_apart s head p r.2 r.0 r.1 (omega arith) r.4 (q ∙ sym e) in
    let lp : p < length s = in_list_range s head p ns.0 ns.1 d.within in
    let s' : State = written s (del_writes s p n) in
    let c : Taken s s' p n (link s n) = del_writes_do s p n lp here apart in
    let leads : link s n ≡ first_of r.1 = ap (link s) (sym e) ∙ r.4.leads in
    let c' : Taken s s' p r.2.object (first_of r.1) = subst (λ (u : ℕ). Taken s s' p u (first_of r.1)) (sym e) (subst (λ (u : ℕ). Taken s s' p n u) leads c) in
    record {
      previous_in = lp;
      node_in = here;
      node = omega arith;
      own = own;
      picked = (let z : kind s n ≡ 0 = ap (kind s) (sym e) ∙ ap (word 1) lk.2 in is_key_at-to head (words_at s n) own (omega arith));
      apart = apart;
      lawful = lawful_by_list s s' head (r.0 ++ r.1) lh
          (length-set (set s p (relink (words_at s p) (link s n))) n no_words ∙ length-set s p (relink (words_at s p) (link s n)))
          (taken_within s s' head p n (link s n) c d.within (omega arith) own) l
          (del_list s s' head p r.2 r.0 r.1 (omega arith) c' r.4.list r.4.last);
    }

-- at the place of a del the key is there
pub del_present : (s : State) (head k p n : ℕ) → IsLawful s → head < 170 → IsDelPlace s head k p n → has_key k (map_at s head) ≡ true
del_present s head k p n l lh d =
    let m = removal s head k p n l lh d in holds-map_at s head k (n, m.node, m.picked, d.has)

pub del_catalogue : (s : State) (head k p n : ℕ) → IsLawful s → head < 170 → IsDelPlace s head k p n
    → catalogue_of (written s (del_writes s p n)) ≡ without_key (name_of head) k (catalogue_of s)
del_catalogue s head k p n l lh d =
    catalogue_set s (written s (del_writes s p n)) (name_of head) (take_out k (map_of (name_of head) (catalogue_of s)))
    (name_bound head (omega arith)) others here
  where
    m : Removal s head k p n
    m = removal s head k p n l lh d

    picked : is_key_of (name_of head) (words_at s n) ≡ true
    picked = at_named head (words_at s n) m.picked

    at_n : words_at (set s p (relink (words_at s p) (link s n))) n ≡ words_at s n
    at_n = get_or-set_other s p n (relink (words_at s p) (link s n)) [] (λ e. m.apart (sym e))

    own_t : word 0 (words_at (set s p (relink (words_at s p) (link s n))) n) ≡ suc head
    own_t = ap (word 0) at_n ∙ m.own

    vacant : (name : ℕ) → is_key_of name no_words ≡ false
    vacant name = is_key-vacant name no_words refl

    others : (name : ℕ) → name ≢ name_of head → map_in (written s (del_writes s p n)) name ≡ map_in s name
    others name ne =
        map_in-none (set s p (relink (words_at s p) (link s n))) name n no_words m.node
        (is_key-other name head (words_at (set s p (relink (words_at s p) (link s n))) n) own_t ne) (vacant name) ∙ map_in-relink s name p (link s n)

    key_t : key (set s p (relink (words_at s p) (link s n))) n ≡ k
    key_t = ap (word 2) at_n ∙ d.has

    c : Taken s (written s (del_writes s p n)) p n (link s n)
    c = del_writes_do s p n m.previous_in m.node_in m.apart

    is_n : (o : ℕ) → 180 ≤ o → is_key_of (name_of head) (words_at s o) ≡ true → key s o ≡ k → o ≡ n
    is_n o lo t e = key_once s (name_of head) l (name_low head lh) o n lo m.node t (picked) (e ∙ sym d.has)

    other : (o : ℕ) → 180 ≤ o → is_key_of (name_of head) (words_at (written s (del_writes s p n)) o) ≡ true → key (written s (del_writes s p n)) o ≡ k
        → (o ≡ n) ⊎ (o ≢ n) → (o ≡ p) ⊎ (o ≢ p) → ⊥
    other o lo t e (inl q) _ =
        let f = (is_key-from (name_of head) (words_at (written s (del_writes s p n)) o) t).0 in
        let z : owner (written s (del_writes s p n)) o ≡ 0 = ap (owner (written s (del_writes s p n))) q ∙ ap (word 0) c.gone in omega arith
    other o lo t e (inr q) (inr r) =
        q (is_n o lo (ap (is_key_of (name_of head)) (sym (c.others o r q)) ∙ t) (ap (word 2) (sym (c.others o r q)) ∙ e))
    other o lo t e (inr q) (inl r) =
        let w : words_at (written s (del_writes s p n)) o ≡ relink (words_at s p) (link s n) = ap (words_at (written s (del_writes s p n))) r ∙ c.before in
        q (is_n o lo
        (ap (λ u. is_key_of (name_of head) (words_at s u)) r ∙ sym (is_key-relink (name_of head) (words_at s p) (link s n))
        ∙ ap (is_key_of (name_of head)) (sym w) ∙ t)
        (ap (key s) r ∙ sym (key-relink (words_at s p) (link s n)) ∙ ap (word 2) (sym w) ∙ e))

    -- no other node of the list has the key
    gone : has_key k (map_in (written s (del_writes s p n)) (name_of head)) ≡ false
    gone = false_from_ne_true (has_key k (map_in (written s (del_writes s p n)) (name_of head)))
        (λ h. (let u = map_in-holds (written s (del_writes s p n)) (name_of head) k h in other u.0 u.1 u.2 u.3 (cases_eq u.0 n) (cases_eq u.0 p)))

    here : map_in (written s (del_writes s p n)) (name_of head) ≡ take_out k (map_of (name_of head) (catalogue_of s))
    here =
        map_in-less (set s p (relink (words_at s p) (link s n))) (name_of head) n no_words m.node
        (omega (arith, m.node_in, length-set s p (relink (words_at s p) (link s n))))
        (ap (is_key_of (name_of head)) at_n ∙ picked) (vacant (name_of head))
        (ap (λ j. has_key j (map_in (written s (del_writes s p n)) (name_of head))) key_t ∙ gone)
        ∙ ap (λ j. take_out j (map_in (set s p (relink (words_at s p) (link s n))) (name_of head))) key_t
        ∙ ap (take_out k) (map_in-relink s (name_of head) p (link s n) ∙ sym (map_of-catalogue_of s (name_of head) (name_bound head (omega arith))))
