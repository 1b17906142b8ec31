-- An add or a del stays allowed whatever others commit meanwhile that writes nothing of it.
use Rattle.std.proofs.Common.{◌≡◌, ◌≢◌, ◌^◌, ◌<◌, ◌≤◌, ◌∷◌, ℕ, suc, inl, inr, true, false, true≢false, List, [], length, refl, sym, ap, ◌∙◌, subst, arith, Some}
use Rattle.grow_hash.proofs.Terms.{Option, None, cases_eq, State, Writes, written, touches, IsFit, words_at, length-written, drift_keeps_apart, Command, Add}
use Rattle.grow_hash.proofs.Terms.{Del, owner, key, link, list_words, no_words, relink, tag_of, word, touches-in}
use Rattle.grow_hash.proofs.Terms.{IsInList, IsAddPlace, add_writes, IsDelPlace, del_writes, IsNodeOf, split_place, bucket, IsGrown, head_at, grown_name}
use Rattle.grow_hash.proofs.Terms.{Growing, makes, splits, growing_of, Grows, IsGrowCommit, GrowPlan, head_of, IsGrowing, most_buckets, first_grown}
use Rattle.grow_hash.proofs.GrownAdds.{add_allowed}
use Rattle.grow_hash.proofs.GrownDels.{del_allowed}
use Rattle.grow_hash.proofs.GrownStates.{bucket_kept, bucket_low}
use Rattle.grow_hash.proofs.Splitting.{bucket_apart}

-- a list keeps an object whose words stay
in_list_kept : (s s' : State) (head p : ℕ) → words_at s' p ≡ words_at s p → IsInList s head p → IsInList s' head p
in_list_kept s s' head p e (inl q) = inl q
in_list_kept s s' head p e (inr i) = inr (i.0, ap (word 0) e ∙ i.1)

-- A split of a bucket writes each object of its list.
split_writes : (levels place : ℕ) (s s' : State) (ws : Writes) (p : ℕ) → Grows levels (Some (splits place)) s s' ws → IsInList s (head_at place) p
    → touches ws p ≡ true
split_writes levels place s s' ws p w (inl e) = subst (λ o. touches ws o ≡ true) (sym e) w.writes_old
split_writes levels place s s' ws p w (inr i) = w.writes_nodes p i

-- So the bucket of a key stays where a commit doesn't write an object of its list.
home_stays : (levels : ℕ) (g : Option Growing) (s s' : State) (ws : Writes) (b k p : ℕ) → Grows levels g s s' ws → IsInList s (head_at b) p
    → touches ws p ≡ false
    → bucket levels s k ≡ b → bucket levels s' k ≡ b
home_stays levels None s s' ws b k p w i out home = absurd w
home_stays levels (Some (makes command)) s s' ws b k p w i out home = bucket_kept levels s s' k w.table ∙ home
home_stays levels (Some (splits place)) s s' ws b k p w i out home =
    let ne : bucket levels s k ≢ split_place s = λ e. true≢false (sym (split_writes levels place s s' ws p w
    (subst (λ c. IsInList s (head_at c) p) (sym home ∙ e ∙ sym w.here) i)) ∙ out) in
    bucket_apart levels s s' k w.table ne ∙ home

-- The place of an add stays where a commit keeps its predecessor's words.
add_place_stays : (levels : ℕ) (s : State) (tag : List ℕ) (ws : Writes) (b k p : ℕ) → IsGrowCommit levels tag s ws → b < most_buckets levels
    → words_at (written s ws) p ≡ words_at s p
    → IsAddPlace s (head_at b) k p → IsAddPlace (written s ws) (head_at b) k p
add_place_stays levels s tag ws b k p al lt e a = record {
  within = inside;
  below = elim a.below [ inl q ↦ inl q | inr q ↦ inr (subst (λ w. word 2 w < k) (sym e) q) ];
  above = elim (cases_eq (link s p) 0) [ inl z ↦ inl (same ∙ z) | inr n ↦ inr (behind n) ];
}
  where
    inside : IsInList (written s ws) (head_at b) p
    inside = in_list_kept s (written s ws) (head_at b) p e a.within

    same : link (written s ws) p ≡ link s p
    same = ap (word 3) e

    behind : link s p ≢ 0 → k < key (written s ws) (link (written s ws) p)
    behind n =
        let before : IsNodeOf s (head_at b) (link s p) = ((al.keeps.lawful_before.lists b lt).leads p a.within n).0 in
        let now : IsNodeOf (written s ws) (head_at b) (link (written s ws) p) = ((al.keeps.lawful_after.lists b lt).leads p inside (λ z. n (sym same ∙ z))).0 in
        let there : owner (written s ws) (link s p) ≡ suc (head_at b) = ap (owner (written s ws)) (sym same) ∙ now.1 in
        let some : owner s (link s p) ≢ 0 = λ z. (let x : suc (head_at b) ≡ 0 = sym before.1 ∙ z in omega arith) in
        let kept : key (written s ws) (link s p) ≡ key s (link s p) = al.keeps.keys (link s p) some (there ∙ sym before.1) in
        let up : k < key s (link s p) = elim a.above [ inl z ↦ absurd (n z) | inr q ↦ q ] in
        let eq : key (written s ws) (link (written s ws) p) ≡ key (written s ws) (link s p) = ap (key (written s ws)) same in omega arith

-- what an add needs of each state to which others may lead
record AddStays (levels : ℕ) (from s : State) (b k p n : ℕ) : Type 0 where
  lawful : IsGrown levels s
  home : bucket levels s k ≡ b
  place : IsAddPlace s (head_at b) k p
  len : length s ≡ length from
  words : words_at s p ≡ words_at from p
  fresh : words_at s n ≡ words_at from n

-- An add at its place is a fit commit.
pub add_fit : (levels : ℕ) (from : State) (b k p n : ℕ) → IsGrown levels from → bucket levels from k ≡ b → IsAddPlace from (head_at b) k p
    → first_grown levels ≤ n → n < length from
    → owner from n ≡ 0 → k < 2 ^ 32 → IsFit (IsGrowCommit levels) from (tag_of (Add grown_name k)) (add_writes from (head_at b) k 0 p n)
add_fit levels from b k p n l home place lo lt vac fit s drift =
    let i : AddStays levels from s b k p n = drift_keeps_apart (IsGrowCommit levels) held from (λ u. AddStays levels from u b k p n)
    (λ u tag ws m _ al apart kept. record {
      lawful = al.keeps.lawful_after;
      home = home_stays levels (growing_of tag) u (written u ws) ws b k p al.grows m.place.within (apart p in_p) m.home;
      place = add_place_stays levels u tag ws b k p al in_buckets (kept p in_p) m.place;
      len = length-written u ws ∙ m.len;
      words = kept p in_p ∙ m.words;
      fresh = kept n in_n ∙ m.fresh;
    })
    (record { lawful = l; home = home; place = place; len = refl; words = refl; fresh = refl }) s drift in
    subst (λ ws. IsGrowCommit levels (tag_of (Add grown_name k)) s ws)
    (ap (λ (w : List ℕ). (p, relink w n) ∷ (n, list_words (head_at b) k 0 (word 3 w)) ∷ []) i.words)
    (add_allowed levels s b k p n i.lawful i.home i.place lo (let e = i.len in omega arith) (ap (word 0) i.fresh ∙ vac) fit)
  where
    held : Writes
    held = add_writes from (head_at b) k 0 p n

    in_buckets : b < most_buckets levels
    in_buckets = let x : bucket levels from k < most_buckets levels = bucket_low levels from l k in omega arith

    in_p : touches (add_writes from (head_at b) k 0 p n) p ≡ true
    in_p = touches-in (add_writes from (head_at b) k 0 p n) p (inl refl)

    in_n : touches (add_writes from (head_at b) k 0 p n) n ≡ true
    in_n = touches-in (add_writes from (head_at b) k 0 p n) n (inr (inl refl))

record DelStays (levels : ℕ) (from s : State) (b k p n : ℕ) : Type 0 where
  lawful : IsGrown levels s
  place : IsDelPlace s (head_at b) k p n
  words : words_at s p ≡ words_at from p
  node : words_at s n ≡ words_at from n

-- A del at its place is a fit commit.
pub del_fit : (levels : ℕ) (from : State) (b k p n : ℕ) → IsGrown levels from → b < most_buckets levels → IsDelPlace from (head_at b) k p n
    → IsFit (IsGrowCommit levels) from (tag_of (Del grown_name k)) (del_writes from p n)
del_fit levels from b k p n l lt place s drift =
    let i : DelStays levels from s b k p n = drift_keeps_apart (IsGrowCommit levels) held from (λ u. DelStays levels from u b k p n)
    (λ u tag ws m _ al apart kept. record {
      lawful = al.keeps.lawful_after;
      place = record {
        within = in_list_kept u (written u ws) (head_at b) p (kept p in_p) m.place.within;
        behind = ap (word 3) (kept p in_p) ∙ m.place.behind;
        some = m.place.some;
        has = ap (word 2) (kept n in_n) ∙ m.place.has;
      };
      words = kept p in_p ∙ m.words;
      node = kept n in_n ∙ m.node;
    })
    (record { lawful = l; place = place; words = refl; node = refl }) s drift in
    subst (λ ws. IsGrowCommit levels (tag_of (Del grown_name k)) s ws)
    (ap (λ (w : List ℕ). (p, relink w (link s n)) ∷ (n, no_words) ∷ []) i.words
    ∙ ap (λ (w : List ℕ). (p, relink (words_at from p) (word 3 w)) ∷ (n, no_words) ∷ []) i.node)
    (del_allowed levels s b k p n i.lawful lt i.place)
  where
    held : Writes
    held = del_writes from p n

    in_p : touches (del_writes from p n) p ≡ true
    in_p = touches-in (del_writes from p n) p (inl refl)

    in_n : touches (del_writes from p n) n ≡ true
    in_n = touches-in (del_writes from p n) n (inr (inl refl))

-- What a command locks and writes is a fit commit.
pub plan_fit : (levels : ℕ) (from : State) (command : Command) (ws : Writes) → GrowPlan levels command from ws → IsGrowing command → IsGrown levels from
    → IsFit (IsGrowCommit levels) from (tag_of command) ws
plan_fit levels from (Add name k) ws p r l =
    subst (λ u. IsFit (IsGrowCommit levels) from (tag_of (Add name k)) u) (sym p.writes_are)
    (subst (λ u. IsFit (IsGrowCommit levels) from (tag_of (Add u k)) (add_writes from (head_of levels from k) k 0 p.previous p.node)) (sym r.0)
    (add_fit levels from (bucket levels from k) k p.previous p.node l refl p.place p.free.0 p.free.1 p.free.2 r.1))
plan_fit levels from (Del name k) ws p r l =
    subst (λ u. IsFit (IsGrowCommit levels) from (tag_of (Del name k)) u) (sym p.writes_are)
    (subst (λ u. IsFit (IsGrowCommit levels) from (tag_of (Del u k)) (del_writes from p.previous p.node)) (sym r.0)
    (del_fit levels from (bucket levels from k) k p.previous p.node l (bucket_low levels from l k) p.place))
plan_fit levels from _ ws p r l = absurd p
