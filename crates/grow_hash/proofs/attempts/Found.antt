-- What a command on a growing hash set comes to, from what its searches found.
use Rattle.set_model.specs.declared.commands.Reply.{Reply}
use Rattle.list_set.specs.Windows.{EndsHere, AreAddWrites, AreDelWrites}
use Rattle.list_set.specs.declared.search.Window.{Window}
use Rattle.list_set.proofs.Windows.{two_within, two_distinct, add_found, del_found}
use Rattle.std.proofs.Common.{◌≡◌, ◌≢◌, ◌^◌, ◌<◌, ◌&&◌, ℕ, Bool, true, false, cond, not, eqb, length, set, refl, sym, ap, ◌∙◌, subst}
use Rattle.grow_hash.proofs.Terms.{State, Writes, are_distinct, AreWithin, empty, has_key, applies, overflows, Command, Add, Del, Has}
use Rattle.grow_hash.proofs.Terms.{Yes, No, Full, Worn, word, owned_in_range, add_writes, bucket, IsGrown, grown_map, grown_name, grown_catalogue}
use Rattle.grow_hash.proofs.Terms.{grown_capacity, head_of, IsFree, GrowPlan, IsOfGrown, IsGrowFound, Settled, Open}
use Rattle.grow_hash.specs.GrowReplies.{reply_grown, changes_grown}
use Rattle.grow_hash.proofs.Committing.{commit_room}
use Rattle.grow_hash.proofs.GrowFits.{plan_fit}
use Rattle.grow_hash.proofs.GrownAdds.{list_in_range, add_apart, add_allowed, add_map}
use Rattle.grow_hash.proofs.GrownStates.{bucket_low}
use Rattle.grow_hash.proofs.Holding.{same_has}
use Rattle.grow_hash.proofs.LinkedDels.{del_node, del_apart}
use Rattle.grow_hash.proofs.attempts.Fullness.{add_overflows}

-- how a change replies, by whether it applies and overflows
no_reply : (a o last : Bool) → a ≡ false → No ≡ cond a (cond o Full (cond last Worn Yes)) No
no_reply a o last e = sym (ap (λ (t : Bool). cond t (cond o Full (cond last Worn Yes)) No) e)

full_reply : (a o last : Bool) → a ≡ true → o ≡ true → Full ≡ cond a (cond o Full (cond last Worn Yes)) No
full_reply a o last e f = sym (ap (λ (t : Bool). cond t (cond o Full (cond last Worn Yes)) No) e ∙ ap (λ (t : Bool). cond t Full (cond last Worn Yes)) f)

worn_reply : (a o : Bool) → a ≡ true → o ≡ false → Worn ≡ cond a (cond o Full (cond true Worn Yes)) No
worn_reply a o e f = sym (ap (λ (t : Bool). cond t (cond o Full Worn) No) e ∙ ap (λ (t : Bool). cond t Full Worn) f)

unapplied : (a o last : Bool) → a ≡ false → (a && not o && not last) ≡ false
unapplied a o last e = ap (λ (t : Bool). t && not o && not last) e

overfull : (a o last : Bool) → o ≡ true → (a && not o && not last) ≡ false
overfull true true last e = refl
overfull false true last e = refl
overfull a false last e = absurd (cc)

applied : (a o : Bool) → a ≡ true → o ≡ false → (a && not o && not false) ≡ true
applied a o e f = ap (λ (t : Bool). t && not o && not false) e ∙ ap (λ (t : Bool). not t && not false) f

-- whether a search of the bucket of the key found it is whether the set has it
module _ (levels : ℕ) (s : State) (k : ℕ) (l : IsGrown levels s) (window : Window) (ends : EndsHere s (head_of levels s k) k window) (has : Bool)
    (is : has ≡ (not (eqb window.node 0) && eqb (word 2 window.node_words) k)) where
  found_has : has ≡ has_key k (grown_map levels s)
  found_has = is ∙ ends.has ∙ same_has levels s k l

  pub has_found : (command : Command) (name : ℕ) (r : Reply) → command ≡ Has name k → IsOfGrown command → r ≡ cond has Yes No
      → IsGrowFound levels command s (Settled r)
  has_found command name r e names said =
      subst (λ (u : Command). IsGrowFound levels u s (Settled r)) (sym e)
      (subst (λ n. IsGrowFound levels (Has n k) s (Settled r)) (sym (subst IsOfGrown e names))
      (λ last. said ∙ ap (λ (b : Bool). cond b Yes No) found_has, refl))

  pub add_no : has ≡ true → IsGrowFound levels (Add grown_name k) s (Settled No)
  add_no e =
      let there : applies (Add grown_name k) (grown_catalogue levels s) ≡ false = ap not (sym found_has ∙ e) in
      (λ last. no_reply _ (overflows (Add grown_name k) (grown_catalogue levels s) (grown_capacity levels s)) last there, unapplied _ _ false there)

  pub del_no : has ≡ false → IsGrowFound levels (Del grown_name k) s (Settled No)
  del_no e =
      let out : applies (Del grown_name k) (grown_catalogue levels s) ≡ false = sym found_has ∙ e in
      (λ last. no_reply _ (overflows (Del grown_name k) (grown_catalogue levels s) (grown_capacity levels s)) last out, unapplied _ false false out)

  pub add_full : has ≡ false → ((o : ℕ) → IsFree levels s o → ⊥) → IsGrowFound levels (Add grown_name k) s (Settled Full)
  add_full e none =
      let out : has_key k (grown_map levels s) ≡ false = sym found_has ∙ e in
      let over : overflows (Add grown_name k) (grown_catalogue levels s) (grown_capacity levels s) ≡ true = add_overflows levels s k l none out in
      (λ last. full_reply _ _ last (ap not out) over, overfull _ _ false over)

  pub add_open : has ≡ false → (node : ℕ) → IsFree levels s node → k < 2 ^ 32 → (h : ℕ) (ws : Writes) → h ≡ head_of levels s k
      → AreAddWrites h k 0 node window ws
      → IsGrowFound levels (Add grown_name k) s (Open ws)
  add_open e node free fit h ws at_head writes =
      let are : AreAddWrites (head_of levels s k) k 0 node window ws = subst (λ u. AreAddWrites u k 0 node window ws) at_head writes in
      let f = add_found s s (head_of levels s k) k window.previous window.words window.node window.node_words has refl ends is e 0 node ws (are s ends) in
      let here : window.previous ≢ node = add_apart levels s (bucket levels s k) k 0 window.previous node l refl f.0 free.0 free.1 free.2 in
      let ok = add_allowed levels s (bucket levels s k) k window.previous node l refl f.0 free.0 free.1 free.2 fit in
      let fits : overflows (Add grown_name k) (grown_catalogue levels s) (grown_capacity levels s) ≡ false =
      commit_room levels (Add grown_name k) s (add_writes s (head_of levels s k) k 0 window.previous node) ok.keeps
      (ap (set empty grown_name) (add_map levels s (bucket levels s k) k 0 window.previous node l refl f.0 free.0 free.1 free.2)) in
      let plan : GrowPlan levels (Add grown_name k) s ws =
      record { previous = window.previous; node = node; place = f.0; free = free; writes_are = f.1 } in (
        applied _ _ (ap not (sym found_has ∙ e)) fits,
        record {
          plan = plan;
          distinct = ap are_distinct f.1 ∙ two_distinct window.previous node here;
          within = subst (λ (u : Writes). AreWithin u (length s)) (sym f.1)
              (two_within window.previous node (length s) (list_in_range levels s (bucket levels s k) window.previous l (bucket_low levels s l k) f.0.within)
              free.1);
          locks = ap length f.1;
          fit = plan_fit levels s (Add grown_name k) ws plan (refl, fit) l;
        },
      )

  pub del_open : has ≡ true → k < 2 ^ 32 → (ws : Writes) → AreDelWrites window ws → IsGrowFound levels (Del grown_name k) s (Open ws)
  del_open e fit ws are =
      let f = del_found s s (head_of levels s k) k window.previous window.words window.node window.node_words has refl ends is e ws
      (are s (head_of levels s k) k ends) in
      let linked = l.lists (bucket levels s k) (bucket_low levels s l k) in
      let here : window.previous ≢ window.node = del_apart s (head_of levels s k) k window.previous window.node linked f.0 in
      let node = del_node s (head_of levels s k) k window.previous window.node linked f.0 in
      let plan : GrowPlan levels (Del grown_name k) s ws = record { previous = window.previous; node = window.node; place = f.0; writes_are = f.1 } in (
        applied _ _ (sym found_has ∙ e) refl,
        record {
          plan = plan;
          distinct = ap are_distinct f.1 ∙ two_distinct window.previous window.node here;
          within = subst (λ (u : Writes). AreWithin u (length s)) (sym f.1)
              (two_within window.previous window.node (length s)
              (list_in_range levels s (bucket levels s k) window.previous l (bucket_low levels s l k) f.0.within)
              (owned_in_range s window.node (head_of levels s k) node.1));
          locks = ap length f.1;
          fit = plan_fit levels s (Del grown_name k) ws plan (refl, fit) l;
        },
      )

-- At the last time a change comes too late.
changing_parts : (a o : Bool) → (a && not o && not false) ≡ true → (a ≡ true) × (o ≡ false)
changing_parts true false e = (refl, refl)
changing_parts true true e = absurd (cc)
changing_parts false o e = absurd (cc)

pub change_late : (levels : ℕ) (command : Command) (s : State) (ws : Writes) → changes_grown levels command s false ≡ true → GrowPlan levels command s ws
    → Worn ≡ reply_grown levels command s true
change_late levels (Add name key) s ws e p =
    let h = changing_parts (applies (Add name key) (grown_catalogue levels s)) (overflows (Add name key) (grown_catalogue levels s) (grown_capacity levels s))
    e in
    worn_reply (applies (Add name key) (grown_catalogue levels s)) (overflows (Add name key) (grown_catalogue levels s) (grown_capacity levels s)) h.0 h.1
change_late levels (Del name key) s ws e p =
    let h = changing_parts (applies (Del name key) (grown_catalogue levels s)) false e in
    worn_reply (applies (Del name key) (grown_catalogue levels s)) false h.0 refl
change_late levels _ s ws e p = absurd p

pub unchanging_late : (levels : ℕ) (command : Command) (s : State) → changes_grown levels command s true ≡ false
unchanging_late levels command s = late (applies command (grown_catalogue levels s)) (overflows command (grown_catalogue levels s) (grown_capacity levels s))
  where
    late : (a o : Bool) → (a && not o && not true) ≡ false
    late true true = refl
    late true false = refl
    late false o = refl

-- what changes nothing where a time is left changes nothing at all
pub unchanging_any : (levels : ℕ) (command : Command) (s : State) (last : Bool) → changes_grown levels command s false ≡ false
    → changes_grown levels command s last ≡ false
unchanging_any levels command s false e = e
unchanging_any levels command s true e = unchanging_late levels command s

-- a vacant node, or that there is none, in a state as another
pub none_same : (levels : ℕ) (s t : State) → t ≡ s → ((o : ℕ) → IsFree levels t o → ⊥) → (o : ℕ) → IsFree levels s o → ⊥
none_same levels s t e none o free = none o (subst (λ (u : State). IsFree levels u o) (sym e) free)

pub free_same : (levels : ℕ) (s t : State) (o : ℕ) → t ≡ s → IsFree levels t o → IsFree levels s o
free_same levels s t o e free = subst (λ (u : State). IsFree levels u o) e free
