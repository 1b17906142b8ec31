-- One command more of a block, in the state that those before it leave, and in every state that others may lead to meanwhile.
use Rattle.std.proofs.Common.{◌≡◌, ◌≢◌, ◌<◌, ◌≤◌, ◌-◌, ◌⊎◌, ◌||◌, ◌∷◌, ◌++◌}
use Rattle.set_blocks.proofs.Terms.{ℕ, suc, inl, inr, Bool, true, false, List, [], length, refl, sym, ap, ◌∙◌, subst, arith, Option, Some, None, cases_lt}
use Rattle.set_blocks.proofs.Terms.{State, Writes, written, touches, are_distinct, words_at, IsFit, length-written, words-written_other, Command, Reply, Maps}
use Rattle.set_blocks.proofs.Terms.{catalogue_of, reply, changes, next, capacity, Keeps, first_node, first_root, owner, kind, key, link, with_locks, objects_of}
use Rattle.set_blocks.proofs.Terms.{Tree, objects_in, Stands, IsTree, EndsAt, leaf, inner, IsLawful, word, touches-with_locks, distinct-with_locks}
use Rattle.set_blocks.proofs.Terms.{written-with_locks, written-with_writes, IsIn, in_either, only_in, IsInList, merged, merged-is, merged-distinct}
use Rattle.set_blocks.proofs.Terms.{touches-merged, turn_replies, after_turns, some_changes, block_tag, IsOfLists, IsBlockCommit, Remains}
use Rattle.set_blocks.proofs.Remaining.{of_lists-same, remains_drifts}
use Rattle.set_blocks.proofs.ListTracks.{behind}

-- what is written by merged writes is what is written one after another
pub written-merged : (s : State) (own ws : Writes) → are_distinct own ≡ true → written s (merged own ws) ≡ written (written s own) ws
written-merged s own ws d =
    let t : State = written s own in
    let locks : Writes = with_locks (written s own) own (objects_of ws) in
    ap (written s) (sym (merged-is (written s own) own ws))
    ∙ written-with_writes s (with_locks (written s own) own (objects_of ws)) ws (distinct-with_locks (written s own) own (objects_of ws) d)
    (λ o i. touches-with_locks (written s own) own (objects_of ws) o (inr i))
    ∙ ap (λ u. written u ws) (written-with_locks s (written s own) own (objects_of ws) (λ o i. refl))

-- all that is written is held
abbrev pub Covers : Writes → Writes → Type 0
Covers held ws = (o : ℕ) → touches ws o ≡ true → touches held o ≡ true

-- What writes keep of the objects that they don't write, as the rules of blocks ask.
pub record Spares (s : State) (ws : Writes) : Type 0 where
  pub keys : (o : ℕ) → IsOfLists s o → touches ws o ≡ false → first_node ≤ link s o → key (written s ws) (link s o) ≡ key s (link s o)
  pub ends : (root k l : ℕ) → first_root ≤ root → root < first_node → EndsAt s root k l → touches ws l ≡ false → EndsAt (written s ws) root k l

-- a node of a tree is no list node
tree_kind : (s : State) (root : ℕ) (t : Tree) → Stands s root t → (o : ℕ) → IsIn o (objects_in t) → kind s o ≢ 0
tree_kind s root (leaf n k v) q o (inl e) z = let one : kind s o ≡ 1 = ap (kind s) e ∙ ap (word 1) q.2 in omega arith
tree_kind s root (leaf n k v) q o (inr i) z = i
tree_kind s root (inner n d a b) q o (inl e) z = let two : kind s o ≡ 2 = ap (kind s) e ∙ ap (word 1) q.2 in omega arith
tree_kind s root (inner n d a b) q o (inr i) z =
    elim (in_either (objects_in a) (objects_in b) o i) [ inl j ↦ tree_kind s root a q.3 o j z | inr j ↦ tree_kind s root b q.4 o j z ]

-- an object of a list is of that of one head
list_head : (s : State) (o : ℕ) → IsLawful s → IsOfLists s o → (head : ℕ) × (head < 170) × IsInList s head o
list_head s o l (inl lt) = (o, lt, inl refl)
list_head s o l (inr (lo, some, list)) =
    let most : owner s o ≤ 180 = l.owned o lo in
    let n : ℕ = owner s o - 1 in
    let one : owner s o ≡ suc (owner s o - 1) = omega arith in
    elim (cases_lt (owner s o - 1) 170) [
      | inl lt ↦ (owner s o - 1, lt, inr (lo, one))
      | inr ge ↦ absurd (tree (owner s o - 1) one (l.trees (owner s o - 1) ge (omega arith)).0 (l.trees (owner s o - 1) ge (omega arith)).1)
    ]
  where
    tree : (root : ℕ) → owner s o ≡ suc root → (t : Option Tree) → IsTree s root t → ⊥
    tree root e None q = q.1 o lo e
    tree root e (Some t) g = tree_kind s root t g.stands o (only_in s root t g o lo e) list

-- The change of a structure spares so much.
pub spares_keeps : (s : State) (ws : Writes) → Keeps s (written s ws) ws → Spares s ws
spares_keeps s ws k = record { keys = keys; ends = k.ends }
  where
    keys : (o : ℕ) → IsOfLists s o → touches ws o ≡ false → 180 ≤ link s o → key (written s ws) (link s o) ≡ key s (link s o)
    keys o list out lo =
        let h = list_head s o k.lawful_before list in
        let e : words_at (written s ws) o ≡ words_at s o = words-written_other s ws o out in
        from h.0 (behind s h.0 o k.lawful_before h.1 h.2) (behind (written s ws) h.0 o k.lawful_after h.1 (stays h.0 e h.2)) (ap (word 3) e)
      where
        stays : (head : ℕ) → words_at (written s ws) o ≡ words_at s o → IsInList s head o → IsInList (written s ws) head o
        stays head e (inl q) = inl q
        stays head e (inr g) = inr (g.0, ap (word 0) e ∙ g.1)

        from : (head : ℕ) → (link s o ≡ 0) ⊎ ((180 ≤ link s o) × (owner s (link s o) ≡ suc head))
            → (link (written s ws) o ≡ 0) ⊎ ((180 ≤ link (written s ws) o) × (owner (written s ws) (link (written s ws) o) ≡ suc head))
            → link (written s ws) o ≡ link s o → key (written s ws) (link s o) ≡ key s (link s o)
        from head (inl z) _ e = absurd (omega arith)
        from head (inr g) (inl z) e = absurd (omega arith)
        from head (inr g) (inr m) e =
            (k.keys (link s o) (λ z. (let q = g.1 in omega arith)) (ap (owner (written s ws)) (sym e) ∙ m.1 ∙ sym g.1)).1

-- so do writes that change nothing
pub spares_none : (s : State) (ws : Writes) → written s ws ≡ s → Spares s ws
spares_none s ws e = record {
  keys = λ o list out lo. ap (λ u. key u (link s o)) e;
  ends = λ root k l r0 r1 h out. subst (λ u. EndsAt u root k l) (sym e) h;
}

either_false : (a b : Bool) → a || b ≡ false → (a ≡ false) × (b ≡ false)
either_false true b e = absurd (cc)
either_false false b e = (refl, e)

-- and two changes one after the other
pub spares_both : (s : State) (own ws : Writes) → are_distinct own ≡ true → Spares s own → Spares (written s own) ws → Spares s (merged own ws)
spares_both s own ws d a b = record {
  keys = λ o list out lo.
      (let f = either_false (touches own o) (touches ws o) (sym (touches-merged own ws o) ∙ out) in
      let e : words_at (written s own) o ≡ words_at s o = words-written_other s own o f.0 in
      let same : link (written s own) o ≡ link s o = ap (word 3) e in
      let there : 180 ≤ link (written s own) o = omega (arith, lo) in
      ap (λ u. key u (link s o)) (written-merged s own ws d) ∙ ap (key (written (written s own) ws)) (sym same)
      ∙ b.keys o (of_lists-same s (written s own) o e list) f.1 there ∙ ap (key (written s own)) same ∙ a.keys o list f.0 lo);
  ends = λ root k l r0 r1 h out.
      (let f = either_false (touches own l) (touches ws l) (sym (touches-merged own ws l) ∙ out) in
      subst (λ u. EndsAt u root k l) (sym (written-merged s own ws d)) (b.ends root k l r0 r1 (a.ends root k l r0 r1 h f.0) f.1));
}

-- What a command does in a state u, for which what is held of the state z remains.
pub record Stepped (command : Command) (answer : Reply) (changing : Bool) (held : Writes) (z u : State) (ws : Writes) : Type 0 where
  pub answer_is : reply command (catalogue_of u) (capacity u) false ≡ answer
  pub changing_is : changes command (catalogue_of u) (capacity u) false ≡ changing
  pub leaves : catalogue_of (written u ws) ≡ next command (catalogue_of u) (capacity u) false
  pub remains : Remains held (written z ws) (written u ws)
  pub spares : Spares u ws

-- It does so in each such state.
pub record StepAt (command : Command) (z : State) (ws : Writes) (answer : Reply) (changing : Bool) : Type 0 where
  pub step : (held : Writes) (u : State) → Covers held ws → Remains held z u → Stepped command answer changing held z u ws

-- What commands do one after another.
pub record Ran (commands : List Command) (answers : List Reply) (changing : Bool) (held : Writes) (from u : State) (ws : Writes) : Type 0 where
  pub answers_are : turn_replies commands (catalogue_of u) (capacity u) ≡ answers
  pub changing_is : some_changes commands (catalogue_of u) (capacity u) ≡ changing
  pub leaves : catalogue_of (written u ws) ≡ after_turns commands (catalogue_of u) (capacity u)
  pub remains : Remains held (written from ws) (written u ws)
  pub spares : Spares u ws

pub record RunsAt (commands : List Command) (from : State) (ws : Writes) (answers : List Reply) (changing : Bool) : Type 0 where
  pub distinct : are_distinct ws ≡ true
  pub runs : (held : Writes) (u : State) → Covers held ws → Remains held from u → Ran commands answers changing held from u ws

turn_replies-push : (commands : List Command) (command : Command) (c : Maps) (n : ℕ) → turn_replies (commands ++ command ∷ []) c n
    ≡ turn_replies commands c n ++ reply command (after_turns commands c n) n false ∷ []
turn_replies-push [] command c n = refl
turn_replies-push (x ∷ commands) command c n = ap (λ rs. reply x c n false ∷ rs) (turn_replies-push commands command (next x c n false) n)

after_turns-push : (commands : List Command) (command : Command) (c : Maps) (n : ℕ) → after_turns (commands ++ command ∷ []) c n
    ≡ next command (after_turns commands c n) n false
after_turns-push [] command c n = refl
after_turns-push (x ∷ commands) command c n = after_turns-push commands command (next x c n false) n

or_none : (a : Bool) → a || false ≡ a
or_none true = refl
or_none false = refl

or_assoc : (a b c : Bool) → a || (b || c) ≡ (a || b) || c
or_assoc true b c = refl
or_assoc false b c = refl

some_changes-push : (commands : List Command) (command : Command) (c : Maps) (n : ℕ) → some_changes (commands ++ command ∷ []) c n
    ≡ some_changes commands c n || changes command (after_turns commands c n) n false
some_changes-push [] command c n = or_none (changes command c n false)
some_changes-push (x ∷ commands) command c n =
    ap (λ b. changes x c n false || b) (some_changes-push commands command (next x c n false) n)
    ∙ or_assoc (changes x c n false) (some_changes commands (next x c n false) n) (changes command (after_turns commands (next x c n false) n) n false)

-- no command yet
pub runs_none : (from : State) → RunsAt [] from [] [] false
runs_none from = record {
  distinct = refl;
  runs = λ held u c r. record {
    answers_are = refl;
    changing_is = refl;
    leaves = refl;
    remains = r;
    spares = spares_none u [] refl;
  };
}

-- One command more.
pub runs_more : (commands : List Command) (from : State) (own : Writes) (answers : List Reply) (b : Bool) (command : Command) (ws : Writes)
    (answer : Reply) (c : Bool) → RunsAt commands from own answers b → StepAt command (written from own) ws answer c
    → RunsAt (commands ++ command ∷ []) from (merged own ws) (answers ++ answer ∷ []) (b || c)
runs_more commands from own answers b command ws answer c run at = record {
  distinct = merged-distinct own ws run.distinct;
  runs = λ held u cover r. more held u cover r (run.runs held u (λ o t. cover o (touches-merged own ws o ∙ left (touches own o) (touches ws o) t)) r);
}
  where
    left : (x y : Bool) → x ≡ true → x || y ≡ true
    left true y e = refl
    left false y e = absurd (cc)

    right : (x y : Bool) → y ≡ true → x || y ≡ true
    right true y e = refl
    right false y e = e

    more : (held : Writes) (u : State) → Covers held (merged own ws) → Remains held from u → Ran commands answers b held from u own
        → Ran (commands ++ command ∷ []) (answers ++ answer ∷ []) (b || c) held from u (merged own ws)
    more held u cover r ran =
        let st = at.step held (written u own) (λ o t. cover o (touches-merged own ws o ∙ right (touches own o) (touches ws o) t)) ran.remains in
        let len : length (written u own) ≡ length u = length-written u own in
        let cap : capacity (written u own) ≡ capacity u = ap (λ n. n - 180) len in
        let said : reply command (after_turns commands (catalogue_of u) (capacity u)) (capacity u) false ≡ answer =
        ap (λ m. reply command m (capacity u) false) (sym ran.leaves) ∙ ap (λ n. reply command (catalogue_of (written u own)) n false) (sym cap)
        ∙ st.answer_is in
        let does : changes command (after_turns commands (catalogue_of u) (capacity u)) (capacity u) false ≡ c =
        ap (λ m. changes command m (capacity u) false) (sym ran.leaves) ∙ ap (λ n. changes command (catalogue_of (written u own)) n false) (sym cap)
        ∙ st.changing_is in
        let whole : written u (merged own ws) ≡ written (written u own) ws = written-merged u own ws run.distinct in
        record {
          answers_are = turn_replies-push commands command (catalogue_of u) (capacity u) ∙
              ap (λ rs. rs ++ reply command (after_turns commands (catalogue_of u) (capacity u)) (capacity u) false ∷ []) ran.answers_are
              ∙ ap (λ x. answers ++ x ∷ []) said;
          changing_is = some_changes-push commands command (catalogue_of u) (capacity u) ∙
              ap (λ x. x || changes command (after_turns commands (catalogue_of u) (capacity u)) (capacity u) false) ran.changing_is ∙ ap (λ x. b || x) does;
          leaves = ap catalogue_of whole ∙ st.leaves ∙ ap (λ n. next command (catalogue_of (written u own)) n false) cap
              ∙ ap (λ m. next command m (capacity u) false) ran.leaves ∙ sym (after_turns-push commands command (catalogue_of u) (capacity u));
          remains = subst (λ x. Remains held x (written u (merged own ws))) (sym (written-merged from own ws run.distinct))
              (subst (λ x. Remains held (written (written from own) ws) x) (sym whole) st.remains);
          spares = spares_both u own ws run.distinct ran.spares st.spares;
        }

-- What commands do one after another is a commit of a block that stays one whatever others commit.
pub runs_fit : (commands : List Command) (from : State) (ws : Writes) (answers : List Reply) (b : Bool) → RunsAt commands from ws answers b → IsLawful from
    → 1 ≤ length commands → length commands ≤ 8 → IsFit IsBlockCommit from (block_tag (length commands)) ws
runs_fit commands from ws answers b run l some few s drift =
    let r : Remains ws from s = remains_drifts ws from s l drift in
    let ran = run.runs ws s (λ o t. t) r in
    record {
      tagged = (refl, some, few, refl, refl);
      lawful_before = r.lawful;
      lawful_after = ran.remains.lawful;
      keys = ran.spares.keys;
      ends = ran.spares.ends;
    }
