-- How many nodes a change takes, and when there are too few.
use Rattle.std.proofs.Common.{◌≡◌, ◌≢◌, ℕ, zero, suc, ◌+◌, ◌-◌, ◌<◌, ◌≤◌, Bool, true, false, not, ◌&&◌, nat_lt}
use Rattle.std.proofs.Common.{if◌then◌else◌, [], ◌∷◌, length, drop, set, refl, sym, ap, ◌∙◌, arith, length-drop, length-set}
use Rattle.std.proofs.Common.{get_or-set_other, true≢false}
use Rattle.std.proofs.lemmas.Bool.{and_parts, not-true}
use Rattle.std.proofs.lemmas.Bool.Decides.{nat_tests}
use Rattle.mv_history.specs.State.{State}
use Rattle.set_model.specs.Catalogue.{Map, Maps, map_of, has_key, put, take_out, cost_of, cost_from, cost, with_key, without_key}
use Rattle.set_model.specs.CatalogueOf.{catalogue_of, count_used}
use Rattle.set_model.specs.Objects.{first_node, most_objects}
use Rattle.set_model.specs.Replies.{value_at, applies, overflows, changed, changes, next}
use Rattle.set_model.specs.Lawful.{IsLawful}
use Rattle.set_model.specs.Rules.{capacity, IsInRange, Makes}
use Rattle.set_model.specs.declared.commands.Command.{Command}
use Rattle.set_model.specs.declared.commands.Command.TheVariants.{Add, Put, Del, Has, Get, Move, Pair, Size, Next}
use Rattle.set_model.proofs.Cost.{cost_is}
use Rattle.set_model.proofs.Mapped.{length-catalogue_of}
use Rattle.set_catalog.specs.Needs.{first_tree, taken, freed, wanted, may_change}
use Rattle.set_catalog.specs.Shortages.{may_free}
use Rattle.set_catalog.specs.declared.shortage.TheConstants.{NO_BOUND}
use Rattle.set_catalog.specs.Picks.{count_vacant, vacant_nodes}

-- each node is vacant or not
vacant_or_used : (ws : State) → count_vacant ws + count_used ws ≡ length ws
vacant_or_used [] = refl
vacant_or_used (w ∷ ws) = grind (arith, nat_tests, vacant_or_used ws)

-- the vacant nodes and what the catalogue takes are all nodes
pub vacant_and_cost : (s : State) → IsLawful s → vacant_nodes s + cost (catalogue_of s) ≡ capacity s
vacant_and_cost s l =
    omega (arith, vacant_or_used (drop first_node s), cost_is s l, length-drop first_node s)

length_put : (k v : ℕ) (m : Map) → has_key k m ≡ false → length (put k v m) ≡ suc (length m)
length_put k v [] h = refl
length_put k v (e ∷ m) h = grind (arith, nat_tests, length_put k v m)

length_take_out : (k : ℕ) (m : Map) → has_key k m ≡ true → suc (length (take_out k m)) ≡ length m
length_take_out k [] h = absurd (true≢false (sym h))
length_take_out k (e ∷ m) h = grind (arith, nat_tests, length_take_out k m)

-- a new key takes so many nodes
cost_put : (name k v : ℕ) (m : Map) → has_key k m ≡ false → cost_of name (put k v m) ≡ cost_of name m + taken name m
cost_put name k v m h = let l : length (put k v m) ≡ suc (length m) = length_put k v m h in grind (arith, nat_tests)

-- a key that goes gives back so many
cost_take_out : (name k : ℕ) (m : Map) → has_key k m ≡ true → cost_of name (take_out k m) + freed name m ≡ cost_of name m
cost_take_out name k m h =
    let l : suc (length (take_out k m)) ≡ length m = length_take_out k m h in grind (arith, nat_tests)

cost_from_set : (first name : ℕ) (c : Maps) (m : Map) → name < length c
    → cost_from first (set c name m) + cost_of (first + name) (map_of name c) ≡ cost_from first c + cost_of (first + name) m
cost_from_set first name [] m l = absurd (omega arith)
cost_from_set first zero (n ∷ c) m l = let e : first + 0 ≡ first = omega arith in rw e (omega arith)
cost_from_set first (suc name) (n ∷ c) m l =
    let e : first + suc name ≡ suc first + name = omega arith in
    let r : cost_from (suc first) (set c name m) + cost_of (suc first + name) (map_of name c) ≡ cost_from (suc first) c + cost_of (suc first + name) m =
    cost_from_set (suc first) name c m (omega arith) in
    rw e (omega arith)

cost_set : (name : ℕ) (c : Maps) (m : Map) → name < length c → cost (set c name m) + cost_of name (map_of name c) ≡ cost c + cost_of name m
unfolding cost
cost_set name c m l = let r = cost_from_set 0 name c m l in let e : 0 + name ≡ name = omega arith in rw e at r

pub cost_with_key : (name k v : ℕ) (c : Maps) → name < length c → has_key k (map_of name c) ≡ false
    → cost (with_key name k v c) ≡ cost c + taken name (map_of name c)
cost_with_key name k v c l h =
    omega (arith, cost_set name c (put k v (map_of name c)) l, cost_put name k v (map_of name c) h)

pub cost_without_key : (name k : ℕ) (c : Maps) → name < length c → has_key k (map_of name c) ≡ true
    → cost (without_key name k c) + freed name (map_of name c) ≡ cost c
cost_without_key name k c l h =
    omega (arith, cost_set name c (take_out k (map_of name c)) l, cost_take_out name k (map_of name c) h)

too_few : (cap vacant c needs : ℕ) → vacant + c ≡ cap → nat_lt cap (c + needs) ≡ nat_lt vacant needs
too_few cap vacant c needs e = grind (arith, nat_tests)

never_below : (n : ℕ) → nat_lt n 0 ≡ false
never_below n = grind arith

needs_beyond : (cap vacant c gives needs : ℕ) → vacant + c ≡ cap → gives ≤ c → nat_lt cap (c - gives + needs) ≡ nat_lt vacant (needs - gives)
needs_beyond cap vacant c gives needs e l = grind (arith, nat_tests)

not_itself : (name other key : ℕ) (c : Maps) → has_key key (map_of name c) ≡ true → has_key key (map_of other c) ≡ false → other ≢ name
not_itself name other key c h n e = true≢false (sym h ∙ ap (λ (x : ℕ). has_key key (map_of x c)) (sym e) ∙ n)

-- A change that applies overflows exactly where fewer nodes are vacant than it wants.
module _ (c : Maps) (cap vacant : ℕ) (whole : length c ≡ 30) (room : vacant + cost c ≡ cap) where
  move_overflows : (source target key v : ℕ) → source < 30 → target < 30 → has_key key (map_of source c) ≡ true → has_key key (map_of target c) ≡ false
      → nat_lt cap (cost (with_key target key v (without_key source key c))) ≡ nat_lt vacant (taken target (map_of target c) - freed source (map_of source c))
  move_overflows source target key v ls lt h n =
      let less : Maps = without_key source key c in
      let same : map_of target (without_key source key c) ≡ map_of target c =
      get_or-set_other c source target (take_out key (map_of source c)) [] (not_itself source target key c h n) in
      let gone = cost_without_key source key c (omega arith) h in
      let long : length (without_key source key c) ≡ length c = length-set c source (take_out key (map_of source c)) in
      let come : cost (with_key target key v (without_key source key c)) ≡ cost (without_key source key c)
      + taken target (map_of target (without_key source key c)) =
      cost_with_key target key v (without_key source key c) (omega arith) (ap (has_key key) same ∙ n) in
      let needs : taken target (map_of target (without_key source key c)) ≡ taken target (map_of target c) = ap (taken target) same in
      let all : cost (with_key target key v (without_key source key c)) ≡ cost c - freed source (map_of source c) + taken target (map_of target c) =
      omega arith in
      ap (nat_lt cap) all ∙ needs_beyond cap vacant (cost c) (freed source (map_of source c)) (taken target (map_of target c)) room (omega arith)

  add_overflows : (name key v : ℕ) → name < 30 → has_key key (map_of name c) ≡ false
      → nat_lt cap (cost (with_key name key v c)) ≡ nat_lt vacant (taken name (map_of name c))
  add_overflows name key v l n =
      ap (nat_lt cap) (cost_with_key name key v c (omega arith) n) ∙ too_few cap vacant (cost c) (taken name (map_of name c)) room

  put_overflows : (name key v : ℕ) → name < 30 → (b : Bool) → has_key key (map_of name c) ≡ b
      → not b && nat_lt cap (cost (with_key name key v c)) ≡ nat_lt vacant (if b then 0 else taken name (map_of name c))
  put_overflows name key v l true e = sym (never_below vacant)
  put_overflows name key v l false e = add_overflows name key v l e

  pub overflows_wanted : (command : Command) → IsInRange command → may_change command ≡ true → applies command c ≡ true
      → overflows command c cap ≡ nat_lt vacant (wanted command c)
  overflows_wanted (Add name key) r m a = add_overflows name key 0 r.0 (grind arith)
  overflows_wanted (Put name key value) r m a =
      put_overflows name key value r.0 (has_key key (map_of name c)) refl
  overflows_wanted (Del name key) r m a = sym (never_below vacant)
  overflows_wanted (Has name key) r m a = absurd (true≢false (sym m))
  overflows_wanted (Get name key) r m a = absurd (true≢false (sym m))
  overflows_wanted (Move source target key) r m a =
      let p : (has_key key (map_of source c) ≡ true) × (has_key key (map_of target c) ≡ false) = both a in
      move_overflows source target key (value_at source key c) r.0 r.1 p.0 p.1
    where
      both : has_key key (map_of source c) && not (has_key key (map_of target c)) ≡ true
          → (has_key key (map_of source c) ≡ true) × (has_key key (map_of target c) ≡ false)
      both e = let q = and_parts (has_key key (map_of source c)) (not (has_key key (map_of target c))) e in (q.0, not-true (has_key key (map_of target c)) q.1)
  overflows_wanted (Pair first second key) r m a = absurd (true≢false (sym m))
  overflows_wanted (Size name) r m a = absurd (true≢false (sym m))
  overflows_wanted (Next name key) r m a = absurd (true≢false (sym m))

-- So it is in a lawful state.
pub overflows_state : (s : State) (command : Command) → IsLawful s → IsInRange command → may_change command ≡ true → applies command (catalogue_of s) ≡ true
    → overflows command (catalogue_of s) (capacity s) ≡ nat_lt (vacant_nodes s) (wanted command (catalogue_of s))
overflows_state s command l r m a =
    overflows_wanted (catalogue_of s) (capacity s) (vacant_nodes s) (length-catalogue_of s) (vacant_and_cost s l) command r m a

length_put_any : (k v : ℕ) (m : Map) → length m ≤ length (put k v m)
length_put_any k v [] = omega arith
length_put_any k v (e ∷ m) = grind (arith, nat_tests, length_put_any k v m)

-- a key with a value costs no less, whether it was there or not
cost_put_any : (name k v : ℕ) (m : Map) → cost_of name m ≤ cost_of name (put k v m)
cost_put_any name k v m = let l : length m ≤ length (put k v m) = length_put_any k v m in grind (arith, nat_tests)

cost_with_any : (name k v : ℕ) (c : Maps) → name < length c → cost c ≤ cost (with_key name k v c)
cost_with_any name k v c l = omega (arith, cost_set name c (put k v (map_of name c)) l, cost_put_any name k v (map_of name c))

-- a node is taken, and where a list or a bucket loses a key one is given back
takes_one : (name : ℕ) (m : Map) → 1 ≤ taken name m
takes_one name m = grind (arith, nat_tests)

frees_one : (name : ℕ) (m : Map) → nat_lt name first_tree ≡ true → freed name m ≡ 1
frees_one name m e = rw e refl

cost_moved : (source target key v : ℕ) (c : Maps) → length c ≡ 30 → source < 30 → target < 30 → nat_lt source first_tree ≡ true
    → has_key key (map_of source c) ≡ true → has_key key (map_of target c) ≡ false → cost c ≤ cost (with_key target key v (without_key source key c))
cost_moved source target key v c whole ls lt listed h n =
    let less : Maps = without_key source key c in
    let same : map_of target (without_key source key c) ≡ map_of target c =
    get_or-set_other c source target (take_out key (map_of source c)) [] (not_itself source target key c h n) in
    let long : length (without_key source key c) ≡ length c = length-set c source (take_out key (map_of source c)) in
    omega (
      arith,
      cost_without_key source key c (omega arith) h,
      frees_one source (map_of source c) listed,
      cost_with_key target key v (without_key source key c) (omega arith) (ap (has_key key) same ∙ n),
      takes_one target (map_of target (without_key source key c)),
    )

-- A command that frees no node leaves a catalogue that costs no less.
cost_changed : (command : Command) (c : Maps) → length c ≡ 30 → IsInRange command → may_free command ≡ false → applies command c ≡ true
    → cost c ≤ cost (changed command c)
cost_changed (Add name key) c whole r f a = cost_with_any name key 0 c (omega (arith, r.0))
cost_changed (Put name key value) c whole r f a = cost_with_any name key value c (omega (arith, r.0))
cost_changed (Del name key) c whole r f a = absurd (true≢false f)
cost_changed (Has name key) c whole r f a = absurd (true≢false (sym a))
cost_changed (Get name key) c whole r f a = absurd (true≢false (sym a))
cost_changed (Move source target key) c whole r f a =
    let q = and_parts (has_key key (map_of source c)) (not (has_key key (map_of target c))) a in
    cost_moved source target key (value_at source key c) c whole r.0 r.1 (not-false (nat_lt source first_tree) f) q.0
    (not-true (has_key key (map_of target c)) q.1)
  where
    not-false : (b : Bool) → not b ≡ false → b ≡ true
    not-false true e = refl
    not-false false e = absurd (true≢false e)
cost_changed (Pair first second key) c whole r f a = absurd (true≢false (sym a))
cost_changed (Size name) c whole r f a = absurd (true≢false (sym a))
cost_changed (Next name key) c whole r f a = absurd (true≢false (sym a))

cost_next : (command : Command) (c : Maps) (cap : ℕ) → length c ≡ 30 → IsInRange command → may_free command ≡ false → cost c ≤ cost (next command c cap false)
cost_next command c cap whole r f = go (changes command c cap false) refl
  where
    go : (b : Bool) → changes command c cap false ≡ b → cost c ≤ cost (if b then changed command c else c)
    go true e =
        cost_changed command c whole r f
        (and_parts (applies command c) (not (overflows command c cap)) (and_parts (applies command c && not (overflows command c cap)) (not false) e).0).0
    go false e = omega arith

-- So where such a command was committed, no more nodes are vacant than before.
pub vacant_no_more : (command : Command) (before after : State) → IsLawful before → IsLawful after → length after ≡ length before
    → may_free command ≡ false → Makes command before after → vacant_nodes after ≤ vacant_nodes before
vacant_no_more command before after lb la same f made =
    let kept : cost (catalogue_of before) ≤ cost (next command (catalogue_of before) (capacity before) false) =
    cost_next command (catalogue_of before) (capacity before) (length-catalogue_of before) made.in_range f in
    omega (arith, vacant_and_cost before lb, vacant_and_cost after la, kept, ap cost made.leaves)

-- Fewer are vacant than a store has objects.
pub vacant_bound : (s : State) → IsLawful s → vacant_nodes s < NO_BOUND
vacant_bound s l = let few : length s ≤ most_objects = l.few in omega (arith, vacant_and_cost s l)
