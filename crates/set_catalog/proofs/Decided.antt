-- What each command comes to that may change something, by where its searches ended.
use Rattle.std.proofs.Common.{◌≡◌, ◌≢◌, ℕ, ◌^◌, ◌+◌, ◌-◌, ◌<◌, ◌≤◌, inl, inr, Bool, true, false, not, ◌&&◌, ◌==◌, eq-eqb, ne_eqb, if◌then◌else◌}
use Rattle.std.proofs.Common.{length, Some, None, refl, sym, ap, ◌∙◌, subst, arith, true≢false}
use Rattle.mv_history.specs.State.{State, Writes, written}
use Rattle.mv_history.specs.Legal.{are_distinct}
use Rattle.set_model.specs.Catalogue.{map_of, has_key, has_entry, value_of}
use Rattle.set_model.specs.CatalogueOf.{catalogue_of}
use Rattle.set_model.specs.Lawful.{IsLawful}
use Rattle.set_model.specs.Replies.{applies}
use Rattle.set_model.specs.Rules.{IsInRange}
use Rattle.set_model.specs.declared.commands.Command.{Command}
use Rattle.set_model.specs.declared.commands.Command.TheVariants.{Add, Put, Del, Move, Pair}
use Rattle.set_model.specs.declared.commands.Reply.TheVariants.{No, Full, Both}
use Rattle.set_model.proofs.MapLemmas.{has_key-none, has_key-some}
use Rattle.section_work.specs.Held.{count_unheld}
use Rattle.set_catalog.specs.Ends.{EndsAt, objects_added, adds_at, dels_at, puts_at, node_gone, inner_gone}
use Rattle.set_catalog.specs.Findings.{IsNew, IsPlanned, IsPlannedWithin, IsFound, IsFoundWithin}
use Rattle.set_catalog.specs.Merges.{writes_in, merged}
use Rattle.set_catalog.specs.Picks.{vacant_nodes}
use Rattle.set_catalog.specs.Needs.{taken, wanted, may_change, AreEnough}
use Rattle.set_catalog.specs.declared.ends.End.{End}
use Rattle.set_catalog.specs.declared.finding.Finding.{Finding}
use Rattle.set_catalog.specs.declared.finding.Finding.TheVariants.{Settled, Open}
use Rattle.tree_balance.specs.declared.plan.WritePlan.{WritePlan}
use Rattle.set_catalog.specs.declared.plan.Vacated.{Vacated}
use Rattle.set_catalog.proofs.Deciding.{decides_no, decides_open, decides_short, decides_had}
use Rattle.set_catalog.proofs.EndPlans.{del_planned, put_planned, freed_gone}
use Rattle.set_catalog.proofs.Lone.{has_entry-value, has_entry-missing}
use Rattle.set_catalog.specs.Plans.{DelPlan, AddsWithin}
use Rattle.set_catalog.specs.Steps.{most_locks_of}
use Rattle.set_catalog.proofs.MoveFacts.{enough_left, move_room}
use Rattle.set_catalog.proofs.SetCalls.{taken_some}
use Rattle.set_catalog.proofs.Planned.{planned_alone, planned_count, planned_add, planned_put, planned_del, planned_move}

-- a pair is answered by whether each of its sets has the key
pub pair_found : (s : State) (first second k : ℕ) (a b : Bool) → a ≡ has_key k (map_of first (catalogue_of s))
    → b ≡ has_key k (map_of second (catalogue_of s)) → IsFound (Pair first second k) s (Settled (Both a b))
pair_found s first second k a b e f = (ap (λ (x : Bool). Both x b) e ∙ ap (Both (has_key k (map_of first (catalogue_of s)))) f, refl)

-- what stands for a number unless that is 0 is the number, where it isn't
kept_unless_0 : (x i f : ℕ) → x ≡ (if i == 0 then f else i) → i ≢ 0 → x ≡ i
kept_unless_0 x i f is some = is ∙ ap (λ (b : Bool). if b then f else i) (ne_eqb i 0 some)

-- what was found in a state that is the same
pub found_same : (most : ℕ) (s t : State) (command : Command) (finding : Finding) → t ≡ s → IsFoundWithin most command t finding
    → IsFoundWithin most command s finding
found_same most s t command finding e f = subst (λ (u : State). IsFoundWithin most command u finding) e f

-- An add or a put of a key that is not there.
module _ (s : State) (name k v : ℕ) (l : IsLawful s) (name_in : name < 30) (fit : k < 2 ^ 32) (lv : v < 2 ^ 64)
    (absent : has_key k (map_of name (catalogue_of s)) ≡ false) (command : Command) (n : IsNew name k v command) where
  in_range : IsNew name k v command → IsInRange command
  in_range (inl (is, z)) = subst IsInRange (sym is) (name_in, fit)
  in_range (inr is) = subst IsInRange (sym is) (name_in, fit, lv)

  may : IsNew name k v command → may_change command ≡ true
  may (inl (is, z)) = ap may_change is
  may (inr is) = ap may_change is

  does : IsNew name k v command → applies command (catalogue_of s) ≡ true
  does (inl (is, z)) = ap (λ (x : Command). applies x (catalogue_of s)) is ∙ ap not absent
  does (inr is) =
      ap (λ (x : Command). applies x (catalogue_of s)) is ∙ ap not (has_entry-missing k v (map_of name (catalogue_of s)) absent)

  wants : IsNew name k v command → wanted command (catalogue_of s) ≡ taken name (map_of name (catalogue_of s))
  wants (inl (is, z)) = ap (λ (x : Command). wanted x (catalogue_of s)) is
  wants (inr is) =
      ap (λ (x : Command). wanted x (catalogue_of s)) is ∙ ap (λ (b : Bool). if b then 0 else taken name (map_of name (catalogue_of s))) absent

  pub new_short : (most want : ℕ) → want ≡ taken name (map_of name (catalogue_of s)) → vacant_nodes s < want → IsFoundWithin most command s (Settled Full)
  new_short most want w short = decides_short command s l (in_range n) (may n) (does n) want (w ∙ sym (wants n)) short

  pub new_open : (most want first second : ℕ) (plan : WritePlan) (gone : Vacated) → want ≡ taken name (map_of name (catalogue_of s))
      → want ≤ vacant_nodes s → AddsWithin most s name k v first second (writes_in plan) → (gone.node ≡ 0) × (gone.inner ≡ 0)
      → IsFoundWithin most command s (Open plan gone)
  new_open most want first second plan gone w there adds nothing =
      let planned = planned_add s l name k name_in fit most v first second (writes_in plan) gone command lv adds n nothing in (
        decides_had command s l (in_range n) (may n) (does n) want (w ∙ sym (wants n)) there,
        planned_count plan (most_locks_of most command) planned.few,
        planned,
      )

module _ (s : State) (name k : ℕ) (l : IsLawful s) (lt : name < 30) (fit : k < 2 ^ 32) where
  -- An add of a key that is there.
  pub add_no : (most : ℕ) → has_key k (map_of name (catalogue_of s)) ≡ true → IsFoundWithin most (Add name k) s (Settled No)
  add_no most there = decides_no (Add name k) s refl (ap not there)

  -- A put of a key that is there.
  module _ (v old : ℕ) (lv : v < 2 ^ 64) (has : Some old ≡ value_of k (map_of name (catalogue_of s))) where
    entry : has_entry k v (map_of name (catalogue_of s)) ≡ (old == v)
    entry = has_entry-value k v old (map_of name (catalogue_of s)) (sym has)

    there : has_key k (map_of name (catalogue_of s)) ≡ true
    there = has_key-some k old (map_of name (catalogue_of s)) (sym has)

    none_wanted : wanted (Put name k v) (catalogue_of s) ≡ 0
    none_wanted = ap (λ (b : Bool). if b then 0 else taken name (map_of name (catalogue_of s))) there

    pub put_no : (most : ℕ) → old ≡ v → IsFoundWithin most (Put name k v) s (Settled No)
    put_no most e = decides_no (Put name k v) s refl (ap not (entry ∙ eq-eqb old v e))

    lacks : old ≢ v → has_entry k v (map_of name (catalogue_of s)) ≡ false
    lacks n = entry ∙ ne_eqb old v n

    pub put_open : (most : ℕ) (end : End) (none plan : WritePlan) (gone : Vacated) → EndsAt s name k end → old ≢ v → none.count ≡ 0
        → writes_in plan ≡ merged (writes_in none) (puts_at s v end) → (gone.node ≡ 0) × (gone.inner ≡ 0)
        → IsFoundWithin most (Put name k v) s (Open plan gone)
    put_open most end none plan gone ends n z e nothing =
        let planned = planned_put s l name k lt fit most v (puts_at s v end) gone lv (lacks n) (put_planned s name k l lt fit end v ends there) nothing in
        let is : writes_in plan ≡ puts_at s v end = planned_alone none plan (puts_at s v end) z planned.distinct e in (
          decides_open (Put name k v) s l (lt, fit, lv) refl (ap not (lacks n)) (omega (arith, none_wanted)),
          planned_count plan (most_locks_of most (Put name k v)) (subst (λ (ws : Writes). length ws ≤ most_locks_of most (Put name k v)) (sym is) planned.few),
          subst (λ (ws : Writes). IsPlannedWithin most (Put name k v) s ws gone) (sym is) planned,
        )

  -- A del.
  pub del_no : has_key k (map_of name (catalogue_of s)) ≡ false → IsFound (Del name k) s (Settled No)
  del_no missed = decides_no (Del name k) s refl missed

  pub del_open : (end : End) (none plan : WritePlan) (gone : Vacated) → EndsAt s name k end → has_key k (map_of name (catalogue_of s)) ≡ true
      → none.count ≡ 0 → writes_in plan ≡ merged (writes_in none) (dels_at s end) → gone.node ≡ node_gone end → gone.inner ≡ inner_gone end
      → IsFound (Del name k) s (Open plan gone)
  del_open end none plan gone ends there z e n i =
      let planned = planned_del s l name k lt fit (node_gone end) (inner_gone end) (dels_at s end) gone n i (del_planned s name k l lt fit end ends there) in
      let is : writes_in plan ≡ dels_at s end = planned_alone none plan (dels_at s end) z planned.distinct e in (
        decides_open (Del name k) s l (lt, fit) refl there (omega arith),
        planned_count plan 5 (subst (λ (ws : Writes). length ws ≤ 5) (sym is) planned.few),
        subst (λ (ws : Writes). IsPlanned (Del name k) s ws gone) (sym is) planned,
      )

-- and what was found of a key that is not there
pub new_found : (most : ℕ) (s t : State) (name k v : ℕ) (finding : Finding) → t ≡ s
    → ((command : Command) → IsNew name k v command → IsFoundWithin most command t finding) → (command : Command) → IsNew name k v command
    → IsFoundWithin most command s finding
new_found most s t name k v finding e f command n = found_same most s t command finding e (f command n)

pub absent_same : (s t : State) (name k : ℕ) → t ≡ s → has_key k (map_of name (catalogue_of s)) ≡ false
    → has_key k (map_of name (catalogue_of t)) ≡ false
absent_same s t name k e f = ap (λ (u : State). has_key k (map_of name (catalogue_of u))) e ∙ f

pub ends_same : (s t : State) (name k : ℕ) (end : End) → t ≡ s → EndsAt t name k end → EndsAt s name k end
ends_same s t name k end e f = subst (λ (u : State). EndsAt u name k end) e f

pub short_same : (s t : State) (want : ℕ) → t ≡ s → vacant_nodes t < want → vacant_nodes s < want
short_same s t want e f = subst (λ (u : State). vacant_nodes u < want) e f

pub there_same : (s t : State) (want : ℕ) → t ≡ s → want ≤ vacant_nodes t → want ≤ vacant_nodes s
there_same s t want e f = subst (λ (u : State). want ≤ vacant_nodes u) e f

pub enough_there : (s t : State) (name want first second : ℕ) → t ≡ s → want ≡ taken name (map_of name (catalogue_of s))
    → AreEnough s want first second → AreEnough t (taken name (map_of name (catalogue_of t))) first second
enough_there s t name want first second e w f =
    subst (λ (u : State). AreEnough u (taken name (map_of name (catalogue_of u))) first second) (sym e)
    (subst (λ (x : ℕ). AreEnough s x first second) w f)

pub adds_same : (most : ℕ) (s t : State) (name k v first second : ℕ) (ws : Writes) → t ≡ s → AddsWithin most t name k v first second ws
    → AddsWithin most s name k v first second ws
adds_same most s t name k v first second ws e f = subst (λ (u : State). AddsWithin most u name k v first second ws) e f

pub enough_same : (s t : State) (want first second : ℕ) → t ≡ s → AreEnough t want first second → AreEnough s want first second
enough_same s t want first second e f = subst (λ (u : State). AreEnough u want first second) e f

-- a new key wants a node
pub takes_some : (name : ℕ) (s : State) → taken name (map_of name (catalogue_of s)) ≡ 0 → ⊥
takes_some name s z = let some = taken_some name (map_of name (catalogue_of s)) in omega arith

pub wants_some : (name k v : ℕ) (s : State) → has_key k (map_of name (catalogue_of s)) ≡ false → wanted (Put name k v) (catalogue_of s) ≢ 0
wants_some name k v s missed z =
    let w : wanted (Put name k v) (catalogue_of s) ≡ taken name (map_of name (catalogue_of s)) =
    ap (λ (b : Bool). if b then 0 else taken name (map_of name (catalogue_of s))) missed in
    let some = taken_some name (map_of name (catalogue_of s)) in omega arith

-- A move.
pub move_none : (s : State) (source target k : ℕ) → None ≡ value_of k (map_of source (catalogue_of s))
    → IsFound (Move source target k) s (Settled No)
move_none s source target k e =
    decides_no (Move source target k) s refl
    (ap (λ (b : Bool). b && not (has_key k (map_of target (catalogue_of s)))) (has_key-none k (map_of source (catalogue_of s)) (sym e)))

module _ (s : State) (source target k : ℕ) (l : IsLawful s) (ls : source < 30) (lt : target < 30) (fit : k < 2 ^ 32) where
  module _ (v : ℕ) (has : Some v ≡ value_of k (map_of source (catalogue_of s))) where
    moves : has_key k (map_of source (catalogue_of s)) ≡ true
    moves = has_key-some k v (map_of source (catalogue_of s)) (sym has)

    pub move_no : has_key k (map_of target (catalogue_of s)) ≡ true → IsFound (Move source target k) s (Settled No)
    move_no h =
        decides_no (Move source target k) s refl
        (ap (λ (b : Bool). b && not (has_key k (map_of target (catalogue_of s)))) moves ∙ ap not h)

    module _ (missed : has_key k (map_of target (catalogue_of s)) ≡ false) (from : End) (begins : EndsAt s source k from) where
      apart : source ≢ target
      apart e = true≢false (sym moves ∙ ap (λ (n : ℕ). has_key k (map_of n (catalogue_of s))) e ∙ missed)

      move_applies : applies (Move source target k) (catalogue_of s) ≡ true
      move_applies = ap (λ (b : Bool). b && not (has_key k (map_of target (catalogue_of s)))) moves ∙ ap not missed

      del : DelPlan s source k (node_gone from) (inner_gone from) (dels_at s from)
      del = del_planned s source k l ls fit from begins moves

      pub move_wants : (want takes gone : ℕ) → takes ≡ taken target (map_of target (catalogue_of s)) → gone ≡ inner_gone from
          → want ≡ takes - (if gone == 0 then 1 else 2) → want ≡ wanted (Move source target k) (catalogue_of s)
      move_wants want takes gone t g e =
          e ∙ ap (λ (i : ℕ). takes - (if i == 0 then 1 else 2)) g ∙ ap (λ (x : ℕ). x - (if inner_gone from == 0 then 1 else 2)) t
          ∙ ap (λ (x : ℕ). taken target (map_of target (catalogue_of s)) - x)
          (sym (freed_gone s source k (node_gone from) (inner_gone from) (dels_at s from) l ls del))

      pub move_short : (want takes gone : ℕ) → takes ≡ taken target (map_of target (catalogue_of s)) → gone ≡ inner_gone from
          → want ≡ takes - (if gone == 0 then 1 else 2) → vacant_nodes s < want → IsFound (Move source target k) s (Settled Full)
      move_short want takes gone t g e short =
          decides_short (Move source target k) s l (ls, lt, fit) refl move_applies want (move_wants want takes gone t g e) short

      -- what the plan has after the del
      dels_distinct : are_distinct (dels_at s from) ≡ true
      dels_distinct = (planned_del s l source k ls fit (node_gone from) (inner_gone from) (dels_at s from)
          (record { node = node_gone from; inner = inner_gone from }) refl refl del).distinct

      pub dels_planned : (none mid : WritePlan) → none.count ≡ 0 → writes_in mid ≡ merged (writes_in none) (dels_at s from) → writes_in mid ≡ dels_at s from
      dels_planned none mid z e = planned_alone none mid (dels_at s from) z dels_distinct e

      pub move_has_room : (none mid : WritePlan) (first node second inner : ℕ) (to : End) → none.count ≡ 0
          → writes_in mid ≡ merged (writes_in none) (dels_at s from) → inner ≡ inner_gone from → node ≡ node_gone from
          → second ≡ (if inner == 0 then first else inner) → length (writes_in mid) + count_unheld (writes_in mid) (objects_added node second to) ≤ 5
      move_has_room none mid first node second inner to z e i n o =
          let r = move_room s source k (node_gone from) (inner_gone from) first (dels_at s from) to ls l del in
          let q : second ≡ (if inner_gone from == 0 then first else inner_gone from) = o ∙ ap (λ (x : ℕ). if x == 0 then first else x) i in
          subst (λ (w : Writes). length w + count_unheld w (objects_added node second to) ≤ 5) (sym (dels_planned none mid z e))
          (subst (λ (x : ℕ). length (dels_at s from) + count_unheld (dels_at s from) (objects_added x second to) ≤ 5) (sym n)
          (subst (λ (x : ℕ). length (dels_at s from) + count_unheld (dels_at s from) (objects_added (node_gone from) x to) ≤ 5) (sym q) r))

      pub move_open : (none mid plan : WritePlan) (gone : Vacated) (want takes left first other node second : ℕ) (to : End) → EndsAt s target k to
          → takes ≡ taken target (map_of target (catalogue_of s)) → left ≡ inner_gone from → want ≡ takes - (if left == 0 then 1 else 2)
          → want ≤ vacant_nodes s → AreEnough s want first other → node ≡ node_gone from → second ≡ (if left == 0 then first else left) → none.count ≡ 0
          → writes_in mid ≡ merged (writes_in none) (dels_at s from)
          → writes_in plan ≡ merged (writes_in mid) (adds_at s k v node second to) → (gone.node ≡ 0) × (gone.inner ≡ 0)
          → IsFound (Move source target k) s (Open plan gone)
      move_open none mid plan gone want takes left first other node second to ends t g w there had n o z e f nothing =
          let wanted_is = move_wants want takes left t g w in
          let q : second ≡ (if inner_gone from == 0 then first else inner_gone from) = o ∙ ap (λ (x : ℕ). if x == 0 then first else x) g in
          let picked : AreEnough s (wanted (Move source target k) (catalogue_of s)) first other =
          subst (λ (x : ℕ). AreEnough s x first other) wanted_is had in
          let left_over = enough_left s source target k (node_gone from) (inner_gone from) first other (dels_at s from) ls l del picked in
          let enough : AreEnough (written s (dels_at s from)) (taken target (map_of target (catalogue_of s))) node second =
          subst (λ (x : ℕ). AreEnough (written s (dels_at s from)) (taken target (map_of target (catalogue_of s))) x second) (sym n)
          (subst (λ (x : ℕ). AreEnough (written s (dels_at s from)) (taken target (map_of target (catalogue_of s))) (node_gone from) x) (sym q) left_over) in
          let is : writes_in plan ≡ merged (dels_at s from) (adds_at s k v node second to) =
          f ∙ ap (λ (w : Writes). merged w (adds_at s k v node second to)) (dels_planned none mid z e) in
          let room = subst (λ (w : Writes). length w + count_unheld w (objects_added node second to) ≤ 5) (dels_planned none mid z e)
          (move_has_room none mid first node second left to z e g n o) in
          let planned : IsPlanned (Move source target k) s (merged (dels_at s from) (adds_at s k v node second to)) gone =
          (planned_move s l source target k ls lt apart fit to v (node_gone from) (inner_gone from) node second (dels_at s from) gone ends missed
          (sym has) del enough n (kept_unless_0 second (inner_gone from) first q) room nothing) in (
            decides_had (Move source target k) s l (ls, lt, fit) refl move_applies want wanted_is there,
            planned_count plan 5 (subst (λ (ws : Writes). length ws ≤ 5) (sym is) planned.few),
            subst (λ (ws : Writes). IsPlanned (Move source target k) s ws gone) (sym is) planned,
          )
