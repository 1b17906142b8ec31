-- Maps whose keys are below 256 stay so whatever generated commands change, and they have room.
use Rattle.std.proofs.Common.{◌≡◌, ℕ, zero, suc, ◌<◌, ◌≤◌, false, eqb, replicate, [], ◌∷◌, length, length-set, set, refl, sym, ◌∙◌, subst, arith}
use Rattle.std.proofs.lemmas.Bool.{cond_both}
use Rattle.std.proofs.lemmas.Bool.Decides.{nat_tests}
use Rattle.set_model.specs.Catalogue.{Map, Maps, IsMap, put, take_out, map_of, with_key, without_key, cost, empty}
use Rattle.set_model.specs.Replies.{changed, overflows}
use Rattle.set_model.specs.declared.commands.Command.{Command}
use Rattle.set_model.specs.declared.commands.Command.TheVariants.{Add, Put, Del, Has, Get, Move, Pair, Size, Next}
use Rattle.set_model.proofs.MapLaws.{put_is_map, take_out_is_map}
use Rattle.set_model.proofs.MapParts.{IsUnderKey}
use Rattle.set_model.proofs.Replying.{overflows-fits}
use Rattle.script_gen.specs.Script.{IsGenerated}
use Rattle.generated_runs.proofs.columns.Columns.{map_of-set}
use Rattle.generated_runs.proofs.small.Sizes.{few_keys, cost_small}

-- There is a map for each name, and its keys rise and are below 256.
pub record IsSmall (c : Maps) : Type 0 where
  pub whole : length c ≡ 30
  pub rising : (n : ℕ) → IsMap (map_of n c)
  pub under : (n : ℕ) → IsUnderKey 256 (map_of n c)

put_under : (high k v : ℕ) (m : Map) → k < high → IsUnderKey high m → IsUnderKey high (put k v m)
put_under high k v [] lt under = (lt, tt)
put_under high k v (e ∷ m) lt under = grind (arith, nat_tests, put_under high k v m lt under.1)

take_out_under : (high k : ℕ) (m : Map) → IsUnderKey high m → IsUnderKey high (take_out k m)
take_out_under high k [] under = tt
take_out_under high k (e ∷ m) under = grind (arith, nat_tests, take_out_under high k m under.1)

-- another such map in the place of one
set_small : (c : Maps) (name : ℕ) (m : Map) → IsSmall c → name < 30 → IsMap m → IsUnderKey 256 m → IsSmall (set c name m)
set_small c name m small named rising under =
    let within : name < length c = omega (arith, named, small.whole) in
    record {
      whole = length-set c name m ∙ small.whole;
      rising = λ n. subst IsMap (sym (map_of-set c name n m within))
          (cond_both (eqb name n) m (map_of n c) IsMap (λ same. rising) (λ other. small.rising n));
      under = λ n. subst (IsUnderKey 256) (sym (map_of-set c name n m within))
          (cond_both (eqb name n) m (map_of n c) (IsUnderKey 256) (λ same. under) (λ other. small.under n));
    }

with_key_small : (name k v : ℕ) (c : Maps) → IsSmall c → name < 30 → k < 256 → IsSmall (with_key name k v c)
with_key_small name k v c small named lt =
    set_small c name _ small named (put_is_map k v (map_of name c) (small.rising name)) (put_under 256 k v (map_of name c) lt (small.under name))

pub without_key_small : (name k : ℕ) (c : Maps) → IsSmall c → name < 30 → IsSmall (without_key name k c)
without_key_small name k c small named =
    set_small c name _ small named (take_out_is_map k (map_of name c) (small.rising name)) (take_out_under 256 k (map_of name c) (small.under name))

pub changed_small : (seat : ℕ) (command : Command) (c : Maps) → IsGenerated seat command → IsSmall c → IsSmall (changed command c)
changed_small seat (Add name key) c own small = with_key_small name key 0 c small own.0 own.1
changed_small seat (Del name key) c own small = without_key_small name key c small own.0
changed_small seat (Has name key) c own small = small
changed_small seat (Move source target key) c own small =
    with_key_small target key _ (without_key source key c) (without_key_small source key c small own.0.0) own.1 own.0.1
changed_small seat (Put name key value) c own small = absurd own
changed_small seat (Get name key) c own small = absurd own
changed_small seat (Pair first second key) c own small = absurd own
changed_small seat (Size name) c own small = absurd own
changed_small seat (Next name key) c own small = absurd own

-- no generated command overflows
pub never_full : (seat : ℕ) (command : Command) (c : Maps) (capacity : ℕ) → IsGenerated seat command → IsSmall c → 10230 ≤ capacity
    → overflows command c capacity ≡ false
never_full seat command c capacity generated small room =
    let after = changed_small seat command c generated small in
    let fits : cost (changed command c) ≤ 10230 =
    cost_small (changed command c) after.whole (λ n. few_keys 256 (map_of n (changed command c)) (after.rising n) (after.under n)) in
    overflows-fits command c capacity (omega (arith, fits, room))

-- no map of the empty ones has a key
none_of : (count n : ℕ) → map_of n (replicate count []) ≡ []
none_of zero n = refl
none_of (suc count) zero = refl
none_of (suc count) (suc n) = none_of count n

pub empty_small : IsSmall empty
empty_small =
    record { whole = refl; rising = λ n. subst IsMap (sym (none_of 30 n)) tt; under = λ n. subst (IsUnderKey 256) (sym (none_of 30 n)) tt }
