-- That a state is an opening one, or lawful, and a commit allowed, in one way at most.
use Rattle.std.specs.Coded.{Coded-set, coded×, coded_ℕ, coded_list}
use Rattle.std.proofs.Props.{props}
use mathlib.Core.Sum.{⊎_set}
use Rattle.std.specs.Prelude.{◌≡◌, ◌≢◌, ◌^◌, ◌<◌, ◌≤◌}
use Rattle.grow_hash.specs.Terms.{ℕ, true, false, length, Option, Some, None, List, State, Writes, written, touches, words_at, Command, Reply, Yes, owner, kind}
use Rattle.grow_hash.specs.Terms.{key, link, value, head_words, list_words, no_words, reply, next, IsInList, IsNodeOf, IsAfter, IsLinked}
use Rattle.grow_hash.specs.Tables.{grow_levels, most_levels, level, split_place, most_level, buckets_at, bucket, table_words, next_table, IsTable}
use Rattle.grow_hash.specs.Grown.{IsGrown, IsGrownOpening, first_grown, most_buckets, head_at, grown_catalogue, grown_capacity}
use Rattle.grow_hash.specs.GrowRules.{Growing, makes, splits, growing_of, KeepsGrown, MakesGrown, SplitsGrown, Grows, IsGrowCommit}
use Rattle.set_model.specs.Objects.{most_objects}

pub IsGrownOpening-prop : (levels : ℕ) (s : State) → IsProp (IsGrownOpening levels s)
IsGrownOpening-prop levels s x y =
    let least_prop : IsProp (grow_levels ≤ levels) = hlevel props in
    let most_prop : IsProp (levels ≤ most_levels) = hlevel props in
    let some_prop : IsProp (first_grown levels < length s) = hlevel props in
    let few_prop : IsProp (length s ≤ most_objects) = hlevel props in
    let zeros_prop : IsProp ((o : ℕ) → o < length s → words_at s o ≡ no_words) = hlevel props in
    λ i. record {
      least = least_prop x.least y.least i;
      most = most_prop x.most y.most i;
      some = some_prop x.some y.some i;
      few = few_prop x.few y.few i;
      zeros = zeros_prop x.zeros y.zeros i;
    }

IsLinked-prop : (s : State) (head : ℕ) → IsProp (IsLinked s head)
IsLinked-prop s head x y =
    let here_prop : IsProp (head < length s) = hlevel props in
    let unowned_prop : IsProp (owner s head ≡ 0) = hlevel props in
    let kinds_prop : IsProp ((n : ℕ) → IsNodeOf s head n → kind s n ≡ 0) = hlevel props in
    let fits_prop : IsProp ((n : ℕ) → IsNodeOf s head n → key s n < 2 ^ 32) = hlevel props in
    let leads_prop : IsProp ((o : ℕ) → IsInList s head o → link s o ≢ 0 → IsNodeOf s head (link s o) × IsAfter s head o (link s o)) = hlevel props in
    let least_prop : IsProp ((o n : ℕ) → IsInList s head o → IsNodeOf s head n → IsAfter s head o n → (link s o ≢ 0) × (key s (link s o) ≤ key s n)) =
    hlevel props in
    let once_prop : IsProp ((n m : ℕ) → IsNodeOf s head n → IsNodeOf s head m → key s n ≡ key s m → n ≡ m) = hlevel props in
    λ i. record {
      here = here_prop x.here y.here i;
      unowned = unowned_prop x.unowned y.unowned i;
      kinds = kinds_prop x.kinds y.kinds i;
      fits = fits_prop x.fits y.fits i;
      leads = leads_prop x.leads y.leads i;
      least = least_prop x.least y.least i;
      once = once_prop x.once y.once i;
    }

IsTable-prop : (levels : ℕ) (s : State) → IsProp (IsTable levels s)
IsTable-prop levels s x y =
    let words_prop : IsProp (words_at s 0 ≡ table_words (level s) (split_place s)) = hlevel props in
    let level_prop : IsProp (level s ≤ most_level levels) = hlevel props in
    let place_prop : IsProp (split_place s < buckets_at (level s)) = hlevel props in
    let whole_prop : IsProp (level s ≡ most_level levels → split_place s ≡ 0) = hlevel props in
    λ i. record {
      words = words_prop x.words y.words i;
      level_in = level_prop x.level_in y.level_in i;
      place_in = place_prop x.place_in y.place_in i;
      whole = whole_prop x.whole y.whole i;
    }

pub IsGrown-prop : (levels : ℕ) (s : State) → IsProp (IsGrown levels s)
IsGrown-prop levels s x y =
    let least_prop : IsProp (grow_levels ≤ levels) = hlevel props in
    let most_prop : IsProp (levels ≤ most_levels) = hlevel props in
    let some_prop : IsProp (first_grown levels < length s) = hlevel props in
    let few_prop : IsProp (length s ≤ most_objects) = hlevel props in
    let heads_prop : IsProp ((b : ℕ) → b < most_buckets levels → words_at s (head_at b) ≡ head_words (link s (head_at b))) = hlevel props in
    let nodes_prop : IsProp ((o : ℕ) → first_grown levels ≤ o → owner s o ≢ 0
    → words_at s o ≡ list_words (head_at (bucket levels s (key s o))) (key s o) (value s o) (link s o)) = hlevel props in
    λ i. record {
      least = least_prop x.least y.least i;
      most = most_prop x.most y.most i;
      some = some_prop x.some y.some i;
      few = few_prop x.few y.few i;
      table = IsTable-prop levels s x.table y.table i;
      heads = heads_prop x.heads y.heads i;
      lists = λ b lt. IsLinked-prop s (head_at b) (x.lists b lt) (y.lists b lt) i;
      nodes = nodes_prop x.nodes y.nodes i;
    }

Reply-set : IsSet Reply
Reply-set = hlevel (props, ⊎_set)

KeepsGrown-prop : (levels : ℕ) (before after : State) → IsProp (KeepsGrown levels before after)
KeepsGrown-prop levels before after x y =
    let keys_prop : IsProp ((o : ℕ) → owner before o ≢ 0 → owner after o ≡ owner before o → key after o ≡ key before o) = hlevel props in
    λ i. record {
      lawful_before = IsGrown-prop levels before x.lawful_before y.lawful_before i;
      lawful_after = IsGrown-prop levels after x.lawful_after y.lawful_after i;
      keys = keys_prop x.keys y.keys i;
    }

MakesGrown-prop : (levels : ℕ) (command : Command) (before after : State) → IsProp (MakesGrown levels command before after)
MakesGrown-prop levels command before after x y =
    let table_prop : IsProp (words_at after 0 ≡ words_at before 0) = hlevel props in
    λ i. record {
      answer = Reply-set (reply command (grown_catalogue levels before) (grown_capacity levels before) false) Yes x.answer y.answer i;
      leaves = Coded-set (coded_list (coded_list (coded× coded_ℕ coded_ℕ))) (grown_catalogue levels after)
          (next command (grown_catalogue levels before) (grown_capacity levels before) false) x.leaves y.leaves i;
      table = table_prop x.table y.table i;
    }

SplitsGrown-prop : (levels place : ℕ) (before after : State) (writes : Writes) → IsProp (SplitsGrown levels place before after writes)
SplitsGrown-prop levels place before after writes x y =
    let here_prop : IsProp (place ≡ split_place before) = hlevel props in
    let below_prop : IsProp (level before < most_level levels) = hlevel props in
    let table_prop : IsProp (words_at after 0 ≡ next_table (level before) (split_place before)) = hlevel props in
    let touched_prop : (o : ℕ) → IsProp (touches writes o ≡ true) = λ o. hlevel props in
    let nodes_prop : IsProp ((o : ℕ) → IsNodeOf before (head_at place) o → touches writes o ≡ true) = hlevel props in
    λ i. record {
      here = here_prop x.here y.here i;
      below = below_prop x.below y.below i;
      leaves = Coded-set (coded_list (coded_list (coded× coded_ℕ coded_ℕ))) (grown_catalogue levels after) (grown_catalogue levels before) x.leaves y.leaves i;
      table = table_prop x.table y.table i;
      writes_table = touched_prop 0 x.writes_table y.writes_table i;
      writes_old = touched_prop (head_at place) x.writes_old y.writes_old i;
      writes_new = touched_prop _ x.writes_new y.writes_new i;
      writes_nodes = nodes_prop x.writes_nodes y.writes_nodes i;
    }

Grows-prop : (levels : ℕ) (growing : Option Growing) (before after : State) (writes : Writes) → IsProp (Grows levels growing before after writes)
Grows-prop levels None before after writes = hlevel props
Grows-prop levels (Some (makes command)) before after writes = MakesGrown-prop levels command before after
Grows-prop levels (Some (splits place)) before after writes = SplitsGrown-prop levels place before after writes

pub IsGrowCommit-prop : (levels : ℕ) (tag : List ℕ) (before : State) (writes : Writes) → IsProp (IsGrowCommit levels tag before writes)
IsGrowCommit-prop levels tag before writes x y = λ i. record {
  keeps = KeepsGrown-prop levels before (written before writes) x.keeps y.keeps i;
  grows = Grows-prop levels (growing_of tag) before (written before writes) writes x.grows y.grows i;
}
