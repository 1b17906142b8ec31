-- Each add, put, del and move is a fit commit, over any way to make its change.
use Rattle.std.proofs.Common.{◌≡◌, ◌≢◌, ℕ, ◌^◌, ◌<◌, not, ◌&&◌, [], set, refl, sym, ap, ◌∙◌, Some, get_or-set_other}
use Rattle.std.specs.Option.{unwrap_or}
use Rattle.mv_history.specs.State.{State, written}
use Rattle.mv_history.specs.Drift.{IsFit}
use Rattle.set_model.specs.declared.commands.Command.TheVariants.{Add, Put, Del, Move}
use Rattle.set_model.specs.Catalogue.{Maps, map_of, has_key, value_of, put, take_out}
use Rattle.set_model.specs.CatalogueOf.{name_of}
use Rattle.set_model.specs.Replies.{value_at, changed}
use Rattle.set_model.specs.Lawful.{IsLawful}
use Rattle.set_model.specs.Tags.{tag_of}
use Rattle.set_model.specs.Rules.{IsSetCommit}
use Rattle.set_model.proofs.MapLemmas.{has_key-some}
use Rattle.set_model.proofs.Entries.{has_entry-absent}
use Rattle.set_model.proofs.Heads.{name_bound}
use Rattle.set_model.proofs.Ways.{AreVacant, Has, Lacks, HasOther, DelWay, AddWay, PutWay, Does, way_fit}
use Rattle.set_model.proofs.TwoWays.{DoesBoth, joined, joined_found}

does_add : (head k : ℕ) → head < 180 → k < 2 ^ 32 → Does (Add (name_of head) k) (name_of head) (Lacks k) (put k 0)
does_add head k lh lk = record { in_range = (name_bound head lh, lk); applies = λ c e. ap not e; changes = λ c e. refl }

does_put_new : (head k v : ℕ) → head < 180 → k < 2 ^ 32 → v < 2 ^ 64 → Does (Put (name_of head) k v) (name_of head) (Lacks k) (put k v)
does_put_new head k v lh lk lv = record {
  in_range = (name_bound head lh, lk, lv);
  applies = λ c e. ap not (has_entry-absent k v (map_of (name_of head) c) e);
  changes = λ c e. refl;
}

does_put : (head k v : ℕ) → head < 180 → k < 2 ^ 32 → v < 2 ^ 64 → Does (Put (name_of head) k v) (name_of head) (HasOther k v) (put k v)
does_put head k v lh lk lv =
    record { in_range = (name_bound head lh, lk, lv); applies = λ c e. ap not e.1; changes = λ c e. refl }

does_del : (head k v : ℕ) → head < 180 → k < 2 ^ 32 → Does (Del (name_of head) k) (name_of head) (Has k v) (take_out k)
does_del head k v lh lk = record {
  in_range = (name_bound head lh, lk);
  applies = λ c e. has_key-some k v (map_of (name_of head) c) e;
  changes = λ c e. refl;
}

does_move : (h g k v : ℕ) → h < 180 → g < 180 → name_of h ≢ name_of g → k < 2 ^ 32
    → DoesBoth (Move (name_of h) (name_of g) k) (name_of h) (name_of g) (Has k v) (take_out k) (Lacks k) (put k v)
does_move h g k v lh lg apart lk = record {
  in_range = (name_bound h lh, name_bound g lg, lk);
  applies = λ c e a. ap (λ b. b && not (has_key k (map_of (name_of g) c))) (has_key-some k v (map_of (name_of h) c) e) ∙ ap not a;
  changes = λ c e a. changes c e;
}
  where
    changes : (c : Maps) → value_of k (map_of (name_of h) c) ≡ Some v
        → changed (Move (name_of h) (name_of g) k) c ≡ set (set c (name_of h) (take_out k (map_of (name_of h) c))) (name_of g) (put k v (map_of (name_of g) c))
    changes c e =
        let less : Maps = set c (name_of h) (take_out k (map_of (name_of h) c)) in
        let same : map_of (name_of g) less ≡ map_of (name_of g) c =
        get_or-set_other c (name_of h) (name_of g) (take_out k (map_of (name_of h) c)) [] (λ z. apart (sym z)) in
        let value : value_at (name_of h) k c ≡ v = ap (λ u. unwrap_or u 0) e in
        ap (λ m. set less (name_of g) (put k (value_at (name_of h) k c) m)) same ∙ ap (λ u. set less (name_of g) (put k u (map_of (name_of g) c))) value

-- An add.
pub add_fit : (head k : ℕ) (w : AddWay head k 0) (from : State) → head < 180 → k < 2 ^ 32 → IsLawful from → w.Place from → AreVacant from w.fresh
    → IsFit IsSetCommit from (tag_of (Add (name_of head) k)) (w.writes from)
add_fit head k w from lh lk l p v = way_fit head w (Add (name_of head) k) (does_add head k lh lk) lh from l p v

-- A put of a key that is not there.
pub put_new_fit : (head k v : ℕ) (w : AddWay head k v) (from : State) → head < 180 → k < 2 ^ 32 → v < 2 ^ 64 → IsLawful from → w.Place from
    → AreVacant from w.fresh → IsFit IsSetCommit from (tag_of (Put (name_of head) k v)) (w.writes from)
put_new_fit head k v w from lh lk lv l p f = way_fit head w (Put (name_of head) k v) (does_put_new head k v lh lk lv) lh from l p f

-- A put of a key that is there with another value.
pub put_fit : (head k v : ℕ) (w : PutWay head k v) (from : State) → head < 180 → k < 2 ^ 32 → v < 2 ^ 64 → IsLawful from → w.Place from
    → AreVacant from w.fresh → IsFit IsSetCommit from (tag_of (Put (name_of head) k v)) (w.writes from)
put_fit head k v w from lh lk lv l p f = way_fit head w (Put (name_of head) k v) (does_put head k v lh lk lv) lh from l p f

-- A del.
pub del_fit : (head k v : ℕ) (w : DelWay head k v) (from : State) → head < 180 → k < 2 ^ 32 → IsLawful from → w.Place from → AreVacant from w.fresh
    → IsFit IsSetCommit from (tag_of (Del (name_of head) k)) (w.writes from)
del_fit head k v w from lh lk l p f = way_fit head w (Del (name_of head) k) (does_del head k v lh lk) lh from l p f

-- A move: the add finds its place in the state after the del.
pub move_fit : (h g k v : ℕ) (d : DelWay h k v) (a : AddWay g k v) (from : State) → h < 180 → g < 180 → name_of h ≢ name_of g → k < 2 ^ 32 → IsLawful from
    → d.Place from → AreVacant from d.fresh → a.Place (written from (d.writes from)) → AreVacant (written from (d.writes from)) a.fresh
    → IsFit IsSetCommit from (tag_of (Move (name_of h) (name_of g) k)) (joined h g d a from)
move_fit h g k v d a from lh lg apart lk l p f q e =
    joined_found h g d a (Move (name_of h) (name_of g) k) (does_move h g k v lh lg apart lk) lh lg apart from l p f q e
