-- Each use of the queue keeps its rule.
use Rattle.std.proofs.lemmas.List.Sums.{sum_by-cons, sum_by-set, sum_by_push}
use Rattle.std.proofs.lemmas.List.Elements.{All-set, All-weaker, All-push}
use Rattle.crossbeam_queue.proofs.Lists.{set_else}
use Rattle.crossbeam_queue.specs.Fifo.{Pushes, Pops, Forks, Merges, Learns}
use Rattle.command_pool.proofs.Terms.{◌≡◌, ◌+◌, ◌-◌, ◌<◌, ◌≤◌, ◌∷◌, ◌++◌, ◌∙◌, ℕ, zero, suc, List, [], length, set, refl, sym, ap, subst, arith, get_or, sum_by}
use Rattle.command_pool.proofs.Terms.{some, some-injective, some-ne-none, get_elem?, All, All-head, All-tail, length_push, sum_by-append, last_of}
use Rattle.command_pool.proofs.Terms.{hand, all_parts, total_to, AreFrom, IsHand, IsShared, Hand}

abbrev parts_of : Hand → ℕ
parts_of v = v.parts

abbrev put_of : Hand → ℕ
put_of v = v.put

abbrev sum_of : (ℕ → ℕ) → Hand → ℕ
sum_of f v = sum_by f v.taken

-- the view of a pass is one of all
view_at : (views : List Hand) (i : ℕ) (v : Hand) → get_elem? views i ≡ some v → (i < length views) × (get_or views i v ≡ v)
view_at [] i v at = absurd (some-ne-none v (sym at))
view_at (u ∷ views) zero v at = (omega arith, some-injective u v at)
view_at (u ∷ views) (suc i) v at = let t = view_at views i v at in (omega (arith, t.0), t.1)

-- so it has what it may have
hand_at : (done : ℕ) (views : List Hand) (i : ℕ) (v : Hand) → get_elem? views i ≡ some v → All (IsHand done) views → IsHand done v
hand_at done views i v at each = let t = view_at views i v at in subst (IsHand done) t.1 (each i v t.0)

-- a sum over all views after one is changed
sum_set : (f : Hand → ℕ) (views : List Hand) (i : ℕ) (v w : Hand) → get_elem? views i ≡ some v
    → sum_by f (set views i w) + f v ≡ sum_by f views + f w
sum_set f views i v w at =
    let t = view_at views i v at in
    let same : f (get_or views i v) ≡ f v = ap f t.1 in omega (arith, sum_by-set f views i w v t.0, same)

-- where all views have no part, the sum of what is nothing without a part is nothing
sum_none : (g : Hand → ℕ) (views : List Hand) → sum_by parts_of views ≡ 0 → All (λ v. v.parts ≡ 0 → g v ≡ 0) views → sum_by g views ≡ 0
sum_none g [] none each = refl
sum_none g (v ∷ views) none each =
    let parts = sum_by-cons parts_of v views in
    let here : g v ≡ 0 = All-head (λ (u : Hand). u.parts ≡ 0 → g u ≡ 0) v views each (omega (arith, none, parts)) in
    let others = sum_none g views (omega (arith, none, parts)) (All-tail (λ (u : Hand). u.parts ≡ 0 → g u ≡ 0) v views each) in
    omega (arith, sum_by-cons g v views, here, others)

-- where one view has all parts, it has all of that sum
sum_whole : (g : Hand → ℕ) (views : List Hand) (i : ℕ) (v : Hand) → get_elem? views i ≡ some v → sum_by parts_of views ≡ v.parts
    → g (hand 0 0 []) ≡ 0 → All (λ v. v.parts ≡ 0 → g v ≡ 0) views → sum_by g views ≡ g v
sum_whole g views i v at all spent each =
    let none : Hand = hand 0 0 [] in
    let others = sum_none g (set views i none) (omega (arith, sum_set parts_of views i v none at, all))
    (All-set (λ (u : Hand). u.parts ≡ 0 → g u ≡ 0) views i none (λ no_part. spent) each) in
    omega (arith, sum_set g views i v none at, others, spent)

-- the pass that has all parts put in all that was put in
put_all : (items : List ℕ) (views : List Hand) (port : ℕ) (v : Hand) → IsShared items views → get_elem? views port ≡ some v
    → v.parts ≡ all_parts → sum_by put_of views ≡ v.put
put_all items views port v h at all = sum_whole put_of views port v at (h.whole ∙ sym all) refl (λ i u lt none. ((h.each i u lt).idle none).0)

-- one more number follows
from_more : (first : ℕ) (items : List ℕ) (x : ℕ) → AreFrom first items → x ≡ first + length items → AreFrom first (items ++ x ∷ [])
from_more first [] x are is = (omega (arith, is), tt)
from_more first (y ∷ items) x are is = (are.0, from_more (suc first) items x are.1 (omega (arith, is)))

pub last_push : (xs : List ℕ) (x : ℕ) → last_of (xs ++ x ∷ []) ≡ x
last_push [] x = refl
last_push (y ∷ []) x = refl
last_push (y ∷ z ∷ xs) x = last_push (z ∷ xs) x

-- the last of two rows of numbers is the last of one of them
last_append : (xs ys : List ℕ) (most : ℕ) → last_of xs ≤ most → last_of ys ≤ most → last_of (xs ++ ys) ≤ most
last_append [] ys most low high = high
last_append (x ∷ []) [] most low high = low
last_append (x ∷ []) (y ∷ ys) most low high = high
last_append (x ∷ z ∷ xs) ys most low high = last_append (z ∷ xs) ys most low high

pub puts : (n port : ℕ) (v : Hand) (x : ℕ) → v.parts ≡ all_parts → x ≡ suc v.put → Pushes IsShared n port v x (λ w. w ≡ hand v.parts (suc v.put) v.taken)
puts n port v x all is items views room h at =
    let w : Hand = hand v.parts (suc v.put) v.taken in (
      w,
      record {
        done = h.done;
        items_are = from_more (suc h.done) items x h.items_are (omega (arith, is, put_all items views port v h at all, h.put));
        whole = omega (arith, sum_set parts_of views port v w at, h.whole);
        put = omega (arith, sum_set put_of views port v w at, h.put, length_push items x);
        once = λ f. omega (arith, sum_set (sum_of f) views port v w at, h.once f);
        each = All-set (IsHand h.done) views port w
            (record { low = (hand_at h.done views port v at h.each).low; idle = λ none. absurd (omega (arith, none, all)) }) h.each;
      },
      refl,
    )

-- it holds no more than were put in
pub held : (port : ℕ) (v : Hand) → v.parts ≡ all_parts → Learns IsShared port v (λ items. length items ≤ v.put)
held port v all items views h at = omega (arith, h.put, put_all items views port v h at all)

pub takes : (port : ℕ) (v : Hand) → 0 < v.parts → Pops IsShared port v (λ x w. (w ≡ hand v.parts v.put (v.taken ++ x ∷ [])) × (last_of v.taken < x))
takes port v some_part x items views h at =
    let w : Hand = hand v.parts v.put (v.taken ++ x ∷ []) in
    let is : x ≡ suc h.done = h.items_are.0 in (
      w,
      record {
        done = suc h.done;
        items_are = h.items_are.1;
        whole = omega (arith, sum_set parts_of views port v w at, h.whole);
        put = omega (arith, sum_set put_of views port v w at, h.put);
        once = λ f.
            let value : f x ≡ f (suc h.done) = ap f is in
            omega (arith, sum_set (sum_of f) views port v w at, sum_by_push f v.taken x, h.once f, value);
        each = All-set (IsHand (suc h.done)) views port w
            (record { low = omega (arith, last_push v.taken x, is); idle = λ none. absurd (omega (arith, none, some_part)) })
            (All-weaker (IsHand h.done) (IsHand (suc h.done)) (λ u has. record { low = omega (arith, has.low); idle = has.idle }) views h.each);
      },
      (refl, omega (arith, (hand_at h.done views port v at h.each).low, is)),
    )

pub forks : (port : ℕ) (v : Hand) → 1 < v.parts → Forks IsShared port v (hand (v.parts - 1) v.put v.taken) (hand 1 0 [])
forks port v more items views h at =
    let l : Hand = hand (v.parts - 1) v.put v.taken in
    let r : Hand = hand 1 0 [] in
    let vs : List Hand = set views port l in
    record {
      done = h.done;
      items_are = h.items_are;
      whole = omega (arith, sum_by_push parts_of vs r, sum_set parts_of views port v l at, h.whole, more);
      put = omega (arith, sum_by_push put_of vs r, sum_set put_of views port v l at, h.put);
      once = λ f. omega (arith, sum_by_push (sum_of f) vs r, sum_set (sum_of f) views port v l at, h.once f);
      each = All-push (IsHand h.done) vs r
          (All-set (IsHand h.done) views port l
          (record { low = (hand_at h.done views port v at h.each).low; idle = λ none. absurd (omega (arith, none, more)) }) h.each)
          (record { low = omega arith; idle = λ none. absurd (omega (arith, none)) });
    }

pub merges : (port : ℕ) (v : Hand) (other : ℕ) (u : Hand) → 0 < v.parts
    → Merges IsShared port v other u (hand (v.parts + u.parts) (v.put + u.put) (v.taken ++ u.taken)) (hand 0 0 [])
merges port v other u some_part items views h at two there =
    let both : Hand = hand (v.parts + u.parts) (v.put + u.put) (v.taken ++ u.taken) in
    let none : Hand = hand 0 0 [] in
    let vs : List Hand = set views port both in
    let mine = hand_at h.done views port v at h.each in
    let theirs = hand_at h.done views other u (sym (set_else views port other both two) ∙ there) h.each in
    record {
      done = h.done;
      items_are = h.items_are;
      whole = omega (arith, sum_set parts_of vs other u none there, sum_set parts_of views port v both at, h.whole);
      put = omega (arith, sum_set put_of vs other u none there, sum_set put_of views port v both at, h.put);
      once = λ f.
          omega (
            arith,
            sum_set (sum_of f) vs other u none there,
            sum_set (sum_of f) views port v both at,
            sum_by-append f v.taken u.taken,
            h.once f,
          );
      each = All-set (IsHand h.done) vs other none (record { low = omega arith; idle = λ no_part. (refl, refl) })
          (All-set (IsHand h.done) views port both
          (record {
            low = last_append v.taken u.taken h.done mine.low theirs.low;
            idle = λ no_part. absurd (omega (arith, no_part, some_part));
          }) h.each);
    }

-- the pass that has all parts took each number up to one once
pub learns : (port : ℕ) (v : Hand) → v.parts ≡ all_parts
    → Learns IsShared port v (λ items. (done : ℕ) × ((f : ℕ → ℕ) → sum_by f v.taken ≡ total_to f done))
learns port v all items views h at = (
  h.done,
  λ f.
      sym (sum_whole (sum_of f) views port v at (h.whole ∙ sym all) refl (λ i u lt none. ap (λ xs. sum_by f xs) ((h.each i u lt).idle none).1)) ∙ h.once f,
)
