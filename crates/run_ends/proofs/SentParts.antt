-- Bytes that are written in parts.
use Rattle.std.proofs.Common.{◌≡◌, ◌≤◌, ◌+◌, ◌-◌, ℕ, List, [], ◌++◌, length, take, drop, Option, None, Some, sym, ap, ◌∙◌, arith}
use Rattle.std.proofs.Common.{append_assoc, length-drop, length-take}
use Rattle.std.specs.Io.KnownBytes.{Appends}
use Rattle.std.proofs.lemmas.List.{append-nil, take_all}
use Rattle.std.proofs.Math.Seq.{take-add}

pub grows_none : (o : Option (List ℕ)) → Appends o o []
grows_none None = tt
grows_none (Some xs) = sym (append-nil xs)

pub grows_more : (a b c : Option (List ℕ)) (x y : List ℕ) → Appends a b x → Appends b c y → Appends a c (x ++ y)
grows_more None b c x y p q = tt
grows_more (Some a) None c x y p q = absurd p
grows_more (Some a) (Some b) None x y p q = absurd q
grows_more (Some a) (Some b) (Some c) x y p q = q ∙ ap (λ z. z ++ y) p ∙ append_assoc a x y

pub part_is : (bytes : List ℕ) (s n : ℕ) → take n (take (length bytes - s) (drop s bytes)) ≡ take n (drop s bytes)
part_is bytes s n = ap (take n) (take_all (length bytes - s) (drop s bytes) (omega (arith, length-drop s bytes)))

pub sent_more : (a b c : Option (List ℕ)) (bytes : List ℕ) (s n : ℕ) → Appends a b (take s bytes)
    → Appends b c (take n (take (length bytes - s) (drop s bytes))) → Appends a c (take (s + n) bytes)
sent_more a b c bytes s n p q =
    let q2 : Appends b c (take n (drop s bytes)) = rw part_is at q in
    rw (take-add s n bytes) (grows_more a b c (take s bytes) (take n (drop s bytes)) p q2)

pub part_fits : (bytes : List ℕ) (s n : ℕ) → s ≤ length bytes → n ≤ length (take (length bytes - s) (drop s bytes)) → s + n ≤ length bytes
part_fits bytes s n le h = omega (arith, length-take (length bytes - s) (drop s bytes), length-drop s bytes)
