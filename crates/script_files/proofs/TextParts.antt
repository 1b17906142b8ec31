-- Texts that are read in parts.
use Rattle.std.proofs.Common.{◌≡◌, ℕ, List, [], ◌++◌, Option, None, Some, refl, sym, ap, ◌∙◌, append_assoc}
use Rattle.std.specs.Io.KnownBytes.{Consumes, IsAtEnd}
use Rattle.std.proofs.lemmas.List.{append-nil}
use Rattle.host_io.specs.Outside.{Texts, Starts}
use Rattle.script_files.specs.Reading.{Says}

-- where the texts are told, this was read of the text, and this is left
abbrev pub LeftOf : Option Texts → List ℕ → List ℕ → Option (List ℕ) → Type 0
LeftOf None name got left = Unit {0}
LeftOf (Some texts) name got None = ⊥
LeftOf (Some texts) name got (Some left) = texts name ≡ Some (got ++ left)

pub left_at_first : (t : Option Texts) (name : List ℕ) (left : Option (List ℕ)) → Starts t name left → LeftOf t name [] left
left_at_first None name left h = tt
left_at_first (Some texts) name None h = absurd h
left_at_first (Some texts) name (Some left) h = h

pub left_more : (t : Option Texts) (name got bs : List ℕ) (left next : Option (List ℕ)) → LeftOf t name got left → Consumes left next bs
    → LeftOf t name (got ++ bs) next
left_more None name got bs left next h k = tt
left_more (Some texts) name got bs None next h k = absurd h
left_more (Some texts) name got bs (Some left) None h k = absurd k
left_more (Some texts) name got bs (Some left) (Some next) h k = h ∙ ap Some (ap (λ z. got ++ z) k ∙ sym (append_assoc got bs next))

pub left_end : (t : Option Texts) (name got : List ℕ) (left : Option (List ℕ)) → LeftOf t name got left → IsAtEnd left → Says t name (λ text. got ≡ text)
left_end None name got left h e = tt
left_end (Some texts) name got None h e = absurd h
left_end (Some texts) name got (Some left) h e = (got, h ∙ ap Some (ap (λ z. got ++ z) e ∙ append-nil got), refl)

pub left_some : (t : Option Texts) (name got : List ℕ) (left : Option (List ℕ)) → LeftOf t name got left
    → Says t name (λ text. (rest : List ℕ) × (text ≡ got ++ rest))
left_some None name got left h = tt
left_some (Some texts) name got None h = absurd h
left_some (Some texts) name got (Some left) h = (got ++ left, h, (left, refl))

pub says_map : (t : Option Texts) (name : List ℕ) (P Q : List ℕ → Type 0) → ((text : List ℕ) → P text → Q text) → Says t name P → Says t name Q
says_map None name P Q f h = tt
says_map (Some texts) name P Q f h = (h.0, h.1, f h.0 h.2)
